-- What is selected asks of a module its types, its globals, and the numbers of its functions alone.
use Rattle.std.proofs.Common.{◌≡◌, ℕ, ◌+◌, List, [], ◌∷◌, ◌++◌, map, take, length, Option, Some, None, refl, ap, ◌∙◌}
use Rattle.rd_num.specs.declared.width.Width.TheVariants.{W1}
use Rattle.ir_core.specs.declared.instruction.Arg.{Arg}
use Rattle.ir_core.specs.declared.instruction.Inst.{Inst}
use Rattle.ir_core.specs.declared.instruction.Op.{Op}
use Rattle.ir_core.specs.declared.instruction.Op.TheVariants.{Bin, Compare, Cast, Select, Freeze, Alloca, Load, Store, Gep, Phi, Call}
use Rattle.ir_core.specs.declared.instruction.Term.{Term}
use Rattle.ir_core.specs.declared.instruction.Term.TheVariants.{Ret, RetValue, Br, BrIf, Switch, Unreachable}
use Rattle.ir_core.specs.declared.kind.Kind.{Kind}
use Rattle.ir_core.specs.declared.kind.Kind.TheVariants.{Number, Pointer}
use Rattle.ir_core.specs.declared.module.Block.{Block}
use Rattle.ir_core.specs.declared.module.Function.{Function}
use Rattle.ir_core.specs.declared.module.Module.{Module}
use Rattle.ir_core.specs.declared.operand.Operand.{Operand}
use Rattle.ir_core.specs.declared.operand.Operand.TheVariants.{Int, Bool as Truth, Null as NullWord, Undef, Poison, Local as LocalName, Global, Const}
use Rattle.ir_core.specs.declared.outer.Outer.{Outer}
use Rattle.ir_core.specs.declared.outer.Outer.TheVariants as outside
use Rattle.ir_core.specs.Calls.{outer_of}
use Rattle.ir_core.specs.Counts.{alloca_bytes}
use Rattle.ir_core.specs.Definitions.{label_names}
use Rattle.ir_core.specs.Kinds.{kind_of}
use Rattle.ir_core.specs.Operands.{global_number, function_number, named_value}
use Rattle.ir_core.specs.Valid.{LocalKind, named_locals}
use Rattle.ir_context.specs.Origins.{known, register_of, origin_of, arg_origin}
use Rattle.ir_context.specs.Paths.{path_of}
use Rattle.ir_context.specs.Registers.{number_of}
use Rattle.ir_context.specs.declared.origin.Origin.TheVariants.{Malformed}
use Rattle.low_core.specs.declared.sel.Which.{Which}
use Rattle.low_core.specs.declared.sel.Which.TheVariants.{Putchar, Getchar, Exit, Memcpy, Memset, Trap}
use Rattle.low_core.specs.declared.sel.SelOp.{SelOp}
use Rattle.low_core.specs.declared.sel.SelOp.TheVariants.{CallAt, Outside, Test, Pick, Copy}
use Rattle.low_core.specs.declared.sel.SelOp.TheVariants as sel
use Rattle.low_core.specs.declared.sel.SelEnd.{SelEnd}
use Rattle.low_core.specs.declared.sel.SelEnd.TheVariants.{If}
use Rattle.low_core.specs.declared.sel.SelEnd.TheVariants as end
use Rattle.low_core.specs.declared.sel.SelBlock.{SelBlock}
use Rattle.low_core.specs.declared.sel.SelFun.{SelFun}
use Rattle.low_core.specs.SelShaped.{arity}
use Rattle.low_core.specs.Weights.{allocas_room}
use Rattle.isel_rows.specs.Variables.{width_of, operand_register, argument_register, register_read, variables_of, registers_count}
use Rattle.isel_rows.specs.Brought.{Brought, AllBrought, brought, operand_brought, args_brought}
use Rattle.isel_rows.specs.Calls.{behind_args, outside_ops, outer_ops, named_ops, call_ops, register_into}
use Rattle.isel_rows.specs.Rows.{behind, bin_op, cast_op, load_ops, stored_width, block_number, path_taken, moved_ops, result_register, Closing, closing, ops_of, closing_of}
use Rattle.isel_rows.specs.Functions.{allocas_in, insts_ops, block_selected, blocks_selected, numbers_from, function_selected}

-- a function by its parts
abbrev of_parts : List ℕ → ℕ → ℕ → List SelBlock → SelFun
of_parts params registers frame bs = record { params = params; registers = registers; frame = frame; blocks = bs }

behind_same : (b c : Brought) → b ≡ c → (f g : ℕ → List SelOp) → ((s : ℕ) → f s ≡ g s) → behind b f ≡ behind c g
behind_same b c e f g h = ap (λ x. behind x f) e ∙ ap (λ ops. c.ops ++ ops) (h c.register)

both_brought : (xs ys : List SelOp) (r : ℕ) (rs : List ℕ) (us vs : List SelOp) (q : ℕ) (qs : List ℕ) → xs ≡ us → ys ≡ vs → r ≡ q → rs ≡ qs →
    let a : AllBrought = record { ops = xs ++ ys; registers = r ∷ rs } in let b : AllBrought = record { ops = us ++ vs; registers = q ∷ qs } in a ≡ b
both_brought xs ys r rs us vs q qs a b c d = cc

both_closed : (xs ys : List SelOp) (e f : SelEnd) → xs ≡ ys → e ≡ f → let a : Closing = record { ops = xs; end = e } in let b : Closing = record { ops = ys; end = f } in a ≡ b
both_closed xs ys e f a b = cc

both_ended : (xs ys : List SelOp) (e f : SelEnd) → xs ≡ ys → e ≡ f → let a : SelBlock = record { ops = xs; end = e } in let b : SelBlock = record { ops = ys; end = f } in a ≡ b
both_ended xs ys e f a b = cc

module _ (m : Module) (fs : List Function) (agree : (name : List ℕ) → function_number (record m { functions = fs }) name ≡ function_number m name) where
  origin_same : (names : List (List ℕ)) (kind : Kind) (a : Operand) → origin_of (record m { functions = fs }) names kind a ≡ origin_of m names kind a
  origin_same names kind (Int n) = refl
  origin_same names kind (Truth b) = refl
  origin_same names kind NullWord = refl
  origin_same names kind Undef = refl
  origin_same names kind Poison = refl
  origin_same names kind (LocalName name) = refl
  origin_same names kind (Global name) = ap (λ o. known (named_value (global_number m name) o)) (agree name)
  origin_same names kind (Const place) = refl

  operand_same : (vs : List LocalKind) (k : ℕ) (kind : Kind) (a : Operand) → operand_brought (record m { functions = fs }) vs k kind a ≡ operand_brought m vs k kind a
  operand_same vs k kind a = ap (brought vs (operand_register vs k)) (origin_same (named_locals vs) kind a)

  args_same : (vs : List LocalKind) (k : ℕ) (args : List Arg) → args_brought (record m { functions = fs }) vs k args ≡ args_brought m vs k args
  args_same vs k [] = refl
  args_same vs k (a ∷ as') =
      let e = ap (brought vs (argument_register vs k)) (origin_same (named_locals vs) (kind_of a.ty) a.value) in
      let f = args_same vs (k + 1) as' in
      both_brought _ _ _ _ _ _ _ _ (ap (λ (b : Brought). b.ops) e) (ap (λ (b : AllBrought). b.ops) f) (ap (λ (b : Brought). b.register) e) (ap (λ (b : AllBrought). b.registers) f)

  origins_same : (names : List (List ℕ)) (args : List Arg) → map (arg_origin (record m { functions = fs }) names) args ≡ map (arg_origin m names) args
  origins_same names [] = refl
  origins_same names (a ∷ as') =
      ap (λ o. o ∷ map (arg_origin (record m { functions = fs }) names) as') (origin_same names (kind_of a.ty) a.value) ∙ ap (λ os. arg_origin m names a ∷ os) (origins_same names as')

  outside_same : (vs : List LocalKind) (into : Option ℕ) (which : Which) (args : List Arg) → outside_ops (record m { functions = fs }) vs into which args ≡ outside_ops m vs into which args
  outside_same vs into which args = ap (λ b. behind_args b (λ rs. Outside which into rs)) (args_same vs 0 (take (arity which) args))

  outer_same : (vs : List LocalKind) (into : Option ℕ) (outer : Outer) (args : List Arg) → outer_ops (record m { functions = fs }) vs into outer args ≡ outer_ops m vs into outer args
  outer_same vs into outside.Putchar args = outside_same vs into Putchar args
  outer_same vs into outside.Getchar args = outside_same vs into Getchar args
  outer_same vs into outside.Exit args = outside_same vs None Exit args
  outer_same vs into outside.Memcpy args = outside_same vs None Memcpy args
  outer_same vs into outside.Memset args = outside_same vs None Memset args
  outer_same vs into outside.TrapNow args = outside_same vs None Trap args
  outer_same vs into outside.Lifetime args = refl
  outer_same vs into outside.NoOuter args = refl

  named_same : (vs : List LocalKind) (into : Option ℕ) (args : List Arg) (name : List ℕ) (o : Option ℕ) → named_ops (record m { functions = fs }) vs into args name o ≡ named_ops m vs into args name o
  named_same vs into args name (Some f) = ap (λ b. behind_args b (λ rs. sel.Call f into rs)) (args_same vs 0 args)
  named_same vs into args name None = outer_same vs into (outer_of name) args

  call_same : (vs : List LocalKind) (into : Option ℕ) (callee : Operand) (args : List Arg) → call_ops (record m { functions = fs }) vs into callee args ≡ call_ops m vs into callee args
  call_same vs into (Global name) args = ap (named_ops (record m { functions = fs }) vs into args name) (agree name) ∙ named_same vs into args name (function_number m name)
  call_same vs into (LocalName name) args = ap (λ b. behind_args b (λ rs. CallAt (register_read vs (register_of (number_of (named_locals vs) name))) into rs)) (args_same vs 0 args)
  call_same vs into (Int n) args = ap (λ b. behind_args b (λ rs. CallAt (register_read vs Malformed) into rs)) (args_same vs 0 args)
  call_same vs into (Truth b) args = ap (λ b. behind_args b (λ rs. CallAt (register_read vs Malformed) into rs)) (args_same vs 0 args)
  call_same vs into NullWord args = ap (λ b. behind_args b (λ rs. CallAt (register_read vs Malformed) into rs)) (args_same vs 0 args)
  call_same vs into Undef args = ap (λ b. behind_args b (λ rs. CallAt (register_read vs Malformed) into rs)) (args_same vs 0 args)
  call_same vs into Poison args = ap (λ b. behind_args b (λ rs. CallAt (register_read vs Malformed) into rs)) (args_same vs 0 args)
  call_same vs into (Const place) args = ap (λ b. behind_args b (λ rs. CallAt (register_read vs Malformed) into rs)) (args_same vs 0 args)

  ops_same : (vs : List LocalKind) (at : ℕ) (into : Option (List ℕ)) (op : Op) → ops_of (record m { functions = fs }) vs at into op ≡ ops_of m vs at into op
  ops_same vs at into (Bin op ty a b) = behind_same _ _ (operand_same vs 0 (kind_of ty) a) _ _ (λ s. ap (λ x. behind x (λ t. bin_op op (width_of (kind_of ty)) (result_register vs into) s t ∷ [])) (operand_same vs 1 (kind_of ty) b))
  ops_same vs at into (Compare pred ty a b) = behind_same _ _ (operand_same vs 0 (kind_of ty) a) _ _ (λ s. ap (λ x. behind x (λ t. Test pred (width_of (kind_of ty)) (result_register vs into) s t ∷ [])) (operand_same vs 1 (kind_of ty) b))
  ops_same vs at into (Cast op from a to) = ap (λ x. behind x (λ s. cast_op op (width_of (kind_of from)) (width_of (kind_of to)) (result_register vs into) s ∷ [])) (operand_same vs 0 (kind_of from) a)
  ops_same vs at into (Select condition ty a ty2 b) =
      behind_same _ _ (operand_same vs 0 (Number W1) condition) _ _ (λ c. behind_same _ _ (operand_same vs 1 (kind_of ty) a) _ _ (λ s. ap (λ x. behind x (λ t. Pick (result_register vs into) c s t ∷ [])) (operand_same vs 2 (kind_of ty2) b)))
  ops_same vs at into (Freeze ty a) = ap (λ x. behind x (λ s. Copy (result_register vs into) s ∷ [])) (operand_same vs 0 (kind_of ty) a)
  ops_same vs at into (Alloca ty count) = refl
  ops_same vs at into (Load ty p) = ap (λ x. behind x (λ s. load_ops (width_of (kind_of ty)) (result_register vs into) s)) (operand_same vs 0 Pointer p)
  ops_same vs at into (Store ty a p) = behind_same _ _ (operand_same vs 0 (kind_of ty) a) _ _ (λ t. ap (λ x. behind x (λ s. sel.Store (stored_width (width_of (kind_of ty))) s t ∷ [])) (operand_same vs 1 Pointer p))
  ops_same vs at into (Gep ty p indices) =
      behind_same _ _ (operand_same vs 0 Pointer p) _ _ (λ s. ap (λ os. moved_ops vs (result_register vs into) (path_taken (path_of m.types ty os)) s) (origins_same (named_locals vs) indices))
  ops_same vs at into (Call ret callee args) = call_same vs (register_into vs into) callee args
  ops_same vs at into (Phi ty entries) = refl

  closing_same : (vs : List LocalKind) (labels : List (List ℕ)) (t : Term) → closing_of (record m { functions = fs }) vs labels t ≡ closing_of m vs labels t
  closing_same vs labels Ret = refl
  closing_same vs labels (RetValue ty a) = ap (λ b. closing b (λ s. end.Ret (Some s))) (operand_same vs 0 (kind_of ty) a)
  closing_same vs labels (Br to) = refl
  closing_same vs labels (BrIf condition taken other) = ap (λ b. closing b (λ c. If c (block_number labels taken) (block_number labels other))) (operand_same vs 0 (Number W1) condition)
  closing_same vs labels (Switch ty a default cases) = refl
  closing_same vs labels Unreachable = refl

  insts_same : (vs : List LocalKind) (at : ℕ) (is : List Inst) → insts_ops (record m { functions = fs }) vs at is ≡ insts_ops m vs at is
  insts_same vs at [] = refl
  insts_same vs at (i ∷ is) =
      ap (λ ops. ops ++ insts_ops (record m { functions = fs }) vs (at + alloca_bytes m.types i.op) is) (ops_same vs at i.result i.op)
      ∙ ap (λ ops. ops_of m vs at i.result i.op ++ ops) (insts_same vs (at + alloca_bytes m.types i.op) is)

  block_same : (vs : List LocalKind) (labels : List (List ℕ)) (at : ℕ) (b : Block) → block_selected (record m { functions = fs }) vs labels at b ≡ block_selected m vs labels at b
  block_same vs labels at b =
      let c = closing_same vs labels b.end in
      both_ended _ _ _ _
      (ap (λ ops. ops ++ (closing_of (record m { functions = fs }) vs labels b.end).ops) (insts_same vs at b.insts) ∙ ap (λ (x : Closing). insts_ops m vs at b.insts ++ x.ops) c)
      (ap (λ (x : Closing). x.end) c)

  blocks_same : (vs : List LocalKind) (labels : List (List ℕ)) (at : ℕ) (bs : List Block) → blocks_selected (record m { functions = fs }) vs labels at bs ≡ blocks_selected m vs labels at bs
  blocks_same vs labels at [] = refl
  blocks_same vs labels at (b ∷ bs) =
      ap (λ x. x ∷ blocks_selected (record m { functions = fs }) vs labels (at + allocas_in m.types b.insts) bs) (block_same vs labels at b)
      ∙ ap (λ xs. block_selected m vs labels at b ∷ xs) (blocks_same vs labels (at + allocas_in m.types b.insts) bs)

  pub function_same : (f : Function) → function_selected (record m { functions = fs }) f ≡ function_selected m f
  function_same f = ap (λ bs. of_parts (numbers_from 0 (length f.params)) (registers_count (variables_of f) f) (allocas_room m.types f) bs) (blocks_same (variables_of f) (label_names f) 0 f.blocks)

  pub functions_same : (gs : List Function) → map (function_selected (record m { functions = fs })) gs ≡ map (function_selected m) gs
  functions_same [] = refl
  functions_same (g ∷ gs) = ap (λ x. x ∷ map (function_selected (record m { functions = fs })) gs) (function_same g) ∙ ap (λ xs. function_selected m g ∷ xs) (functions_same gs)
