-- What is selected for an instruction, an end or a function weighs no more than it does, and so the whole program.
use Rattle.std.proofs.Common.{◌≡◌, ℕ, ◌+◌, ◌*◌, ◌≤◌, List, [], ◌∷◌, ◌++◌, length, map, take, Option, Some, None, refl, arith}
use Rattle.std.specs.List.{sum_by}
use Rattle.std.proofs.lemmas.List.Sums.{sum_by-cons}
use Rattle.rd_num.specs.declared.width.Width.{Width}
use Rattle.rd_num.specs.declared.width.Width.TheVariants.{W1, W8, W16, W32, W64}
use Rattle.ir_core.specs.declared.instruction.Arg.{Arg}
use Rattle.ir_core.specs.declared.instruction.BinOp.{BinOp}
use Rattle.ir_core.specs.declared.instruction.BinOp.TheVariants.{Add, Sub, Mul, Udiv, Sdiv, Urem, Srem, Shl, Lshr, Ashr, And, Or, Xor}
use Rattle.ir_core.specs.declared.instruction.CastOp.{CastOp}
use Rattle.ir_core.specs.declared.instruction.CastOp.TheVariants.{Trunc, Zext, Sext}
use Rattle.ir_core.specs.declared.instruction.Inst.{Inst}
use Rattle.ir_core.specs.declared.instruction.Op.{Op}
use Rattle.ir_core.specs.declared.instruction.Op.TheVariants.{Bin, Compare, Cast, Select, Freeze, Alloca, Load, Store, Gep, Phi, Call}
use Rattle.ir_core.specs.declared.instruction.Term.{Term}
use Rattle.ir_core.specs.declared.instruction.Term.TheVariants.{Ret, RetValue, Br, BrIf, Switch, Unreachable}
use Rattle.ir_core.specs.declared.kind.Kind.{Kind}
use Rattle.ir_core.specs.declared.kind.Kind.TheVariants.{Number, Pointer}
use Rattle.ir_core.specs.declared.module.Block.{Block}
use Rattle.ir_core.specs.declared.module.Function.{Function}
use Rattle.ir_core.specs.declared.module.Module.{Module}
use Rattle.ir_core.specs.declared.operand.Operand.{Operand}
use Rattle.ir_core.specs.declared.operand.Operand.TheVariants.{Int, Bool as Truth, Null as NullWord, Undef, Poison, Local as LocalName, Global, Const}
use Rattle.ir_core.specs.declared.outer.Outer.{Outer}
use Rattle.ir_core.specs.declared.outer.Outer.TheVariants as outside
use Rattle.ir_core.specs.declared.ty.Ty.{Ty}
use Rattle.ir_core.specs.Calls.{outer_of}
use Rattle.ir_core.specs.Counts.{alloca_bytes}
use Rattle.ir_core.specs.Definitions.{label_names}
use Rattle.ir_core.specs.Kinds.{kind_of}
use Rattle.ir_core.specs.Operands.{function_number}
use Rattle.ir_core.specs.Valid.{LocalKind, named_locals}
use Rattle.ir_sound.specs.WellTyped.{Each}
use Rattle.ir_context.specs.declared.origin.Origin.{Origin}
use Rattle.ir_context.specs.declared.origin.Origin.TheVariants.{Malformed}
use Rattle.ir_context.specs.declared.path.Path.{Path}
use Rattle.ir_context.specs.Origins.{arg_origin}
use Rattle.ir_context.specs.Paths.{path_of}
use Rattle.ir_context.specs.Registers.{number_of}
use Rattle.ir_context.specs.Origins.{register_of}
use Rattle.low_core.specs.declared.sel.SelOp.{SelOp}
use Rattle.low_core.specs.declared.sel.SelOp.TheVariants as sel
use Rattle.low_core.specs.declared.sel.Which.{Which}
use Rattle.low_core.specs.declared.sel.Which.TheVariants.{Putchar, Getchar, Exit, Memcpy, Memset, Trap}
use Rattle.low_core.specs.SelShaped.{arity}
use Rattle.low_core.specs.SelWeights.{sel_op_weight, sel_end_weight, sel_block_weight, sel_function_weight, sel_weight}
use Rattle.low_core.specs.Weights.{operand_weight, args_weight, indices_weight, op_weight, end_weight, block_weight, function_weight, weight}
use Rattle.isel_rows.specs.Variables.{variables_of, operand_register, register_read, width_of}
use Rattle.isel_rows.specs.Brought.{Brought, AllBrought, operand_brought, args_brought}
use Rattle.isel_rows.specs.Calls.{register_into, behind_args, outside_ops, outer_ops, named_ops, call_ops}
use Rattle.isel_rows.specs.Rows.{bin_op, cast_op, stored_width, load_ops, result_register, moved_ops, path_taken, ops_of, closing_of}
use Rattle.isel_rows.specs.Functions.{allocas_in, insts_ops, block_selected, blocks_selected, function_selected}
use Rattle.isel_rows.specs.Selected.{module_selected}
use Rattle.isel.proofs.ShapePaths.{path_has}
use Rattle.isel.proofs.ShapeWeights.{ops_weight, both_weigh, operand_weighs, args_weigh, front_weighs, parts_in, farther_parts, stride_parts, moved_weighs}

-- single operations
bin_weighs : (op : BinOp) (w : Width) (r s t : ℕ) → sel_op_weight (bin_op op w r s t) ≤ 48
bin_weighs Add w r s t = omega arith
bin_weighs Sub w r s t = omega arith
bin_weighs Mul w r s t = omega arith
bin_weighs Udiv w r s t = omega arith
bin_weighs Sdiv w r s t = omega arith
bin_weighs Urem w r s t = omega arith
bin_weighs Srem w r s t = omega arith
bin_weighs Shl w r s t = omega arith
bin_weighs Lshr w r s t = omega arith
bin_weighs Ashr w r s t = omega arith
bin_weighs And w r s t = omega arith
bin_weighs Or w r s t = omega arith
bin_weighs Xor w r s t = omega arith

-- a cast
cast_weighs : (op : CastOp) (from to : Width) (r s : ℕ) → sel_op_weight (cast_op op from to r s) ≤ 34
cast_weighs Trunc from to r s = omega arith
cast_weighs Zext from to r s = omega arith
cast_weighs Sext from to r s = omega arith

-- a load
load_weighs : (w : Width) (r s : ℕ) → ops_weight (load_ops w r s) ≤ 58
load_weighs W1 r s = omega arith
load_weighs W8 r s = omega arith
load_weighs W16 r s = omega arith
load_weighs W32 r s = omega arith
load_weighs W64 r s = omega arith

-- indices
indices_weigh : (args : List Arg) → indices_weight args ≡ 116 * length args
indices_weigh [] = refl
indices_weigh (a ∷ args) = let e = sum_by-cons (λ (x : Arg). 116) a args in let others = indices_weigh args in omega (arith, e, others)

-- as many origins
origins_length : (m : Module) (names : List (List ℕ)) (args : List Arg) → length (map (arg_origin m names) args) ≡ length args
origins_length m names [] = refl
origins_length m names (a ∷ args) = let e = origins_length m names args in omega (arith, e)

-- nothing is asked of them
nothing_asked : (os : List Origin) → Each (λ (o : Origin). Unit {0}) os
nothing_asked [] = tt
nothing_asked (o ∷ os) = (tt, nothing_asked os)

-- operands in front of operations
module _ (m : Module) (vs : List LocalKind) where
  -- an operand, the k-th of its instruction
  abbrev at_operand : ℕ → Kind → Operand → Brought
  at_operand k kind a = operand_brought m vs k kind a

  -- one operand
  one_weighs : (k : ℕ) (kind : Kind) (a : Operand) (rest : List SelOp) → ops_weight ((at_operand k kind a).ops ++ rest) ≤ operand_weight a + ops_weight rest
  one_weighs k kind a rest =
      let e = both_weigh (at_operand k kind a).ops rest in
      let first = operand_weighs vs m (operand_register vs k) kind a in
      omega (arith, e, first)

  -- two of them
  two_weigh : (kind kind2 : Kind) (a b : Operand) (rest : List SelOp) → ops_weight ((at_operand 0 kind a).ops ++ ((at_operand 1 kind2 b).ops ++ rest)) ≤ operand_weight a + operand_weight b + ops_weight rest
  two_weigh kind kind2 a b rest =
      let first = one_weighs 0 kind a ((at_operand 1 kind2 b).ops ++ rest) in
      let second = one_weighs 1 kind2 b rest in
      omega (arith, first, second)

  -- a path
  taken_parts : (p : Option Path) (n : ℕ) → ((q : Path) → p ≡ Some q → parts_in q ≤ n) → parts_in (path_taken p) ≤ n
  taken_parts (Some p) n go = go p refl
  taken_parts None n go = omega arith

  -- a pointer along it
  gep_weighs : (r from : ℕ) (ty : Ty) (indices : List Arg) → ops_weight (moved_ops vs r (path_taken (path_of m.types ty (map (arg_origin m (named_locals vs)) indices))) from) ≤ 24 + indices_weight indices
  gep_weighs r from ty indices =
      let os : List Origin = map (arg_origin m (named_locals vs)) indices in
      let few = taken_parts (path_of m.types ty os) (length os) (λ q e. path_has (λ o. Unit {0}) (λ n p. parts_in p ≤ n) (omega arith) farther_parts stride_parts m.types ty os q (nothing_asked os) e) in
      let a = moved_weighs vs r from (path_taken (path_of m.types ty os)) in
      let e = indices_weigh indices in
      let l = origins_length m (named_locals vs) indices in
      omega (arith, few, a, e, l)

  -- calls: what stands behind arguments weighs as a call
  arguments_weigh : (args : List Arg) (call : List ℕ → SelOp) → ((rs : List ℕ) → sel_op_weight (call rs) ≡ 64 + 16 * length rs) → ops_weight (behind_args (args_brought m vs 0 args) call) ≤ 64 + args_weight args
  arguments_weigh args call is =
      let b : AllBrought = args_brought m vs 0 args in
      let last : List SelOp = call b.registers ∷ [] in
      let e = both_weigh b.ops last in
      let w = is b.registers in
      let a = args_weigh vs m 0 args in
      omega (arith, e, w, a)

  -- a function outside
  outside_weighs : (into : Option ℕ) (which : Which) (args : List Arg) → ops_weight (outside_ops m vs into which args) ≤ 128 + args_weight args
  outside_weighs into which args =
      let a = arguments_weigh (take (arity which) args) (λ rs. sel.Outside which into rs) (λ rs. refl) in
      let b = front_weighs (arity which) args in
      omega (arith, a, b)

  -- whichever it is
  outer_weighs : (into : Option ℕ) (o : Outer) (args : List Arg) → ops_weight (outer_ops m vs into o args) ≤ 128 + args_weight args
  outer_weighs into outside.Putchar args = outside_weighs into Putchar args
  outer_weighs into outside.Getchar args = outside_weighs into Getchar args
  outer_weighs into outside.Exit args = outside_weighs None Exit args
  outer_weighs into outside.Memcpy args = outside_weighs None Memcpy args
  outer_weighs into outside.Memset args = outside_weighs None Memset args
  outer_weighs into outside.TrapNow args = outside_weighs None Trap args
  outer_weighs into outside.Lifetime args = omega arith
  outer_weighs into outside.NoOuter args = omega arith

  -- what has a name
  named_weighs : (into : Option ℕ) (args : List Arg) (name : List ℕ) (o : Option ℕ) → ops_weight (named_ops m vs into args name o) ≤ 128 + args_weight args
  named_weighs into args name (Some f) = let a = arguments_weigh args (λ rs. sel.Call f into rs) (λ rs. refl) in omega (arith, a)
  named_weighs into args name None = outer_weighs into (outer_of name) args

  -- a call by address
  address_weighs : (into : Option ℕ) (s : ℕ) (args : List Arg) → ops_weight (behind_args (args_brought m vs 0 args) (λ rs. sel.CallAt s into rs)) ≤ 128 + args_weight args
  address_weighs into s args = let a = arguments_weigh args (λ rs. sel.CallAt s into rs) (λ rs. refl) in omega (arith, a)

  -- any call
  call_weighs : (into : Option ℕ) (callee : Operand) (args : List Arg) → ops_weight (call_ops m vs into callee args) ≤ 128 + operand_weight callee + args_weight args
  call_weighs into (Global name) args = let a = named_weighs into args name (function_number m name) in omega (arith, a)
  call_weighs into (LocalName name) args = let a = address_weighs into (register_read vs (register_of (number_of (named_locals vs) name))) args in omega (arith, a)
  call_weighs into (Int n) args = let a = address_weighs into (register_read vs Malformed) args in omega (arith, a)
  call_weighs into (Truth b) args = let a = address_weighs into (register_read vs Malformed) args in omega (arith, a)
  call_weighs into NullWord args = let a = address_weighs into (register_read vs Malformed) args in omega (arith, a)
  call_weighs into Undef args = let a = address_weighs into (register_read vs Malformed) args in omega (arith, a)
  call_weighs into Poison args = let a = address_weighs into (register_read vs Malformed) args in omega (arith, a)
  call_weighs into (Const place) args = let a = address_weighs into (register_read vs Malformed) args in omega (arith, a)

  -- an instruction
  pub op_weighs : (at : ℕ) (into : Option (List ℕ)) (op : Op) → ops_weight (ops_of m vs at into op) ≤ op_weight op
  op_weighs at into (Bin op ty a b) =
      let last : SelOp = bin_op op (width_of (kind_of ty)) (result_register vs into) (at_operand 0 (kind_of ty) a).register (at_operand 1 (kind_of ty) b).register in
      let e = two_weigh (kind_of ty) (kind_of ty) a b (last ∷ []) in
      let w = bin_weighs op (width_of (kind_of ty)) (result_register vs into) (at_operand 0 (kind_of ty) a).register (at_operand 1 (kind_of ty) b).register in
      omega (arith, e, w)
  op_weighs at into (Compare pred ty a b) =
      let last : SelOp = sel.Test pred (width_of (kind_of ty)) (result_register vs into) (at_operand 0 (kind_of ty) a).register (at_operand 1 (kind_of ty) b).register in
      let e = two_weigh (kind_of ty) (kind_of ty) a b (last ∷ []) in
      omega (arith, e)
  op_weighs at into (Cast op from a to) =
      let last : SelOp = cast_op op (width_of (kind_of from)) (width_of (kind_of to)) (result_register vs into) (at_operand 0 (kind_of from) a).register in
      let e = one_weighs 0 (kind_of from) a (last ∷ []) in
      let w = cast_weighs op (width_of (kind_of from)) (width_of (kind_of to)) (result_register vs into) (at_operand 0 (kind_of from) a).register in
      omega (arith, e, w)
  op_weighs at into (Select condition ty a ty2 b) =
      let last : SelOp = sel.Pick (result_register vs into) (at_operand 0 (Number W1) condition).register (at_operand 1 (kind_of ty) a).register (at_operand 2 (kind_of ty2) b).register in
      let e = two_weigh (Number W1) (kind_of ty) condition a ((at_operand 2 (kind_of ty2) b).ops ++ last ∷ []) in
      let w = one_weighs 2 (kind_of ty2) b (last ∷ []) in
      omega (arith, e, w)
  op_weighs at into (Freeze ty a) = let e = one_weighs 0 (kind_of ty) a (sel.Copy (result_register vs into) (at_operand 0 (kind_of ty) a).register ∷ []) in omega (arith, e)
  op_weighs at into (Alloca ty count) = omega arith
  op_weighs at into (Load ty p) =
      let e = one_weighs 0 Pointer p (load_ops (width_of (kind_of ty)) (result_register vs into) (at_operand 0 Pointer p).register) in
      let w = load_weighs (width_of (kind_of ty)) (result_register vs into) (at_operand 0 Pointer p).register in
      omega (arith, e, w)
  op_weighs at into (Store ty a p) =
      let last : SelOp = sel.Store (stored_width (width_of (kind_of ty))) (at_operand 1 Pointer p).register (at_operand 0 (kind_of ty) a).register in
      let e = two_weigh (kind_of ty) Pointer a p (last ∷ []) in
      omega (arith, e)
  op_weighs at into (Gep ty p indices) =
      let from : ℕ = (at_operand 0 Pointer p).register in
      let e = one_weighs 0 Pointer p (moved_ops vs (result_register vs into) (path_taken (path_of m.types ty (map (arg_origin m (named_locals vs)) indices))) from) in
      let w = gep_weighs (result_register vs into) from ty indices in
      omega (arith, e, w)
  op_weighs at into (Call ret callee args) = call_weighs (register_into vs into) callee args
  op_weighs at into (Phi ty entries) = omega arith

  -- an end, with what it reads in front of it
  pub closing_weighs : (labels : List (List ℕ)) (end : Term) → ops_weight (closing_of m vs labels end).ops + sel_end_weight (closing_of m vs labels end).end ≤ end_weight end
  closing_weighs labels Ret = omega arith
  closing_weighs labels (RetValue ty a) = let w = operand_weighs vs m (operand_register vs 0) (kind_of ty) a in omega (arith, w)
  closing_weighs labels (Br to) = omega arith
  closing_weighs labels (BrIf condition taken other) = let w = operand_weighs vs m (operand_register vs 0) (Number W1) condition in omega (arith, w)
  closing_weighs labels (Switch ty a default cases) = omega arith
  closing_weighs labels Unreachable = omega arith

  -- instructions, and blocks
  insts_weigh : (at : ℕ) (insts : List Inst) → ops_weight (insts_ops m vs at insts) ≤ sum_by (λ (i : Inst). op_weight i.op) insts
  insts_weigh at [] = omega arith
  insts_weigh at (i ∷ is) =
      let first = op_weighs at i.result i.op in
      let others = insts_weigh (at + alloca_bytes m.types i.op) is in
      let e = both_weigh (ops_of m vs at i.result i.op) (insts_ops m vs (at + alloca_bytes m.types i.op) is) in
      let s = sum_by-cons (λ (x : Inst). op_weight x.op) i is in
      omega (arith, first, others, e, s)

  -- a block
  block_weighs : (labels : List (List ℕ)) (at : ℕ) (b : Block) → sel_block_weight (block_selected m vs labels at b) ≤ block_weight b
  block_weighs labels at b =
      let insts = insts_weigh at b.insts in
      let end = closing_weighs labels b.end in
      let e = both_weigh (insts_ops m vs at b.insts) (closing_of m vs labels b.end).ops in
      omega (arith, insts, end, e)

  -- blocks one after another
  blocks_weigh : (labels : List (List ℕ)) (at : ℕ) (bs : List Block) → sum_by sel_block_weight (blocks_selected m vs labels at bs) ≤ sum_by block_weight bs
  blocks_weigh labels at [] = omega arith
  blocks_weigh labels at (b ∷ bs) =
      let first = block_weighs labels at b in
      let next : ℕ = at + allocas_in m.types b.insts in
      let others = blocks_weigh labels next bs in
      let s = sum_by-cons sel_block_weight (block_selected m vs labels at b) (blocks_selected m vs labels next bs) in
      let t = sum_by-cons block_weight b bs in
      omega (arith, first, others, s, t)

-- functions
functions_weigh : (m : Module) (fs : List Function) → sum_by sel_function_weight (map (function_selected m) fs) ≤ sum_by function_weight fs
functions_weigh m [] = omega arith
functions_weigh m (f ∷ fs) =
    let first = blocks_weigh m (variables_of f) (label_names f) 0 f.blocks in
    let others = functions_weigh m fs in
    let s = sum_by-cons sel_function_weight (function_selected m f) (map (function_selected m) fs) in
    let t = sum_by-cons function_weight f fs in
    omega (arith, first, others, s, t)

-- a whole program
pub module_weighs : (m : Module) → sel_weight (module_selected m) ≤ weight m
module_weighs m = functions_weigh m m.functions
