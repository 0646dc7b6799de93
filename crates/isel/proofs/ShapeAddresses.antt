-- No operation but a call of what a local holds is a call by address.
use Rattle.std.proofs.Common.{◌≡◌, ℕ, ◌+◌, ◌≤◌, Bool, true, false, List, [], ◌∷◌, ◌++◌, take, Option, Some, None, refl, arith}
use Rattle.std.specs.Prelude.{nat_eq, if◌then◌else◌}
use Rattle.std.specs.List.{sum_by}
use Rattle.std.proofs.lemmas.List.Sums.{sum_by-append}
use Rattle.rd_num.specs.declared.width.Width.{Width}
use Rattle.rd_num.specs.declared.width.Width.TheVariants.{W1, W8, W16, W32, W64}
use Rattle.ir_core.specs.declared.instruction.Arg.{Arg}
use Rattle.ir_core.specs.declared.instruction.BinOp.{BinOp}
use Rattle.ir_core.specs.declared.instruction.BinOp.TheVariants.{Add, Sub, Mul, Udiv, Sdiv, Urem, Srem, Shl, Lshr, Ashr, And, Or, Xor}
use Rattle.ir_core.specs.declared.instruction.CastOp.{CastOp}
use Rattle.ir_core.specs.declared.instruction.CastOp.TheVariants.{Trunc, Zext, Sext}
use Rattle.ir_core.specs.declared.instruction.Op.TheVariants.{Call}
use Rattle.ir_core.specs.declared.kind.Kind.{Kind}
use Rattle.ir_core.specs.declared.memory.Value.{Value}
use Rattle.ir_core.specs.declared.memory.Value.TheVariants.{Num, Null, At, Fun}
use Rattle.ir_core.specs.declared.module.Module.{Module}
use Rattle.ir_core.specs.declared.operand.Operand.{Operand}
use Rattle.ir_core.specs.declared.operand.Operand.TheVariants.{Int, Bool as Truth, Null as NullWord, Undef, Poison, Local as LocalName, Global, Const}
use Rattle.ir_core.specs.declared.outer.Outer.{Outer}
use Rattle.ir_core.specs.declared.outer.Outer.TheVariants as outside
use Rattle.ir_core.specs.declared.ty.Ty.{Ty}
use Rattle.ir_core.specs.Calls.{outer_of}
use Rattle.ir_core.specs.Kinds.{kind_of}
use Rattle.ir_core.specs.Operands.{function_number}
use Rattle.ir_core.specs.Typing.{Env, kinds_of, callee_fits}
use Rattle.ir_core.specs.Valid.{LocalKind, named_locals}
use Rattle.ir_sound.proofs.SameLaws.{not_true}
use Rattle.ir_context.specs.declared.origin.Origin.{Origin}
use Rattle.ir_context.specs.declared.origin.Origin.TheVariants.{Known, Register, Unset, Malformed}
use Rattle.ir_context.specs.declared.path.Path.{Path}
use Rattle.ir_context.specs.declared.path.Stride.{Stride}
use Rattle.ir_context.specs.Origins.{register_of, origin_of, arg_origin}
use Rattle.ir_context.specs.Registers.{number_of}
use Rattle.low_core.specs.declared.sel.SelAlu.TheVariants as alu
use Rattle.low_core.specs.declared.sel.SelOp.{SelOp}
use Rattle.low_core.specs.declared.sel.SelOp.TheVariants as sel
use Rattle.low_core.specs.declared.sel.Which.{Which}
use Rattle.low_core.specs.declared.sel.Which.TheVariants.{Putchar, Getchar, Exit, Memcpy, Memset, Trap}
use Rattle.low_core.specs.SelShaped.{arity}
use Rattle.low_core.specs.SelWeights.{is_call_by_address}
use Rattle.low_core.specs.Shaped.{local_calls_at}
use Rattle.isel_rows.specs.Variables.{operand_register, argument_register, bytes_register, moved_register, register_read}
use Rattle.isel_rows.specs.Brought.{Brought, AllBrought, value_ops, brought, operand_brought, args_brought}
use Rattle.isel_rows.specs.Calls.{behind_args, outside_ops, outer_ops, named_ops, call_ops}
use Rattle.isel_rows.specs.Rows.{bin_op, cast_op, load_ops, constant_moved, stride_ops, strides_moved, moved_ops}

-- calls by address among operations
abbrev pub addresses : List SelOp → ℕ
addresses ops = sum_by is_call_by_address ops

-- of two rows
pub both : (xs ys : List SelOp) → addresses (xs ++ ys) ≡ addresses xs + addresses ys
both xs ys = sum_by-append is_call_by_address xs ys

module _ (m : Module) (vs : List LocalKind) where
  -- there are none in what brings operands
  value_none : (r : ℕ) (v : Value) → addresses (value_ops vs r v) ≡ 0
  value_none r (Num w n) = refl
  value_none r Null = refl
  value_none r (At g by) = of_test (nat_eq by 0)
    where
      of_test : (b : Bool) → addresses (if b then sel.GlobalAt r g ∷ [] else sel.GlobalAt r g ∷ sel.Set (bytes_register vs) by ∷ sel.Alu alu.Add W64 r r (bytes_register vs) ∷ []) ≡ 0
      of_test true = refl
      of_test false = refl
  value_none r (Fun f) = refl

  -- nor in what brings an origin
  pub brought_none : (r : ℕ) (o : Origin) → addresses (brought vs r o).ops ≡ 0
  brought_none r (Known v) = value_none r v
  brought_none r (Register k) = refl
  brought_none r Unset = refl
  brought_none r Malformed = refl

  -- nor in what brings arguments
  args_none : (k : ℕ) (args : List Arg) → addresses (args_brought m vs k args).ops ≡ 0
  args_none k [] = refl
  args_none k (a ∷ args) =
      let first = brought_none (argument_register vs k) (arg_origin m (named_locals vs) a) in
      let others = args_none (k + 1) args in
      let e = both (brought vs (argument_register vs k) (arg_origin m (named_locals vs) a)).ops (args_brought m vs (k + 1) args).ops in
      omega (arith, first, others, e)

  -- nor in what stands in front of the others for an operand
  pub one_none : (k : ℕ) (kind : Kind) (a : Operand) (rest : List SelOp) → addresses ((operand_brought m vs k kind a).ops ++ rest) ≡ addresses rest
  one_none k kind a rest =
      let e = both (operand_brought m vs k kind a).ops rest in
      let first = brought_none (operand_register vs k) (origin_of m (named_locals vs) kind a) in
      omega (arith, e, first)

  -- nor in what moves a pointer
  constant_none : (from by : ℕ) → addresses (constant_moved vs from by).ops ≡ 0
  constant_none from by = of_test (nat_eq by 0)
    where
      moves : List SelOp
      moves = sel.Set (bytes_register vs) by ∷ sel.Alu alu.Add W64 (moved_register vs) from (bytes_register vs) ∷ []

      of_test : (b : Bool) →
          let x : Brought = if b then record { ops = []; register = from } else record { ops = moves; register = moved_register vs } in
          addresses x.ops ≡ 0
      of_test true = refl
      of_test false = refl

  -- by indices that are read
  strides_none : (from : ℕ) (ss : List Stride) → addresses (strides_moved vs from ss).ops ≡ 0
  strides_none from [] = refl
  strides_none from (s ∷ ss) =
      let others = strides_none (moved_register vs) ss in
      let e = both (stride_ops vs from s) (strides_moved vs (moved_register vs) ss).ops in
      omega (arith, others, e)

  -- along a whole path
  pub moved_none : (r : ℕ) (p : Path) (from : ℕ) → addresses (moved_ops vs r p from) ≡ 0
  moved_none r p from =
      let first = constant_moved vs from p.constant in
      let others = strides_moved vs first.register p.strides in
      let last : List SelOp = sel.Copy r others.register ∷ [] in
      let a = constant_none from p.constant in
      let b = strides_none first.register p.strides in
      let c = both first.ops (others.ops ++ last) in
      let d = both others.ops last in
      omega (arith, a, b, c, d)

  -- nor in single operations
  pub bin_none : (op : BinOp) (w : Width) (r s t : ℕ) → is_call_by_address (bin_op op w r s t) ≡ 0
  bin_none Add w r s t = refl
  bin_none Sub w r s t = refl
  bin_none Mul w r s t = refl
  bin_none Udiv w r s t = refl
  bin_none Sdiv w r s t = refl
  bin_none Urem w r s t = refl
  bin_none Srem w r s t = refl
  bin_none Shl w r s t = refl
  bin_none Lshr w r s t = refl
  bin_none Ashr w r s t = refl
  bin_none And w r s t = refl
  bin_none Or w r s t = refl
  bin_none Xor w r s t = refl

  -- a cast
  pub cast_none : (op : CastOp) (from to : Width) (r s : ℕ) → is_call_by_address (cast_op op from to r s) ≡ 0
  cast_none Trunc from to r s = refl
  cast_none Zext from to r s = refl
  cast_none Sext from to r s = refl

  -- a load
  pub load_none : (w : Width) (r s : ℕ) → addresses (load_ops w r s) ≡ 0
  load_none W1 r s = refl
  load_none W8 r s = refl
  load_none W16 r s = refl
  load_none W32 r s = refl
  load_none W64 r s = refl

  -- a call
  arguments_call : (args : List Arg) (call : List ℕ → SelOp) (n : ℕ) → ((rs : List ℕ) → is_call_by_address (call rs) ≡ n) → addresses (behind_args (args_brought m vs 0 args) call) ≡ n
  arguments_call args call n is =
      let b : AllBrought = args_brought m vs 0 args in
      let e = both b.ops (call b.registers ∷ []) in
      let a = args_none 0 args in
      let c = is b.registers in
      omega (arith, e, a, c)

  -- a function outside is called by no address
  outside_none : (into : Option ℕ) (which : Which) (args : List Arg) → addresses (outside_ops m vs into which args) ≡ 0
  outside_none into which args = arguments_call (take (arity which) args) (λ rs. sel.Outside which into rs) 0 (λ rs. refl)

  -- whichever it is
  outer_none : (into : Option ℕ) (o : Outer) (args : List Arg) → addresses (outer_ops m vs into o args) ≡ 0
  outer_none into outside.Putchar args = outside_none into Putchar args
  outer_none into outside.Getchar args = outside_none into Getchar args
  outer_none into outside.Exit args = outside_none None Exit args
  outer_none into outside.Memcpy args = outside_none None Memcpy args
  outer_none into outside.Memset args = outside_none None Memset args
  outer_none into outside.TrapNow args = outside_none None Trap args
  outer_none into outside.Lifetime args = refl
  outer_none into outside.NoOuter args = refl

  -- nor is what has a name
  named_none : (into : Option ℕ) (args : List Arg) (name : List ℕ) (o : Option ℕ) → addresses (named_ops m vs into args name o) ≡ 0
  named_none into args name (Some f) = arguments_call args (λ rs. sel.Call f into rs) 0 (λ rs. refl)
  named_none into args name None = outer_none into (outer_of name) args

  -- so a call by address is a call of what a local holds
  pub call_calls : (env : Env) (into : Option ℕ) (ret : Ty) (callee : Operand) (args : List Arg) → callee_fits m env (kind_of ret) (kinds_of args) callee ≡ true
      → addresses (call_ops m vs into callee args) ≤ local_calls_at (Call ret callee args)
  call_calls env into ret (Global name) args typed = let a = named_none into args name (function_number m name) in omega (arith, a)
  call_calls env into ret (LocalName name) args typed =
      let a = arguments_call args (λ rs. sel.CallAt (register_read vs (register_of (number_of (named_locals vs) name))) into rs) 1 (λ rs. refl) in
      omega (arith, a)
  call_calls env into ret (Int n) args typed = not_true typed
  call_calls env into ret (Truth b) args typed = not_true typed
  call_calls env into ret NullWord args typed = not_true typed
  call_calls env into ret Undef args typed = not_true typed
  call_calls env into ret Poison args typed = not_true typed
  call_calls env into ret (Const place) args typed = not_true typed
