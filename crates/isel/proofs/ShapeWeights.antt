-- What operands, arguments and pointers that move come to weighs no more than they do.
use Rattle.std.proofs.Common.{◌≡◌, ℕ, zero, suc, ◌+◌, ◌*◌, ◌%◌, ◌^◌, ◌<◌, ◌≤◌, Bool, true, false, List, [], ◌∷◌, ◌++◌, length, map, take, Option, Some, None, arith}
use Rattle.std.specs.Prelude.{ℤ, nat_eq, if◌then◌else◌}
use Rattle.std.specs.List.{sum_by}
use Rattle.std.proofs.lemmas.List.{length-append}
use Rattle.std.proofs.lemmas.List.Sums.{sum_by-cons, sum_by-append}
use Rattle.rd_num.specs.declared.width.Width.TheVariants.{W64}
use Rattle.ir_core.specs.declared.instruction.Arg.{Arg}
use Rattle.ir_core.specs.declared.kind.Kind.{Kind}
use Rattle.ir_core.specs.declared.kind.Kind.TheVariants.{NoValue, Number, Pointer}
use Rattle.ir_core.specs.declared.module.Module.{Module}
use Rattle.ir_core.specs.declared.operand.Index0.{Index0}
use Rattle.ir_core.specs.declared.operand.Operand.{Operand}
use Rattle.ir_core.specs.declared.operand.Operand.TheVariants.{Int, Bool as Truth, Null as NullWord, Undef, Poison, Local as LocalName, Global, Const}
use Rattle.ir_core.specs.declared.ty.Ty.{Ty}
use Rattle.ir_core.specs.Kinds.{kind_of, truth, zero_of}
use Rattle.ir_core.specs.Operands.{global_number, function_number, named_value, int_value}
use Rattle.ir_core.specs.Valid.{LocalKind, named_locals}
use Rattle.ir_context.specs.declared.origin.Origin.{Origin}
use Rattle.ir_context.specs.declared.origin.Origin.TheVariants.{Known}
use Rattle.ir_context.specs.declared.path.Path.{Path}
use Rattle.ir_context.specs.declared.path.Stride.{Stride}
use Rattle.ir_context.specs.Origins.{known, register_of, place_in, place_of, index_origin, origin_of, arg_origin}
use Rattle.ir_context.specs.Paths.{empty_path, farther, with_stride, path_of}
use Rattle.ir_context.specs.Registers.{number_of}
use Rattle.low_core.specs.declared.sel.SelAlu.TheVariants.{Add}
use Rattle.low_core.specs.declared.sel.SelOp.{SelOp}
use Rattle.low_core.specs.declared.sel.SelOp.TheVariants.{Set, Copy, Alu, GlobalAt}
use Rattle.low_core.specs.SelWeights.{sel_op_weight}
use Rattle.low_core.specs.Weights.{operand_weight, args_weight}
use Rattle.isel_rows.specs.Variables.{bytes_register, moved_register, argument_register}
use Rattle.isel_rows.specs.Brought.{Brought, place_ops, brought, args_brought}
use Rattle.isel_rows.specs.Rows.{constant_moved, stride_ops, strides_moved, moved_ops}

-- the weight of operations
abbrev pub ops_weight : List SelOp → ℕ
ops_weight ops = sum_by sel_op_weight ops

-- of two rows
pub both_weigh : (xs ys : List SelOp) → ops_weight (xs ++ ys) ≡ ops_weight xs + ops_weight ys
both_weigh xs ys = sum_by-append sel_op_weight xs ys

module _ (vs : List LocalKind) where
  -- a value that is known
  place_weighs : (r g by : ℕ) → ops_weight (place_ops vs r g by) ≤ 68
  place_weighs r g by = of_test (nat_eq by 0)
    where
      of_test : (b : Bool) → ops_weight (if b then GlobalAt r g ∷ [] else GlobalAt r g ∷ Set (bytes_register vs) by ∷ Alu Add W64 r r (bytes_register vs) ∷ []) ≤ 68
      of_test true = omega arith
      of_test false = omega arith

  -- a literal
  int_weighs : (r : ℕ) (kind : Kind) (n : ℤ) → ops_weight (brought vs r (known (int_value kind n))).ops ≤ 20
  int_weighs r NoValue n = omega arith
  int_weighs r (Number w) n = omega arith
  int_weighs r Pointer n = omega arith

  -- zeros
  zero_weighs : (r : ℕ) (kind : Kind) → ops_weight (brought vs r (known (zero_of kind))).ops ≤ 20
  zero_weighs r NoValue = omega arith
  zero_weighs r (Number w) = omega arith
  zero_weighs r Pointer = omega arith

  -- a truth value
  truth_weighs : (r : ℕ) (b : Bool) → ops_weight (brought vs r (Known (truth b))).ops ≤ 20
  truth_weighs r true = omega arith
  truth_weighs r false = omega arith

  -- a local
  register_weighs : (r : ℕ) (o : Option ℕ) → ops_weight (brought vs r (register_of o)).ops ≤ 0
  register_weighs r (Some k) = omega arith
  register_weighs r None = omega arith

  -- a global or a function
  named_weighs : (r : ℕ) (g f : Option ℕ) → ops_weight (brought vs r (known (named_value g f))).ops ≤ 20
  named_weighs r (Some g) f = omega arith
  named_weighs r None (Some f) = omega arith
  named_weighs r None None = omega arith

  -- a constant place, and one without indices
  far_weighs : (r : ℕ) (g : Option ℕ) (p : Option Path) → ops_weight (brought vs r (place_of g p)).ops ≤ 68
  far_weighs r (Some g) (Some p) = of_strides p.strides
    where
      of_strides : (ss : List Stride) → ops_weight (brought vs r (place_in g p.constant ss)).ops ≤ 68
      of_strides [] = place_weighs r g p.constant
      of_strides (s ∷ ss) = omega arith
  far_weighs r (Some g) None = omega arith
  far_weighs r None p = omega arith

  -- a global from its start
  start_weighs : (r : ℕ) (g : Option ℕ) → ops_weight (brought vs r (place_of g (Some empty_path))).ops ≤ 20
  start_weighs r (Some g) = omega arith
  start_weighs r None = omega arith

  -- either by its indices
  constant_weighs : (m : Module) (r : ℕ) (g : Option ℕ) (source : Ty) (is : List Index0) → ops_weight (brought vs r (place_of g (path_of m.types source (map index_origin is)))).ops ≤ 20 + 64 * length is
  constant_weighs m r g source [] = let a = start_weighs r g in omega arith
  constant_weighs m r g source (i ∷ is) = let a = far_weighs r g (path_of m.types source (map index_origin (i ∷ is))) in omega arith

  -- an operand
  pub operand_weighs : (m : Module) (r : ℕ) (kind : Kind) (a : Operand) → ops_weight (brought vs r (origin_of m (named_locals vs) kind a)).ops ≤ operand_weight a
  operand_weighs m r kind (Int n) = int_weighs r kind n
  operand_weighs m r kind (Truth b) = truth_weighs r b
  operand_weighs m r kind NullWord = omega arith
  operand_weighs m r kind Undef = zero_weighs r kind
  operand_weighs m r kind Poison = zero_weighs r kind
  operand_weighs m r kind (LocalName name) = register_weighs r (number_of (named_locals vs) name)
  operand_weighs m r kind (Global name) = named_weighs r (global_number m name) (function_number m name)
  operand_weighs m r kind (Const place) = constant_weighs m r (global_number m place.base) place.source place.indices

  -- arguments, with what they weigh in a call
  pub args_weigh : (m : Module) (k : ℕ) (args : List Arg) → ops_weight (args_brought m vs k args).ops + 16 * length (args_brought m vs k args).registers ≤ args_weight args
  args_weigh m k [] = omega arith
  args_weigh m k (a ∷ args) =
      let first = operand_weighs m (argument_register vs k) (kind_of a.ty) a.value in
      let others = args_weigh m (k + 1) args in
      let e = both_weigh (brought vs (argument_register vs k) (arg_origin m (named_locals vs) a)).ops (args_brought m vs (k + 1) args).ops in
      let s = sum_by-cons (λ (x : Arg). 16 + operand_weight x.value) a args in
      omega (arith, first, others, e, s)

-- fewer arguments weigh no more
pub front_weighs : (n : ℕ) (args : List Arg) → args_weight (take n args) ≤ args_weight args
front_weighs zero args = omega arith
front_weighs (suc n) [] = omega arith
front_weighs (suc n) (a ∷ args) =
    let others = front_weighs n args in
    let s = sum_by-cons (λ (x : Arg). 16 + operand_weight x.value) a args in
    let t = sum_by-cons (λ (x : Arg). 16 + operand_weight x.value) a (take n args) in
    omega (arith, others, s, t)

-- the indices that are read of a path, and one more where it has a constant
abbrev some_bytes : ℕ → ℕ
some_bytes by = if nat_eq by 0 then 0 else 1

-- how many of both
abbrev pub parts_in : Path → ℕ
parts_in p = length p.strides + some_bytes p.constant

-- a constant counts once
few_bytes : (by : ℕ) → some_bytes by ≤ 1
few_bytes by = of_test (nat_eq by 0)
  where
    of_test : (b : Bool) → (if b then 0 else 1) ≤ 1
    of_test true = omega arith
    of_test false = omega arith

-- so many bytes more
pub farther_parts : (n by : ℕ) (p : Path) → parts_in p ≤ n → parts_in (farther by p) ≤ n + 1
farther_parts n by p few = let a = few_bytes ((p.constant + by) % 2 ^ 64) in omega (arith, a, few)

-- one more index that is read
pub stride_parts : (n : ℕ) (o : Origin) (size : ℕ) (p : Path) → Unit {0} → size < 2 ^ 64 → parts_in p ≤ n → parts_in (with_stride o size p) ≤ n + 1
stride_parts n o size p u small few = let s : Stride = record { index = o; size = size } in let a = length-append p.strides (s ∷ []) in omega (arith, a, few)

-- a pointer that moves
module _ (vs : List LocalKind) where
  -- by a constant
  bytes_weigh : (from by : ℕ) → ops_weight (constant_moved vs from by).ops ≤ 116 * some_bytes by
  bytes_weigh from by = of_test (nat_eq by 0)
    where
      moves : List SelOp
      moves = Set (bytes_register vs) by ∷ Alu Add W64 (moved_register vs) from (bytes_register vs) ∷ []

      of_test : (b : Bool) →
          let x : Brought = if b then record { ops = []; register = from } else record { ops = moves; register = moved_register vs } in
          ops_weight x.ops ≤ 116 * (if b then 0 else 1)
      of_test true = omega arith
      of_test false = omega arith

  -- by indices
  strides_weigh : (from : ℕ) (ss : List Stride) → ops_weight (strides_moved vs from ss).ops ≤ 116 * length ss
  strides_weigh from [] = omega arith
  strides_weigh from (s ∷ ss) =
      let others = strides_weigh (moved_register vs) ss in
      let e = both_weigh (stride_ops vs from s) (strides_moved vs (moved_register vs) ss).ops in
      omega (arith, others, e)

  -- along a path
  pub moved_weighs : (r from : ℕ) (p : Path) → ops_weight (moved_ops vs r p from) ≤ 16 + 116 * parts_in p
  moved_weighs r from p =
      let first = constant_moved vs from p.constant in
      let others = strides_moved vs first.register p.strides in
      let last : List SelOp = Copy r others.register ∷ [] in
      let a = bytes_weigh from p.constant in
      let b = strides_weigh first.register p.strides in
      let c = both_weigh first.ops (others.ops ++ last) in
      let d = both_weigh others.ops last in
      omega (arith, a, b, c, d)
