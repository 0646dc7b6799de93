-- How many operations an instruction and an end become: one at least, and no more than their block has.
use Rattle.std.proofs.Common.{◌≡◌, ℕ, zero, suc, ◌+◌, ◌<◌, ◌≤◌, List, [], ◌∷◌, ◌++◌, length, map, take, drop, Option, Some, None, slice_get, ap, arith, length-append}
use Rattle.rd_num.specs.declared.width.Width.{Width}
use Rattle.rd_num.specs.declared.width.Width.TheVariants.{W1, W8, W16, W32, W64}
use Rattle.ir_core.specs.declared.instruction.Arg.{Arg}
use Rattle.ir_core.specs.declared.instruction.Op.{Op}
use Rattle.ir_core.specs.declared.instruction.Op.TheVariants.{Bin, Compare, Cast, Select, Freeze, Alloca, Load, Store, Gep, Phi, Call}
use Rattle.ir_core.specs.declared.module.Module.{Module}
use Rattle.ir_core.specs.declared.operand.Operand.{Operand}
use Rattle.ir_core.specs.declared.operand.Operand.TheVariants.{Local as LocalName, Global}
use Rattle.ir_core.specs.declared.outer.Outer.{Outer}
use Rattle.ir_core.specs.declared.outer.Outer.TheVariants as outside
use Rattle.ir_core.specs.Calls.{outer_of}
use Rattle.ir_core.specs.Counts.{greatest}
use Rattle.ir_core.specs.Operands.{function_number}
use Rattle.ir_core.specs.Valid.{LocalKind, named_locals}
use Rattle.low_core.specs.declared.sel.SelBlock.{SelBlock}
use Rattle.low_core.specs.declared.sel.SelFun.{SelFun}
use Rattle.low_core.specs.declared.sel.SelOp.{SelOp}
use Rattle.low_core.specs.declared.sel.Sel.{Sel}
use Rattle.low_core.specs.SelState.{SelFrame}
use Rattle.low_core.specs.declared.sel.Which.TheVariants.{Putchar, Getchar, Exit, Memcpy, Memset, Trap}
use Rattle.ir_core.specs.declared.kind.Kind.TheVariants.{Number, Pointer}
use Rattle.ir_core.specs.Kinds.{kind_of}
use Rattle.ir_context.specs.declared.origin.Origin.TheVariants as origin
use Rattle.ir_context.specs.declared.path.Path.{Path}
use Rattle.ir_context.specs.Origins.{register_of, arg_origin}
use Rattle.ir_context.specs.Paths.{path_of}
use Rattle.ir_context.specs.Registers.{number_of}
use Rattle.isel_rows.specs.Variables.{register_read, width_of}
use Rattle.isel_rows.specs.Brought.{Brought, AllBrought, operand_brought, args_brought}
use Rattle.isel_rows.specs.Calls.{behind_args, register_into, call_ops, named_ops, outer_ops}
use Rattle.isel_rows.specs.Rows.{behind, bin_op, cast_op, stored_width, load_ops, constant_moved, strides_moved, moved_ops, path_taken, result_register, ops_of}
use Rattle.isel.specs.Bound.{longest}
use Rattle.isel.proofs.Straight.{StandsAt}

-- behind others there is still one
last_some : {X : Type 0} (xs ys : List X) → 0 < length ys → 0 < length (xs ++ ys)
last_some xs ys some = let l = length-append xs ys in omega (arith, l, some)

load_some : (w : Width) (r s : ℕ) → 0 < length (load_ops w r s)
load_some W1 r s = omega arith
load_some W8 r s = omega arith
load_some W16 r s = omega arith
load_some W32 r s = omega arith
load_some W64 r s = omega arith

-- an instruction that isn't a phi
abbrev pub IsNoPhi : Op → Type 0
IsNoPhi (Phi ty entries) = ⊥
IsNoPhi op = Unit {0}

behind_some : (b : AllBrought) (call : List ℕ → SelOp) → 0 < length (behind_args b call)
behind_some b call = last_some b.ops (call b.registers ∷ []) (omega arith)

module _ (m : Module) (vs : List LocalKind) where
  outer_some : (into : Option ℕ) (o : Outer) (args : List Arg) → 0 < length (outer_ops m vs into o args)
  outer_some into outside.Putchar args = behind_some (args_brought m vs 0 (take 1 args)) (λ rs. SelOp.Outside Putchar into rs)
  outer_some into outside.Getchar args = behind_some (args_brought m vs 0 (take 0 args)) (λ rs. SelOp.Outside Getchar into rs)
  outer_some into outside.Exit args = behind_some (args_brought m vs 0 (take 1 args)) (λ rs. SelOp.Outside Exit None rs)
  outer_some into outside.Memcpy args = behind_some (args_brought m vs 0 (take 3 args)) (λ rs. SelOp.Outside Memcpy None rs)
  outer_some into outside.Memset args = behind_some (args_brought m vs 0 (take 3 args)) (λ rs. SelOp.Outside Memset None rs)
  outer_some into outside.TrapNow args = behind_some (args_brought m vs 0 (take 0 args)) (λ rs. SelOp.Outside Trap None rs)
  outer_some into outside.Lifetime args = omega arith
  outer_some into outside.NoOuter args = omega arith

  named_some : (into : Option ℕ) (args : List Arg) (name : List ℕ) (f : Option ℕ) → 0 < length (named_ops m vs into args name f)
  named_some into args name (Some f) = behind_some (args_brought m vs 0 args) (λ rs. SelOp.Call f into rs)
  named_some into args name None = outer_some into (outer_of name) args

  at_some : (s : ℕ) (into : Option ℕ) (args : List Arg) → 0 < length (behind_args (args_brought m vs 0 args) (λ rs. SelOp.CallAt s into rs))
  at_some s into args = behind_some (args_brought m vs 0 args) (λ rs. SelOp.CallAt s into rs)

  call_some : (into : Option ℕ) (callee : Operand) (args : List Arg) → 0 < length (call_ops m vs into callee args)
  call_some into (Global name) args = named_some into args name (function_number m name)
  call_some into (LocalName name) args = at_some (register_read vs (register_of (number_of (named_locals vs) name))) into args
  call_some into other args = at_some (register_read vs origin.Malformed) into args

  -- one operand in front, or two, or three
  one_some : (b : Brought) (go : ℕ → List SelOp) → ((r : ℕ) → 0 < length (go r)) → 0 < length (behind b go)
  one_some b go some = last_some b.ops (go b.register) (some b.register)

  moved_some : (r : ℕ) (p : Path) (from : ℕ) → 0 < length (moved_ops vs r p from)
  moved_some r p from =
      let first = constant_moved vs from p.constant in
      let others = strides_moved vs first.register p.strides in
      last_some first.ops (others.ops ++ SelOp.Copy r others.register ∷ []) (last_some others.ops (SelOp.Copy r others.register ∷ []) (omega arith))

  pub ops_some : (at : ℕ) (into : Option (List ℕ)) (op : Op) → IsNoPhi op → 0 < length (ops_of m vs at into op)
  ops_some at into (Bin op ty a b) none = one_some (operand_brought m vs 0 (kind_of ty) a) _ (λ s. one_some (operand_brought m vs 1 (kind_of ty) b) (λ t. bin_op op (width_of (kind_of ty)) (result_register vs into) s t ∷ []) (λ t. omega arith))
  ops_some at into (Compare pred ty a b) none =
      one_some (operand_brought m vs 0 (kind_of ty) a) _ (λ s. one_some (operand_brought m vs 1 (kind_of ty) b) (λ t. SelOp.Test pred (width_of (kind_of ty)) (result_register vs into) s t ∷ []) (λ t. omega arith))
  ops_some at into (Cast op from a to) none = one_some (operand_brought m vs 0 (kind_of from) a) (λ s. cast_op op (width_of (kind_of from)) (width_of (kind_of to)) (result_register vs into) s ∷ []) (λ s. omega arith)
  ops_some at into (Select condition ty a ty2 b) none =
      one_some (operand_brought m vs 0 (Number W1) condition) _ (λ c. one_some (operand_brought m vs 1 (kind_of ty) a) _ (λ s. one_some (operand_brought m vs 2 (kind_of ty2) b) (λ t. SelOp.Pick (result_register vs into) c s t ∷ []) (λ t. omega arith)))
  ops_some at into (Freeze ty a) none = one_some (operand_brought m vs 0 (kind_of ty) a) (λ s. SelOp.Copy (result_register vs into) s ∷ []) (λ s. omega arith)
  ops_some at into (Alloca ty count) none = omega arith
  ops_some at into (Load ty p) none = one_some (operand_brought m vs 0 Pointer p) (λ s. load_ops (width_of (kind_of ty)) (result_register vs into) s) (λ s. load_some (width_of (kind_of ty)) (result_register vs into) s)
  ops_some at into (Store ty a p) none =
      one_some (operand_brought m vs 0 (kind_of ty) a) _ (λ t. one_some (operand_brought m vs 1 Pointer p) (λ s. SelOp.Store (stored_width (width_of (kind_of ty))) s t ∷ []) (λ s. omega arith))
  ops_some at into (Gep ty p indices) none =
      one_some (operand_brought m vs 0 Pointer p) (λ s. moved_ops vs (result_register vs into) (path_taken (path_of m.types ty (map (arg_origin m (named_locals vs)) indices))) s)
      (λ s. moved_some (result_register vs into) (path_taken (path_of m.types ty (map (arg_origin m (named_locals vs)) indices))) s)
  ops_some at into (Call ret callee args) none = call_some (register_into vs into) callee args
  ops_some at into (Phi ty entries) none = absurd none

-- an operation of a block is one of the longest block's, and so is its end
greatest_has : {X : Type 0} (f : X → ℕ) (xs : List X) (k : ℕ) (x : X) → slice_get xs k ≡ Some x → f x ≤ greatest (map f xs)
greatest_has f [] k x there = absurd cc
greatest_has f (y ∷ xs) zero x there = let same = ap f (let e : y ≡ x = cc in e) in omega (arith, same)
greatest_has f (y ∷ xs) (suc k) x there = let r = greatest_has f xs k x there in omega (arith, r)

drop_few : {X : Type 0} (xs : List X) (n : ℕ) → length (drop n xs) ≤ length xs
drop_few xs zero = omega arith
drop_few [] (suc n) = omega arith
drop_few (x ∷ xs) (suc n) = let r = drop_few xs n in omega (arith, r)

pub stands_few : (sel : Sel) (h : SelFrame) (ops : List SelOp) → StandsAt sel h ops → length ops + 1 ≤ longest sel
stands_few sel h ops s =
    let a = greatest_has (λ (f : SelFun). greatest (map (λ (b : SelBlock). length b.ops) f.blocks)) sel.functions h.function s.fn s.in_program in
    let b = greatest_has (λ (c : SelBlock). length c.ops) s.fn.blocks h.block s.block s.in_function in
    let d = ap length s.there in
    let e = drop_few s.block.ops h.next in
    omega (arith, a, b, d, e)
