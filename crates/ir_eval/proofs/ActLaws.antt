-- What instructions give is what their actions give.
use Rattle.std.proofs.Common.{◌≡◌, ℕ, ◌*◌, ◌≤◌, Bool, true, List, [], ◌∷◌, ◌++◌, map, refl, ap, ◌∙◌, arith}
use Rattle.std.specs.Prelude.{◌&&◌}
use Rattle.std.specs.List.{list_all}
use Rattle.std.proofs.lemmas.Bool.{and_parts}
use Rattle.rd_num.specs.declared.width.Width.TheVariants.{W1}
use Rattle.ir_core.specs.declared.limit.TheConstants.{MAX_FRAME}
use Rattle.ir_core.specs.declared.ty.Ty.{Ty}
use Rattle.ir_core.specs.declared.operand.Operand.{Operand}
use Rattle.ir_core.specs.declared.instruction.Op.{Op}
use Rattle.ir_core.specs.declared.instruction.Op.TheVariants.{Bin, Compare, Cast, Select, Freeze, Alloca, Load, Store, Gep, Phi, Call}
use Rattle.ir_core.specs.declared.instruction.BinOp.{BinOp}
use Rattle.ir_core.specs.declared.instruction.Pred.{Pred}
use Rattle.ir_core.specs.declared.instruction.CastOp.{CastOp}
use Rattle.ir_core.specs.declared.instruction.Arg.{Arg}
use Rattle.ir_core.specs.declared.module.Module.{Module}
use Rattle.ir_core.specs.declared.kind.Kind.{Kind}
use Rattle.ir_core.specs.declared.kind.Kind.TheVariants.{Number, Pointer}
use Rattle.ir_core.specs.Kinds.{kind_of, same_kind}
use Rattle.ir_core.specs.Stops.{Answer, and_then}
use Rattle.ir_core.specs.Counts.{told, spaced, alloca_bytes}
use Rattle.ir_core.specs.Shapes.{shape_of}
use Rattle.ir_core.specs.Memory.{load_at}
use Rattle.ir_core.specs.Typing.{Env, is_value, is_result, is_index, known_arg, kinds_of, leads_from, operand_fits, arg_fits, callee_fits, bin_fits, cast_fits, op_fits}
use Rattle.ir_core.specs.Mentions.{OfType, of_operand, of_typed, of_args, of_callee, of_op}
use Rattle.ir_core.specs.Step.{binary_value, compared_value, cast_value, selected}
use Rattle.ir_context.specs.Extents.{extent_of}
use Rattle.ir_context.specs.Origins.{origin_of}
use Rattle.ir_program.specs.Actions.{move_by}
use Rattle.ir_context.specs.Reads.{ArePlaced, IsPlaced}
use Rattle.ir_sound.specs.WellTyped.{Each}
use Rattle.ir_sound.proofs.RowLaws.{Each_parts}
use Rattle.ir_context.specs.Small.{FieldsAreSmall, IsSmall, IsSmallMention}
use Rattle.ir_run.specs.Turns.{action_value}
use Rattle.ir_run.specs.Agreement.{IsReadAs, GivesAs, ActsAs}
use Rattle.ir_context.proofs.ShapeLaws.{rounded_up}
use Rattle.ir_context.proofs.PathLaws.{size_is}
use Rattle.ir_context.proofs.OperandLaws.{pointer_moves}
use Rattle.ir_eval.proofs.PartLaws.{is_placed, is_read, are_placed, calls_as}

-- one answer, and what follows
one_same : {A C : Type 0} (a b : Answer A) (f : A → Answer C) → a ≡ b → and_then a f ≡ and_then b f
one_same a b f e = ap (λ o. and_then o f) e

-- two
two_same : {A B C : Type 0} (a b : Answer A) (c d : Answer B) (f : A → B → Answer C) → a ≡ b → c ≡ d → and_then a (λ x. and_then c (λ y. f x y)) ≡ and_then b (λ x. and_then d (λ y. f x y))
two_same a b c d f e g = ap (λ o. and_then o (λ x. and_then c (λ y. f x y))) e ∙ ap (λ o. and_then b (λ x. and_then o (λ y. f x y))) g

-- three
three_same : {A B C D : Type 0} (a b : Answer A) (c d : Answer B) (h k : Answer C) (f : A → B → C → Answer D) → a ≡ b → c ≡ d → h ≡ k
    → and_then a (λ x. and_then c (λ y. and_then h (λ z. f x y z))) ≡ and_then b (λ x. and_then d (λ y. and_then k (λ z. f x y z)))
three_same a b c d h k f e g i =
    ap (λ o. and_then o (λ x. and_then c (λ y. and_then h (λ z. f x y z)))) e ∙ ap (λ o. and_then b (λ x. and_then o (λ y. and_then h (λ z. f x y z)))) g
    ∙ ap (λ o. and_then b (λ x. and_then d (λ y. and_then o (λ z. f x y z)))) i

module _ (m : Module) (names : List (List ℕ)) where
  -- instructions over operands that are read as their origins
  binary_gives : (op : BinOp) (ty : Ty) (a b : Operand) → IsReadAs m names (kind_of ty) a → IsReadAs m names (kind_of ty) b → GivesAs m names (Bin op ty a b)
  binary_gives op ty a b ra rb objects registers locals stand = two_same _ _ _ _ (binary_value op (kind_of ty)) (ra registers locals stand) (rb registers locals stand)

  compare_gives : (pred : Pred) (ty : Ty) (a b : Operand) → IsReadAs m names (kind_of ty) a → IsReadAs m names (kind_of ty) b → GivesAs m names (Compare pred ty a b)
  compare_gives pred ty a b ra rb objects registers locals stand = two_same _ _ _ _ (compared_value objects pred (kind_of ty)) (ra registers locals stand) (rb registers locals stand)

  cast_gives : (op : CastOp) (from : Ty) (a : Operand) (to : Ty) → IsReadAs m names (kind_of from) a → GivesAs m names (Cast op from a to)
  cast_gives op from a to ra objects registers locals stand = one_same _ _ (cast_value op (kind_of from) (kind_of to)) (ra registers locals stand)

  select_gives : (c : Operand) (ty : Ty) (a : Operand) (ty2 : Ty) (b : Operand) → IsReadAs m names (Number W1) c → IsReadAs m names (kind_of ty) a → IsReadAs m names (kind_of ty2) b → GivesAs m names (Select c ty a ty2 b)
  select_gives c ty a ty2 b rc ra rb objects registers locals stand = three_same _ _ _ _ _ _ selected (rc registers locals stand) (ra registers locals stand) (rb registers locals stand)

  load_gives : (ty : Ty) (p : Operand) → IsReadAs m names Pointer p → GivesAs m names (Load ty p)
  load_gives ty p rp objects registers locals stand = one_same _ _ (load_at objects (kind_of ty)) (rp registers locals stand)

  -- a pointer that moves
  move_gives : (ty : Ty) (p : Operand) (indices : List Arg) → FieldsAreSmall m.types m.types → IsSmall m.types ty → IsPlaced m p → ArePlaced m indices → leads_from m.types ty (map known_arg indices) ≡ true → GivesAs m names (Gep ty p indices)
  move_gives ty p indices all small base placed leads objects registers locals stand =
      let along = pointer_moves m names ty p indices all small base placed leads in
      ap (λ o. action_value objects registers (move_by (origin_of m names Pointer p) o)) along.is ∙ along.moves objects registers locals stand

-- a number with the gap behind it isn't smaller
spaced_up : (n : ℕ) → n ≤ spaced n
spaced_up n = rounded_up n 16 (omega arith)

-- the bytes of an alloca are told as they are
alloca_told : (m : Module) (ty : Ty) (count : ℕ) → IsSmall m.types ty → spaced (count * (shape_of m.types ty).size) ≤ MAX_FRAME → told (count * (extent_of m.types ty).size) ≡ count * (shape_of m.types ty).size
alloca_told m ty count small fits =
    ap (λ n. told (count * n)) (size_is m.types ty small) ∙ by (count * (shape_of m.types ty).size) fits
  where
    by : (n : ℕ) → spaced n ≤ MAX_FRAME → told n ≡ n
    by n e = let up = spaced_up n in omega arith

-- an argument that fits
arg_operand : (m : Module) (env : Env) (a : Arg) → arg_fits m env a ≡ true → operand_fits m env (kind_of a.ty) a.value ≡ true
arg_operand m env a e = (and_parts (is_value (kind_of a.ty)) (operand_fits m env (kind_of a.ty) a.value) e).1

module _ (m : Module) (env : Env) (names : List (List ℕ)) (all : FieldsAreSmall m.types m.types) where
  -- an operand of an instruction
  reads : (kind : Kind) (a : Operand) → Each (IsSmallMention m.types) (of_operand a) → operand_fits m env kind a ≡ true → IsReadAs m names kind a
  reads kind a small fits = is_read m names kind a (is_placed m env kind a all small fits)

  -- an instruction that fits
  pub acts_as : (op : Op) → Each (IsSmallMention m.types) (of_op op) → op_fits m env op ≡ true → alloca_bytes m.types op ≤ MAX_FRAME → ActsAs m names op
  acts_as (Bin op ty a b) small fits frame =
      let p = and_parts (bin_fits op (kind_of ty)) (operand_fits m env (kind_of ty) a && operand_fits m env (kind_of ty) b) fits in
      let q = and_parts (operand_fits m env (kind_of ty) a) (operand_fits m env (kind_of ty) b) p.1 in
      let s = Each_parts (IsSmallMention m.types) (of_typed ty a) (of_operand b) small in
      binary_gives m names op ty a b (reads (kind_of ty) a s.0.1 q.0) (reads (kind_of ty) b s.1 q.1)
  acts_as (Compare pred ty a b) small fits frame =
      let p = and_parts (is_value (kind_of ty)) (operand_fits m env (kind_of ty) a && operand_fits m env (kind_of ty) b) fits in
      let q = and_parts (operand_fits m env (kind_of ty) a) (operand_fits m env (kind_of ty) b) p.1 in
      let s = Each_parts (IsSmallMention m.types) (of_typed ty a) (of_operand b) small in
      compare_gives m names pred ty a b (reads (kind_of ty) a s.0.1 q.0) (reads (kind_of ty) b s.1 q.1)
  acts_as (Cast op from a to) small fits frame =
      let p = and_parts (cast_fits op (kind_of from) (kind_of to)) (operand_fits m env (kind_of from) a) fits in
      let s = Each_parts (IsSmallMention m.types) (of_typed from a) (OfType to ∷ []) small in
      cast_gives m names op from a to (reads (kind_of from) a s.0.1 p.1)
  acts_as (Select c ty a ty2 b) small fits frame =
      let p = and_parts (operand_fits m env (Number W1) c) ((is_value (kind_of ty) && same_kind (kind_of ty) (kind_of ty2)) && (operand_fits m env (kind_of ty) a && operand_fits m env (kind_of ty2) b)) fits in
      let q = and_parts (is_value (kind_of ty) && same_kind (kind_of ty) (kind_of ty2)) (operand_fits m env (kind_of ty) a && operand_fits m env (kind_of ty2) b) p.1 in
      let r = and_parts (operand_fits m env (kind_of ty) a) (operand_fits m env (kind_of ty2) b) q.1 in
      let s = Each_parts (IsSmallMention m.types) (of_operand c) (of_typed ty a ++ of_typed ty2 b) small in
      let t = Each_parts (IsSmallMention m.types) (of_typed ty a) (of_typed ty2 b) s.1 in
      select_gives m names c ty a ty2 b (reads (Number W1) c s.0 p.0) (reads (kind_of ty) a t.0.1 r.0) (reads (kind_of ty2) b t.1.1 r.1)
  acts_as (Freeze ty a) small fits frame =
      let p = and_parts (is_value (kind_of ty)) (operand_fits m env (kind_of ty) a) fits in
      λ objects. reads (kind_of ty) a small.1 p.1
  acts_as (Alloca ty count) small fits frame = alloca_told m ty count small.0 frame
  acts_as (Load ty p) small fits frame =
      let q = and_parts (is_value (kind_of ty)) (operand_fits m env Pointer p) fits in
      load_gives m names ty p (reads Pointer p small.1 q.1)
  acts_as (Store ty a p) small fits frame =
      let q = and_parts (is_value (kind_of ty)) (operand_fits m env (kind_of ty) a && operand_fits m env Pointer p) fits in
      let r = and_parts (operand_fits m env (kind_of ty) a) (operand_fits m env Pointer p) q.1 in
      let s = Each_parts (IsSmallMention m.types) (of_typed ty a) (of_operand p) small in
      (reads (kind_of ty) a s.0.1 r.0, reads Pointer p s.1 r.1)
  acts_as (Gep ty p indices) small fits frame =
      let test : Arg → Bool = λ a. is_index (kind_of a.ty) && operand_fits m env (kind_of a.ty) a.value in
      let q = and_parts (operand_fits m env Pointer p) (list_all test indices && leads_from m.types ty (map known_arg indices)) fits in
      let r = and_parts (list_all test indices) (leads_from m.types ty (map known_arg indices)) q.1 in
      let s = Each_parts (IsSmallMention m.types) (of_typed ty p) (of_args indices) small in
      move_gives m names ty p indices all s.0.0 (is_placed m env Pointer p all s.0.1 q.0)
      (are_placed m env test indices all (λ a e. (and_parts (is_index (kind_of a.ty)) (operand_fits m env (kind_of a.ty) a.value) e).1) s.1 r.0) r.1
  acts_as (Phi ty entries) small fits frame = λ objects registers locals stand. refl
  acts_as (Call ret callee arguments) small fits frame =
      let q = and_parts (is_result ret) (callee_fits m env (kind_of ret) (kinds_of arguments) callee && list_all (arg_fits m env) arguments) fits in
      let r = and_parts (callee_fits m env (kind_of ret) (kinds_of arguments) callee) (list_all (arg_fits m env) arguments) q.1 in
      let s = Each_parts (IsSmallMention m.types) (of_callee callee) (of_args arguments) small.1 in
      calls_as m names callee arguments (are_placed m env (arg_fits m env) arguments all (arg_operand m env) s.1 r.1)
