-- A pointer that moves along a path comes where its indices lead.
use Rattle.std.proofs.Common.{◌≡◌, ℕ, ◌+◌, ◌%◌, ◌^◌, List, [], ◌∷◌, map, Option, Some, Ok, Err, refl, ap, sym, ◌∙◌, arith, if◌then◌else◌}
use Rattle.std.specs.Prelude.{nat_eq}
use Rattle.ir_core.specs.declared.ty.Ty.{Ty}
use Rattle.ir_core.specs.declared.operand.Operand.{Operand}
use Rattle.ir_core.specs.declared.instruction.Op.TheVariants.{Gep}
use Rattle.ir_core.specs.declared.instruction.Arg.{Arg}
use Rattle.ir_core.specs.declared.module.Module.{Module}
use Rattle.ir_core.specs.declared.kind.Kind.TheVariants.{Pointer}
use Rattle.ir_core.specs.declared.memory.Value.{Value}
use Rattle.ir_core.specs.declared.memory.Value.TheVariants.{Num, Null, At, Fun}
use Rattle.ir_core.specs.declared.memory.Reason.TheVariants.{Gep as GepReason}
use Rattle.ir_core.specs.Stops.{Left, Answer, and_then, found_or}
use Rattle.ir_core.specs.Stops as stop
use Rattle.ir_core.specs.Kinds.{kind_of}
use Rattle.ir_core.specs.Memory.{Memory}
use Rattle.ir_core.specs.Shapes.{part_of_array, shape_of}
use Rattle.ir_core.specs.State.{Local}
use Rattle.ir_core.specs.Operands.{index_words, bytes_to, values_of}
use Rattle.ir_core.specs.Pointers.{moved_pointer}
use Rattle.ir_core.specs.Step.{result_of}
use Rattle.ir_context.specs.Registers.{StandFor}
use Rattle.ir_core.specs.Words.{low_word}
use Rattle.ir_context.specs.declared.path.Path.{Path}
use Rattle.ir_context.specs.declared.path.Stride.{Stride}
use Rattle.ir_context.specs.Paths.{empty_path, path_of}
use Rattle.ir_context.specs.Origins.{origin_of, arg_origin}
use Rattle.ir_context.specs.Reads.{origin_value, origin_values, stride_values, stride_bytes, moved_along, IsPlaced, ArePlaced, AreWide}
use Rattle.ir_context.specs.Small.{IsSmall, FieldsAreSmall}
use Rattle.ir_context.proofs.ValueLaws.{value_read}
use Rattle.ir_context.proofs.PathLaws.{Meets, Leads, from_leads}

-- the second parts of a step, where they agree
pub then_same : {A B : Type 0} (a : Answer A) (f g : A → Answer B) → ((x : A) → f x ≡ g x) → and_then a f ≡ and_then a g
then_same (Ok x) f g same = same x
then_same (Err s) f g same = refl

-- of the bytes of a move only the lowest 64 bits count
moved_low : (m n : ℕ) (x : Value) → m % 2 ^ 64 ≡ n % 2 ^ 64 → moved_pointer m x ≡ moved_pointer n x
moved_low m n (Num w k) e = refl
moved_low m n Null e = ap (λ k. let a : Answer Value = if nat_eq k 0 then Ok Null else Err (Left GepReason) in a) e
moved_low m n (Fun f) e = ap (λ k. let a : Answer Value = if nat_eq k 0 then Ok (Fun f) else Err (Left GepReason) in a) e
moved_low m n (At o d) e = let low : (d + m) % 2 ^ 64 ≡ (d + n) % 2 ^ 64 = omega arith in ap (λ k. let a : Answer Value = Ok (At o k) in a) low

-- answers are one value
ok_is : (a b : ℕ) → let x : Answer ℕ = Ok a in x ≡ Ok b → a ≡ b
ok_is a b e = cc

-- so it is of answers
moved_same : (a b : Answer ℕ) (x : Value) → low_word a ≡ low_word b → and_then a (λ by. moved_pointer by x) ≡ and_then b (λ by. moved_pointer by x)
moved_same (Ok m) (Ok n) x e = moved_low m n x (ok_is (m % 2 ^ 64) (n % 2 ^ 64) e)
moved_same (Ok m) (Err t) x e = absurd (cc)
moved_same (Err s) (Ok n) x e = absurd (cc)
moved_same (Err s) (Err t) x e = let same : s ≡ t = cc in ap (λ u. let a : Answer Value = Err u in a) same

-- words and then where they lead
words_first : (words : Answer (List ℕ)) (part : List ℕ → Option ℕ) (x : Value) → and_then words (λ ns. and_then (found_or stop.Malformed (part ns)) (λ by. moved_pointer by x)) ≡ and_then (and_then words (λ ns. found_or stop.Malformed (part ns))) (λ by. moved_pointer by x)
words_first (Ok ns) part x = refl
words_first (Err s) part x = refl

-- bytes and then those that are known
bytes_first : (bytes : Answer ℕ) (c d : ℕ) (x : Value) → c % 2 ^ 64 ≡ d % 2 ^ 64 → and_then (and_then bytes (λ by. let a : Answer ℕ = Ok (d + by) in a)) (λ by. moved_pointer by x) ≡ and_then bytes (λ by. moved_pointer (c + by) x)
bytes_first (Ok by) c d x e = let low : (d + by) % 2 ^ 64 ≡ (c + by) % 2 ^ 64 = omega arith in moved_low (d + by) (c + by) x low
bytes_first (Err s) c d x e = refl

-- a pointer whose indices have a path
moves : (part : List ℕ → Option ℕ) (c d : ℕ) (new : List Stride) (x : Value) → c % 2 ^ 64 ≡ d % 2 ^ 64 → (a b : Answer (List Value)) → Meets a b part d new
    → and_then a (λ vs. and_then (index_words vs) (λ ns. and_then (found_or stop.Malformed (part ns)) (λ by. moved_pointer by x))) ≡ and_then b (λ ws. and_then (stride_bytes new ws) (λ by. moved_pointer (c + by) x))
moves part c d new x low (Err s) (Err t) m = ap (λ u. let a : Answer Value = Err u in a) m
moves part c d new x low (Err s) (Ok ws) m = absurd m
moves part c d new x low (Ok vs) (Err t) m = absurd m
moves part c d new x low (Ok vs) (Ok ws) m =
    words_first (index_words vs) part x ∙ moved_same (and_then (index_words vs) (λ ns. found_or stop.Malformed (part ns))) (and_then (stride_bytes new ws) (λ by. Ok (d + by))) x m
    ∙ bytes_first (stride_bytes new ws) c d x low

-- where words lead from a pointer to a type
bytes_lead : (m : Module) (ty : Ty) (ns : List ℕ) → bytes_to m ty ns ≡ found_or stop.Malformed (part_of_array (shape_of m.types ty) ns)
bytes_lead m ty [] = refl
bytes_lead m ty (n ∷ ns) = refl

module _ (m : Module) (names : List (List ℕ)) (registers : List (Option Value)) (locals : List Local) (stand : StandFor names registers locals) where
  -- indices or arguments
  pub values_read : (args : List Arg) → ArePlaced m args → values_of m locals args ≡ origin_values registers (map (arg_origin m names) args)
  values_read [] placed = refl
  values_read (a ∷ as') placed =
      ap (λ o. and_then o (λ v. and_then (values_of m locals as') (λ vs. let r : Answer (List Value) = Ok (v ∷ vs) in r))) (value_read m names registers locals stand (kind_of a.ty) a.value placed.0)
      ∙ then_same (origin_value registers (arg_origin m names a)) (λ v. and_then (values_of m locals as') (λ vs. let r : Answer (List Value) = Ok (v ∷ vs) in r)) (λ v. and_then (origin_values registers (map (arg_origin m names) as')) (λ vs. let r : Answer (List Value) = Ok (v ∷ vs) in r))
      (λ v. ap (λ o. and_then o (λ vs. let r : Answer (List Value) = Ok (v ∷ vs) in r)) (values_read as' placed.1))

  -- a pointer that moves
  pub move_read : (objects : Memory) (ty : Ty) (p : Operand) (indices : List Arg) (q : Path) → IsPlaced m p → ArePlaced m indices → AreWide (map (arg_origin m names) indices) → FieldsAreSmall m.types m.types → IsSmall m.types ty
      → path_of m.types ty (map (arg_origin m names) indices) ≡ Some q → result_of m objects locals (Gep ty p indices) ≡ moved_along registers (origin_of m names Pointer p) q
  move_read objects ty p indices q base placed wide all small e =
      let os = map (arg_origin m names) indices in
      let l = from_leads registers m.types all os ty q wide small e in
      let rest = λ (x : Value) (o : Answer (List Value)). and_then o (λ is. and_then (index_words is) (λ ns. and_then (bytes_to m ty ns) (λ by. moved_pointer by x))) in
      ap (λ o. and_then o (λ x. rest x (values_of m locals indices))) (value_read m names registers locals stand Pointer p base)
      ∙ then_same (origin_value registers (origin_of m names Pointer p)) (λ x. rest x (values_of m locals indices)) (λ x. and_then (stride_values registers q.strides) (λ vs. and_then (stride_bytes q.strides vs) (λ by. moved_pointer (q.constant + by) x)))
      (λ x. ap (rest x) (values_read indices placed) ∙ onward l x)
    where
      onward : Leads registers (map (arg_origin m names) indices) (part_of_array (shape_of m.types ty)) empty_path q → (x : Value) → and_then (origin_values registers (map (arg_origin m names) indices)) (λ is. and_then (index_words is) (λ ns. and_then (bytes_to m ty ns) (λ by. moved_pointer by x))) ≡ and_then (stride_values registers q.strides) (λ vs. and_then (stride_bytes q.strides vs) (λ by. moved_pointer (q.constant + by) x))
      onward l x =
          then_same (origin_values registers (map (arg_origin m names) indices)) (λ is. and_then (index_words is) (λ ns. and_then (bytes_to m ty ns) (λ by. moved_pointer by x))) (λ is. and_then (index_words is) (λ ns. and_then (found_or stop.Malformed (part_of_array (shape_of m.types ty) ns)) (λ by. moved_pointer by x)))
          (λ is. then_same (index_words is) (λ ns. and_then (bytes_to m ty ns) (λ by. moved_pointer by x)) (λ ns. and_then (found_or stop.Malformed (part_of_array (shape_of m.types ty) ns)) (λ by. moved_pointer by x)) (λ ns. ap (λ b. and_then b (λ by. moved_pointer by x)) (bytes_lead m ty ns)))
          ∙ moves (part_of_array (shape_of m.types ty)) q.constant l.bytes l.new x (let zero : q.constant % 2 ^ 64 ≡ l.bytes % 2 ^ 64 = (let c = l.constant in omega arith) in zero) (origin_values registers (map (arg_origin m names) indices)) (stride_values registers l.new) l.meets
          ∙ ap (λ ss. and_then (stride_values registers ss) (λ vs. and_then (stride_bytes ss vs) (λ by. moved_pointer (q.constant + by) x))) (sym l.strides)
