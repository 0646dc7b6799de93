-- How many instructions the rows of calls have.
use Rattle.std.proofs.Common.{◌≡◌, ℕ, suc, ◌+◌, ◌*◌, ◌≤◌, List, [], ◌∷◌, drop, length, Option, Some, None, refl, ap, arith, length-append}
use Rattle.x86_core.specs.declared.reg.Reg.{Reg}
use Rattle.x86_core.specs.declared.instr.Instr.TheVariants.{Pop}
use Rattle.obj_core.specs.Saved.{saved_register}
use Rattle.frame_rows.specs.declared.spot.Spot.{Spot}
use Rattle.frame_lower.specs.Calls.{argument_registers, into_registers, into_words, pass_row, take_row, from_registers, from_words, receive_row}
use Rattle.frame_lower.specs.Frames.{kept_bytes}
use Rattle.frame_lower.specs.Rows.{push_row, pop_row}

pub push_count : (order : List ℕ) → length (push_row order) ≡ length order
push_count [] = refl
push_count (place ∷ order) = ap suc (push_count order)

pub pop_count : (order : List ℕ) → length (pop_row order) ≡ length order
pop_count [] = refl
pop_count (place ∷ order) = let e = pop_count order in let l = length-append (pop_row order) (Pop (saved_register place) ∷ []) in omega (arith, e, l)

module _ (homes : ℕ → Spot) where
  into_words_count : (args : List ℕ) (k : ℕ) → length (into_words homes k args) ≡ 2 * length args
  into_words_count [] k = refl
  into_words_count (a ∷ args) k = let e = into_words_count args (k + 1) in omega (arith, e)

  from_words_count : (params : List ℕ) (at : ℕ) → length (from_words homes at params) ≡ 2 * length params
  from_words_count [] at = refl
  from_words_count (x ∷ params) at = let e = from_words_count params (at + 8) in omega (arith, e)

  -- one instruction for each register, two for each word
  into_count : (ts : List Reg) (args : List ℕ) → length (into_registers homes ts args) + 2 * length (drop (length ts) args) ≤ 2 * length args
  into_count [] args = omega arith
  into_count (t ∷ ts) [] = omega arith
  into_count (t ∷ ts) (a ∷ args) = let e = into_count ts args in omega (arith, e)

  from_count : (ts : List Reg) (params : List ℕ) → length (from_registers homes ts params) + 2 * length (drop (length ts) params) ≤ 2 * length params
  from_count [] params = omega arith
  from_count (t ∷ ts) [] = omega arith
  from_count (t ∷ ts) (x ∷ params) = let e = from_count ts params in omega (arith, e)

  pub pass_count : (args : List ℕ) → length (pass_row homes args) ≤ 2 * length args
  pass_count args =
      let l = length-append (into_words homes 0 (drop 6 args)) (into_registers homes argument_registers args) in
      let a = into_words_count (drop 6 args) 0 in
      let b : length (into_registers homes argument_registers args) + 2 * length (drop 6 args) ≤ 2 * length args = into_count argument_registers args in
      omega (arith, l, a, b)

  pub receive_count : (room : ℕ) (params : List ℕ) → length (receive_row homes room params) ≤ 2 * length params
  receive_count room params =
      let l = length-append (from_registers homes argument_registers params) (from_words homes (room + kept_bytes) (drop 6 params)) in
      let a = from_words_count (drop 6 params) (room + kept_bytes) in
      let b : length (from_registers homes argument_registers params) + 2 * length (drop 6 params) ≤ 2 * length params = from_count argument_registers params in
      omega (arith, l, a, b)

  pub take_count : (into : Option ℕ) → length (take_row homes into) ≤ 1
  take_count None = omega arith
  take_count (Some r) = omega arith
