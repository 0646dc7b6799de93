-- A word that a load of a number gives is one of the number's width, since the bytes of objects are bytes.
use Rattle.std.proofs.Common.{◌≡◌, ℕ, zero, suc, ◌^◌, ◌<◌, Bool, true, false, List, [], ◌∷◌, length, drop, Option, Some, None, Ok, Err, refl, ap, sym, ◌∙◌, subst, arith}
use Rattle.std.specs.Prelude.{option_map, if◌then◌else◌}
use Rattle.std.proofs.Math.Nat.{pow-suc}
use Rattle.behavior.specs.Moment.{AreBytes}
use Rattle.rd_num.specs.declared.width.Width.{Width}
use Rattle.rd_num.specs.Number.{le_number}
use Rattle.ir_core.specs.declared.kind.Kind.TheVariants.{Number}
use Rattle.ir_core.specs.declared.memory.Value.{Value}
use Rattle.ir_core.specs.declared.memory.Cell.{Cell}
use Rattle.ir_core.specs.declared.memory.Cell.TheVariants.{Unset, Byte, Piece}
use Rattle.ir_core.specs.declared.memory.Reason.TheVariants.{Unset as WasUnset, Bounds}
use Rattle.ir_core.specs.Memory.{Memory, readable_range, cells_at, load_at, value_read, number_read, numbers, any_unset}
use Rattle.ir_core.specs.Shapes.{bytes_of}
use Rattle.ir_core.specs.Stops.{and_then, found_or, Left}
use Rattle.ir_sound.specs.WellTyped.{Each, Present, IsCell, IsObject}
use Rattle.ir_sound.proofs.RowLaws.{Each_at, Each_take, Each_drop}
use Rattle.low_core.specs.Flat.{Bytes, is_inside, bytes_from, all_set, word_at}
use Rattle.low_core.specs.Contents.{Addresses, word_of}
use Rattle.low_core.specs.Bridge.{Setting, CallMemory, flat_in, Bridges}
use Rattle.flat_memory.specs.Accesses.{SettingFits}
use Rattle.flat_memory.proofs.Fits.{AllFit, set_numbers}
use Rattle.flat_memory.proofs.Lists.{length_range}
use Rattle.flat_memory.proofs.Load.{range_fits, inside_word}
use Rattle.flat_memory.proofs.Tests.{else_ok, first_ok, in_object}

-- the numbers of cells are bytes, and there are as many
numbers_bytes : (x : Present) (cs : List Cell) (ns : List ℕ) → Each (IsCell x) cs → numbers cs ≡ Some ns → AreBytes ns × (length ns ≡ length cs)
numbers_bytes x [] ns cells is = let none : [] ≡ ns = cc in subst (λ (l : List ℕ). AreBytes l × (length l ≡ 0)) none (tt, refl)
numbers_bytes x (Unset ∷ cs) ns cells is = absurd (cc)
numbers_bytes x (Piece v k ∷ cs) ns cells is = absurd (cc)
numbers_bytes x (Byte n ∷ cs) ns cells is = of_rest (numbers cs) refl is (λ more e. numbers_bytes x cs more cells.1 e)
  where
    of_rest : (o : Option (List ℕ)) → numbers cs ≡ o → option_map (λ more. n ∷ more) o ≡ Some ns → ((more : List ℕ) → numbers cs ≡ Some more → AreBytes more × (length more ≡ length cs)) → AreBytes ns × (length ns ≡ suc (length cs))
    of_rest None e h go = absurd (cc)
    of_rest (Some more) e h go =
        let same : n ∷ more ≡ ns = cc in
        let r = go more e in
        subst (λ (l : List ℕ). AreBytes l × (length l ≡ suc (length cs))) same ((cells.0, r.0), ap suc r.1)

-- the number that bytes spell
bytes_small : (ns : List ℕ) (k : ℕ) → length ns ≡ k → AreBytes ns → le_number ns < 256 ^ k
bytes_small [] zero e bytes = omega arith
bytes_small [] (suc k) e bytes = absurd (omega (arith, e))
bytes_small (n ∷ ns) zero e bytes = absurd (omega (arith, e))
bytes_small (n ∷ ns) (suc k) e bytes =
    let low = bytes_small ns k (omega (arith, e)) bytes.1 in
    let power = pow-suc 256 k in
    let first = bytes.0 in
    omega (arith, low, power, first)

module _ (g : Setting) (calls : List CallMemory) (m : Memory) (at : Addresses) (bytes : Bytes) (fits : SettingFits g) (b : Bridges g calls m at bytes) (x : Present) (objects : Each (IsObject x) m) where
  -- a load of a number
  pub loaded_small : (w : Width) (v u : Value) (word : ℕ) → load_at m (Number w) v ≡ Ok u → word_at (flat_in g calls bytes) (word_of at v) (bytes_of w) ≡ Ok word → word < 256 ^ bytes_of w
  loaded_small w v u word e gives =
      let n : ℕ = bytes_of w in
      let range = first_ok (readable_range m n v) (λ r. if any_unset (cells_at r n) then Err (Left WasUnset) else value_read (Number w) (cells_at r n)) u e in
      let r = range.first in
      let in_it = in_object m n v r range.is in
      let read = else_ok (any_unset (cells_at r n)) (value_read (Number w) (cells_at r n)) (Left WasUnset) u range.then_is in
      let inside = in_it.inside in
      let full = b.full r.object r.held in_it.lives in
      let cells = Each_take (IsCell x) n (drop r.offset r.held.cells) (Each_drop (IsCell x) r.offset r.held.cells (Each_at (IsObject x) m r.object r.held objects in_it.lives.stands).cells) in
      let place = ap (word_of at) in_it.is_place ∙ inside_word g calls m at bytes fits b r.object r.offset r.held in_it.lives.stands (omega (arith, inside)) in
      let fit = range_fits g calls m at bytes fits b r n in_it.lives in_it.inside in
      let many : length (cells_at r n) ≡ n = length_range r.held.cells r.offset n (omega (arith, full, inside)) in
      let fit_there = subst (λ a. AllFit (length m) g.taken at (bytes_from bytes a n) (cells_at r n)) (sym place) fit in
      of_numbers (cells_at r n) n (numbers (cells_at r n)) read.1 (λ ns is.
      let set = set_numbers (length m) g.taken at (bytes_from bytes (word_of at v) n) (cells_at r n) ns fit_there is in
      let are = numbers_bytes x (cells_at r n) ns cells is in
      subst (λ (a : ℕ). a < 256 ^ n) (spelled (is_inside (word_of at v) n (flat_in g calls bytes).spans) ns (all_set (bytes_from bytes (word_of at v) n)) set gives) (bytes_small ns n (are.1 ∙ many) are.0)) refl
    where
      spelled : (inside : Bool) (ns : List ℕ) (o : Option (List ℕ)) → o ≡ Some ns → (if inside then and_then (found_or (Left WasUnset) o) (λ ns. Ok (le_number ns)) else Err (Left Bounds)) ≡ Ok word → le_number ns ≡ word
      spelled true ns None e h = absurd (cc)
      spelled true ns (Some ms) e h = let same : ms ≡ ns = cc in ap le_number (sym same) ∙ (let there : le_number ms ≡ word = cc in there)
      spelled false ns o e h = absurd (cc)

      of_numbers : (cs : List Cell) (n : ℕ) (o : Option (List ℕ)) → number_read w o ≡ Ok u → ((ns : List ℕ) → numbers cs ≡ Some ns → word < 256 ^ n) → numbers cs ≡ o → word < 256 ^ n
      of_numbers cs n None h go is = absurd (cc)
      of_numbers cs n (Some ns) h go is = go ns is
