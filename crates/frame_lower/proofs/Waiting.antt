-- What a function that waits for a new call keeps, and that the flat memory lies elsewhere.
use Rattle.std.proofs.Common.{◌≡◌, ℕ, ◌+◌, ◌*◌, ◌<◌, ◌≤◌, true, List, ◌∷◌, length, Option, ◌∙◌, ap, subst, sym, inl, inr, arith}
use Rattle.rd_num.specs.Number.{le_bytes}
use Rattle.x86_core.specs.declared.image.Segment.{Segment}
use Rattle.x86_core.specs.declared.reg.Reg.{Reg}
use Rattle.x86_core.specs.Data.{stack_start}
use Rattle.x86_rows.specs.Addresses.{byte_at, range_at, Written}
use Rattle.x86_rows.proofs.Covers.{range_same}
use Rattle.low_core.specs.declared.sel.Sel.{Sel}
use Rattle.low_core.specs.Flat.{Span, is_inside}
use Rattle.low_core.specs.SelState.{SelFrame}
use Rattle.obj_core.specs.declared.object.Object.{Object}
use Rattle.obj_core.specs.declared.object.Place.{Place}
use Rattle.obj_core.specs.Slots.{slot_start}
use Rattle.obj_rows.proofs.Words.{back_lands, slot_below}
use Rattle.frame_rows.specs.declared.spot.Spot.{Spot}
use Rattle.frame_rows.specs.declared.spot.Spot.TheVariants.{Own, Frame}
use Rattle.frame_rows.specs.Ties.{is_home, IsHome, Keeps}
use Rattle.frame_rows.specs.Words.{Words, held_in}
use Rattle.frame_lower.specs.Chain.{upward, Saved, Stored, IsWay, pushes_of, spans_of, Reserved, IsOff}
use Rattle.frame_lower.specs.Rows.{Making}
use Rattle.frame_lower.proofs.Chains.{moved_to}
use Rattle.frame_lower.proofs.OwnMemory.{span, one_more}
use Rattle.frame_lower.proofs.Returning.{home_rsp}

-- a word that a call pushed leads behind it, where it stays
pub way_of : (o : Object) (k : ℕ) → k < length o.slots → length o.slots ≤ 1048576 → (ss : List Segment) (top at : ℕ) (x : Written ss top (le_bytes 8 (slot_start o k + 5))) (ts : List Segment) → top ≡ at →
    ((q : ℕ) → at ≤ q → byte_at ts q ≡ byte_at x.segments q) → IsWay o ts at (Place.Slot k 5)
way_of o k is_slot few ss top at x ts same stays = record {
  word = slot_start o k + 5;
  small = slot_below o k is_slot few;
  there = range_same ts x.segments 8 at (λ q from to. stays q from) ∙ ap (λ a. range_at x.segments a 8) (sym same) ∙ x.range;
  lands = back_lands o k is_slot;
}

-- the word of a home stands where its register was pushed, or in the frame as before
pub stored_of : (words : ℕ) (order : List ℕ) (pushes top : ℕ) (w : Words) (ss ts : List Segment) → w.rsp ≡ pushes + 48 → ((r : Reg) → is_home r ≡ true → Saved ts (upward order) pushes r (held_in (record w { rsp = top }) r)) →
    ((q : ℕ) → pushes + 48 ≤ q → byte_at ts q ≡ byte_at ss q) → (h : Spot) (n : ℕ) → IsHome words h → Keeps w ss h n → Stored ts order pushes (pushes + 48) h n
stored_of words order pushes top w ss ts at saved same (Own r) n is keeps = subst (λ m. Saved ts (upward order) pushes r m) (home_rsp w top r is ∙ keeps) (saved r is)
stored_of words order pushes top w ss ts at saved same (Frame j) n is keeps =
    let place : w.rsp + 8 * j ≡ pushes + 48 + 8 * j = omega (arith, at) in
    range_same ts ss 8 (pushes + 48 + 8 * j) (λ q from to. same q (omega (arith, from))) ∙ ap (λ a. range_at ss a 8) (sym place) ∙ keeps

module _ (o : Object) (sel : Sel) (by : ℕ → Making) (globals : List Span) (live : ℕ → ℕ → ℕ → ℕ → Type 0) (last : Place) where
  -- the memory of a new call lies in its frame, and that of the calls that wait lies where it did
  pub beside_new : (new f : SelFrame) (callers : List SelFrame) (k n size : ℕ) (registers : List (Option ℕ)) → let z = moved_to o sel by globals live last f k n registers in
      new.own ≡ span (new.base + 8 * (by new.function).words) size → new.base + 8 * (by new.function).words + size ≡ pushes_of o sel by globals live last new → f.base ≡ pushes_of o sel by globals live last new + 48 →
      stack_start ≤ new.base →
      ((q : ℕ) → Reserved o sel by globals live last (z ∷ callers) (pushes_of o sel by globals live last new) q → pushes_of o sel by globals live last new ≤ q) → IsOff o sel by globals live last f callers →
      IsOff o sel by globals live last new (z ∷ callers)
  beside_new new f callers k n size registers own high base low reserved off p i =
      let first = new.base + 8 * (by new.function).words in
      elim (one_more first size (spans_of o sel by globals live last (f ∷ callers)) p 1 (subst (λ (s : Span). is_inside p 1 (s ∷ spans_of o sel by globals live last (f ∷ callers)) ≡ true) own i)) [
        | inl c ↦ let lo = c.low in let hi = c.high in (λ l m. absurd (omega (arith, lo, m)), λ u. let r = reserved p u in absurd (omega (arith, hi, r, high)))
        | inr j ↦ (
          λ l m. (off p j).0 l (omega (arith, m, base, high)),
          λ u. elim u [
            | inl v ↦ let v0 = v.0 in let v1 = v.1 in (off p j).0 (omega (arith, v0, low)) (omega (arith, v1, base))
            | inr v ↦ (off p j).1 v
          ],
        )
      ]
