-- The pointers of a plan: one for each function, and of those to which one may arise no two alike, each the address of a jump to its function.
use Rattle.std.proofs.Common.{◌≡◌, ℕ, zero, suc, ◌+◌, ◌*◌, ◌<◌, ◌≤◌, ◌^◌, Bool, true, false, List, [], ◌∷◌, ◌++◌, length, map, take, Some, slice_get, slice_index, refl, ap, sym, subst, ◌∙◌, arith}
use Rattle.std.specs.Prelude.{All}
use Rattle.std.proofs.lemmas.List.Elements.{All-head, All-tail}
use Rattle.rd_draw.specs.Draw.{keystream_word, shuffled, AreDistinct}
use Rattle.rd_draw.proofs.Permuted.{shuffled_long, shuffled_apart}
use Rattle.low_core.specs.declared.sel.Sel.{Sel}
use Rattle.low_core.specs.SelShaped.{IsSel}
use Rattle.obj_core.specs.declared.address.SlotAddr.{SlotAddr}
use Rattle.obj_core.specs.declared.plan.Slot0.{Slot0}
use Rattle.obj_core.specs.declared.plan.SlotPlan.{SlotPlan}
use Rattle.obj_core.specs.Slots.{slot_purpose}
use Rattle.slot_plan.specs.Slots.{jumps_from, all_calls_from, routine_slots, slots_of, positions_of, address_of, pointers_from, takens, IsPlan}
use Rattle.slot_plan.proofs.Bounds.{AreFew, bounds, jumps_long, drawn}
use Rattle.slot_plan.proofs.Places.{in_front}

pub pointers_long : (ps : List ℕ) (k : ℕ) (ts : List Bool) → length (pointers_from ps k ts) ≡ length ts
pointers_long ps k [] = refl
pointers_long ps k (true ∷ ts) = ap suc (pointers_long ps (suc k) ts)
pointers_long ps k (false ∷ ts) = ap suc (pointers_long ps k ts)

-- the pointer to a function to which one may arise
pointer_at : (ps : List ℕ) (k : ℕ) (ts : List Bool) (f : ℕ) → slice_get ts f ≡ Some true → slice_get (pointers_from ps k ts) f ≡ Some (address_of ps (k + takens (take f ts)))
pointer_at ps k [] f is = absurd cc
pointer_at ps k (true ∷ ts) zero is = ap (λ n. Some (address_of ps n)) (let e : k ≡ k + 0 = omega arith in e)
pointer_at ps k (false ∷ ts) zero is = absurd cc
pointer_at ps k (true ∷ ts) (suc f) is = pointer_at ps (suc k) ts f is ∙ ap (λ n. Some (address_of ps n)) (let e : suc k + takens (take f ts) ≡ k + suc (takens (take f ts)) = omega arith in e)
pointer_at ps k (false ∷ ts) (suc f) is = pointer_at ps k ts f is

-- the jump to it
jump_at : (f0 : ℕ) (ts : List Bool) (f : ℕ) → slice_get ts f ≡ Some true → slice_get (jumps_from f0 ts) (takens (take f ts)) ≡ Some (Slot0.Jump (f0 + f))
jump_at f0 [] f is = absurd cc
jump_at f0 (true ∷ ts) zero is = ap (λ n. Some (Slot0.Jump n)) (let e : f0 ≡ f0 + 0 = omega arith in e)
jump_at f0 (false ∷ ts) zero is = absurd cc
jump_at f0 (true ∷ ts) (suc f) is = jump_at (suc f0) ts f is ∙ ap (λ n. Some (Slot0.Jump n)) (let e : suc f0 + f ≡ f0 + suc f = omega arith in e)
jump_at f0 (false ∷ ts) (suc f) is = jump_at (suc f0) ts f is ∙ ap (λ n. Some (Slot0.Jump n)) (let e : suc f0 + f ≡ f0 + suc f = omega arith in e)

-- so many are counted in front of it
in_front_few : (ts : List Bool) (f : ℕ) → slice_get ts f ≡ Some true → takens (take f ts) < takens ts
in_front_few [] f is = absurd cc
in_front_few (true ∷ ts) zero is = omega arith
in_front_few (false ∷ ts) zero is = absurd cc
in_front_few (true ∷ ts) (suc f) is = let r = in_front_few ts f is in omega (arith, r)
in_front_few (false ∷ ts) (suc f) is = in_front_few ts f is

counts_apart : (ts : List Bool) (f g : ℕ) → slice_get ts f ≡ Some true → slice_get ts g ≡ Some true → takens (take f ts) ≡ takens (take g ts) → f ≡ g
counts_apart [] f g is its same = absurd cc
counts_apart (t ∷ ts) zero zero is its same = refl
counts_apart (true ∷ ts) zero (suc g) is its same = absurd (let e : 0 ≡ suc (takens (take g ts)) = same in omega (arith, e))
counts_apart (true ∷ ts) (suc f) zero is its same = absurd (let e : suc (takens (take f ts)) ≡ 0 = same in omega (arith, e))
counts_apart (true ∷ ts) (suc f) (suc g) is its same = ap suc (counts_apart ts f g is its (let e : suc (takens (take f ts)) ≡ suc (takens (take g ts)) = same in omega (arith, e)))
counts_apart (false ∷ ts) zero (suc g) is its same = absurd cc
counts_apart (false ∷ ts) (suc f) zero is its same = absurd cc
counts_apart (false ∷ ts) (suc f) (suc g) is its same = ap suc (counts_apart ts f g is its same)

module _ (sel : Sel) (slot_seed : ℕ) (p : SlotPlan) (shaped : IsSel sel) (plan : IsPlan sel slot_seed p) where
  -- the place of its jump among the slots
  abbrev pub place_of : ℕ → ℕ
  place_of f = suc (takens (take f sel.taken))

  pub pointer_is : (f : ℕ) → slice_get sel.taken f ≡ Some true → slice_get p.pointers f ≡ Some (address_of p.positions (place_of f))
  pointer_is f is =
      ap (λ l. slice_get l f) plan.pointers ∙ pointer_at p.positions 1 sel.taken f is
      ∙ ap (λ n. Some (address_of p.positions n)) (let e : 1 + takens (take f sel.taken) ≡ suc (takens (take f sel.taken)) = omega arith in e)

  pub jump_is : (f : ℕ) → slice_get sel.taken f ≡ Some true → slice_get p.slots (place_of f) ≡ Some (Slot0.Jump f)
  jump_is f is =
      ap (λ l. slice_get l (place_of f)) plan.slots
      ∙ in_front (jumps_from 0 sel.taken) (all_calls_from (length sel.functions) 0 sel.functions ++ routine_slots (length sel.functions) sel.main) (takens (take f sel.taken)) (Slot0.Jump f)
      (jump_at 0 sel.taken f is ∙ ap (λ n. Some (Slot0.Jump n)) (let e : 0 + f ≡ f = omega arith in e))

  place_below : (f : ℕ) → slice_get sel.taken f ≡ Some true → place_of f < length p.positions
  place_below f is =
      let less = in_front_few sel.taken f is in
      let enough = (bounds sel shaped).pointers in
      let long : length p.positions ≡ length (slots_of sel) = ap length plan.positions ∙ shuffled_long (keystream_word slot_seed slot_purpose 0) (length (slots_of sel)) in
      omega (arith, less, enough, long)

  pub pointers_apart : (f g : ℕ) → slice_get sel.taken f ≡ Some true → slice_get sel.taken g ≡ Some true → slice_index p.positions (place_of f) ≡ slice_index p.positions (place_of g) → f ≡ g
  pointers_apart f g is its same =
      let distinct : AreDistinct p.positions = subst AreDistinct (sym plan.positions) (shuffled_apart (keystream_word slot_seed slot_purpose 0) (length (slots_of sel))) in
      let place : place_of f ≡ place_of g = distinct (place_of f) (place_of g) (place_below f is) (place_below g its) same in
      counts_apart sel.taken f g is its (omega (arith, place))
