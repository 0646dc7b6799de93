-- The positions of a plan's slots are small, so its pointers are the addresses of slots that an object can have.
use Rattle.std.proofs.Common.{ℕ, zero, suc, ◌<◌, ◌^◌, Bool, true, false, List, [], ◌∷◌, length, slice_index, sym, subst, arith}
use Rattle.std.specs.List.{All}
use Rattle.std.proofs.lemmas.List.Elements.{All-nil, All-cons, All-head, All-tail}
use Rattle.rd_draw.specs.Draw.{keystream_word}
use Rattle.low_core.specs.declared.sel.Sel.{Sel}
use Rattle.low_core.specs.SelShaped.{IsSel}
use Rattle.obj_core.specs.declared.address.SlotAddr.{SlotAddr}
use Rattle.obj_core.specs.declared.plan.SlotPlan.{SlotPlan}
use Rattle.obj_core.specs.Slots.{slot_purpose}
use Rattle.slot_plan.specs.Slots.{IsPlan, address_of, pointers_from, slots_of}
use Rattle.slot_plan.proofs.Bounds.{drawn, bounds}
use Rattle.data_place.specs.Fits.{IsSlotOfFew}

position_small : (positions : List ℕ) → All (λ p. p < 2 ^ 20) positions → (k : ℕ) → slice_index positions k < 2 ^ 20
position_small [] all k = omega arith
position_small (p ∷ ps) all zero = All-head (λ n. n < 2 ^ 20) p ps all
position_small (p ∷ ps) all (suc k) = position_small ps (All-tail (λ n. n < 2 ^ 20) p ps all) k

addresses_few : (positions : List ℕ) → All (λ p. p < 2 ^ 20) positions → (k : ℕ) (ts : List Bool) → All IsSlotOfFew (pointers_from positions k ts)
addresses_few positions all k [] = All-nil IsSlotOfFew
addresses_few positions all k (true ∷ ts) = All-cons IsSlotOfFew (address_of positions k) (pointers_from positions (suc k) ts) (position_small positions all k) (addresses_few positions all (suc k) ts)
addresses_few positions all k (false ∷ ts) = All-cons IsSlotOfFew (address_of positions 0) (pointers_from positions k ts) (position_small positions all 0) (addresses_few positions all k ts)

module _ (sel : Sel) (slot_seed : ℕ) (plan : SlotPlan) (shaped : IsSel sel) (planned : IsPlan sel slot_seed plan) where
  positions_small : All (λ p. p < 2 ^ 20) plan.positions
  positions_small = subst (λ (ps : List ℕ). All (λ p. p < 2 ^ 20) ps) (sym planned.positions) ((drawn (keystream_word slot_seed slot_purpose 0) (length (slots_of sel)) (bounds sel shaped).slots).1)

  pub pointers_few : All IsSlotOfFew plan.pointers
  pointers_few = subst (λ (ps : List SlotAddr). All IsSlotOfFew ps) (sym planned.pointers) (addresses_few plan.positions positions_small 1 sel.taken)
