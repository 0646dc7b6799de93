-- Data that is placed within its limit fits a plan.
use Rattle.std.proofs.Common.{◌≡◌, ◌≢◌, ℕ, zero, suc, ◌+◌, ◌<◌, ◌≤◌, ◌^◌, ◌⊎◌, inl, inr, Bool, true, false, List, [], ◌∷◌, length, take, map, Some, refl, ap, sym, ◌∙◌, arith}
use Rattle.std.specs.Prelude.{All, slice_get}
use Rattle.std.proofs.lemmas.Bool.{cases_lt}
use Rattle.ir_core.specs.declared.limit.TheConstants.{MAX_BYTES}
use Rattle.ir_core.specs.declared.module.Module.{Module}
use Rattle.ir_core.specs.Globals.{first_objects}
use Rattle.low_core.specs.declared.sel.Sel.{Sel}
use Rattle.low_core.specs.Contents.{content_of, data_bytes}
use Rattle.low_core.specs.Placing.{part_bytes, part_start, ArePlaced}
use Rattle.low_core.specs.Plan.{Plan, Content, Lies, IsTaken}
use Rattle.obj_core.specs.declared.address.SlotAddr.{SlotAddr}
use Rattle.data_place.specs.Fits.{IsSlotOfFew, DataFits}
use Rattle.data_place.specs.Placed.{slot_word, first_contents}
use Rattle.data_place.proofs.PartLaws.{content_room, room_own, within, before}

-- contents under a plan
pub are_data : (m : Module) (pointers : List SlotAddr) (plan : Plan) → plan.functions ≡ map slot_word pointers → first_contents m plan.globals pointers ≡ data_bytes m plan
are_data m pointers plan e = ap (λ fs. map (content_of (record { objects = plan.globals; functions = fs })) (first_objects m)) (sym e)

-- the address of a slot
slot_at : (pointers : List SlotAddr) (f at : ℕ) → All IsSlotOfFew pointers → slice_get (map slot_word pointers) f ≡ Some at → (0x10000000 ≤ at) × (at < 0x11000000)
slot_at [] f at all e = cc
slot_at (a ∷ as') zero at all e =
    let here : slot_word a ≡ at = cc in
    let few : a.position < 2 ^ 20 = all 0 a (omega arith) in
    (omega arith, omega arith)
slot_at (a ∷ as') (suc f) at all e = slot_at as' f at (λ k d l. all (suc k) d (omega arith)) e

-- where a part lies, and a global in it
abbrev IsIn : Bool → ℕ → ℕ → Type 0
IsIn k at size = (part_start k ≤ at) × (at + size ≤ part_start k + MAX_BYTES)

-- an address in a part is that of no slot, off the stack, and small
in_part : (k : Bool) (at size : ℕ) → IsIn k at size → (0x20000000 ≤ at) × (at + size ≤ 0x34000000)
in_part true at size is = let low = is.0 in let high = is.1 in (omega arith, omega arith)
in_part false at size is = let low = is.0 in let high = is.1 in (omega arith, omega arith)

-- two parts share no address
parts_apart : (k l : Bool) (at at2 m n i j : ℕ) → k ≢ l → IsIn k at m → IsIn l at2 n → i < m → j < n → at + i ≢ at2 + j
parts_apart true true at at2 m n i j other a b p q = absurd (other refl)
parts_apart true false at at2 m n i j other a b p q = λ same. let high = a.1 in let low = b.0 in omega arith
parts_apart false true at at2 m n i j other a b p q = λ same. let low = a.0 in let high = b.1 in omega arith
parts_apart false false at at2 m n i j other a b p q = absurd (other refl)

module _ (sel : Sel) (contents : List Content) (plan : Plan) (constants others : List ℕ) (placed : ArePlaced contents plan.globals constants others) (few : length constants + length others ≤ MAX_BYTES) where
  -- each part is within the limit
  part_few : (k : Bool) → length (part_bytes k contents) ≤ MAX_BYTES
  part_few true = let e = ap length placed.ro_bytes in omega arith
  part_few false = let e = ap length placed.rw_bytes in omega arith

  -- a global lies in its part
  lies_in : (g at : ℕ) (c : Content) → Lies plan contents g at c → IsIn c.constant at (length c.bytes)
  lies_in g at c lies =
      let is = placed.addresses g at c lies.address lies.content in
      let inside = within c.constant contents g c lies.content in
      let room = room_own (content_room c) in
      let part = part_few c.constant in
      (omega arith, omega arith)

  -- it ends in front of each one behind it in that part
  ends_before : (g h at at2 i : ℕ) (c d : Content) → Lies plan contents g at c → Lies plan contents h at2 d → c.constant ≡ d.constant → g < h → i < length c.bytes → at + i < at2
  ends_before g h at at2 i c d lies lies2 same first inside =
      let is = placed.addresses g at c lies.address lies.content in
      let is2 : at2 ≡ part_start c.constant + length (part_bytes c.constant (take h contents)) =
      placed.addresses h at2 d lies2.address lies2.content ∙ ap (λ k. part_start k + length (part_bytes k (take h contents))) (sym same) in
      let front = before c.constant contents g h c first lies.content in
      let room = room_own (content_room c) in
      omega arith

  -- globals of one part are apart
  same_part : (g h at at2 i j : ℕ) (c d : Content) → Lies plan contents g at c → Lies plan contents h at2 d → c.constant ≡ d.constant → g ≢ h → i < length c.bytes → j < length d.bytes → at + i ≢ at2 + j
  same_part g h at at2 i j c d lies lies2 same other p q equal = by (cases_lt g h)
    where
      by : (g < h) ⊎ (h ≤ g) → ⊥
      by (inl first) = let ends = ends_before g h at at2 i c d lies lies2 same first p in omega arith
      by (inr last) =
          let behind : h < g = omega arith in
          let ends = ends_before h g at2 at j d c lies2 lies (sym same) behind q in
          omega arith

  -- two globals are apart
  apart : (g h at at2 i j : ℕ) (c d : Content) → Lies plan contents g at c → Lies plan contents h at2 d → g ≢ h → i < length c.bytes → j < length d.bytes → at + i ≢ at2 + j
  apart g h at at2 i j c d lies lies2 other p q = by c.constant d.constant refl refl
    where
      two_parts : c.constant ≢ d.constant → at + i ≢ at2 + j
      two_parts differ = parts_apart c.constant d.constant at at2 (length c.bytes) (length d.bytes) i j differ (lies_in g at c lies) (lies_in h at2 d lies2) p q

      by : (k l : Bool) → c.constant ≡ k → d.constant ≡ l → at + i ≢ at2 + j
      by true true e f = same_part g h at at2 i j c d lies lies2 (e ∙ sym f) other p q
      by true false e f = two_parts (λ same. let clash : true ≡ false = sym e ∙ same ∙ f in cc)
      by false true e f = two_parts (λ same. let clash : false ≡ true = sym e ∙ same ∙ f in cc)
      by false false e f = same_part g h at at2 i j c d lies lies2 (e ∙ sym f) other p q

  -- functions at slots
  module _ (pointers : List SlotAddr) (functions : plan.functions ≡ map slot_word pointers) (slots : All IsSlotOfFew pointers) where
    taken_at : (f at : ℕ) → IsTaken sel plan f at → (0x10000000 ≤ at) × (at < 0x11000000)
    taken_at f at taken = slot_at pointers f at slots (ap (λ (fs : List ℕ). slice_get fs f) (sym functions) ∙ taken.address)

    pub data_fits : DataFits sel contents plan
    data_fits = record {
      globals = placed.count;
      globals_below = λ g at c lies. let is = in_part c.constant at (length c.bytes) (lies_in g at c lies) in let high = is.1 in omega arith;
      globals_apart = apart;
      globals_off = λ g at i c lies inside.
          let is = in_part c.constant at (length c.bytes) (lies_in g at c lies) in
          let low = is.0 in let high = is.1 in
          (omega arith, inl (omega arith));
      functions_below = λ f at taken. let is = taken_at f at taken in let high = is.1 in omega arith;
      functions_off = λ f at taken. let is = taken_at f at taken in let low = is.0 in let high = is.1 in (omega arith, inl (omega arith));
      functions_beside = λ f g at at2 i c taken lies inside.
          let is = taken_at f at taken in let high = is.1 in
          let there = in_part c.constant at2 (length c.bytes) (lies_in g at2 c lies) in let low = there.0 in
          λ same. omega arith;
    }
