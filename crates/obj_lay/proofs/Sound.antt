-- The image of a well-formed object is sound.
use Rattle.std.proofs.Common.{◌≡◌, ℕ, ◌+◌, ◌*◌, ◌%◌, ◌≤◌, List, [], ◌∷◌, ◌++◌, length, refl, subst, ◌∙◌, ap, arith}
use Rattle.std.specs.Prelude.{All}
use Rattle.std.proofs.lemmas.List.Elements.{All-cons}
use Rattle.std.proofs.lemmas.List.Sums.{sum_by-cons}
use Rattle.x86_core.specs.declared.image.Segment.{Segment}
use Rattle.x86_core.specs.Data.{ro_start, rw_start, segment}
use Rattle.obj_core.specs.declared.object.Object.{Object}
use Rattle.obj_core.specs.Slots.{slot_base}
use Rattle.elf_file.specs.Sound.{IsRights, IsSegment, AreApart, total_bytes, IsSound}
use Rattle.obj_core.specs.Placement.{code_base}
use Rattle.obj_core.specs.Layout.{present, layout, trampoline_bytes, code_bytes}
use Rattle.obj_core.specs.WellFormed.{IsWellFormed}
use Rattle.std.proofs.Math.Logic.{∥∥₁_elim}
use Rattle.std.proofs.Math.Bridge.{le_prop}
use Rattle.obj_core.proofs.Sizes.{some_slot, few_slots, little_data}
use Rattle.obj_lay.proofs.Lengths.{length-trampoline_bytes, code_small}

-- segments from an address on, at most so many, with so many bytes
pub record Fits (end count bytes : ℕ) (ss : List Segment) : Type 0 where
  pub few : length ss ≤ count
  pub each : All IsSegment ss
  pub apart : AreApart end ss
  pub size : total_bytes ss ≡ bytes

apart_before : (low end : ℕ) (ss : List Segment) → low ≤ end → AreApart end ss → AreApart low ss
apart_before low end [] h a = tt
apart_before low end (s ∷ ss) h a = let le : end ≤ s.start = a.0 in (omega arith, a.1)

none_fits : (end : ℕ) → Fits end 0 0 []
none_fits end = record { few = omega arith; each = λ k d h. absurd (omega arith); apart = tt; size = refl }

-- one segment in front of others
front_fits : (end start count size rights : ℕ) (bytes : List ℕ) (ss : List Segment) → start % 4096 ≡ 0 → 65536 ≤ start → start + length bytes ≤ 2415919104
    → IsRights rights → end ≤ start → Fits (start + length bytes) count size ss → Fits end (count + 1) (length bytes + size) (present start bytes rights ++ ss)
front_fits end start count size rights [] ss a l h r e f = record {
  few = let few : length ss ≤ count = f.few in omega arith;
  each = f.each;
  apart = apart_before end (start + 0) ss (omega arith) f.apart;
  size = f.size ∙ omega arith;
}
front_fits end start count size rights (b ∷ bs) ss a l h r e f = record {
  few = let few : length ss ≤ count = f.few in omega arith;
  each = All-cons IsSegment (segment start (b ∷ bs) rights) ss (record { rights = r; some = omega arith; aligned = a; low = l; high = h }) f.each;
  apart = (e, f.apart);
  size = sum_by-cons (λ (s : Segment). length s.bytes) (segment start (b ∷ bs) rights) ss ∙ ap (λ n. length (b ∷ bs) + n) f.size;
}

present_some : (start rights : ℕ) (bytes : List ℕ) (ss : List Segment) → 1 ≤ length bytes → 1 ≤ length (present start bytes rights ++ ss)
present_some start rights [] ss h = absurd (omega arith)
present_some start rights (b ∷ bs) ss h = omega arith

append_none : (ss : List Segment) → ss ++ [] ≡ ss
append_none [] = refl
append_none (s ∷ ss) = ap (λ rest. s ∷ rest) (append_none ss)

base_low : (seed : ℕ) → 0x40000000 ≤ code_base seed
base_low seed = omega arith

base_high : (seed : ℕ) → code_base seed ≤ 1342173184
base_high seed = omega arith

base_aligned : (seed : ℕ) → code_base seed % 4096 ≡ 0
base_aligned seed = omega arith

sound_of : (entry size : ℕ) (ss all : List Segment) → ss ≡ all → Fits 0 4 size ss → size ≤ 268435456 → 1 ≤ length ss → IsSound (record { entry = entry; segments = all })
sound_of entry size ss all e f small some = subst (λ xs. IsSound (record { entry = entry; segments = xs })) e (record {
  some = some;
  few = let few : length ss ≤ 4 = f.few in omega arith;
  each = f.each;
  apart = f.apart;
  small = let size_is : total_bytes ss ≡ size = f.size in omega arith;
})

pub layout_sound : (o : Object) (seed : ℕ) → 1 ≤ length o.slots → length o.slots ≤ 1048576 → length o.ro + length o.rw ≤ 67108864 → length (code_bytes o seed) ≤ 134086671 → IsSound (layout o seed)
unfolding layout
layout_sound o seed some slots data_bytes code_size =
    let slots_size : length (trampoline_bytes o seed) ≡ 16 * length o.slots = length-trampoline_bytes o seed in
    let base = code_base seed in
    let low : 0x40000000 ≤ base = base_low seed in
    let high : base ≤ 1342173184 = base_high seed in
    let rights : (n : ℕ) → 1 ≤ n → n ≤ 7 → IsRights n = λ n a b. (a, b) in
    let at_code = front_fits (rw_start + length o.rw) base 0 0 1 (code_bytes o seed) [] (base_aligned seed) (omega arith) (omega arith) (rights 1 (omega arith) (omega arith)) (omega arith) (none_fits (base + length (code_bytes o seed))) in
    let at_rw = front_fits (ro_start + length o.ro) rw_start 1 (length (code_bytes o seed) + 0) 6 o.rw _ refl (omega arith) (omega arith) (rights 6 (omega arith) (omega arith)) (omega arith) at_code in
    let at_ro = front_fits (slot_base + length (trampoline_bytes o seed)) ro_start 2 (length o.rw + (length (code_bytes o seed) + 0)) 4 o.ro _ refl (omega arith) (omega arith) (rights 4 (omega arith) (omega arith)) (omega arith) at_rw in
    let all = front_fits 0 slot_base 3 (length o.ro + (length o.rw + (length (code_bytes o seed) + 0))) 1 (trampoline_bytes o seed) _ refl (omega arith) (omega arith) (rights 1 (omega arith) (omega arith)) (omega arith) at_ro in
    let last : present base (code_bytes o seed) 1 ++ [] ≡ present base (code_bytes o seed) 1 = append_none (present base (code_bytes o seed) 1) in
    let others = λ (cs : List Segment). present slot_base (trampoline_bytes o seed) 1 ++ (present ro_start o.ro 4 ++ (present rw_start o.rw 6 ++ cs)) in
    sound_of _ _ _ _ (ap others last) all (omega arith) (present_some slot_base 1 (trampoline_bytes o seed) _ (omega arith))

-- the same of an object that is only known to be well formed
pub checked_sound : (o : Object) (seed : ℕ) → ∥ IsWellFormed o ∥₁ → IsSound (layout o seed)
checked_sound o seed known = layout_sound o seed (some_slot o known) (few_slots o known) (little_data o known) (∥∥₁_elim known le_prop (λ w. code_small o w seed))
