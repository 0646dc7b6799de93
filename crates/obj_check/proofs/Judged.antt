-- What is known of an object once its functions are disassembled.
use Rattle.std.proofs.Common.{◌≡◌, ℕ, zero, suc, ◌+◌, ◌≤◌, List, [], ◌∷◌, length, map, sum, Option, Some, None, refl, sym, ap, inl, inr, arith}
use Rattle.std.specs.Prelude.{slice_get, unwrap_or}
use Rattle.std.proofs.lemmas.List.Sums.{sum_by-cons}
use Rattle.x86_core.specs.declared.instr.Instr.{Instr}
use Rattle.obj_core.specs.declared.object.Object.{Object}
use Rattle.obj_core.specs.declared.object.Slot.{Slot}
use Rattle.obj_core.specs.declared.object.Func.{Func}
use Rattle.obj_core.specs.Object.{IsFunc, IsObject}
use Rattle.obj_core.specs.Disassembly.{AreDisassemblies, spelled}
use Rattle.obj_core.proofs.Kept.{function_keeps}
use Rattle.obj_core.proofs.Inside.{disassembly_at, few_links}
use Rattle.obj_core.specs.WellFormed.{AreFew, Violation, IsFirstStuck, or_else, in_slots, is_good_slot, agrees_with, violation}
use Rattle.obj_check.specs.declared.notes.Notes.{Notes}
use Rattle.obj_check.specs.declared.fault.Broken.{Broken}
use Rattle.obj_check.specs.declared.fault.ShapeSpot.{ShapeSpot}
use Rattle.obj_check.specs.Disassembled.{AreNoted, disassemblies_of}
use Rattle.obj_check.specs.Least.{as_violation}
use Rattle.obj_check.specs.Judging.{last_violation, later_violation, Judges}
use Rattle.obj_check.specs.Ranges.{AreFuncNumbers, AreNumbers}
use Rattle.obj_check.proofs.Eaches.{each_got, got_each}
use Rattle.obj_check.proofs.Disassembled.{are_disassemblies}

module _ (o : Object) (numbers : AreNumbers o) (few : AreFew o) where
  -- a function is not longer than all of them, and has no more cuts
  one_of_all : (size : Func → ℕ) (fs : List Func) (n : ℕ) (f : Func) → slice_get fs n ≡ Some f → size f ≤ sum (map size fs)
  one_of_all size [] n f e = absurd (cc)
  one_of_all size (g ∷ fs) zero f e =
      let same : size g ≡ size f = ap (λ (x : Option Func). size (unwrap_or x g)) e in
      omega (arith, same, sum_by-cons (λ (m : ℕ). m) (size g) (map size fs))
  one_of_all size (g ∷ fs) (suc n) f e = omega (arith, one_of_all size fs n f e, sum_by-cons (λ (m : ℕ). m) (size g) (map size fs))

  module _ (disassemblies : List (List Instr)) (disassembled : AreDisassemblies o.functions disassemblies) (kept : violation o disassemblies ≡ None) where
    -- the counts of a function fit their fields
    func_is : (n : ℕ) (f : Func) → slice_get o.functions n ≡ Some f → IsFunc f
    func_is n f e =
        let d = disassembly_at o.functions disassemblies disassembled n f e in
        let rules = function_keeps o disassemblies kept n f d.instrs e d.there in
        let long : length (spelled d.instrs) ≡ length f.bytes = ap length d.is_disassembly.whole in
        let known = got_each AreFuncNumbers o.functions n f numbers.functions e in
        let part : length f.bytes ≤ sum (map (λ (g : Func). length g.bytes) o.functions) = one_of_all (λ (g : Func). length g.bytes) o.functions n f e in
        let small : length f.bytes ≤ 67108864 = omega (arith, part, few.code) in
        let cuts : length f.cuts ≤ sum (map (λ (g : Func). length g.cuts) o.functions) = one_of_all (λ (g : Func). length g.cuts) o.functions n f e in
        let few_cuts : length f.cuts ≤ 131072 = omega (arith, cuts, few.pieces) in
        record {
          bytes = known.bytes;
          links = known.links;
          cuts = known.cuts;
          length_fits = omega (arith, small);
          links_fit = omega (arith, small, long, few_links d.instrs (length o.slots) f.links rules.links);
          cuts_fit = omega (arith, few_cuts);
        }

    -- and those of the object
    object_is : IsObject o
    object_is =
        let functions : length o.functions ≤ 4112 = few.functions in
        let slots : length o.slots ≤ 1048576 = few.slots in
        let data_bytes : length o.ro + length o.rw ≤ 67108864 = few.data_bytes in
        record {
          slot_seed = numbers.slot_seed;
          reg_seed = numbers.reg_seed;
          functions = each_got IsFunc o.functions func_is;
          slots = numbers.slots;
          ro = numbers.ro;
          rw = numbers.rw;
          functions_fit = omega (arith, functions);
          slots_fit = omega (arith, slots);
          ro_fits = omega (arith, data_bytes);
          rw_fits = omega (arith, data_bytes);
        }

-- what the rules say is what is told
pub judged : (o : Object) (cs : List Notes) (r : Option Broken) → AreNumbers o → AreFew o → AreNoted o.functions cs → as_violation r ≡ violation o (disassemblies_of o.functions) → Judges o r
judged o cs None numbers few noted e =
    let all = are_disassemblies o.functions cs noted in
    record { object = object_is o numbers few (disassemblies_of o.functions) all (sym e); few = few; disassemblies = disassemblies_of o.functions; disassembled = all; kept = sym e }
judged o cs (Some b) numbers few noted e = inr (inr (few, (disassemblies_of o.functions, (are_disassemblies o.functions cs noted, sym e))))

pub judged_stuck : (o : Object) (n off : ℕ) → AreFew o → IsFirstStuck o.functions n off → Judges o (Some (record { rule = 2; spot = ShapeSpot.Function n; offset = off }))
judged_stuck o n off few stuck = inr (inl (n, off, (refl, few, stuck)))

pub judged_large : (o : Object) → (AreFew o → ⊥) → Judges o (Some (record { rule = 1; spot = ShapeSpot.Whole; offset = 0 }))
judged_large o h = inl (refl, h)

or_else_assoc : (u v r : Option Violation) → or_else (or_else u v) r ≡ or_else u (or_else v r)
or_else_assoc None v r = refl
or_else_assoc (Some x) v r = refl

-- the rules that are asked last, in one row
pub later_is : (o : Object) (disassemblies : List (List Instr)) →
    later_violation o disassemblies ≡ or_else (in_slots 6 (λ (k : ℕ) (s : Slot). is_good_slot disassemblies s) 0 o.slots) (or_else (in_slots 7 agrees_with 0 o.slots) (last_violation o disassemblies))
later_is o disassemblies = or_else_assoc (in_slots 6 (λ (k : ℕ) (s : Slot). is_good_slot disassemblies s) 0 o.slots) (in_slots 7 agrees_with 0 o.slots) (last_violation o disassemblies)
