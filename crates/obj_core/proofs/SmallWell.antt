-- The small object of the tests is well formed.
use Rattle.std.proofs.Common.{◌≡◌, [], ◌∷◌, refl, sym, subst, arith}
use Rattle.x86_core.specs.declared.instr.Instr.TheVariants.{Jmp, Ud2}
use Rattle.std.specs.Prelude.{pos}
use Rattle.obj_core.specs.declared.object.Object.{Object}
use Rattle.obj_core.specs.Object.{IsFunc, IsObject}
use Rattle.obj_core.specs.Small.{invalid, jump_on, small}
use Rattle.obj_core.specs.WellFormed.{AreFew, IsWellFormed}

invalid_is : IsFunc invalid
invalid_is = record { bytes = (omega arith, (omega arith, tt)); links = tt; cuts = tt; length_fits = omega arith; links_fit = omega arith; cuts_fit = omega arith }

jump_is : IsFunc jump_on
jump_is = record { bytes = (omega arith, (omega arith, (omega arith, (omega arith, (omega arith, tt))))); links = (record { at = omega arith; slot = omega arith }, tt); cuts = tt; length_fits = omega arith; links_fit = omega arith; cuts_fit = omega arith }

-- its numbers are in range
small_is : IsObject small
small_is = record {
  slot_seed = omega arith;
  reg_seed = omega arith;
  functions = (jump_is, (invalid_is, tt));
  slots = (omega arith, ((omega arith, record { function = omega arith; offset = omega arith }), tt));
  ro = tt;
  rw = tt;
  functions_fit = omega arith;
  slots_fit = omega arith;
  ro_fits = omega arith;
  rw_fits = omega arith;
}

-- its sizes
small_few : AreFew small
small_few = record { some_function = omega arith; functions = omega arith; pieces = omega arith; some_slot = omega arith; slots = omega arith; code = omega arith; data_bytes = omega arith }

-- and all nine rules hold
small_is_well : IsWellFormed small
small_is_well = record {
  object = small_is;
  few = small_few;
  disassemblies = (Jmp (pos 0) ∷ []) ∷ (Ud2 ∷ []) ∷ [];
  disassembled = (record { instructions = (omega arith, tt); whole = refl }, (record { instructions = (tt, tt); whole = refl }, tt));
  kept = refl;
}

pub small_well : (o : Object) → o ≡ small → IsWellFormed o
small_well o e = subst IsWellFormed (sym e) small_is_well
