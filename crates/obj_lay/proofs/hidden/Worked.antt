-- A small object that is well formed, of three pieces: each of its layouts ends as the object does.
use Rattle.std.proofs.Common.{◌≡◌, ◌≢◌, ℕ, Bool, true, ◌&&◌, List, [], ◌∷◌, refl, sym, ◌∙◌, ap, subst, arith}
use Rattle.std.specs.Prelude.{nat_lt, pos}
use Rattle.std.proofs.lemmas.Bool.{ltb-true, and_parts}
use Rattle.behavior.specs.Ending.{Ended, Strayed}
use Rattle.behavior.specs.Moment.{Agrees, Moment}
use Rattle.x86_core.specs.declared.instr.Wide.{Wide}
use Rattle.x86_core.specs.declared.instr.ImmOp.{ImmOp}
use Rattle.x86_core.specs.declared.instr.Instr.{Instr}
use Rattle.x86_core.specs.declared.instr.Instr.TheVariants.{AluImm, MovImm32, Jmp, Ud2}
use Rattle.x86_core.specs.declared.reg.Reg.TheVariants.{Rax, Rdi, Rsp}
use Rattle.x86_core.specs.Decoding.{decode}
use Rattle.x86_core.specs.Effect.{effect_of}
use Rattle.x86_core.specs.Step.{request_of}
use Rattle.x86_core.specs.Machine.{machine_behavior}
use Rattle.obj_core.specs.declared.object.Object.{Object}
use Rattle.obj_core.specs.declared.object.Func.{Func}
use Rattle.obj_core.specs.declared.object.FuncKind.{FuncKind}
use Rattle.obj_core.specs.declared.object.Slot.{Slot}
use Rattle.obj_core.specs.Object.{Each, IsByte, IsFunc, IsObject}
use Rattle.obj_core.specs.Disassembly.{spelled}
use Rattle.obj_core.specs.SymbolicMachine.{symbolic_behavior}
use Rattle.obj_core.specs.WellFormed.{AreFew, IsWellFormed}
use Rattle.obj_core.specs.Layout.{layout}
use Rattle.obj_lay.proofs.hidden.Images.{layout_agrees}

-- takes room for nothing, puts 7 and the number of the exit into registers, and goes to the slot of the exit
abbrev main_instrs : List Instr
main_instrs = AluImm ImmOp.Sub Wide.W64 Rsp (pos 0) ∷ MovImm32 Rdi 7 ∷ MovImm32 Rax 60 ∷ Jmp (pos 0) ∷ Ud2 ∷ []

-- goes to the slot of the first function
abbrev start_instrs : List Instr
start_instrs = Jmp (pos 0) ∷ []

-- their bytes, with the links to the slots; the first is cut behind its jump
abbrev main : Func
main = record { kind = FuncKind.Plain; bytes = spelled main_instrs; links = record { at = 18; slot = 2 } ∷ []; cuts = 22 ∷ [] }

-- the same
abbrev start : Func
start = record { kind = FuncKind.Plain; bytes = spelled start_instrs; links = record { at = 1; slot = 1 } ∷ []; cuts = [] }

-- the entry, the slot of the first function, and the exit
abbrev seven : Object
seven = record {
  slot_seed = 1;
  reg_seed = 2;
  functions = main ∷ start ∷ [];
  slots = Slot.Entry 1 ∷ Slot.Jump 0 ∷ Slot.System (record { function = 0; offset = 22 }) ∷ [];
  ro = [];
  rw = [];
}

-- a test of bytes
abbrev are_small : List ℕ → Bool
are_small [] = true
are_small (b ∷ bs) = nat_lt b 256 && are_small bs

-- which tells
small : (bs : List ℕ) → are_small bs ≡ true → Each IsByte bs
small [] e = tt
small (b ∷ bs) e = let x = and_parts _ _ e in (ltb-true b 256 x.0, small bs x.1)

-- numbers in range
main_is : IsFunc main
main_is = record { bytes = small (spelled main_instrs) refl; links = (record { at = omega arith; slot = omega arith }, tt); cuts = (omega arith, tt); length_fits = omega arith; links_fit = omega arith; cuts_fit = omega arith }

-- in both functions
start_is : IsFunc start
start_is = record { bytes = small (spelled start_instrs) refl; links = (record { at = omega arith; slot = omega arith }, tt); cuts = tt; length_fits = omega arith; links_fit = omega arith; cuts_fit = omega arith }

-- and in the object
seven_is : IsObject seven
seven_is = record {
  slot_seed = omega arith;
  reg_seed = omega arith;
  functions = (main_is, (start_is, tt));
  slots = (omega arith, (omega arith, (record { function = omega arith; offset = omega arith }, tt)));
  ro = tt;
  rw = tt;
  functions_fit = omega arith;
  slots_fit = omega arith;
  ro_fits = omega arith;
  rw_fits = omega arith;
}

-- sizes
seven_few : AreFew seven
seven_few = record { some_function = omega arith; functions = omega arith; pieces = omega arith; some_slot = omega arith; slots = omega arith; code = omega arith; data_bytes = omega arith }

-- all nine rules
seven_well : IsWellFormed seven
seven_well = record {
  object = seven_is;
  few = seven_few;
  disassemblies = main_instrs ∷ start_instrs ∷ [];
  disassembled = (record { instructions = (omega arith, (omega arith, (omega arith, (omega arith, (tt, tt))))); whole = refl }, (record { instructions = (omega arith, tt); whole = refl }, tt));
  kept = refl;
}

-- what the object shows at last
abbrev ended : Moment
ended = record { printed = []; taken = 0; ending = Ended 7 }

-- after eight steps
seven_ends : symbolic_behavior seven [] 8 ≡ ended
unfolding decode effect_of request_of
seven_ends = refl

-- whatever the seed, the layout has ended with 7 after as many steps
layouts_end : (seed : ℕ) → Agrees ended (machine_behavior (layout seven seed) [] 8)
layouts_end seed =
    let straight : (symbolic_behavior seven [] 8).ending ≢ Strayed = λ e. let f : Ended 7 ≡ Strayed = sym (ap (λ (m : Moment). m.ending) seven_ends) ∙ e in absurd (cc) in
    subst (λ m. Agrees m (machine_behavior (layout seven seed) [] 8)) seven_ends (layout_agrees seven seven_well seed [] 8 straight)
