-- What a guarded object keeps in each run, under writes by somebody who looks on: words of r11 lead to slots, and no run strays.
use Rattle.std.specs.Prelude.{◌≡◌, ◌≢◌, ℕ, ◌+◌, ◌<◌, true, List, [], ◌∷◌, Some, slice_get}
use Rattle.behavior.specs.Ending.{Strayed}
use Rattle.behavior.specs.Moment.{AreBytes}
use Rattle.x86_core.specs.declared.reg.Reg.TheVariants.{R11}
use Rattle.x86_core.specs.declared.instr.Instr.{Instr}
use Rattle.x86_core.specs.Registers.{word}
use Rattle.x86_core.specs.Encoding.{encoding, IsInstr}
use Rattle.x86_core.specs.Run.{Act, Step, Write}
use Rattle.std.specs.Prelude.{◌++◌, drop}
use Rattle.obj_core.specs.declared.object.Object.{Object}
use Rattle.obj_core.specs.declared.object.Func.{Func}
use Rattle.obj_core.specs.declared.object.Place.{Place}
use Rattle.obj_core.specs.Disassembly.{size_of}
use Rattle.obj_core.specs.Landing.{LandsAt}
use Rattle.obj_core.specs.SymbolicMachine.{symbolic_run}
use Rattle.guard_check.specs.Form.{is_indirect, is_guarded}

-- what is written are bytes
abbrev pub WriteBytes : List Act → Type 0
WriteBytes [] = Unit {0}
WriteBytes (Step ∷ acts) = WriteBytes acts
WriteBytes (Write at bytes ∷ acts) = AreBytes bytes × WriteBytes acts

-- the word is a slot's address, plus 0 or 5
abbrev pub IsLanding : Object → ℕ → Type 0
IsLanding o w = (p : Place) × LandsAt o w p

-- an instruction of a function that goes on by the word in r11
pub record GoesByWord (o : Object) (n off : ℕ) : Type 0 where
  pub func : Func
  pub found : slice_get o.functions n ≡ Some func
  pub instr : Instr
  pub is_instr : IsInstr instr
  pub rest : List ℕ
  pub bytes : drop off func.bytes ≡ encoding instr ++ rest
  pub goes : is_guarded o.slots func (off + size_of instr) instr ≡ true

-- where the next steps go on by the word in r11: at a guarded place, and at the first three bytes of the slot of a call by it
abbrev pub AwaitsWord : Object → Place → Type 0
AwaitsWord o (Place.Code n off) = GoesByWord o n off
AwaitsWord o (Place.Slot k at) = (is_indirect (slice_get o.slots k) ≡ true) × (at < 3)

-- at these places the word is a slot's address, plus 0 or 5
abbrev pub KeepsWords : Object → Type 0
KeepsWords o = (input : List ℕ) (acts : List Act) → AreBytes input → WriteBytes acts →
    let s = symbolic_run o input acts in AwaitsWord o s.place → IsLanding o (word s.regs R11)

-- no run strays, for every input and every list of steps and writes
abbrev pub NeverStrays : Object → Type 0
NeverStrays o = (input : List ℕ) (acts : List Act) → AreBytes input → WriteBytes acts → (symbolic_run o input acts).ending ≢ Strayed
