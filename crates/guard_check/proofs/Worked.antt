-- Small objects: a return, a guarded return, and a jump past a guard.
use Rattle.std.proofs.Common.{◌≡◌, ℕ, List, [], ◌∷◌, ◌++◌, refl, arith}
use Rattle.std.specs.Prelude.{pos}
use Rattle.x86_core.specs.declared.reg.Reg.TheVariants.{Rax, R11}
use Rattle.x86_core.specs.declared.instr.Instr.TheVariants.{MovImm32, Push, Pop, Ret, Jmp, JmpR11}
use Rattle.x86_core.specs.Encoding.{IsInstr}
use Rattle.obj_core.specs.declared.object.Object.{Object}
use Rattle.obj_core.specs.declared.object.FuncKind.{FuncKind}
use Rattle.obj_core.specs.declared.object.Slot.{Slot}
use Rattle.obj_core.specs.Disassembly.{spelled}
use Rattle.obj_core.specs.WellFormed.{Function}
use Rattle.obj_core.proofs.Spelling.{each_append}
use Rattle.guard_check.specs.Guard.{guard}
use Rattle.guard_check.specs.Form.{HasGuardForm, IsFirstUnguarded}
use Rattle.guard_check.proofs.Places.{each_guard}

-- the bytes of the guard for one slot
abbrev guard_of_one : List ℕ
guard_of_one = 0x4D ∷ 0x89 ∷ 0xDA ∷ 0x49 ∷ 0x81 ∷ 0xEA ∷ 0x00 ∷ 0x00 ∷ 0x00 ∷ 0x10 ∷ 0x49 ∷ 0x81 ∷ 0xFA ∷ 0x10 ∷ 0x00 ∷ 0x00 ∷ 0x00 ∷ 0x0F ∷ 0x82 ∷ 0x02 ∷ 0x00 ∷ 0x00 ∷ 0x00 ∷ 0x0F ∷ 0x0B ∷ 0x49 ∷ 0x81 ∷ 0xE2 ∷ 0x0F ∷ 0x00 ∷ 0x00 ∷ 0x00 ∷ 0x0F ∷ 0x84 ∷ 0x0F ∷ 0x00 ∷ 0x00 ∷ 0x00 ∷ 0x49 ∷ 0x81 ∷ 0xFA ∷ 0x05 ∷ 0x00 ∷ 0x00 ∷ 0x00 ∷ 0x0F ∷ 0x84 ∷ 0x02 ∷ 0x00 ∷ 0x00 ∷ 0x00 ∷ 0x0F ∷ 0x0B ∷ []

guard_is : spelled (guard 1) ≡ guard_of_one
guard_is = refl

-- an object of one function and its entry
abbrev object : List ℕ → Object
object bytes = record { slot_seed = 0; reg_seed = 0; functions = record { kind = FuncKind.Plain; bytes = bytes; links = []; cuts = [] } ∷ []; slots = Slot.Entry 0 ∷ []; ro = []; rw = [] }

-- mov eax, 0x40000000; push rax; ret: a return at 6
returns_unguarded : IsFirstUnguarded (object (0xB8 ∷ 0x00 ∷ 0x00 ∷ 0x00 ∷ 0x40 ∷ 0x50 ∷ 0xC3 ∷ [])) (record { rule = 1; spot = Function 0; offset = 6 })
returns_unguarded = record {
  disassemblies = (MovImm32 Rax 0x40000000 ∷ Push Rax ∷ Ret ∷ []) ∷ [];
  disassembled = (record { instructions = (omega arith, (tt, (tt, tt))); whole = refl }, tt);
  first = refl;
}

-- the same word in r11, the guard, and jmp r11
returns_guarded : HasGuardForm (object ((0xB8 ∷ 0x00 ∷ 0x00 ∷ 0x00 ∷ 0x40 ∷ 0x50 ∷ 0x41 ∷ 0x5B ∷ []) ++ (guard_of_one ++ 0x41 ∷ 0xFF ∷ 0xE3 ∷ [])))
returns_guarded = record {
  disassemblies = (MovImm32 Rax 0x40000000 ∷ Push Rax ∷ Pop R11 ∷ (guard 1 ++ JmpR11 ∷ [])) ∷ [];
  disassembled = (record { instructions = (omega arith, (tt, (tt, each_append IsInstr (guard 1) (JmpR11 ∷ []) (each_guard 1 (omega arith)) (tt, tt)))); whole = refl }, tt);
  kept = refl;
}

-- a jump from outside of the guard to the place behind it
jumps_past : IsFirstUnguarded (object ((0xE9 ∷ 0x35 ∷ 0x00 ∷ 0x00 ∷ 0x00 ∷ []) ++ (guard_of_one ++ 0x41 ∷ 0xFF ∷ 0xE3 ∷ []))) (record { rule = 3; spot = Function 0; offset = 0 })
jumps_past = record {
  disassemblies = (Jmp (pos 53) ∷ (guard 1 ++ JmpR11 ∷ [])) ∷ [];
  disassembled = (record { instructions = (omega arith, each_append IsInstr (guard 1) (JmpR11 ∷ []) (each_guard 1 (omega arith)) (tt, tt)); whole = refl }, tt);
  first = refl;
}
