-- Functions that save registers, with bytes and orders computed outside this project: one that uses the registers of
-- the first colours, and three that break the rule.
use Rattle.std.proofs.Common.{◌≡◌, ℕ, List, [], ◌∷◌, ◌++◌, Option, Some, None, refl, arith}
use Rattle.std.specs.Prelude.{pos}
use Rattle.rand_core.specs.Steps.{u32_at}
use Rattle.rand_chacha.specs.Block.{quarter_round, column_round, diagonal_round, double_rounds, block_word}
use Rattle.rd_draw.specs.Draw.{stream_key, stream_word, shuffled}
use Rattle.x86_core.specs.declared.reg.Reg.{Reg}
use Rattle.x86_core.specs.declared.reg.Reg.TheVariants.{Rbx, Rbp, R12, R13, R14, R15}
use Rattle.x86_core.specs.declared.instr.Wide.{Wide}
use Rattle.x86_core.specs.declared.instr.ImmOp.{ImmOp}
use Rattle.x86_core.specs.declared.instr.Cond.{Cond}
use Rattle.x86_core.specs.declared.instr.Instr.{Instr}
use Rattle.x86_core.specs.declared.instr.Instr.TheVariants.{Mov, AluImm, Push, Jcc, Int3, Ret}
use Rattle.obj_core.specs.declared.object.Object.{Object}
use Rattle.obj_core.specs.declared.object.FuncKind.{FuncKind}
use Rattle.obj_core.specs.declared.object.Slot.{Slot}
use Rattle.obj_core.specs.Disassembly.{IsDisassembly, spelled}
use Rattle.obj_core.specs.Saved.{name_of, five_of, prologue}
use Rattle.obj_core.specs.WellFormed.{Violation, Function, violation}

-- sub r15, 1; jae over int3; int3; and the pushes of rbx, r13, rbp, r14, r12, which register seed 1 draws for function 0
abbrev front : List ℕ
front =
    0x49 ∷ 0x81 ∷ 0xEF ∷ 1 ∷ 0 ∷ 0 ∷ 0 ∷ 0x0F ∷ 0x83 ∷ 1 ∷ 0 ∷ 0 ∷ 0 ∷ 0xCC
    ∷ 0x53 ∷ 0x41 ∷ 0x55 ∷ 0x55 ∷ 0x41 ∷ 0x56 ∷ 0x41 ∷ 0x54 ∷ []

-- the same for function 0
front_is : prologue 1 0 ≡ front
unfolding u32_at quarter_round column_round diagonal_round double_rounds block_word stream_key stream_word shuffled five_of
front_is = refl

-- the registers of its colours
names_are : name_of 1 0 0 ∷ name_of 1 0 1 ∷ name_of 1 0 2 ∷ name_of 1 0 3 ∷ name_of 1 0 4 ∷ [] ≡ Rbx ∷ R12 ∷ Rbp ∷ R13 ∷ R14 ∷ []
unfolding u32_at quarter_round column_round diagonal_round double_rounds block_word stream_key stream_word shuffled five_of
names_are = refl

-- an object of one saved function with these instructions
abbrev saving : List Instr → Object
saving instrs = record { slot_seed = 0; reg_seed = 1; functions = record { kind = FuncKind.Saved; bytes = spelled instrs; links = []; cuts = [] } ∷ []; slots = Slot.Entry 0 ∷ []; ro = []; rw = [] }

-- what begins with a test and with these pushes
abbrev behind_pushes : Reg → Reg → Reg → Reg → Reg → List Instr → List Instr
behind_pushes a b c d e rest = AluImm ImmOp.Sub Wide.W64 R15 (pos 1) ∷ Jcc Cond.Ae (pos 1) ∷ Int3 ∷ Push a ∷ Push b ∷ Push c ∷ Push d ∷ Push e ∷ rest

-- uses the registers of the first two colours: mov rbx, r12
abbrev first_two : List Instr
first_two = behind_pushes Rbx R13 Rbp R14 R12 (Mov Wide.W64 Rbx R12 ∷ Ret ∷ [])

-- its bytes
first_two_bytes : spelled first_two ≡ front ++ (0x4C ∷ 0x89 ∷ 0xE3 ∷ 0xC3 ∷ [])
first_two_bytes = refl

-- they are its disassembly
first_two_is : IsDisassembly (front ++ (0x4C ∷ 0x89 ∷ 0xE3 ∷ 0xC3 ∷ [])) first_two
first_two_is = record { instructions = (omega arith, (omega arith, (tt, (tt, (tt, (tt, (tt, (tt, (tt, (tt, tt)))))))))); whole = refl }

-- the rule on saved registers fails in function 0
abbrev is_misused : Option Violation
is_misused = Some (record { rule = 8; spot = Function 0; offset = 0 })

-- no rule fails
first_two_are_well : violation (saving first_two) (first_two ∷ []) ≡ None
unfolding u32_at quarter_round column_round diagonal_round double_rounds block_word stream_key stream_word shuffled five_of
first_two_are_well = refl

-- the second colour is left out: mov rbx, rbp
third_before_second : let all = behind_pushes Rbx R13 Rbp R14 R12 (Mov Wide.W64 Rbx Rbp ∷ Ret ∷ []) in violation (saving all) (all ∷ []) ≡ is_misused
unfolding u32_at quarter_round column_round diagonal_round double_rounds block_word stream_key stream_word shuffled five_of
third_before_second = refl

-- the first pushes are exchanged
pushes_exchanged : let all = behind_pushes R13 Rbx Rbp R14 R12 (Mov Wide.W64 Rbx R12 ∷ Ret ∷ []) in violation (saving all) (all ∷ []) ≡ is_misused
unfolding u32_at quarter_round column_round diagonal_round double_rounds block_word stream_key stream_word shuffled five_of
pushes_exchanged = refl

-- the test is left out
untested : let all = Push Rbx ∷ Push R13 ∷ Push Rbp ∷ Push R14 ∷ Push R12 ∷ Ret ∷ [] in violation (saving all) (all ∷ []) ≡ is_misused
unfolding u32_at quarter_round column_round diagonal_round double_rounds block_word stream_key stream_word shuffled five_of
untested = refl
