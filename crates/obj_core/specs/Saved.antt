-- The registers that live across calls: which one a colour is, and how a function saves them.
use Rattle.std.specs.Prelude.{ℕ, ◌+◌, Bool, true, false, ◌||◌, nat_eq, nat_lt, if◌then◌else◌, List, [], ◌∷◌, length, map, take, slice_index, pos}
use Rattle.std.specs.List.{list_all}
use Rattle.std.specs.Cmp.Lexicographic.{pointwise}
use Rattle.rd_draw.specs.Draw.{keystream_word, shuffled}
use Rattle.x86_core.specs.declared.reg.Reg.{Reg}
use Rattle.x86_core.specs.declared.reg.Reg.TheVariants.{Rbx, Rbp, R12, R13, R14, R15}
use Rattle.x86_core.specs.declared.instr.Wide.{Wide}
use Rattle.x86_core.specs.declared.instr.ImmOp.{ImmOp}
use Rattle.x86_core.specs.declared.instr.Cond.{Cond}
use Rattle.x86_core.specs.declared.instr.Instr.{Instr}
use Rattle.x86_core.specs.declared.instr.Instr.TheVariants.{Mov, MovImm64, MovImm32, Alu, AluImm, Imul, Shift, Div, High, Widen, Load, Store, Lea, Push, Pop, SetCond, Cmov, Jcc, Jmp, Call, Ret, CallR11, JmpR11, Syscall, Ud2, Int3, Nop}
use Rattle.x86_core.specs.Registers.{number_of}
use Rattle.obj_core.specs.Disassembly.{spelled}
use Rattle.obj_core.specs.Slots.{name_purpose, push_purpose}

-- the five, by their places
abbrev pub saved_register : ℕ → Reg
saved_register n = if nat_eq n 0 then Rbx else (if nat_eq n 1 then Rbp else (if nat_eq n 2 then R12 else (if nat_eq n 3 then R13 else R14)))

-- the order that a seed draws for a function
unfoldable pub five_of : ℕ → ℕ → ℕ → List ℕ
five_of reg_seed purpose function = shuffled (keystream_word reg_seed purpose function) 5

-- the register of a colour
abbrev pub name_of : ℕ → ℕ → ℕ → Reg
name_of reg_seed function color = saved_register (slice_index (five_of reg_seed name_purpose function) color)

abbrev pub pushes : ℕ → ℕ → List Instr
pushes reg_seed function = map (λ place. Push (saved_register place)) (five_of reg_seed push_purpose function)

-- one call fewer may be made, and none past the last; then the five are pushed
abbrev pub prologue : ℕ → ℕ → List ℕ
prologue reg_seed function = spelled (AluImm ImmOp.Sub Wide.W64 R15 (pos 1) ∷ Jcc Cond.Ae (pos 1) ∷ Int3 ∷ pushes reg_seed function)

abbrev pub same_bytes : List ℕ → List ℕ → Bool
same_bytes = pointwise nat_eq

abbrev pub begins_with : List ℕ → List ℕ → Bool
begins_with front bytes = same_bytes front (take (length front) bytes)

-- the register operands of an instruction, and the base of its memory operand
abbrev pub registers_of : Instr → List Reg
registers_of (Mov w d s) = d ∷ s ∷ []
registers_of (MovImm64 d n) = d ∷ []
registers_of (MovImm32 d n) = d ∷ []
registers_of (Alu op w d s) = d ∷ s ∷ []
registers_of (AluImm op w d n) = d ∷ []
registers_of (Imul w d s) = d ∷ s ∷ []
registers_of (Shift op w d) = d ∷ []
registers_of (Div signed size s) = s ∷ []
registers_of (High size) = []
registers_of (Widen kind d s) = d ∷ s ∷ []
registers_of (Load size d m) = d ∷ m.base ∷ []
registers_of (Store size m s) = m.base ∷ s ∷ []
registers_of (Lea d m) = d ∷ m.base ∷ []
registers_of (Push r) = r ∷ []
registers_of (Pop r) = r ∷ []
registers_of (SetCond c d) = d ∷ []
registers_of (Cmov c d s) = d ∷ s ∷ []
registers_of (Jcc c by) = []
registers_of (Jmp by) = []
registers_of (Call by) = []
registers_of Ret = []
registers_of CallR11 = []
registers_of JmpR11 = []
registers_of Syscall = []
registers_of Ud2 = []
registers_of Int3 = []
registers_of Nop = []

abbrev pub is_push_or_pop : Instr → Bool
is_push_or_pop (Push r) = true
is_push_or_pop (Pop r) = true
is_push_or_pop i = false

abbrev pub is_among : Reg → List Reg → Bool
is_among r [] = false
is_among r (s ∷ ss) = nat_eq (number_of r) (number_of s) || is_among r ss

-- whether a register occurs in an instruction other than a push or a pop
abbrev pub occurs : Reg → List Instr → Bool
occurs r [] = false
occurs r (i ∷ is) = (if is_push_or_pop i then false else is_among r (registers_of i)) || occurs r is

abbrev pub one_if : Bool → ℕ
one_if b = if b then 1 else 0

-- how many of the five occur
abbrev pub count_in : List Instr → ℕ
count_in instrs = one_if (occurs (saved_register 0) instrs) + (one_if (occurs (saved_register 1) instrs) + (one_if (occurs (saved_register 2) instrs) + (one_if (occurs (saved_register 3) instrs) + one_if (occurs (saved_register 4) instrs))))

abbrev pub agree : Bool → Bool → Bool
agree true b = b
agree false true = false
agree false false = true

-- those that occur are the registers of the first colours
abbrev pub are_first_colors : ℕ → ℕ → List Instr → Bool
are_first_colors reg_seed function instrs = list_all (λ color. agree (occurs (name_of reg_seed function color) instrs) (nat_lt color (count_in instrs))) (0 ∷ 1 ∷ 2 ∷ 3 ∷ 4 ∷ [])
