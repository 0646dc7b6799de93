-- The numbers of the registers, and their words in the list of sixteen.
use Rattle.std.specs.Prelude.{ℕ, List, slice_index, slice_set}
use Rattle.x86_core.specs.declared.reg.Reg.{Reg}
use Rattle.x86_core.specs.declared.reg.Reg.TheVariants.{Rax, Rcx, Rdx, Rbx, Rsp, Rbp, Rsi, Rdi, R8, R9, R10, R11, R12, R13, R14, R15}

-- the number that encodings have for a register
abbrev pub number_of : Reg → ℕ
number_of Rax = 0
number_of Rcx = 1
number_of Rdx = 2
number_of Rbx = 3
number_of Rsp = 4
number_of Rbp = 5
number_of Rsi = 6
number_of Rdi = 7
number_of R8 = 8
number_of R9 = 9
number_of R10 = 10
number_of R11 = 11
number_of R12 = 12
number_of R13 = 13
number_of R14 = 14
number_of R15 = 15

-- the word of a register
abbrev pub word : List ℕ → Reg → ℕ
word regs r = slice_index regs (number_of r)

-- the words with another one in a register
abbrev pub with_word : List ℕ → Reg → ℕ → List ℕ
with_word regs r n = slice_set regs (number_of r) n
