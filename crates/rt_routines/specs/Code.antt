-- The code of the six routines, where the slots that they use stand one after another: `first` is the number of the first one.
use Rattle.std.specs.Prelude.{ℕ, ◌+◌, ◌-◌, List, [], ◌∷◌, ◌++◌, length, ℤ, pos, negsuc}
use Rattle.ir_core.specs.declared.TheConstants.{MAX_CALLS}
use Rattle.x86_core.specs.declared.reg.Reg.{Reg}
use Rattle.x86_core.specs.declared.reg.Reg.TheVariants.{Rax, Rcx, Rdx, Rsp, Rsi, Rdi, R15}
use Rattle.x86_core.specs.declared.instr.Wide.{Wide}
use Rattle.x86_core.specs.declared.instr.Size.{Size}
use Rattle.x86_core.specs.declared.instr.Mem.{Mem}
use Rattle.x86_core.specs.declared.instr.ImmOp.{ImmOp}
use Rattle.x86_core.specs.declared.instr.WidenKind.{WidenKind}
use Rattle.x86_core.specs.declared.instr.Cond.{Cond}
use Rattle.x86_core.specs.declared.instr.Instr.{Instr}
use Rattle.x86_core.specs.declared.instr.Instr.TheVariants.{Mov, MovImm64, MovImm32, AluImm, Imul, Widen, Load, Store, Lea, Cmov, Jcc, Jmp, Ret, Ud2}
use Rattle.obj_core.specs.declared.object.Func.{Func}
use Rattle.obj_core.specs.declared.object.FuncKind.{FuncKind}
use Rattle.obj_core.specs.declared.plan.SlotPlan.{SlotPlan}
use Rattle.obj_core.specs.Disassembly.{spelled}
use Rattle.obj_rows.specs.Marked.{Marked, unlinked, linked, all_unlinked, instrs_of, links_from}

-- what the kernel is asked for in rax
abbrev pub take_call : ℕ
take_call = 0

abbrev pub print_call : ℕ
print_call = 1

abbrev pub exit_call : ℕ
exit_call = 60

-- the byte whose address is in a register
abbrev pub byte_of : Reg → Mem
byte_of r = record { base = r; disp = pos 0 }

-- the first of the eight bytes below the stack, for a byte that is printed or taken
abbrev pub spare_byte : Mem
spare_byte = record { base = Rsp; disp = negsuc 7 }

-- to a slot
abbrev pub jump_to : ℕ → Marked
jump_to slot = linked (Jmp (pos 0)) slot

-- the start: `main` is called without arguments, and the run ends with what it gives
abbrev pub start_row : ℕ → ℕ → List Marked
start_row call system =
    unlinked (MovImm32 R15 MAX_CALLS) ∷ unlinked (MovImm32 Rdi 0) ∷ unlinked (MovImm32 Rsi 0) ∷ jump_to call ∷
    unlinked (Mov Wide.W64 Rdi Rax) ∷ unlinked (MovImm32 Rax exit_call) ∷ jump_to system ∷ unlinked Ud2 ∷ []

-- one byte, from the spare one, whose address goes to rsi
abbrev pub ask_row : ℕ → List Instr
ask_row call = Lea Rsi spare_byte ∷ MovImm32 Rax call ∷ MovImm32 Rdi call ∷ MovImm32 Rdx 1 ∷ []

abbrev pub putchar_row : ℕ → List Marked
putchar_row system =
    all_unlinked (Store Size.W8 spare_byte Rdi ∷ ask_row print_call) ++ jump_to system ∷ all_unlinked (Load Size.W8 Rax spare_byte ∷ Ret ∷ [])

-- the answer 0 says that the input has ended
abbrev pub getchar_row : ℕ → List Marked
getchar_row system =
    all_unlinked (ask_row take_call) ++ jump_to system ∷
    all_unlinked (AluImm ImmOp.Cmp Wide.W32 Rax (pos 0) ∷ Load Size.W8 Rax spare_byte ∷ MovImm32 Rcx 4294967295 ∷ Cmov Cond.E Rax Rcx ∷ Ret ∷ [])

abbrev pub exit_row : ℕ → List Marked
exit_row system = unlinked (MovImm32 Rax exit_call) ∷ jump_to system ∷ unlinked Ud2 ∷ []

-- as long as so many bytes are left in rdx, they are moved and counted; `skip` leads behind the loop, and `again` to its start
abbrev pub loop_row : ℕ → ℤ → ℤ → List Instr → List Instr
loop_row bytes skip again body = AluImm ImmOp.Cmp Wide.W64 Rdx (pos bytes) ∷ Jcc Cond.B skip ∷ body ++ Jmp again ∷ []

-- so many bytes more
abbrev pub past : Reg → ℕ → Instr
past r bytes = AluImm ImmOp.Add Wide.W64 r (pos bytes)

abbrev pub fewer : ℕ → Instr
fewer bytes = AluImm ImmOp.Sub Wide.W64 Rdx (pos bytes)

-- bytes go from rsi to rdi by rax
abbrev pub copy_body : Size → ℕ → List Instr
copy_body size bytes = Load size Rax (byte_of Rsi) ∷ Store size (byte_of Rdi) Rax ∷ past Rsi bytes ∷ past Rdi bytes ∷ fewer bytes ∷ []

abbrev pub copy_loop : Size → ℕ → List Instr
copy_loop size bytes = loop_row bytes (pos 40) (negsuc 52) (copy_body size bytes)

-- eight bytes at once, and the rest one by one
abbrev pub memcpy_row : List Marked
memcpy_row = all_unlinked (copy_loop Size.W64 8 ++ (copy_loop Size.W8 1 ++ Ret ∷ []))

-- bytes of rax go to rdi
abbrev pub fill_body : Size → ℕ → List Instr
fill_body size bytes = Store size (byte_of Rdi) Rax ∷ past Rdi bytes ∷ fewer bytes ∷ []

abbrev pub fill_loop : Size → ℕ → List Instr
fill_loop size bytes = loop_row bytes (pos 26) (negsuc 38) (fill_body size bytes)

-- a byte times this number is that byte eight times
abbrev pub eight_ones : ℕ
eight_ones = 72340172838076673

abbrev pub memset_row : List Marked
memset_row =
    all_unlinked ((Widen WidenKind.Zero8 Rax Rsi ∷ MovImm64 Rcx eight_ones ∷ Imul Wide.W64 Rax Rcx ∷ []) ++ (fill_loop Size.W64 8 ++ (fill_loop Size.W8 1 ++ Ret ∷ [])))

-- a function that is this row
abbrev pub function_of : List Marked → Func
function_of row = record { kind = FuncKind.Plain; bytes = spelled (instrs_of row); links = links_from 0 row; cuts = [] }

-- the six rows
abbrev pub routine_rows : ℕ → List (List Marked)
routine_rows first =
    start_row first (first + 1) ∷ putchar_row (first + 2) ∷ getchar_row (first + 3) ∷ exit_row (first + 4) ∷ memcpy_row ∷ memset_row ∷ []

abbrev pub functions_of : List (List Marked) → List Func
functions_of [] = []
functions_of (row ∷ rows) = function_of row ∷ functions_of rows

abbrev pub routine_functions : ℕ → List Func
routine_functions first = functions_of (routine_rows first)

-- the six functions for a plan, whose last five slots are theirs
unfoldable pub routines_of : SlotPlan → List Func
routines_of plan = routine_functions (length plan.slots - 5)
