-- The instructions of a guard, told by their parts.
use Rattle.std.specs.Prelude.{ℕ, ◌*◌, Bool, true, false, ◌&&◌, ◌||◌, nat_eq, nat_le, if◌then◌else◌, ℤ, pos}
use Rattle.std.specs.Ordering.{int_eq}
use Rattle.x86_core.specs.declared.reg.Reg.{Reg}
use Rattle.x86_core.specs.declared.reg.Reg.TheVariants.{R10, R11}
use Rattle.x86_core.specs.declared.instr.Wide.{Wide}
use Rattle.x86_core.specs.declared.instr.ImmOp.{ImmOp}
use Rattle.x86_core.specs.declared.instr.Cond.{Cond}
use Rattle.x86_core.specs.declared.instr.Instr.{Instr}
use Rattle.x86_core.specs.declared.instr.Instr.TheVariants.{Mov, AluImm, Jcc, Ud2}
use Rattle.obj_core.specs.Slots.{slot_base}

abbrev pub is_whole : Wide → Bool
is_whole Wide.W64 = true
is_whole w = false

abbrev pub is_r10 : Reg → Bool
is_r10 R10 = true
is_r10 r = false

abbrev pub is_r11 : Reg → Bool
is_r11 R11 = true
is_r11 r = false

abbrev pub is_sub : ImmOp → Bool
is_sub ImmOp.Sub = true
is_sub op = false

abbrev pub is_cmp : ImmOp → Bool
is_cmp ImmOp.Cmp = true
is_cmp op = false

abbrev pub is_and : ImmOp → Bool
is_and ImmOp.And = true
is_and op = false

abbrev pub is_below : Cond → Bool
is_below Cond.B = true
is_below c = false

abbrev pub is_equal : Cond → Bool
is_equal Cond.E = true
is_equal c = false

-- the operation on r10 with a number, among so many slots
abbrev pub is_operation : ℕ → ℕ → ImmOp → ℤ → Bool
is_operation slots n op k =
    if nat_eq n 1 then is_sub op && int_eq k (pos slot_base) else
    (if nat_eq n 2 then is_cmp op && int_eq k (pos (16 * slots)) else
    (if nat_eq n 5 then is_and op && int_eq k (pos 15) else
    (if nat_eq n 7 then is_cmp op && int_eq k (pos 5) else false)))

-- the branch with a number
abbrev pub is_branch : ℕ → Cond → ℤ → Bool
is_branch n c by =
    if nat_eq n 3 then is_below c && int_eq by (pos 2) else
    (if nat_eq n 6 then is_equal c && int_eq by (pos 15) else
    (if nat_eq n 8 then is_equal c && int_eq by (pos 2) else false))

-- the instruction with a number, among so many slots
abbrev pub is_step : ℕ → ℕ → Instr → Bool
is_step slots n (Mov w to from) = nat_eq n 0 && (is_whole w && (is_r10 to && is_r11 from))
is_step slots n (AluImm op w reg k) = is_whole w && (is_r10 reg && is_operation slots n op k)
is_step slots n (Jcc c by) = is_branch n c by
is_step slots n Ud2 = nat_eq n 4 || nat_le 9 n
is_step slots n i = false
