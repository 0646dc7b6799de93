-- An order of the five saved registers: the pushes in it, and the registers of the first colours.
use Rattle.std.specs.Prelude.{ℕ, ◌+◌, Bool, ◌&&◌, nat_lt, List, map, slice_index}
use Rattle.x86_core.specs.declared.instr.Instr.{Instr}
use Rattle.x86_core.specs.declared.instr.Instr.TheVariants.{Push}
use Rattle.x86_core.specs.declared.reg.Reg.{Reg}
use Rattle.x86_core.specs.Registers.{number_of}
use Rattle.obj_core.specs.Saved.{saved_register, one_if, agree}
use Rattle.obj_check.specs.declared.marks.Table.{Table}
use Rattle.obj_check.specs.Marked.{marked}

abbrev pub pushes_in : List ℕ → List Instr
pushes_in = map (λ (place : ℕ). Push (saved_register place))

-- the registers whose numbers a table marks
abbrev pub used_in : Table → Reg → Bool
used_in t r = marked t (number_of r)

-- how many of the five are used
abbrev pub count_used : (Reg → Bool) → ℕ
count_used used = one_if (used (saved_register 0)) + (one_if (used (saved_register 1)) + (one_if (used (saved_register 2)) + (one_if (used (saved_register 3)) + one_if (used (saved_register 4)))))

-- the register of a colour is used exactly where the colour is below the count
abbrev pub is_colored : List ℕ → (Reg → Bool) → ℕ → Bool
is_colored order used color = agree (used (saved_register (slice_index order color))) (nat_lt color (count_used used))

abbrev pub are_colored : List ℕ → (Reg → Bool) → Bool
are_colored order used = is_colored order used 0 && (is_colored order used 1 && (is_colored order used 2 && (is_colored order used 3 && is_colored order used 4)))
