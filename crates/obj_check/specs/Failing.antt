-- Where a rule of code fails in a function.
use Rattle.std.specs.Prelude.{◌≡◌, ℕ, ◌<◌, Bool, List, ◌++◌, length, None}
use Rattle.x86_core.specs.declared.instr.Instr.{Instr}
use Rattle.obj_core.specs.declared.object.Object.{Object}
use Rattle.obj_core.specs.declared.object.Func.{Func}
use Rattle.obj_core.specs.Disassembly.{found}
use Rattle.obj_core.specs.WellFormed.{forbidden_in, bad_links, bad_branches, open_end, zero_unless, is_saved_well, bad_cut}
use Rattle.obj_check.specs.declared.code.CodeRule.{CodeRule}
use Rattle.obj_check.specs.declared.marks.Table.{Table}
use Rattle.obj_check.specs.Marked.{marked}

abbrev pub rule_number : CodeRule → ℕ
rule_number CodeRule.Transfers = 3
rule_number CodeRule.Branches = 4
rule_number CodeRule.Ends = 5
rule_number CodeRule.Saved = 8
rule_number CodeRule.Cuts = 9

abbrev pub failing : CodeRule → Object → ℕ → Func → List Instr → List ℕ
failing CodeRule.Transfers o n f instrs = forbidden_in (found instrs)
failing CodeRule.Branches o n f instrs = bad_links None (found instrs) (length o.slots) f.links ++ bad_branches f.links (found instrs) (found instrs)
failing CodeRule.Ends o n f instrs = open_end (found instrs)
failing CodeRule.Saved o n f instrs = zero_unless (is_saved_well o.reg_seed n f instrs)
failing CodeRule.Cuts o n f instrs = bad_cut 0 (found instrs) f.cuts

-- a table marks, below a size, the places that pass a test
abbrev pub MarksBelow : ℕ → Table → (ℕ → Bool) → Type 0
MarksBelow size t test = (k : ℕ) → k < size → marked t k ≡ test k
