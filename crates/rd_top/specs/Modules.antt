-- The run of a module by its meaning.
use Rattle.std.specs.Prelude.{ℕ, ◌+◌, ◌-◌, List, length, drop, replicate}
use Rattle.ir_core.specs.declared.module.Module.{Module}
use Rattle.ir_core.specs.State.{State}
use Rattle.ir_core.specs.Step.{source_step}
use Rattle.ir_run.specs.Runs.{state_after}
use Rattle.rd_top.specs.Courses.{Point, Course}

-- what a module does next, apart from what it did: the bytes that it prints, and how many it takes of an input that has one there
abbrev pub prints_then : Module → List ℕ → State → List ℕ
prints_then m xs s = drop (length s.printed) (source_step m xs s).printed

abbrev pub takes_then : Module → State → ℕ
takes_then m s = (source_step m (replicate (s.taken + 1) 0) s).taken - s.taken

abbrev pub module_point : Module → List ℕ → State → Point
module_point m xs s = record { left = drop s.taken xs; printed = s.printed; ending = s.ending; prints = prints_then m xs s; takes = takes_then m s }

-- the meaning of a module, from its start
unfoldable pub module_course : Module → Course
module_course m xs n = module_point m xs (state_after m xs n)
