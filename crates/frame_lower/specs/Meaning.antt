-- What an object's memory holds at first, and how many of its steps meet one step of a program.
use Rattle.std.specs.Prelude.{ℕ, ◌^◌, List}
use Rattle.x86_core.specs.Data.{stack_end}
use Rattle.low_core.specs.Plan.{Content, global_spans, first_bytes}
use Rattle.obj_core.specs.declared.object.Object.{Object}
use Rattle.obj_rows.specs.Standing.{first_core}
use Rattle.frame_rows.specs.Ties.{Contains}
use Rattle.frame_lower.specs.Functions.{Choices}

-- the most steps that meet one step: those of the routine over the most bytes
abbrev pub most_steps : ℕ
most_steps = 2 ^ 65

-- each global is in memory, at its address, with what it holds at first
abbrev pub IsHeld : Choices → List Content → Object → Type 0
IsHeld c contents o = Contains stack_end 0 (record { spans = global_spans c.placing.globals contents; bytes = first_bytes c.placing.globals contents }) (first_core o).segments
