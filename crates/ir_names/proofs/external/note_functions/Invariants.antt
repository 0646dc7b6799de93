-- the names of the functions so far
use Rattle.std.proofs.Common.{take}
use Rattle.std.specs.List.{flat_map}
use Rattle.ir_core.specs.Mentions.{of_function}
use Rattle.ir_names.specs.Outer.{Uses}
use Rattle.ir_names.proofs.external.note_functions.Given as goal

abbrev pub invariant-loop-f : goal.invariant-loop-f
invariant-loop-f l = Uses l.initial.names l.names (flat_map of_function (take l.f-index l.functions))
