use Rattle.std.proofs.Common.{◌≡◌}
use Rattle.obj_core.specs.Placement.{code_base}
use Rattle.obj_core.specs.Plans.{piece_runs}
use Rattle.obj_core.proofs.Fronts.{front_of}
use Rattle.obj_lay.proofs.Laid.{written}
use Rattle.obj_lay.proofs.code.code_of.Given as goal

-- the functions so far have their displacements, and the front is that of the next one
abbrev pub invariant-loop-i : goal.invariant-loop-i
invariant-loop-i l = record {
  start : l.builder.start ≡ code_base l.layout_seed;
  runs : l.builder.runs ≡ piece_runs l.o.object l.layout_seed;
  front : l.front ≡ front_of l.o.object.functions l.i;
  bytes : l.builder.bytes ≡ written l.o.object l.layout_seed l.i;
}
