use Rattle.std.proofs.Common.{◌≡◌, ◌-◌, ◌≤◌, length, drop}
use Rattle.obj_core.specs.Disassembly.{instrs_from, instrs_in}
use Rattle.obj_core.specs.Layout.{ways_of}
use Rattle.obj_core.specs.Plans.{planned}
use Rattle.obj_lay.specs.Putting.{put_ways}
use Rattle.obj_lay.proofs.code.fill_branches.Given as goal

-- the instructions that are left give the whole
abbrev pub invariant-loop-at : goal.invariant-loop-at
invariant-loop-at l = record {
  same_start : l.builder.start ≡ l.fn.builder.start;
  same_runs : l.builder.runs ≡ l.fn.builder.runs;
  within : l.at ≤ length l.function.bytes;
  left : put_ways l.builder.runs l.builder.start l.front (ways_of (planned l.plan) l.number l.function (instrs_from 0 l.at (drop l.at l.function.bytes))) l.builder.bytes ≡
      put_ways l.fn.builder.runs l.fn.builder.start l.front (ways_of (planned l.plan) l.number l.function (instrs_in l.function.bytes)) l.fn.builder.bytes;
}

abbrev pub decreases-loop-at : goal.decreases-loop-at
decreases-loop-at l = length l.function.bytes - l.at
