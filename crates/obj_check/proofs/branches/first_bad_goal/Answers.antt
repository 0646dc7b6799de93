use Rattle.obj_core.specs.Disassembly.{found, disassembly_of}
use Rattle.obj_check.proofs.Walk.{left_all, left_more, left_none}
use Rattle.obj_check.proofs.branches.first_bad_goal.Goals as goal

-- all instructions are left
pub loop-here-init : goal.loop-here-init
loop-here-init c = left_all c.args.function.now.bytes c.as_slice-bytes.result.now c.args.function.now.links c.args.before c.as_slice-bytes.ensures c.requires.noted.disassembly

-- one instruction fewer is left
pub loop-here-preserved : goal.loop-here-preserved
loop-here-preserved c =
    let all = found (disassembly_of c.args.function.now.bytes) in
    left_more c.as_slice-bytes.result.now c.args.function.now.links all c.args.before c.loop-here.at c.loop-here.least c.with_goal-least.result c.in-Some.here c.loop-here.invariant c.in-Some.ensures c.with_goal-least.ensures

-- none is left
pub returns : goal.returns
returns c =
    let all = found (disassembly_of c.args.function.now.bytes) in
    left_none c.as_slice-bytes.result.now c.args.function.now.links all c.args.before c.loop-here.at c.loop-here.least c.loop-here.invariant c.in_default.ensures
