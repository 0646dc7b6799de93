use Rattle.std.proofs.Common.{arith}
use Rattle.std.proofs.lemmas.Bool.Decides.{nat_tests}
use Rattle.obj_check.proofs.Rows.{empty_stuck}
use Rattle.obj_check.proofs.Noting.{noted_more, noted_whole}
use Rattle.obj_check.proofs.disassembly.note_function.Goals as goal

-- no byte, no instruction
pub returns-then-is_empty : goal.returns-then-is_empty
returns-then-is_empty c = empty_stuck c.args.bytes.now (grind (arith, nat_tests))

-- one instruction more
pub loop-at-preserved : goal.loop-at-preserved
loop-at-preserved c = noted_more c.args.bytes.now c.loop-at.at c.loop-at.notes c.note.new.notes c.in-Some.here c.loop-at.invariant c.in-Some.ensures c.note.ensures.room c.note.ensures.notes

pub returns : goal.returns
returns c = noted_whole c.args.bytes.now c.loop-at.at c.loop-at.notes (grind (arith, nat_tests)) c.loop-at.invariant (omega arith)
