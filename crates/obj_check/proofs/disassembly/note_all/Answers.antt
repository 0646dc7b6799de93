use Rattle.std.proofs.Common.{take, sym, subst, arith, ◌+◌}
use Rattle.obj_check.specs.Disassembled.{Answers, AreNoted}
use Rattle.obj_check.proofs.Disassembled.{one_bounded, stuck_first, note_more}
use Rattle.obj_check.proofs.disassembly.note_all.Goals as goal

-- a function is not longer than all of them
pub note_function-requires : goal.note_function-requires
note_function-requires c =
    one_bounded c.as_slice-functions.result.now c.args.o.now.functions c.loop-n.n c.index-functions-n.result c.as_slice-bytes.result.now
    c.as_slice-functions.ensures c.requires.code (omega arith) c.index-functions-n.is c.as_slice-bytes.ensures

-- the functions before this one have disassemblies
pub returns-in-Stuck : goal.returns-in-Stuck
returns-in-Stuck c =
    stuck_first c.as_slice-functions.result.now c.args.o.now.functions c.loop-n.n c.in-Stuck.offset c.loop-n.noted c.index-functions-n.result c.as_slice-bytes.result.now
    c.as_slice-functions.ensures (omega arith) c.index-functions-n.is c.as_slice-bytes.ensures c.loop-n.invariant
    (subst (Answers c.as_slice-bytes.result.now) c.in-Stuck.is c.in_ok-notes.ensures)

-- one function more
pub loop-n-preserved : goal.loop-n-preserved
loop-n-preserved c =
    let more = note_more c.as_slice-functions.result.now c.loop-n.n c.loop-n.noted c.index-functions-n.result c.as_slice-bytes.result.now c.in-Whole.notes
    (omega arith) c.index-functions-n.is c.as_slice-bytes.ensures c.loop-n.invariant
    (subst (Answers c.as_slice-bytes.result.now) c.in-Whole.is c.in_ok-notes.ensures) in
    subst (AreNoted (take (c.loop-n.n + 1) c.as_slice-functions.result.now)) (sym c.in_ok-add-in-Whole.ensures.put) more
