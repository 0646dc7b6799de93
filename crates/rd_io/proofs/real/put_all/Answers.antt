use Rattle.std.proofs.Common.{arith, length-drop}
use Rattle.std.proofs.lemmas.List.{take_rest}
use Rattle.rd_io.proofs.Streams.{more_appended, part_appended, nothing_appended}
use Rattle.rd_io.proofs.real.put_all.Goals as goal

-- a call that took nothing leaves what was put before
pub returns-in-Ok-eq0 : goal.returns-in-Ok-eq0
returns-in-Ok-eq0 g c =
    let taken = rw c.in-Ok-eq0.field-0-test at c.in-Ok-eq0.ensures.bytes in
    part_appended _ _ _ _ _ c.loop-done.invariant.written (nothing_appended _ _ taken)

-- a call that took some puts them behind
pub loop-done-preserved : goal.loop-done-preserved
loop-done-preserved g c =
    let taken = rw (take_rest c.args.bytes.now c.loop-done.done) at c.in-Ok.ensures.bytes in
    record {
      within = (let fits = simp (take_rest, length-drop) at c.in-Ok.ensures.bound in omega (arith, fits));
      written = more_appended _ _ _ _ _ _ c.loop-done.invariant.written taken;
    }

-- a call that failed leaves what was put before
pub returns-in-Err : goal.returns-in-Err
returns-in-Err g c = part_appended _ _ _ _ _ c.loop-done.invariant.written c.in-Err.ensures.bytes
