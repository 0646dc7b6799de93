use Rattle.obj_core.specs.Object.{IsField, cuts_bytes}
use Rattle.obj_file.proofs.Rows.{RowRead}
use Rattle.obj_file.proofs.function.read_cuts.Given as goal

-- the cuts so far
abbrev pub invariant-loop : goal.invariant-loop
invariant-loop l = RowRead IsField cuts_bytes l.bytes l.at l.end l.counter l.cuts
