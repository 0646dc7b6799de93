use Rattle.std.proofs.Common.{◌≡◌, drop}
use Rattle.rd_io.specs.Held.{content_of}
use Rattle.rd_io.proofs.memory.find.Given as goal

-- the name stands in the files that are left
abbrev pub invariant-loop-file : goal.invariant-loop-file
invariant-loop-file l = content_of (drop l.file-index l.files) l.name ≡ content_of l.files l.name
