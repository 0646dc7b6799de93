use Rattle.std.proofs.Common.{◌≡◌, ◌++◌, ◌+◌, ◌*◌, ◌≤◌, drop, length}
use Rattle.elf_file.specs.Elf.{contents}
use Rattle.elf_file.proofs.write.put_contents.Given as goal

-- the bytes so far, and those of the segments that are left, are all
abbrev pub invariant-loop-segment : goal.invariant-loop-segment
invariant-loop-segment l = record {
  near : length l.file ≤ 512 + l.segment-index * 2415923200;
  rest : l.file ++ contents (length l.file) (drop l.segment-index l.segments) ≡ l.fn.file ++ contents (length l.fn.file) l.segments;
}
