use Rattle.std.proofs.Common.{◌≡◌, ◌++◌, ◌+◌, ◌*◌, ◌≤◌, drop, length}
use Rattle.elf_file.specs.Elf.{program_headers_bytes, headers_end}
use Rattle.elf_file.proofs.write.put_program_headers.Given as goal

-- the headers so far, and those of the segments that are left, are all
abbrev pub invariant-loop-segment : goal.invariant-loop-segment
invariant-loop-segment l = record {
  near : l.end ≤ 512 + l.segment-index * 2415923200;
  rest : l.file ++ program_headers_bytes l.end (drop l.segment-index l.segments) ≡ l.fn.file ++ program_headers_bytes (headers_end (length l.segments)) l.segments;
}
