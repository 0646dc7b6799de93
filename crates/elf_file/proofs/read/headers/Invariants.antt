use Rattle.std.proofs.Common.{◌≡◌, ◌-◌, ◌+◌, ◌*◌, ◌++◌, drop}
use Rattle.elf_file.specs.Rules.{program_headers}
use Rattle.elf_file.proofs.read.headers.Given as goal

-- the headers so far, and those that are left, are all
abbrev pub invariant-loop-i : goal.invariant-loop-i
invariant-loop-i l = l.all ++ program_headers (l.count - l.i) (drop (64 + 56 * l.i) l.bytes) ≡ program_headers l.count (drop 64 l.bytes)
