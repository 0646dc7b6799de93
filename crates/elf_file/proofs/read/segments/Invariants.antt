use Rattle.std.proofs.Common.{◌≡◌, take, map}
use Rattle.elf_file.specs.Rules.{segment_of}
use Rattle.elf_file.proofs.read.segments.Given as goal

abbrev pub invariant-loop-header : goal.invariant-loop-header
invariant-loop-header l = l.all ≡ map (segment_of l.bytes) (take l.header-index l.headers)
