use Rattle.std.proofs.Common.{◌≡◌, ◌+◌, drop}
use Rattle.elf_file.specs.Rules.{total_size}
use Rattle.elf_file.proofs.rules.are_small.Given as goal

-- what is left of the limit is short of it by the bytes so far
abbrev pub invariant-loop-header : goal.invariant-loop-header
invariant-loop-header l = total_size l.headers + l.left ≡ total_size (drop l.header-index l.headers) + 268435456
