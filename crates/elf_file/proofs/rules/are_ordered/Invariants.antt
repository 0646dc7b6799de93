use Rattle.std.proofs.Common.{◌↔◌, drop}
use Rattle.elf_file.specs.Rules.{AreOrdered}
use Rattle.elf_file.proofs.rules.are_ordered.Given as goal

-- all are in order exactly where those that are left are, from the end of those before
abbrev pub invariant-loop-header : goal.invariant-loop-header
invariant-loop-header l = AreOrdered l.end (drop l.header-index l.headers) ↔ AreOrdered 0 l.headers
