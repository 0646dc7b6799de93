-- the first entries so far, and their blocks
use Rattle.std.proofs.Common.{◌≡◌, map, take, Bor}
use Rattle.ir_core.specs.declared.instruction.Entry.{Entry}
use Rattle.phi_lower.specs.Entries.{entry_names, firsts_in}
use Rattle.phi_lower.proofs.firsts.Firsts.new.Given as goal

abbrev pub invariant-loop-e : goal.invariant-loop-e
invariant-loop-e l = record {
  firsts : map (λ (r : Bor Entry). r.now) l.entries ≡ firsts_in (take l.e-index l.whole);
  named : l.names ≡ entry_names (map (λ (r : Bor Entry). r.now) l.entries);
}
