-- the first entries so far, and their blocks
use Rattle.std.proofs.Common.{◌≡◌, map, take, Bor}
use Rattle.ir_core.specs.declared.instruction.Entry.{Entry}
use Rattle.ir_types.specs.Entries.{entry_names, firsts_in}
use Rattle.ir_types.proofs.phi.first_entries.Given as goal

abbrev pub invariant-loop-e : goal.invariant-loop-e
invariant-loop-e l = record {
  firsts : map (λ (r : Bor Entry). r.now) l.firsts ≡ firsts_in (take l.e-index l.entries);
  named : l.names ≡ entry_names (map (λ (r : Bor Entry). r.now) l.firsts);
}
