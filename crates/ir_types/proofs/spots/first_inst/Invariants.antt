-- the instructions so far are phis or not, and the first place of what is left is that of all
use Rattle.std.proofs.Common.{◌≡◌, drop, take}
use Rattle.std.specs.List.{flat_map, enumerate_from}
use Rattle.ir_types.specs.Spots.{are_phis, inst_faults, insts_faults, first_spot}
use Rattle.ir_types.proofs.spots.first_inst.Given as goal

abbrev pub invariant-loop-k : goal.invariant-loop-k
invariant-loop-k l = record {
  early : l.early ≡ are_phis (take l.k l.insts);
  first : first_spot (flat_map (inst_faults l.site.tables.now l.site.scope.now l.site.row.now l.site.function l.site.number l.insts) (enumerate_from l.k (drop l.k l.insts)))
      ≡ first_spot (insts_faults l.site.tables.now l.site.scope.now l.site.row.now l.site.function l.site.number l.insts);
}
