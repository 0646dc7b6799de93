-- what is left decides
use Rattle.std.proofs.Common.{◌≡◌, drop}
use Rattle.std.specs.List.{list_all}
use Rattle.ir_core.specs.Definitions.{is_among}
use Rattle.ir_types.proofs.phi.are_among.Given as goal

abbrev pub invariant-loop-k : goal.invariant-loop-k
invariant-loop-k l = list_all (is_among l.names) (drop l.k l.row) ≡ list_all (is_among l.names) l.row
