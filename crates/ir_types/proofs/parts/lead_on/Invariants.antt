-- from where the walk stands the indices that are left lead as all do from the type
use Rattle.std.proofs.Common.{◌≡◌, drop, map}
use Rattle.ir_core.specs.declared.limit.TheConstants.{MAX_NESTING}
use Rattle.ir_types.specs.Fitting.{leads_within}
use Rattle.ir_types.proofs.parts.lead_on.Given as goal

abbrev pub invariant-loop-index : goal.invariant-loop-index
invariant-loop-index g l =
    leads_within l.tables.types l.at.names l.at.ty.now (map g.T.Index.known_of (drop l.index-index l.rest)) ≡ leads_within l.tables.types MAX_NESTING l.fn.ty (map g.T.Index.known_of l.rest)
