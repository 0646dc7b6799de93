-- the indices that are left lead to what all lead to
use Rattle.std.proofs.Common.{◌≡◌, drop}
use Rattle.ir_context.specs.Paths.{path_into}
use Rattle.ir_context.proofs.context.Context.lead.Given as goal

abbrev pub invariant-loop-index : goal.invariant-loop-index
invariant-loop-index l = path_into l.self.types l.at (drop l.index-index l.indices) l.path ≡ path_into l.self.types l.ty l.indices l.initial.path
