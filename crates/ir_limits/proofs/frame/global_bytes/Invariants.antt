-- the sum so far
use Rattle.std.proofs.Common.{◌≡◌, take}
use Rattle.std.specs.List.{sum_by}
use Rattle.ir_core.specs.declared.module.GlobalVar.{GlobalVar}
use Rattle.ir_core.specs.Shapes.{shape_of}
use Rattle.ir_core.specs.Counts.{told, spaced}
use Rattle.ir_limits.proofs.frame.global_bytes.Given as goal

abbrev pub invariant-loop-g : goal.invariant-loop-g
invariant-loop-g l = l.sum ≡ told (sum_by (λ (g : GlobalVar). spaced (shape_of l.whole.types g.ty).size) (take l.g-index l.whole.globals))
