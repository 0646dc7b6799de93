-- the first of what is left is that of all
use Rattle.std.proofs.Common.{◌≡◌, drop}
use Rattle.std.specs.List.{flat_map}
use Rattle.ir_core.specs.Mentions.{parts_of}
use Rattle.ir_limits.specs.Past.{past_types}
use Rattle.ir_limits.proofs.gauge.+ty.Given as goal

abbrev pub invariant-past_tys-loop-ty : goal.invariant-past_tys-loop-ty
invariant-past_tys-loop-ty l = past_types l.gauge (flat_map parts_of (drop l.ty-index l.types)) ≡ past_types l.gauge (flat_map parts_of l.types)
