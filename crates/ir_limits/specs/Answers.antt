-- What the limits that are passed say of a module.
use Rattle.std.specs.Prelude.{List, map, ◌++◌}
use Rattle.ir_core.specs.declared.limit.Limit.{Limit}
use Rattle.ir_core.specs.declared.limit.TheConstants.{MAX_NESTING, MAX_SIZE}
use Rattle.ir_core.specs.declared.module.Module.{Module}
use Rattle.ir_core.specs.Mentions.{written_types}
use Rattle.ir_core.specs.Counts.{depth_of, size_count}
use Rattle.ir_core.specs.Refusals.{Fault, Limited, past}
use Rattle.ir_limits.specs.declared.Over.{Over}

-- the refusal that a passed limit is
abbrev pub limit_fault : Over → Fault
limit_fault over = Limited over.which over.count

-- the limits of types
abbrev pub types_limited : Module → List Fault
types_limited m =
    past Limit.Nesting MAX_NESTING (map (depth_of m.types) (written_types m)) ++ past Limit.Size MAX_SIZE (map (size_count m.types) (written_types m))
