-- The first count past a limit: among counts, among types, and among what a text mentions.
use Rattle.std.specs.Prelude.{ℕ, List, map, filter, nat_lt, slice_get, Option}
use Rattle.std.specs.List.{flat_map}
use Rattle.ir_core.specs.declared.limit.TheConstants.{MAX_NESTING, MAX_SIZE}
use Rattle.ir_core.specs.declared.ty.Ty.{Ty}
use Rattle.ir_core.specs.declared.ty.NamedTy.{NamedTy}
use Rattle.ir_core.specs.Counts.{depth_of, size_count}
use Rattle.ir_core.specs.Mentions.{Mention, types_in}
use Rattle.ir_limits.specs.declared.gauge.Measure.{Measure}
use Rattle.ir_limits.specs.declared.gauge.Measure.TheVariants.{Depth, Bytes}
use Rattle.ir_limits.specs.declared.gauge.Gauge.{Gauge}

-- the first of counts that is past a limit
unfoldable pub first_past : ℕ → List ℕ → Option ℕ
first_past most counts = slice_get (filter (λ n. nat_lt most n) counts) 0

-- what is measured of a type
abbrev pub measured_by : Measure → List NamedTy → Ty → ℕ
measured_by Depth types ty = depth_of types ty
measured_by Bytes types ty = size_count types ty

-- the most that a type may have of it
abbrev pub most_by : Measure → ℕ
most_by Depth = MAX_NESTING
most_by Bytes = MAX_SIZE

-- the first of types that is past the limit of a measure
unfoldable pub past_types : Gauge → List Ty → Option ℕ
past_types g types = first_past (most_by g.measure) (map (measured_by g.measure g.sizes.now) types)

-- the first of the types that are written in mentions
unfoldable pub past_in : Gauge → List Mention → Option ℕ
past_in g ms = past_types g (flat_map types_in ms)
