-- the fields so far
use Rattle.std.proofs.Common.{◌≡◌, map, fold, take}
use Rattle.ir_core.specs.Sizes.{with_field, empty_extent}
use Rattle.ir_context.specs.Extents.{extent_of}
use Rattle.ir_context.proofs.extents.Extents.place.Given as goal

abbrev pub invariant-loop-one : goal.invariant-loop-one
invariant-loop-one l = l.all ≡ fold (with_field l.packed) empty_extent (map (extent_of l.self) (take l.one-index l.before))
