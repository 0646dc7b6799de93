-- the fields so far
use Rattle.std.proofs.Common.{◌≡◌, map, fold, take}
use Rattle.ir_core.specs.Sizes.{with_field, empty_extent, extent_in}
use Rattle.ir_core.proofs.size.+extent.Given as goal

abbrev pub invariant-fields_extent-loop-field : goal.invariant-fields_extent-loop-field
invariant-fields_extent-loop-field l = l.all ≡ fold (with_field l.packed) empty_extent (map (extent_in l.names l.rows) (take l.field-index l.fields))
