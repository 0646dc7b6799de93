-- the fields so far
use Rattle.std.proofs.Common.{◌≡◌, map, fold, take}
use Rattle.ir_core.specs.Sizes.{with_field, empty_extent, extent_in}
use Rattle.ir_context.proofs.extents.+extent.Given as goal

abbrev pub invariant-struct_over-loop-field : goal.invariant-struct_over-loop-field
invariant-struct_over-loop-field l = l.all ≡ fold (with_field l.packed) empty_extent (map (extent_in l.names l.rows) (take l.field-index l.fields))
