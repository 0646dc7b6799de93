use Rattle.std.proofs.Common.{◌∙◌, ap}
use Rattle.std.specs.List.{flat_map}
use Rattle.std.proofs.lemmas.Grind.{flat_map-append}
use Rattle.ir_core.specs.Mentions.{names_of}
use Rattle.ir_names.specs.Firsts.{first_name}
use Rattle.ir_names.specs.Reached.{undefined_type}
use Rattle.ir_names.proofs.FirstLaws.{first_found, first_passed}
use Rattle.ir_names.proofs.ReachLaws.{struct_reached, packed_reached}
use Rattle.ir_names.proofs.unknown.+types.Goals as goal

pub unknown_field-returns-in-Some : goal.unknown_field-returns-in-Some
unknown_field-returns-in-Some t c =
    let missing = undefined_type c.args.tables.now in
    first_found (λ ts. flat_map missing (flat_map names_of ts)) (λ ty. flat_map missing (names_of ty)) (λ x xs. flat_map-append missing (names_of x) (flat_map names_of xs)) c.args.fields.now c.loop-field.field-index c.field-item.result c.loop-field-test.true c.field-item.is _ c.loop-field.invariant c.in-Some.marked c.in-Some.ensures

pub unknown_field-loop-field-preserved : goal.unknown_field-loop-field-preserved
unknown_field-loop-field-preserved t c =
    let missing = undefined_type c.args.tables.now in
    first_passed (λ ts. flat_map missing (flat_map names_of ts)) (λ ty. flat_map missing (names_of ty)) (λ x xs. flat_map-append missing (names_of x) (flat_map names_of xs)) c.args.fields.now c.loop-field.field-index c.field-item.result c.loop-field-test.true c.field-item.is _ c.loop-field.invariant c.in-None.ensures

pub unknown_type-returns-in-Struct : goal.unknown_type-returns-in-Struct
unknown_type-returns-in-Struct t c = c.unknown_field.ensures ∙ ap first_name (struct_reached c.args.tables.now c.in-Struct.fields c.as_slice.result.now c.args.ty.now c.in-Struct.is c.as_slice.ensures)

pub unknown_type-returns-in-Packed : goal.unknown_type-returns-in-Packed
unknown_type-returns-in-Packed t c = c.unknown_field-in-Packed.ensures ∙ ap first_name (packed_reached c.args.tables.now c.in-Packed.fields c.as_slice-in-Packed.result.now c.args.ty.now c.in-Packed.is c.as_slice-in-Packed.ensures)
