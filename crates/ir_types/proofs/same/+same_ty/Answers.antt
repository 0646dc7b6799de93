use Rattle.std.proofs.Common.{◌∙◌, ap, sym}
use Rattle.ir_core.specs.declared.ty.Ty.TheVariants.{Struct, Packed}
use Rattle.ir_core.specs.Valid.{all_two, same_ty}
use Rattle.ir_types.proofs.SameLaws.{same-structs, same-packed}
use Rattle.ir_types.proofs.same.+same_ty.Goals as goal

pub is_same_ty-returns-in-Struct-b : goal.is_same_ty-returns-in-Struct-b
is_same_ty-returns-in-Struct-b t c =
    c.are_same_tys.ensures ∙ ap (λ es. all_two same_ty es c.as_slice-in-Struct-b.result.now) c.as_slice.ensures ∙ ap (all_two same_ty c.in-Struct.es) c.as_slice-in-Struct-b.ensures
    ∙ sym (same-structs c.in-Struct.es c.in-Struct-b.fs) ∙ ap (λ b. same_ty (Struct c.in-Struct.es) b) (sym c.in-Struct-b.is) ∙ ap (λ a. same_ty a c.args.b.now) (sym c.in-Struct.is)

pub is_same_ty-returns-in-Packed-b : goal.is_same_ty-returns-in-Packed-b
is_same_ty-returns-in-Packed-b t c =
    c.are_same_tys-in-Packed-b.ensures ∙ ap (λ es. all_two same_ty es c.as_slice-in-Packed-b-2.result.now) c.as_slice-in-Packed-b.ensures ∙ ap (all_two same_ty c.in-Packed.es) c.as_slice-in-Packed-b-2.ensures
    ∙ sym (same-packed c.in-Packed.es c.in-Packed-b.fs) ∙ ap (λ b. same_ty (Packed c.in-Packed.es) b) (sym c.in-Packed-b.is) ∙ ap (λ a. same_ty a c.args.b.now) (sym c.in-Packed.is)
