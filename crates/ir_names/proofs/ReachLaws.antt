-- Unknown names in a type and inside of a function, by what tables and scopes tell.
use Rattle.std.proofs.Common.{◌≡◌, ℕ, List, ap, sym, ◌∙◌}
use Rattle.std.specs.List.{flat_map}
use Rattle.ir_core.specs.declared.ty.Ty.{Ty}
use Rattle.ir_core.specs.declared.ty.Ty.TheVariants.{Struct, Packed}
use Rattle.ir_core.specs.declared.module.Function.{Function}
use Rattle.ir_core.specs.declared.module.Module.{Module}
use Rattle.ir_core.specs.Definitions.{label_names}
use Rattle.ir_core.specs.Mentions.{Mention, names_of, of_function}
use Rattle.ir_core.specs.Valid.{locals_of, named_locals}
use Rattle.ir_core.proofs.WrittenTypes.{names-struct, names-packed}
use Rattle.ir_names.specs.Firsts.{first_name}
use Rattle.ir_names.specs.Reached.{undefined_type, unknown_among, unknown_inside}

-- in a struct, those of its fields
pub struct_reached : (m : Module) (fields ts : List Ty) (ty : Ty) → ty ≡ Struct fields → ts ≡ fields → flat_map (undefined_type m) (flat_map names_of ts) ≡ flat_map (undefined_type m) (names_of ty)
struct_reached m fields ts ty is same = ap (λ us. flat_map (undefined_type m) (flat_map names_of us)) same ∙ ap (flat_map (undefined_type m)) (sym (names-struct fields) ∙ ap names_of (sym is))

-- so in a packed one
pub packed_reached : (m : Module) (fields ts : List Ty) (ty : Ty) → ty ≡ Packed fields → ts ≡ fields → flat_map (undefined_type m) (flat_map names_of ts) ≡ flat_map (undefined_type m) (names_of ty)
packed_reached m fields ts ty is same = ap (λ us. flat_map (undefined_type m) (flat_map names_of us)) same ∙ ap (flat_map (undefined_type m)) (sym (names-packed fields) ∙ ap names_of (sym is))

-- inside of a function, by its labels and locals
pub inside_known : (m : Module) (f g : Function) (labels locals : List (List ℕ)) (ms : List Mention) → g ≡ f → labels ≡ label_names g → locals ≡ named_locals (locals_of g) → ms ≡ of_function f → first_name (unknown_among m labels locals ms) ≡ first_name (unknown_inside m f)
inside_known m f g labels locals ms same l n is =
    ap (λ ls. first_name (unknown_among m ls locals ms)) (l ∙ ap label_names same)
    ∙ ap (λ ns. first_name (unknown_among m (label_names f) ns ms)) (n ∙ ap (λ h. named_locals (locals_of h)) same)
    ∙ ap (λ us. first_name (unknown_among m (label_names f) (named_locals (locals_of f)) us)) is
