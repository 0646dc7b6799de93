use Rattle.std.proofs.Common.{◌∙◌, ap, sym, List, Some, None}
use Rattle.ir_core.specs.declared.ty.NamedTy.{NamedTy}
use Rattle.ir_core.specs.Names.{same_name, first_where}
use Rattle.ir_core.proofs.LookupLaws.{item_found}
use Rattle.ir_context.proofs.extents.Extents.named.Goals as goal

pub returns-in-Some : goal.returns-in-Some
returns-in-Some c =
    c.type_at.ensures
    ∙ item_found (λ (t : NamedTy). t.name) c.self.inside.types.now c.self.inside.names c.args.name.now (Some c.in-Some.k) c.self.invariant.0 (sym c.in-Some.is ∙ c.number.ensures)
    ∙ ap (λ (types : List NamedTy). first_where (λ t. same_name t.name c.args.name.now) types) c.self.view_is

pub returns-in-None : goal.returns-in-None
returns-in-None c =
    item_found (λ (t : NamedTy). t.name) c.self.inside.types.now c.self.inside.names c.args.name.now None c.self.invariant.0 (sym c.in-None.is ∙ c.number.ensures)
    ∙ ap (λ (types : List NamedTy). first_where (λ t. same_name t.name c.args.name.now) types) c.self.view_is
