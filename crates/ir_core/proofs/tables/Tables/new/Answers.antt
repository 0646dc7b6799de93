use Rattle.std.proofs.Common.{◌≡◌, [], ◌∙◌, ap, sym, map, subst}
use Rattle.ir_core.specs.declared.ty.NamedTy.{NamedTy}
use Rattle.ir_core.specs.declared.module.GlobalVar.{GlobalVar}
use Rattle.ir_core.specs.declared.module.Extern.{Extern}
use Rattle.ir_core.specs.declared.module.Function.{Function}
use Rattle.ir_core.specs.Definitions.{repeated}
use Rattle.ir_core.proofs.Distinct.{types_differ, variables_differ, externs_differ, functions_differ}
use Rattle.ir_core.proofs.tables.Tables.new.Goals as goal

pub names_of-requires : goal.names_of-requires
names_of-requires c = subst (λ ts. repeated [] (map (λ (t : NamedTy). t.name) ts) ≡ []) (sym c.as_slice.ensures) (types_differ c.args.whole.now c.requires)

pub names_of-requires-2 : goal.names_of-requires-2
names_of-requires-2 c = subst (λ ts. repeated [] (map (λ (t : GlobalVar). t.name) ts) ≡ []) (sym c.as_slice-2.ensures) (variables_differ c.args.whole.now c.requires)

pub names_of-requires-3 : goal.names_of-requires-3
names_of-requires-3 c = subst (λ ts. repeated [] (map (λ (t : Extern). t.name) ts) ≡ []) (sym c.as_slice-3.ensures) (externs_differ c.args.whole.now c.requires)

pub names_of-requires-4 : goal.names_of-requires-4
names_of-requires-4 c = subst (λ ts. repeated [] (map (λ (t : Function). t.name) ts) ≡ []) (sym c.as_slice-4.ensures) (functions_differ c.args.whole.now c.requires)

pub invariant_of-result : goal.invariant_of-result
invariant_of-result c = (
  c.in_ok-types.ensures ∙ ap (map (λ (t : NamedTy). t.name)) c.as_slice.ensures,
  c.in_ok-variables.ensures ∙ ap (map (λ (t : GlobalVar). t.name)) c.as_slice-2.ensures,
  c.in_ok-externs.ensures ∙ ap (map (λ (t : Extern). t.name)) c.as_slice-3.ensures,
  c.in_ok-functions.ensures ∙ ap (map (λ (t : Function). t.name)) c.as_slice-4.ensures,
)
