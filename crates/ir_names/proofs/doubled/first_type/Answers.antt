use Rattle.std.proofs.Common.{[], map, ap, sym, ◌∙◌}
use Rattle.std.specs.Prelude.{option_map}
use Rattle.ir_core.specs.declared.ty.NamedTy.{NamedTy}
use Rattle.ir_core.specs.Definitions.{local_mark, type_names, repeated}
use Rattle.ir_names.specs.Firsts.{first_name}
use Rattle.ir_names.proofs.FirstLaws.{first_map}
use Rattle.ir_names.proofs.doubled.first_type.Goals as goal

pub returns : goal.returns
returns c =
    c.as_local.ensures
    ∙ ap (option_map local_mark) (c.in_ok-first.ensures.first ∙ ap (λ ns. first_name (repeated ns (map (λ (t : NamedTy). t.name) c.as_slice.result.now))) c.new-names.ensures ∙ ap (λ ts. first_name (repeated [] (map (λ (t : NamedTy). t.name) ts))) c.as_slice.ensures)
    ∙ sym (first_map local_mark (repeated [] (type_names c.args.whole.now)))
