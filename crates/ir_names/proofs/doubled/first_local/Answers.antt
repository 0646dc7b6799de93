use Rattle.std.proofs.Common.{List, map, ap, subst, ◌∙◌}
use Rattle.std.specs.List.{flat_map}
use Rattle.std.specs.Option.{option_copied}
use Rattle.ir_core.specs.declared.module.Param.{Param}
use Rattle.ir_core.specs.Definitions.{param_names, block_names, local_names, repeated}
use Rattle.ir_names.specs.Firsts.{first_name, Adds}
use Rattle.ir_names.proofs.AddLaws.{adds_of, adds_stop, adds_more}
use Rattle.ir_names.proofs.doubled.first_local.Goals as goal

pub returns-in-Some : goal.returns-in-Some
returns-in-Some c =
    let params = param_names c.args.f.now in
    let start = c.new-names.result in
    (adds_stop start c.add_all.new.self c.add_all.new.self params (flat_map block_names c.args.f.now.blocks) c.in-Some.name.now
    (subst (λ r. Adds start c.add_all.new.self params r) (ap option_copied c.in-Some.is)
    (adds_of start c.add_all.new.self _ params c.in_ok-param.param (ap (λ ps. map (λ (p : Param). p.name) ps) c.as_slice.ensures) c.in_ok-param.ensures.first c.in_ok-param.ensures.added))).first
    ∙ ap (λ ns. first_name (repeated ns (local_names c.args.f.now))) c.new-names.ensures

pub returns : goal.returns
returns c =
    let params = param_names c.args.f.now in
    let start = c.new-names.result in
    (adds_more start c.add_all.new.self c.add_blocks.new.names params (flat_map block_names c.args.f.now.blocks) (option_copied c.in_ok-first-in-None.first)
    (subst (λ r. Adds start c.add_all.new.self params r) (ap option_copied c.in-None.is)
    (adds_of start c.add_all.new.self _ params c.in_ok-param.param (ap (λ ps. map (λ (p : Param). p.name) ps) c.as_slice.ensures) c.in_ok-param.ensures.first c.in_ok-param.ensures.added))
    (subst (λ bs. Adds c.add_all.new.self c.add_blocks.new.names (flat_map block_names bs) (option_copied c.in_ok-first-in-None.first)) c.as_slice-in-None.ensures c.in_ok-first-in-None.ensures)).first
    ∙ ap (λ ns. first_name (repeated ns (local_names c.args.f.now))) c.new-names.ensures
