use Rattle.std.proofs.Common.{List, map, ap, subst}
use Rattle.std.specs.Option.{option_copied}
use Rattle.ir_core.specs.declared.module.GlobalVar.{GlobalVar}
use Rattle.ir_core.specs.declared.module.Extern.{Extern}
use Rattle.ir_core.specs.Definitions.{variable_names, extern_names}
use Rattle.ir_names.specs.Firsts.{Adds}
use Rattle.ir_names.proofs.AddLaws.{adds_of, adds_stop, adds_more}
use Rattle.ir_names.proofs.doubled.add_front.Goals as goal

pub returns-in-Some : goal.returns-in-Some
returns-in-Some c =
    let globals = variable_names c.args.whole.now in
    adds_stop c.args.names.now c.add_all.new.self c.add_all.new.self globals (extern_names c.args.whole.now) c.in-Some.name.now
    (subst (λ r. Adds c.args.names.now c.add_all.new.self globals r) (ap option_copied c.in-Some.is)
    (adds_of c.args.names.now c.add_all.new.self _ globals c.in_ok-global.global (ap (λ gs. map (λ (g : GlobalVar). g.name) gs) c.as_slice.ensures) c.in_ok-global.ensures.first c.in_ok-global.ensures.added))

pub returns-in_ok-first-in-None : goal.returns-in_ok-first-in-None
returns-in_ok-first-in-None c =
    let globals = variable_names c.args.whole.now in
    let externs = extern_names c.args.whole.now in
    adds_more c.args.names.now c.add_all.new.self c.add_all-in-None.new.self globals externs (option_copied c.in_ok-first-in-None.first)
    (subst (λ r. Adds c.args.names.now c.add_all.new.self globals r) (ap option_copied c.in-None.is)
    (adds_of c.args.names.now c.add_all.new.self _ globals c.in_ok-global.global (ap (λ gs. map (λ (g : GlobalVar). g.name) gs) c.as_slice.ensures) c.in_ok-global.ensures.first c.in_ok-global.ensures.added))
    (adds_of c.add_all.new.self c.add_all-in-None.new.self _ externs c.in_ok-first-in-None.first (ap (λ es. map (λ (e : Extern). e.name) es) c.as_slice-in-None.ensures) c.in_ok-first-in-None.ensures.first c.in_ok-first-in-None.ensures.added)
