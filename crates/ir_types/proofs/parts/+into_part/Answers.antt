use Rattle.std.proofs.Common.{◌∙◌, ◌-◌, ◌<◌, ap, sym, arith}
use denote.Hole.Carrier.{out}
use Rattle.ir_core.specs.declared.ty.Ty.{out-Ty}
use Rattle.ir_types.specs.Fitting.{part_at, part_or_none, part_named, part_in}
use Rattle.ir_types.proofs.LeadLaws.{part-replaced}
use Rattle.ir_types.proofs.parts.+into_part.Goals as goal

pub returns-in-Some : goal.returns-in-Some
unfolding out-Ty out
returns-in-Some t c =
    let some : 0 < c.args.names = omega arith in
    c.into_part.ensures
    ∙ ap (part_or_none (part_at (part_named c.args.tables.now.types c.args.known (c.args.names - 1)) (c.args.names - 1) c.args.known)) c.in-Some.ensures
    ∙ sym (part-replaced c.args.tables.now.types c.args.known c.args.names c.in-Named.name some)
    ∙ ap (part_in c.args.tables.now.types c.args.known c.args.names) (sym c.in-Named.is)

pub returns-in-None : goal.returns-in-None
unfolding out-Ty out
returns-in-None t c =
    let some : 0 < c.args.names = omega arith in
    ap (part_or_none (part_at (part_named c.args.tables.now.types c.args.known (c.args.names - 1)) (c.args.names - 1) c.args.known)) c.in-None.ensures
    ∙ sym (part-replaced c.args.tables.now.types c.args.known c.args.names c.in-Named.name some)
    ∙ ap (part_in c.args.tables.now.types c.args.known c.args.names) (sym c.in-Named.is)
