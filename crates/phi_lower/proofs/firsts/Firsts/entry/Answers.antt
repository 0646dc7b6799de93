use Rattle.std.proofs.Common.{◌∙◌, ap, sym, Some, None}
use Rattle.std.specs.Option.{option_copied}
use Rattle.ir_core.specs.declared.instruction.Entry.{Entry}
use Rattle.ir_core.specs.Names.{same_name, first_where}
use Rattle.phi_lower.proofs.EntryLaws.{entry_found, first_is}
use Rattle.phi_lower.proofs.firsts.Firsts.entry.Goals as goal

pub returns-in-Some : goal.returns-in-Some
returns-in-Some c =
    ap option_copied (c.copied.ensures ∙ c.get.ensures.value)
    ∙ entry_found c.self.inside.entries c.self.inside.names c.args.block.now (Some c.in-Some.k) c.self.invariant.1 (sym c.in-Some.is ∙ c.number.ensures)
    ∙ ap (first_where (λ (g : Entry). same_name g.from c.args.block.now)) c.self.invariant.0 ∙ first_is c.self.inside.whole.now c.args.block.now
    ∙ ap (first_where (λ (g : Entry). same_name g.from c.args.block.now)) c.self.view_is

pub returns-in-None : goal.returns-in-None
returns-in-None c =
    entry_found c.self.inside.entries c.self.inside.names c.args.block.now None c.self.invariant.1 (sym c.in-None.is ∙ c.number.ensures)
    ∙ ap (first_where (λ (g : Entry). same_name g.from c.args.block.now)) c.self.invariant.0 ∙ first_is c.self.inside.whole.now c.args.block.now
    ∙ ap (first_where (λ (g : Entry). same_name g.from c.args.block.now)) c.self.view_is
