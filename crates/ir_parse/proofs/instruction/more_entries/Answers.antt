use Rattle.std.proofs.Common.{◌∙◌, sym}
use Rattle.ir_grammar.specs.Tokens.{kinds}
use Rattle.ir_grammar.specs.Grammar.{◌▹◌}
use Rattle.ir_grammar.specs.Reading.{read, put_row}
use Rattle.ir_syntax.specs.Metadata.{attach, attaches}
use Rattle.ir_syntax.specs.Instructions.{entry, entry_rows}
use Rattle.ir_parse.proofs.Carried.{carried}
use Rattle.ir_parse.proofs.Loops.{entry_shorter, entry_more, entry_fault, entry_last_fault}
use Rattle.ir_parse.proofs.instruction.more_entries.Goals as goal

pub commas-smaller : goal.commas-smaller
commas-smaller c =
    entry_shorter c.commas.rest.now c.in_ok-behind.behind.now c.in_ok-entry.behind.now c.in_ok-entry.entry c.in_ok-behind.ensures c.in_ok-entry.ensures

pub commas-preserved : goal.commas-preserved
commas-preserved c =
    entry_more c.commas.all c.add.new.self (kinds c.commas.rest.now) (kinds c.in_ok-behind.behind.now) (kinds c.in_ok-entry.behind.now) c.in_ok-entry.entry c.in_ok-behind.ensures
    c.in_ok-entry.ensures c.in-Ok.ensures.put
    ∙ c.commas.invariant

pub returns-in_err-entry : goal.returns-in_err-entry
returns-in_err-entry c =
    carried _ c.from_residual-in_err-entry.result c.in_err-entry.field-0.0 (read entry (kinds c.in_ok-behind.behind.now)) (put_row c.args.entries (read entry_rows (kinds c.args.tokens.now)))
    c.from_residual-in_err-entry.ensures.1 c.in_err-entry.ensures
    (λ left e.
    sym c.commas.invariant
    ∙ entry_fault c.commas.all (kinds c.commas.rest.now) (kinds c.in_ok-behind.behind.now) left c.in_ok-behind.ensures (sym c.at_entry.ensures ∙ c.if-not-at_entry.false) e)

pub returns-in_err-behind-2 : goal.returns-in_err-behind-2
returns-in_err-behind-2 c =
    carried _ c.from_residual-in_err-behind-2.result c.in_err-behind-2.field-0.0 (read (attach ▹ attaches) (kinds c.in_ok-behind.behind.now))
    (put_row c.args.entries (read entry_rows (kinds c.args.tokens.now))) c.from_residual-in_err-behind-2.ensures.1 c.in_err-behind-2.ensures
    (λ left e.
    sym c.commas.invariant
    ∙ entry_last_fault c.commas.all (kinds c.commas.rest.now) (kinds c.in_ok-behind.behind.now) left c.in_ok-behind.ensures (sym c.at_entry.ensures ∙ c.if-not-at_entry.true) e)
