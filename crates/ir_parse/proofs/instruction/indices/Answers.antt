use Rattle.std.proofs.Common.{◌∙◌, sym}
use Rattle.ir_grammar.specs.Tokens.{kinds}
use Rattle.ir_grammar.specs.Grammar.{◌▹◌}
use Rattle.ir_grammar.specs.Reading.{read}
use Rattle.ir_syntax.specs.Metadata.{attach, attaches}
use Rattle.ir_syntax.specs.Instructions.{index, indices}
use Rattle.ir_parse.proofs.Carried.{carried}
use Rattle.ir_parse.proofs.Loops.{index_shorter, index_more, index_fault, index_last_fault}
use Rattle.ir_parse.proofs.instruction.indices.Goals as goal

pub commas-smaller : goal.commas-smaller
commas-smaller c =
    index_shorter c.commas.rest.now c.in_ok-behind.behind.now c.in_ok-index.behind.now c.in_ok-index.index c.in_ok-behind.ensures c.in_ok-index.ensures

pub commas-preserved : goal.commas-preserved
commas-preserved c =
    index_more c.commas.all c.add.new.self (kinds c.commas.rest.now) (kinds c.in_ok-behind.behind.now) (kinds c.in_ok-index.behind.now) c.in_ok-index.index c.in_ok-behind.ensures
    c.in_ok-index.ensures c.in-Ok.ensures.put
    ∙ c.commas.invariant

pub returns-in_err-index : goal.returns-in_err-index
unfolding indices
returns-in_err-index c =
    carried _ c.from_residual-in_err-index.result c.in_err-index.field-0.0 (read index (kinds c.in_ok-behind.behind.now)) (read indices (kinds c.args.tokens.now))
    c.from_residual-in_err-index.ensures.1 c.in_err-index.ensures
    (λ left e.
    sym c.commas.invariant
    ∙ index_fault c.commas.all (kinds c.commas.rest.now) (kinds c.in_ok-behind.behind.now) left c.in_ok-behind.ensures (sym c.at_index.ensures ∙ c.if-not-at_index.false) e)

pub returns-in_err-behind-2 : goal.returns-in_err-behind-2
unfolding indices
returns-in_err-behind-2 c =
    carried _ c.from_residual-in_err-behind-2.result c.in_err-behind-2.field-0.0 (read (attach ▹ attaches) (kinds c.in_ok-behind.behind.now))
    (read indices (kinds c.args.tokens.now)) c.from_residual-in_err-behind-2.ensures.1 c.in_err-behind-2.ensures
    (λ left e.
    sym c.commas.invariant
    ∙ index_last_fault c.commas.all (kinds c.commas.rest.now) (kinds c.in_ok-behind.behind.now) left c.in_ok-behind.ensures (sym c.at_index.ensures ∙ c.if-not-at_index.true) e)
