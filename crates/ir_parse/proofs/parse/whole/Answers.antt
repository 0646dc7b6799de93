use Rattle.std.proofs.Common.{length, sym, ◌∙◌, ap}
use Rattle.std.proofs.lemmas.Bool.{eqb-true, eq-eqb}
use Rattle.ir_grammar.specs.Tokens.{kinds}
use Rattle.ir_parse.proofs.Whole.{whole_text, stray_behind_text}
use Rattle.ir_parse.proofs.parse.whole.Goals as goal

pub returns-clause-text : goal.returns-clause-text
returns-clause-text c =
    whole_text c.in_ok-module.module (kinds c.args.tokens.now) c.in_ok-module.rest.now c.in_ok-module.ensures
    (eqb-true (length c.in_ok-module.rest.now) 0 (sym c.is_empty.ensures ∙ c.if-not-is_empty.false))

pub returns-then-not-is_empty-clause-stray : goal.returns-then-not-is_empty-clause-stray
returns-then-not-is_empty-clause-stray c =
    stray_behind_text c.in_ok-module.module (kinds c.args.tokens.now) c.in_ok-module.rest.now c.in_ok-module.ensures
    (λ e. (let none = eq-eqb (length c.in_ok-module.rest.now) 0 (ap length e) in let some = c.is_empty.ensures in let not = c.if-not-is_empty.true in cc))
