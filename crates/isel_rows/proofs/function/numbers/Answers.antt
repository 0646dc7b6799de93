use Rattle.std.proofs.Common.{[], ◌∷◌, ◌++◌, ◌+◌, ◌-◌, ◌∙◌, ap, sym, append_assoc}
use Rattle.isel_rows.specs.Functions.{numbers_from}
use Rattle.isel_rows.proofs.CountLaws.{numbers_step}
use Rattle.isel_rows.proofs.function.numbers.Goals as goal

pub loop-k-preserved : goal.loop-k-preserved
loop-k-preserved c =
    let rest = numbers_from (c.loop-k.k + 1) (c.args.count - (c.loop-k.k + 1)) in
    ap (λ l. l ++ rest) (c.in_ok-add.ensures.put ∙ ap (λ n. c.loop-k.all ++ n ∷ []) c.in_ok-small.ensures)
    ∙ append_assoc c.loop-k.all (c.loop-k.k ∷ []) rest ∙ ap (λ l. c.loop-k.all ++ l) (sym (numbers_step c.loop-k.k c.args.count c.loop-k-test.true)) ∙ c.loop-k.invariant
