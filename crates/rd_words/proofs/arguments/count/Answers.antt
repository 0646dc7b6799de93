use Rattle.std.proofs.Common.{◌∙◌, sym, ap, arith, string_bytes}
use Rattle.rd_words.specs.Read.{count_behind, arguments_of}
use Rattle.rd_words.proofs.Steps.{count_stuck, count_more, count_end, left, none_left}
use Rattle.rd_words.proofs.arguments.count.Goals as goal

pub returns-in-None : goal.returns-in-None
returns-in-None c = sym (count_stuck _ _ (left string_bytes _ (sym c.is_empty.ensures ∙ c.loop-rest-test.true)) c.in-None.ensures.next) ∙ c.loop-rest.invariant.counted

pub loop-rest-preserved : goal.loop-rest-preserved
loop-rest-preserved c = record {
  few = (let fewer = c.in-Some.ensures.shorter in let few = c.loop-rest.invariant.few in omega (arith, fewer, few));
  counted = count_more _ _ _ _ c.in-Some.ensures.next ∙ c.loop-rest.invariant.counted;
}

pub returns : goal.returns
returns c =
    count_end _ ∙ ap (λ ws. count_behind c.loop-rest.count (arguments_of ws)) (sym (none_left string_bytes _ (sym c.is_empty.ensures ∙ c.loop-rest-test.false))) ∙ c.loop-rest.invariant.counted
