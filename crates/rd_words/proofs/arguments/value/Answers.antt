use Rattle.std.proofs.Common.{◌∙◌, sym, ap, string_bytes}
use Rattle.std.specs.Option.{option_copied, option_to_list}
use Rattle.rd_words.specs.Read.{value_behind, arguments_of}
use Rattle.rd_words.proofs.Steps.{value_stuck, one_more, value_end, left, none_left}
use Rattle.rd_words.proofs.arguments.value.Goals as goal

pub returns-in-None : goal.returns-in-None
returns-in-None c = sym (value_stuck c.args.option.now (option_to_list (option_copied c.loop-rest.found)) _ (left string_bytes _ (sym c.is_empty.ensures ∙ c.loop-rest-test.true)) c.in-None.ensures.next) ∙ c.loop-rest.invariant

pub returns-in-None-with_value : goal.returns-in-None-with_value
returns-in-None-with_value c =
    sym (c.in-None-with_value.ensures _) ∙ ap (value_behind c.args.option.now (option_to_list (option_copied c.loop-rest.found))) (sym (one_more _ _ _ c.in-Some.ensures.next)) ∙ c.loop-rest.invariant

pub loop-rest-preserved : goal.loop-rest-preserved
loop-rest-preserved c =
    sym (c.in-Some-with_value.ensures _) ∙ ap (value_behind c.args.option.now (option_to_list (option_copied c.loop-rest.found))) (sym (one_more _ _ _ c.in-Some.ensures.next)) ∙ c.loop-rest.invariant

pub returns : goal.returns
returns c =
    value_end c.args.option.now (option_copied c.loop-rest.found) ∙ ap (λ ws. value_behind c.args.option.now (option_to_list (option_copied c.loop-rest.found)) (arguments_of ws)) (sym (none_left string_bytes _ (sym c.is_empty.ensures ∙ c.loop-rest-test.false))) ∙ c.loop-rest.invariant
