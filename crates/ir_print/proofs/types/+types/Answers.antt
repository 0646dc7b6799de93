use Rattle.std.proofs.Common.{rules, ap, ◌++◌, ◌∙◌, arith}
use Rattle.ir_print.specs.Types.{type_text}
use Rattle.ir_print.proofs.Commas.{first_put, next_put}
use Rattle.ir_print.proofs.types.+types.Goals as goal

pub put_fields-others-init : goal.put_fields-others-init
put_fields-others-init t c = record {
  some = omega arith;
  text = first_put type_text c.args.fields.now c.index-fields-0.result _ _ c.index-fields-0.is (search rules) (c.in_ok-put_type.ensures ∙ ap (λ t. t ++ type_text c.index-fields-0.result) c.in_ok-append.ensures.put);
}

pub put_fields-others-preserved : goal.put_fields-others-preserved
put_fields-others-preserved t c = record {
  some = omega arith;
  text = next_put type_text c.args.fields.now c.others.i c.index-fields-i.result _ _ _ _ c.index-fields-i.is c.others.invariant.some (search rules) c.others.invariant.text c.in_ok-append-2.ensures.put c.in_ok-put_type-2.ensures;
}
