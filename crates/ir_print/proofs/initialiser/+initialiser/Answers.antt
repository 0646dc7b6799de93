use Rattle.std.proofs.Common.{rules, ap, sym, subst, ◌≡◌, ◌++◌, ◌∙◌, List, ℕ, map, arith}
use Rattle.std.specs.Prelude.{OnOk, codes}
use Rattle.ir_print.specs.Initialisers.{init_text, element_text}
use Rattle.ir_print.specs.Types.{braced}
use Rattle.ir_print.proofs.Commas.{first_put, next_put}
use Rattle.ir_print.proofs.Folds.{zero_text, packed_text}
use Rattle.ir_print.proofs.initialiser.+initialiser.Goals as goal

pub put_bracketed-others-init : goal.put_bracketed-others-init
put_bracketed-others-init t c = record {
  some = omega arith;
  text = first_put element_text c.args.elements.now c.index-elements-0.result _ _ c.index-elements-0.is (search rules) (c.in_ok-put_element.ensures ∙ ap (λ t. t ++ element_text c.index-elements-0.result) c.in_ok-append.ensures.put);
}

pub put_bracketed-others-preserved : goal.put_bracketed-others-preserved
put_bracketed-others-preserved t c = record {
  some = omega arith;
  text = next_put element_text c.args.elements.now c.others.i c.index-elements-i.result _ _ _ _ c.index-elements-i.is c.others.invariant.some (search rules) c.others.invariant.text c.in_ok-append-2.ensures.put c.in_ok-put_element-2.ensures;
}

pub put_braced-others-init : goal.put_braced-others-init
put_braced-others-init t c = record {
  some = omega arith;
  text = first_put element_text c.args.elements.now c.index-elements-0.result _ _ c.index-elements-0.is (search rules) (c.in_ok-put_element.ensures ∙ ap (λ t. t ++ element_text c.index-elements-0.result) c.in_ok-append.ensures.put);
}

pub put_braced-others-preserved : goal.put_braced-others-preserved
put_braced-others-preserved t c = record {
  some = omega arith;
  text = next_put element_text c.args.elements.now c.others.i c.index-elements-i.result _ _ _ _ c.index-elements-i.is c.others.invariant.some (search rules) c.others.invariant.text c.in_ok-append-2.ensures.put c.in_ok-put_element-2.ensures;
}

pub put_init-returns-in-Zero : goal.put_init-returns-in-Zero
put_init-returns-in-Zero t c =
    let e : init_text c.args.init.now ≡ codes "zeroinitializer" = ap init_text c.in-Zero.is ∙ zero_text in
    subst (λ (word : List ℕ). OnOk c.append.result (c.append.new.self ≡ c.args.text.now ++ word)) (sym e) c.append.ensures.put

pub put_init-returns-in-Packed : goal.put_init-returns-in-Packed
put_init-returns-in-Packed t c =
    let e : init_text c.args.init.now ≡ codes "<" ++ braced (map element_text c.in-Packed.elements) ++ codes ">" = ap init_text c.in-Packed.is ∙ packed_text c.in-Packed.elements in
    let s : c.as_slice-in-Packed.result.now ≡ c.in-Packed.elements = c.as_slice-in-Packed.ensures in
    subst (λ (word : List ℕ). OnOk c.put_angled.result (c.put_angled.new.text ≡ c.args.text.now ++ word)) (sym (e ∙ ap (λ es. codes "<" ++ braced (map element_text es) ++ codes ">") (sym s))) c.put_angled.ensures
