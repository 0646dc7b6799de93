use Rattle.std.proofs.Common.{◌≡◌, ◌++◌, ◌≤◌, take, map, codes}
use Rattle.ir_print.specs.Names.{with_commas}
use Rattle.ir_print.specs.Initialisers.{element_text}
use Rattle.ir_print.proofs.initialiser.+initialiser.Given as goal

abbrev pub invariant-put_bracketed-others : goal.invariant-put_bracketed-others
invariant-put_bracketed-others l = record {
  some : 1 ≤ l.i;
  text : l.text ≡ (l.fn.text ++ codes "[ ") ++ with_commas (λ t. t) (map element_text (take l.i l.elements));
}

abbrev pub invariant-put_braced-others : goal.invariant-put_braced-others
invariant-put_braced-others l = record {
  some : 1 ≤ l.i;
  text : l.text ≡ (l.fn.text ++ codes "{ ") ++ with_commas (λ t. t) (map element_text (take l.i l.elements));
}
