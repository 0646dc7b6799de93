use Rattle.std.proofs.Common.{◌≡◌, ◌++◌, ◌≤◌, take, map, codes}
use Rattle.ir_print.specs.Names.{with_commas}
use Rattle.ir_print.specs.Types.{type_text}
use Rattle.ir_print.proofs.types.+types.Given as goal

abbrev pub invariant-put_fields-others : goal.invariant-put_fields-others
invariant-put_fields-others l = record {
  some : 1 ≤ l.i;
  text : l.text ≡ (l.fn.text ++ codes "{ ") ++ with_commas (λ t. t) (map type_text (take l.i l.fields));
}
