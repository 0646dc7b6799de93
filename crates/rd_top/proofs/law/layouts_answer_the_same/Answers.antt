use Rattle.std.proofs.Common.{sym, ◌∙◌}
use Rattle.obj_core.specs.Layout.{layout}
use Rattle.obj_lay.proofs.hidden.Images.{hidden_layout, hidden_replies}
use Rattle.rd_top.proofs.Alike.{answers_alike}
use Rattle.rd_top.proofs.law.layouts_answer_the_same.Goals as goal

pub returns : goal.returns
returns c = record {
  object = λ o well seed. answers_alike (layout o seed) o (hidden_layout o well seed) (hidden_replies o well seed);
  each_other = λ o well seed other input events order straight.
      answers_alike (layout o seed) o (hidden_layout o well seed) (hidden_replies o well seed) input events order straight ∙
      sym (answers_alike (layout o other) o (hidden_layout o well other) (hidden_replies o well other) input events order straight);
}
