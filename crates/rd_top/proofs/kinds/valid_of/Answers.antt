use Rattle.std.proofs.Common.{subst, sym}
use Rattle.ir_core.specs.Refusals.{IsValid}
use Rattle.ir_print.specs.ReadsBack.{ReadsBack}
use Rattle.rd_top.proofs.kinds.valid_of.Goals as goal

pub returns-in-Ok-clause-valid : goal.returns-in-Ok-clause-valid
returns-in-Ok-clause-valid c = record {
  text_of = subst (ReadsBack c.args.text.now) (sym c.in-Ok.ensures.kept) c.in_ok-whole.ensures.text;
  valid = subst IsValid (sym c.in-Ok.ensures.kept) (record { built = c.in_ok-whole.ensures.built; accepted = c.in-Ok.ensures.accepted });
}
