use Rattle.std.proofs.Common.{subst}
use Rattle.ir_core.specs.Run.{source_run}
use Rattle.rd_compile.specs.Passed.{IsObjectOf}
use Rattle.rd_compile.specs.Program.{program_steps}
use Rattle.rd_compile.proofs.Suiting.{object_means, object_within}
use Rattle.rd_compile.proofs.compile.object.Goals as goal

pub returns : goal.returns
returns c =
    let m = c.args.valid.now.kept in
    record {
      passed = subst (λ s. IsObjectOf m s c.args.slot_seed c.args.reg_seed c.in_ok-o.o) c.in_ok-sel.ensures.is c.in_ok-o.ensures.is;
      well_formed = c.in_ok-o.ensures.well_formed;
      preserves =
          object_means m c.in_ok-sel.sel c.args.slot_seed c.args.reg_seed c.in_ok-o.o c.in_ok-sel.ensures.shaped c.in_ok-o.ensures.is c.in_ok-sel.ensures.names c.numbers_known.ensures (source_run m) c.in_ok-sel.ensures.keeps;
      within =
          object_within m c.in_ok-sel.sel c.args.slot_seed c.args.reg_seed c.in_ok-o.o c.in_ok-sel.ensures.shaped c.in_ok-o.ensures.is c.in_ok-sel.ensures.names c.numbers_known.ensures (source_run m) 0 (program_steps m)
          c.in_ok-sel.ensures.within;
    }
