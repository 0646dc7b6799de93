use Rattle.std.proofs.Common.{refl, inr, ap, length}
use Rattle.rd_io.specs.declared.RunFault.TheVariants as fault
use Rattle.xom_machine.specs.declared.context.Context.{Context}
use Rattle.xom_machine.specs.Whole.{over}
use Rattle.xom_machine.proofs.Served.{done, cut_off, print_done, print_cut}
use Rattle.xom_machine.proofs.context.Context.put.Goals as goal

pub returns-in-Ok-clause-ran : goal.returns-in-Ok-clause-ran
returns-in-Ok-clause-ran g c = λ source. done _ _ _ _ _ _ (ap (λ (x : Context). over x c.args.memory.now) c.answer.ensures)
    (print_done (over c.args.self.now c.args.memory.now) c.args.after (length c.args.bytes.now) c.args.bytes.now source.left _ _ _ _ c.requires.read c.in-Ok.ensures.bytes c.in-Ok.ensures.number)

pub returns-in-Err-Failed-clause-ran : goal.returns-in-Err-Failed-clause-ran
returns-in-Err-Failed-clause-ran g c = λ source. cut_off _ _ _ _ fault.Output (
  refl,
  print_cut (over c.args.self.now c.args.memory.now) c.args.after (length c.args.bytes.now) c.args.bytes.now source.left _ _ _ _ c.requires.read c.requires.some c.in-Err-Failed.ensures.bytes c.in-Err-Failed.ensures.number,
)

pub returns-in-Err-NoMemory-clause-ran : goal.returns-in-Err-NoMemory-clause-ran
returns-in-Err-NoMemory-clause-ran g c = λ source. cut_off _ _ _ _ fault.NoMemory (inr (
  refl,
  print_cut (over c.args.self.now c.args.memory.now) c.args.after (length c.args.bytes.now) c.args.bytes.now source.left _ _ _ _ c.requires.read c.requires.some c.in-Err-NoMemory.ensures.bytes c.in-Err-NoMemory.ensures.number,
))
