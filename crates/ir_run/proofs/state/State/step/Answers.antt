use Rattle.std.proofs.Common.{subst, Err}
use Rattle.ir_run.specs.declared.fault.Fault.{Fault}
use Rattle.ir_run.specs.Turns.{next_turn}
use Rattle.ir_run.specs.Answers.{Turns}
use Rattle.ir_run.proofs.Runs.{stepped_more, stepped_stop, stepped_lacks, stepped_wants}
use Rattle.ir_run.proofs.state.State.step.Goals as goal

pub returns-in-Ok-exchange-clause-stepped : goal.returns-in-Ok-exchange-clause-stepped
returns-in-Ok-exchange-clause-stepped g c =
    stepped_more c.args.program.now c.args.self.now c.turn.new.self c.exchange.new.self c.in-Ok.asked _ _ _ _ c.in-Ok-exchange.field-0 c.in-Ok.ensures c.in-Ok-exchange.ensures.exchanged

pub returns-in-Err-clause-stepped : goal.returns-in-Err-clause-stepped
returns-in-Err-clause-stepped g c =
    stepped_lacks (Unit {0}) c.args.program.now c.args.self.now c.turn.new.self c.exchange.new.self c.in-Ok.asked _ _ _ _ c.in-Err.e c.in-Ok.ensures c.in-Err.ensures.exchanged

pub returns-in-Err-Stop-clause-stepped : goal.returns-in-Err-Stop-clause-stepped
returns-in-Err-Stop-clause-stepped g c =
    stepped_stop c.args.program.now c.args.self.now c.turn.new.self _ _ c.in-Err-Stop.stop
    (subst (λ (e : Fault). Turns c.turn.new.self (next_turn c.args.program.now c.args.self.now) (Err e)) c.in-Err-Stop.field-0-is c.in-Err-Stop.ensures)

pub returns-in-Err-NoMemory-clause-stepped : goal.returns-in-Err-NoMemory-clause-stepped
returns-in-Err-NoMemory-clause-stepped g c = stepped_wants c.args.program.now c.args.self.now c.turn.new.self _ _
