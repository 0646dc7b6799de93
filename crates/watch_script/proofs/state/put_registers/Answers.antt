use Rattle.x86_core.specs.declared.reg.Reg.TheVariants.{Rax}
use Rattle.watch_script.specs.ShowText.{registers}
use Rattle.watch_script.proofs.Lines.{one_register_more}
use Rattle.watch_script.proofs.state.put_registers.Goals as goal

pub loop-r-preserved : goal.loop-r-preserved
loop-r-preserved c = one_register_more registers c.loop-r.r-index Rax c.args.regs.now c.loop-r.text c.put_register.new.text _ c.loop-r-test.true c.in_ok-put_register.ensures c.loop-r.invariant
