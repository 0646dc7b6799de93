use Rattle.xom_machine.specs.Whole.{over}
use Rattle.xom_machine.proofs.Acts.{same_change}
use Rattle.xom_machine.proofs.Changed.{kernel_moved, led_moved, call_wanted}
use Rattle.xom_machine.proofs.context.Context.change.Goals as goal

pub returns-in-Kernel : goal.returns-in-Kernel
returns-in-Kernel c =
    kernel_moved c.args.instr.now c.args.after (over c.args.self.now c.args.memory.now) _ (over c.args.self.now c.args.memory.now) c.requires
    (same_change (over c.args.self.now c.args.memory.now) _ _ _ _ c.apply.ensures.regs c.apply.ensures.flags)
    _ c.in-Kernel.ensures.next

pub returns-in-Ok : goal.returns-in-Ok
returns-in-Ok c =
    led_moved c.args.instr.now c.args.after (over c.args.self.now c.args.memory.now) _ _ c.requires
    (same_change (over c.args.self.now c.args.memory.now) _ _ _ _ c.apply.ensures.regs c.apply.ensures.flags)
    _ c.apply.result c.apply.ensures.next c.in_default.not-Kernel c.in-Ok.ensures.led

pub returns-in-Err : goal.returns-in-Err
returns-in-Err c =
    call_wanted c.args.instr.now c.args.after (over c.args.self.now c.args.memory.now) _ _ c.requires
    (same_change (over c.args.self.now c.args.memory.now) _ _ _ _ c.apply.ensures.regs c.apply.ensures.flags)
    c.apply.result _ c.apply.ensures.next c.in-Err.ensures.calls c.in-Err.ensures.led
