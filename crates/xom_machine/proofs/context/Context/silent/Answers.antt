use Rattle.std.proofs.Common.{refl}
use Rattle.xom_machine.proofs.Changed.{advanced, moved_alone}
use Rattle.xom_machine.proofs.context.Context.silent.Goals as goal

pub returns-in-One : goal.returns-in-One
returns-in-One c = advanced c.args.self.now c.args.memory.now _ _ _ _ c.requires c.instruction.ensures.unchanged c.in-One.ensures.value c.execute.ensures

pub returns-in-Short : goal.returns-in-Short
returns-in-Short c =
    advanced c.args.self.now c.args.memory.now _ _ _ _ c.requires c.instruction.ensures.unchanged c.in-Short.ensures.value (moved_alone _ _ _ _ (λ left printed taken. refl))

pub returns-in-Unknown : goal.returns-in-Unknown
returns-in-Unknown c =
    advanced c.args.self.now c.args.memory.now _ _ _ _ c.requires c.instruction.ensures.unchanged c.in-Unknown.ensures.value (moved_alone _ _ _ _ (λ left printed taken. refl))
