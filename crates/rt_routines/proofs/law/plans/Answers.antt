use Rattle.rt_routines.proofs.Planned.{some_slots, few_slots, pointers_are}
use Rattle.rt_routines.proofs.law.plans.Goals as goal

pub returns : goal.returns
returns h = record {
  some = λ sel slot_draw plan shaped planned. some_slots sel shaped slot_draw plan planned;
  few = λ sel slot_draw plan shaped planned. few_slots sel shaped slot_draw plan planned;
  pointers = λ sel slot_draw plan shaped planned. pointers_are sel shaped slot_draw plan planned;
}
