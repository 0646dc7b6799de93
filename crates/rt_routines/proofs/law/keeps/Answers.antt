use Rattle.rt_routines.proofs.Planned.{six, are_sound}
use Rattle.rt_routines.proofs.law.keeps.Goals as goal

pub returns : goal.returns
returns h = record {
  six = λ plan. six plan;
  sound = λ sel slot_draw plan shaped planned. are_sound sel shaped slot_draw plan planned;
}
