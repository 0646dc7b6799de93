use Rattle.rt_routines.proofs.Planned.{link_once, links_end}
use Rattle.rt_routines.proofs.law.links.Goals as goal

pub returns : goal.returns
returns h = record {
  once = λ sel slot_draw plan shaped planned. link_once sel shaped slot_draw plan planned;
  range = λ plan. links_end plan;
}
