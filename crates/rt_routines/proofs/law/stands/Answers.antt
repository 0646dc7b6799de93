use Rattle.rt_routines.proofs.Standing.{are_routines}
use Rattle.rt_routines.proofs.law.stands.Goals as goal

pub returns : goal.returns
returns h = λ sel slot_draw reg_draw plan placing funcs o shaped planned long assembled few.
    are_routines sel shaped slot_draw plan planned funcs long placing reg_draw o assembled few
