use Rattle.data_place.specs.Placed.{first_contents}
use Rattle.rd_compile.proofs.Choosing.{are_chosen}
use Rattle.rd_compile.proofs.Suiting.{object_well_formed}
use Rattle.rd_compile.proofs.object.object_of.Goals as goal

pub joined-requires-clause-chosen : goal.joined-requires-clause-chosen
joined-requires-clause-chosen c =
    are_chosen c.args.sel.now c.args.slot_seed c.args.reg_seed c.in_ok-slots.slots c.in_ok-placing.placing (first_contents c.args.valid.now.kept c.in_ok-placing.placing.globals c.in_ok-slots.slots.pointers)
    c.requires c.in_ok-slots.ensures c.in_ok-placing.ensures.holds c.in_ok-placing.ensures.few

pub returns-clause-is : goal.returns-clause-is
returns-clause-is c = record { slots = c.in_ok-slots.slots; placing = c.in_ok-placing.placing; plan = c.in_ok-slots.ensures; holds = c.in_ok-placing.ensures.holds; few = c.in_ok-placing.ensures.few; assembled = c.in_ok-o.ensures }

pub returns-clause-well_formed : goal.returns-clause-well_formed
returns-clause-well_formed c =
    object_well_formed c.args.valid.now.kept c.args.sel.now c.args.slot_seed c.args.reg_seed c.in_ok-o.o c.requires
    (record { slots = c.in_ok-slots.slots; placing = c.in_ok-placing.placing; plan = c.in_ok-slots.ensures; holds = c.in_ok-placing.ensures.holds; few = c.in_ok-placing.ensures.few; assembled = c.in_ok-o.ensures })
    c.numbers_known.ensures
