use Rattle.rt_routines.proofs.Planned.{some_slots, few_slots}
use Rattle.rd_compile.proofs.Joining.{linked_seen, few_seen, assembled}
use Rattle.rd_compile.proofs.object.joined.Goals as goal

pub routines-requires-clause-some : goal.routines-requires-clause-some
routines-requires-clause-some c = some_slots c.args.sel.now c.requires.chosen.shaped c.args.slot_seed c.args.slots.now c.requires.chosen.plan

pub routines-requires-clause-few : goal.routines-requires-clause-few
routines-requires-clause-few c = few_slots c.args.sel.now c.requires.chosen.shaped c.args.slot_seed c.args.slots.now c.requires.chosen.plan

pub assemble-requires-clause-few : goal.assemble-requires-clause-few
assemble-requires-clause-few c =
    few_seen c.args.sel.now c.args.slot_seed c.args.reg_seed c.args.slots.now c.args.placing c.args.functions c.in_ok-routines.routines c.requires.chosen c.requires.functions c.in_ok-routines.ensures.is

pub assemble-requires-clause-linked : goal.assemble-requires-clause-linked
assemble-requires-clause-linked c =
    linked_seen c.args.sel.now c.args.slot_seed c.args.reg_seed c.args.slots.now c.args.placing c.args.functions c.in_ok-routines.routines c.requires.chosen c.requires.functions c.in_ok-routines.ensures.is

pub returns : goal.returns
returns c =
    assembled c.args.sel.now c.args.slot_seed c.args.reg_seed c.args.slots.now c.args.placing c.args.functions c.in_ok-routines.routines c.requires.chosen c.requires.functions c.in_ok-routines.ensures.is
    c.assemble.result c.assemble.ensures.functions c.assemble.ensures.slots c.assemble.ensures.ro c.assemble.ensures.rw c.assemble.ensures.slot_seed c.assemble.ensures.reg_seed
