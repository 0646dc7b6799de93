use Rattle.data_place.proofs.HoldLaws.{rooms_seen, held_seen}
use Rattle.data_place.proofs.placing.Goals as goal

pub addresses-requires : goal.addresses-requires
addresses-requires c = rooms_seen c.args.whole.now c.requires.known c.args.context.now c.requires.same c.as_slice.result.now c.as_slice.ensures

pub returns : goal.returns
returns c =
    held_seen c.args.whole.now c.requires.known c.args.context.now c.requires.same c.args.pointers.now c.as_slice-2.result.now c.in_ok-globals.globals c.in_ok-ro.ro c.in_ok-rw.rw
    c.as_slice.result.now c.as_slice-3.result.now c.as_slice-4.result.now c.as_slice.ensures c.as_slice-3.ensures c.as_slice-4.ensures c.as_slice-2.ensures
    c.in_ok-globals.ensures c.in_ok-ro.ensures c.in_ok-rw.ensures
