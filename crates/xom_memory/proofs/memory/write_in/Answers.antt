use Rattle.std.proofs.Common.{sym, ap, ◌∙◌, length, slice_set, Some}
use Rattle.xom_memory.proofs.Lasting.{lasting_stays}
use Rattle.xom_memory.proofs.Places.{placed_holds, write_placed}
use Rattle.xom_memory.proofs.memory.write_in.Goals as goal

pub put-requires : goal.put-requires
put-requires c = placed_holds c.args.parts.now c.args.at (length c.args.bytes.now) c.in-Some.i c.index-parts-i.result (sym c.in-Some.ensures)

pub returns-in-Some-clause-wrote : goal.returns-in-Some-clause-wrote
returns-in-Some-clause-wrote c = let e = write_placed c.args.parts.now c.args.at c.args.bytes.now c.in-Some.i c.index-parts-i.result (sym c.in-Some.ensures) in e ∙ ap (λ s. Some (slice_set c.args.parts.now c.in-Some.i s)) (sym c.put.ensures)

pub returns-in-Some-clause-code : goal.returns-in-Some-clause-code
returns-in-Some-clause-code c =
    lasting_stays c.args.parts.now (slice_set c.args.parts.now c.in-Some.i c.put.new.self) c.args.at c.args.bytes.now
    (let e = write_placed c.args.parts.now c.args.at c.args.bytes.now c.in-Some.i c.index-parts-i.result (sym c.in-Some.ensures) in e ∙ ap (λ s. Some (slice_set c.args.parts.now c.in-Some.i s)) (sym c.put.ensures))
