use Rattle.std.proofs.Common.{sym, subst, rules}
use Rattle.elf_file.specs.Sound.{IsSound}
use Rattle.obj_core.specs.Layout.{layout}
use Rattle.obj_lay.specs.Hidden.{ShowsObject, HasDataOf, RepliesAsObject, ShowTheSame}
use Rattle.obj_lay.proofs.Made.{made}
use Rattle.obj_lay.proofs.Sound.{checked_sound}
use Rattle.obj_lay.proofs.hidden.Images.{layout_shows, layout_replies, layout_data, layouts_alike}
use Rattle.obj_lay.proofs.image.lay.Goals as goal

pub returns-clause-layout : goal.returns-clause-layout
returns-clause-layout c =
    made c.args.o.now.object c.args.layout_seed c.in_ok-code.code.plan c.in_ok-positions.positions c.number-entry.result c.in_ok-slots.slots c.in_ok-code.code.segment c.in_ok-segments.segments c.in_ok-code.ensures.plan (search rules) (search rules) (search rules) (search rules) (search rules)

pub returns-clause-sound : goal.returns-clause-sound
returns-clause-sound c = subst IsSound (sym (returns-clause-layout c)) (checked_sound c.args.o.now.object c.args.layout_seed c.args.o.now.well_formed)

pub returns-clause-shows : goal.returns-clause-shows
returns-clause-shows c =
    let o = c.args.o.now.object in
    subst (λ i. ShowsObject i o) (sym (returns-clause-layout c)) (layout_shows o c.args.o.now.well_formed c.args.layout_seed)

pub returns-clause-replies : goal.returns-clause-replies
returns-clause-replies c =
    let o = c.args.o.now.object in
    subst (λ i. RepliesAsObject i o) (sym (returns-clause-layout c)) (layout_replies o c.args.o.now.well_formed c.args.layout_seed)

pub returns-clause-data_of : goal.returns-clause-data_of
returns-clause-data_of c =
    let o = c.args.o.now.object in
    subst (λ i. HasDataOf i o) (sym (returns-clause-layout c)) (layout_data o c.args.layout_seed)

pub returns-clause-lockstep : goal.returns-clause-lockstep
returns-clause-lockstep c other =
    let o = c.args.o.now.object in
    subst (λ i. ShowTheSame i (layout o other) o) (sym (returns-clause-layout c)) (layouts_alike o c.args.o.now.well_formed c.args.layout_seed other)
