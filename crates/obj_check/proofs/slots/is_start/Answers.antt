use Rattle.std.proofs.Common.{ap, sym, ◌∙◌, ◌≡◌, false, arith}
use Rattle.std.proofs.lemmas.Bool.Decides.{nat_tests}
use Rattle.std.specs.Prelude.{nat_lt, length}
use Rattle.obj_check.specs.declared.notes.Notes.{Notes}
use Rattle.obj_check.specs.Marked.{marked}
use Rattle.obj_check.proofs.Functions.{same_lengths, start_at, start_past}
use Rattle.obj_check.proofs.slots.is_start.Goals as goal

pub bounds-noted-function : goal.bounds-noted-function
bounds-noted-function c = let same = same_lengths c.args.functions.now c.args.noted.now c.requires in omega arith

pub returns-then-function-functions : goal.returns-then-function-functions
returns-then-function-functions c =
    let same = same_lengths c.args.functions.now c.args.noted.now c.requires in
    c.is_marked.ensures ∙ ap (λ (x : Notes). marked x.starts c.args.place.offset) (sym c.index-noted-function.is) ∙
    start_at c.args.functions.now c.args.noted.now c.args.place.function c.args.place.offset c.index-noted-function.result c.requires (omega arith) c.index-noted-function.is

pub returns-else-function-functions : goal.returns-else-function-functions
returns-else-function-functions c =
    let past : nat_lt c.args.place.function (length c.args.functions.now) ≡ false = grind (arith, nat_tests) in
    past ∙ start_past c.args.functions.now c.args.place.function c.args.place.offset (omega arith)
