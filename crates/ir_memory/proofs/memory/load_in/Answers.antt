use Rattle.std.proofs.Common.{◌≡◌, ◌∙◌, sym, refl, length, Some, None, slice_get, arith}
use Rattle.std.proofs.lemmas.Grind.{common_steps}
use Rattle.std.proofs.lemmas.Option.{slice_get_read, slice_get_past}
use Rattle.ir_memory.proofs.MemoryLaws.{loads_there, loads_nowhere}
use Rattle.ir_memory.proofs.memory.load_in.Goals as goal

pub returns-in-Some : goal.returns-in-Some
returns-in-Some c =
    let all = c.args.objects.now in
    let there : slice_get all c.args.o ≡ Some c.in-Some.x.now = slice_get_read all (length all) c.args.o c.in-Some.x.now refl c.in-Some.ensures.lookup.3.0 c.in-Some.ensures.lookup.1 in
    c.load.ensures ∙ sym (loads_there all c.args.kind c.args.o c.args.d c.in-Some.x.now there)

pub returns-in-None : goal.returns-in-None
returns-in-None c =
    let none : slice_get c.args.objects.now c.args.o ≡ None = grind (arith, common_steps, slice_get_past) in
    sym (loads_nowhere c.args.objects.now c.args.kind c.args.o c.args.d none)
