use Rattle.std.proofs.Common.{rules, ◌≡◌, ◌∙◌, sym, ap, subst, List, Option, Some, length, not}
use Rattle.std.specs.Prelude.{slice_get}
use Rattle.x86_core.specs.declared.instr.Instr.{Instr}
use Rattle.obj_core.specs.declared.object.Func.{Func}
use Rattle.obj_core.specs.declared.object.Slot.{Slot}
use Rattle.guard_check.specs.Form.{comes_outside}
use Rattle.guard_check.specs.Checking.{IsKnown}
use Rattle.obj_core.specs.Disassembly.{disassembly_of}
use Rattle.guard_check.proofs.Knowing.{known_at, start_at, code_at}
use Rattle.guard_check.proofs.Ahead.{twice_not}
use Rattle.guard_check.proofs.check.is_good_back.Goals as goal

pub is_inside-requires-clause-known : goal.is_inside-requires-clause-known
is_inside-requires-clause-known c =
    let got : slice_get c.args.o.now.functions c.args.back.function ≡ Some c.in-Some.function.now = search rules in
    subst (λ (ss : List Slot). IsKnown (length ss) c.in-Some.function.now) (sym c.as_slice.ensures) (known_at _ c.args.o.now.functions c.args.back.function c.in-Some.function.now c.requires.known got)

pub is_inside-requires-clause-start : goal.is_inside-requires-clause-start
is_inside-requires-clause-start c =
    let got : slice_get c.args.o.now.functions c.args.back.function ≡ Some c.in-Some.function.now = search rules in
    sym (start_at c.args.o.now.functions c.args.back.function c.args.back.offset c.in-Some.function.now got) ∙ c.requires.start

pub returns-in-Some : goal.returns-in-Some
returns-in-Some c =
    let got : slice_get c.args.o.now.functions c.args.back.function ≡ Some c.in-Some.function.now = search rules in
    let f = c.in-Some.function.now in
    let off = c.args.back.offset in
    let slots = c.args.o.now.slots in
    ap not c.is_inside.ensures ∙ twice_not _ ∙
    ap (λ (ss : List Slot). comes_outside ss (Some f) (Some (disassembly_of f.bytes)) off) c.as_slice.ensures ∙
    ap (λ (x : Option Func). comes_outside slots x (Some (disassembly_of f.bytes)) off) (sym got) ∙
    ap (λ (x : Option (List Instr)). comes_outside slots (slice_get c.args.o.now.functions c.args.back.function) x off) (sym (code_at c.args.o.now.functions c.args.back.function f got))
