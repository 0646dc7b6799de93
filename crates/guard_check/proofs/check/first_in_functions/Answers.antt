use Rattle.std.proofs.Common.{◌≡◌, ◌≤◌, ◌+◌, ℕ, length, drop, ap, sym, ◌∙◌, subst, arith, List, Option, Some}
use Rattle.std.specs.Prelude.{slice_get}
use Rattle.x86_core.specs.declared.instr.Instr.{Instr}
use Rattle.obj_core.specs.declared.object.Func.{Func}
use Rattle.obj_core.specs.declared.object.Slot.{Slot}
use Rattle.obj_core.specs.WellFormed.{Violation, Function, or_else, in_functions}
use Rattle.obj_core.proofs.Pieces.{get_some}
use Rattle.guard_check.specs.Checking.{IsKnown, AreKnown, disassemblies_of, rule_number, failing, first_of}
use Rattle.obj_core.specs.Disassembly.{disassembly_of}
use Rattle.guard_check.proofs.Knowing.{known_at, at_function, first_more}
use Rattle.guard_check.proofs.check.first_in_functions.Goals as goal

pub first_in_function-requires : goal.first_in_function-requires
first_in_function-requires c =
    let fs = c.as_slice-functions.result.now in
    let f = c.index-functions-n.result in
    let got : slice_get fs c.loop-n.n ≡ Some f = get_some fs c.loop-n.n f (omega arith) c.index-functions-n.is in
    let known = subst (λ (gs : List Func). AreKnown (length c.args.o.now.slots) gs) (sym c.as_slice-functions.ensures) c.requires.known in
    subst (λ (ss : List Slot). IsKnown (length ss) f) (sym c.as_slice-slots.ensures) (known_at (length c.args.o.now.slots) fs c.loop-n.n f known got)

-- the functions before this one pass
pub returns-in-Some : goal.returns-in-Some
returns-in-Some c =
    let fs = c.as_slice-functions.result.now in
    let n = c.loop-n.n in
    let slots = c.args.o.now.slots in
    let rule = rule_number c.args.rule in
    let f = c.index-functions-n.result in
    let fails = λ (m : ℕ) (g : Func) (i : List Instr). failing c.args.rule slots g i in
    let rest = in_functions rule fails (n + 1) (drop (n + 1) fs) (disassemblies_of (drop (n + 1) fs)) in
    let step = first_more rule c.args.rule slots n fs f (omega arith) c.index-functions-n.is in
    let first : Some c.in-Some.offset ≡ first_of (failing c.args.rule slots f (disassembly_of f.bytes)) = sym c.in-Some.is ∙ c.first_in_function.ensures.first ∙ ap (λ (ss : List Slot). first_of (failing c.args.rule ss f (disassembly_of f.bytes))) c.as_slice-slots.ensures in
    ap (λ (k : ℕ). let v : Violation = record { rule = k; spot = Function n; offset = c.in-Some.offset } in Some v) c.number.ensures ∙
    ap (λ (o : Option ℕ). or_else (at_function rule n o) rest) first ∙
    sym step ∙ c.loop-n.invariant ∙ ap (λ (gs : List Func). in_functions rule fails 0 gs (disassemblies_of gs)) c.as_slice-functions.ensures

-- this one passes too
pub loop-n-preserved : goal.loop-n-preserved
loop-n-preserved c =
    let fs = c.as_slice-functions.result.now in
    let n = c.loop-n.n in
    let slots = c.args.o.now.slots in
    let rule = rule_number c.args.rule in
    let f = c.index-functions-n.result in
    let fails = λ (m : ℕ) (g : Func) (i : List Instr). failing c.args.rule slots g i in
    let rest = in_functions rule fails (n + 1) (drop (n + 1) fs) (disassemblies_of (drop (n + 1) fs)) in
    let step = first_more rule c.args.rule slots n fs f (omega arith) c.index-functions-n.is in
    let first = sym c.in_default.is ∙ c.first_in_function.ensures.first ∙ ap (λ (ss : List Slot). first_of (failing c.args.rule ss f (disassembly_of f.bytes))) c.as_slice-slots.ensures in
    ap (λ (o : Option ℕ). or_else (at_function rule n o) rest) first ∙ sym step ∙ c.loop-n.invariant

-- an offset lies inside the function's bytes
pub overflow_cast-result-in-Some : goal.overflow_cast-result-in-Some
overflow_cast-result-in-Some c =
    let fs = c.as_slice-functions.result.now in
    let f = c.index-functions-n.result in
    let got : slice_get fs c.loop-n.n ≡ Some f = get_some fs c.loop-n.n f (omega arith) c.index-functions-n.is in
    let known = subst (λ (gs : List Func). AreKnown (length c.args.o.now.slots) gs) (sym c.as_slice-functions.ensures) c.requires.known in
    let one : IsKnown (length c.args.o.now.slots) f = known_at (length c.args.o.now.slots) fs c.loop-n.n f known got in
    let few : length f.bytes ≤ 67108864 = one.few in
    let inside : c.in-Some.offset ≤ length f.bytes = c.first_in_function.ensures.few c.in-Some.offset c.in-Some.is in
    omega (arith, few, inside)
