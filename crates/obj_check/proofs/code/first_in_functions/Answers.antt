use Rattle.std.proofs.Common.{◌≡◌, ◌+◌, ℕ, length, drop, refl, ap, sym, ◌∙◌, subst, arith, List, Option, Some}
use Rattle.obj_core.specs.declared.object.Func.{Func}
use Rattle.obj_core.specs.WellFormed.{Violation, Function, or_else, in_functions}
use Rattle.obj_check.specs.Disassembled.{AreNoted, disassemblies_of}
use Rattle.obj_check.specs.Failing.{rule_number, failing}
use Rattle.obj_check.proofs.Disassembled.{one_bounded}
use Rattle.obj_check.proofs.Functions.{same_lengths, noted_at, at_function, first_more}
use Rattle.obj_check.proofs.code.first_in_functions.Goals as goal

pub bounds-noted-n : goal.bounds-noted-n
bounds-noted-n c =
    let a = same_lengths c.args.o.now.functions c.args.noted.now c.requires.noted in
    let b : length c.as_slice-functions.result.now ≡ length c.args.o.now.functions = ap length c.as_slice-functions.ensures in
    omega arith

pub first_in_function-requires-clause-noted : goal.first_in_function-requires-clause-noted
first_in_function-requires-clause-noted c =
    let noted = subst (λ (gs : List Func). AreNoted gs c.args.noted.now) (sym c.as_slice-functions.ensures) c.requires.noted in
    noted_at c.as_slice-functions.result.now c.args.noted.now c.loop-n.n c.index-functions-n.result c.index-noted-n.result noted (omega arith) c.index-functions-n.is c.index-noted-n.is

pub first_in_function-requires-clause-few : goal.first_in_function-requires-clause-few
first_in_function-requires-clause-few c =
    one_bounded c.as_slice-functions.result.now c.args.o.now.functions c.loop-n.n c.index-functions-n.result c.index-functions-n.result.bytes
    c.as_slice-functions.ensures c.requires.few.code (omega arith) c.index-functions-n.is refl

-- the functions before this one pass
pub returns-in-Some : goal.returns-in-Some
returns-in-Some c =
    let fs = c.as_slice-functions.result.now in
    let n = c.loop-n.n in
    let rule = rule_number c.args.rule in
    let fails = failing c.args.rule c.args.o.now in
    let rest = in_functions rule fails (n + 1) (drop (n + 1) fs) (disassemblies_of (drop (n + 1) fs)) in
    let step = first_more rule fails n fs c.index-functions-n.result (omega arith) c.index-functions-n.is in
    ap (λ (k : ℕ). let v : Violation = record { rule = k; spot = Function n; offset = c.in-Some.offset } in Some v) c.number.ensures ∙
    sym (ap (λ (o : Option ℕ). or_else (at_function rule n o) rest) (sym c.in_ok-first_in_function.ensures ∙ c.in-Some.is)) ∙
    sym step ∙ c.loop-n.invariant ∙ ap (λ (gs : List Func). in_functions rule fails 0 gs (disassemblies_of gs)) c.as_slice-functions.ensures

-- this one passes too
pub loop-n-preserved : goal.loop-n-preserved
loop-n-preserved c =
    let fs = c.as_slice-functions.result.now in
    let n = c.loop-n.n in
    let rule = rule_number c.args.rule in
    let fails = failing c.args.rule c.args.o.now in
    let rest = in_functions rule fails (n + 1) (drop (n + 1) fs) (disassemblies_of (drop (n + 1) fs)) in
    let step = first_more rule fails n fs c.index-functions-n.result (omega arith) c.index-functions-n.is in
    sym (ap (λ (o : Option ℕ). or_else (at_function rule n o) rest) (sym c.in_ok-first_in_function.ensures ∙ c.in-None.is)) ∙
    sym step ∙ c.loop-n.invariant
