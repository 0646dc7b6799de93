-- What is known of the functions of a well-formed object.
use Rattle.std.proofs.Common.{◌≡◌, ℕ, zero, suc, ◌+◌, ◌<◌, ◌≤◌, Bool, true, false, if◌then◌else◌, List, [], ◌∷◌, length, drop, get_or, min, Option, Some, None, refl, sym, ◌∙◌, ap, subst, arith}
use Rattle.std.specs.Prelude.{slice_get}
use Rattle.std.proofs.lemmas.List.{drop_more}
use Rattle.x86_core.specs.declared.instr.Instr.{Instr}
use Rattle.obj_core.specs.declared.object.Func.{Func}
use Rattle.obj_core.specs.declared.object.Slot.{Slot}
use Rattle.obj_core.specs.Disassembly.{found, starts_at, size_of, disassembly_of}
use Rattle.obj_core.specs.WellFormed.{Violation, Function, is_start, or_else, at_least_offset, least_from, in_functions}
use Rattle.std.specs.List.{list_all}
use Rattle.std.proofs.lemmas.Bool.{and_parts}
use Rattle.guard_check.specs.declared.check.CodeRule.{CodeRule}
use Rattle.guard_check.specs.Form.{offsets_where}
use Rattle.guard_check.specs.Checking.{IsKnown, AreKnown, disassemblies_of, fails_at, failing, first_of}

pub known_at : (slots : ℕ) (fs : List Func) (n : ℕ) (f : Func) → AreKnown slots fs → slice_get fs n ≡ Some f → IsKnown slots f
known_at slots [] n f h e = absurd (cc)
known_at slots (g ∷ fs) zero f h e = let same : g ≡ f = cc in subst (IsKnown slots) same h.0
known_at slots (g ∷ fs) (suc n) f h e = known_at slots fs n f h.1 e

pub start_at : (fs : List Func) (n off : ℕ) (f : Func) → slice_get fs n ≡ Some f → is_start (disassemblies_of fs) (record { function = n; offset = off }) ≡ starts_at (found (disassembly_of f.bytes)) off
start_at [] n off f e = absurd (cc)
start_at (g ∷ fs) zero off f e = let same : g ≡ f = cc in ap (λ (x : Func). starts_at (found (disassembly_of x.bytes)) off) same
start_at (g ∷ fs) (suc n) off f e = start_at fs n off f e

pub code_at : (fs : List Func) (n : ℕ) (f : Func) → slice_get fs n ≡ Some f → slice_get (disassemblies_of fs) n ≡ Some (disassembly_of f.bytes)
code_at [] n f e = absurd (cc)
code_at (g ∷ fs) zero f e = let same : g ≡ f = cc in ap (λ (x : Func). Some (disassembly_of x.bytes)) same
code_at (g ∷ fs) (suc n) f e = code_at fs n f e

-- offsets rise, so the first is the least
least_by : (t : Bool) (m at : ℕ) (xs : List ℕ) → m ≤ at → least_from m xs ≡ m → least_from m (if t then at ∷ xs else xs) ≡ m
least_by true m at xs le h = let same : min m at ≡ m = omega (arith, le) in ap (λ k. least_from k xs) same ∙ h
least_by false m at xs le h = h

least_first : (test : List Instr → ℕ → Instr → Bool) (behind : List Instr) (at m : ℕ) (row : List Instr) → m ≤ at → least_from m (offsets_where test behind at row) ≡ m
least_first test behind at m [] le = refl
least_first test behind at m (i ∷ row) le = least_by (test behind at i) m at _ le (least_first test (i ∷ behind) (at + size_of i) m row (omega (arith, le)))

-- a rule that fails in a function, told by its first offset
abbrev pub at_function : ℕ → ℕ → Option ℕ → Option Violation
at_function rule n None = None
at_function rule n (Some off) = Some (record { rule = rule; spot = Function n; offset = off })

told_by : (rule n at : ℕ) (t : Bool) (xs : List ℕ) → least_from at xs ≡ at → at_least_offset rule n xs ≡ at_function rule n (first_of xs) → at_least_offset rule n (if t then at ∷ xs else xs) ≡ at_function rule n (first_of (if t then at ∷ xs else xs))
told_by rule n at true xs h e = ap (λ k. at_function rule n (Some k)) h
told_by rule n at false xs h e = e

pub told_first : (rule n : ℕ) (test : List Instr → ℕ → Instr → Bool) (behind : List Instr) (at : ℕ) (row : List Instr) → at_least_offset rule n (offsets_where test behind at row) ≡ at_function rule n (first_of (offsets_where test behind at row))
told_first rule n test behind at [] = refl
told_first rule n test behind at (i ∷ row) = told_by rule n at (test behind at i) _ (least_first test (i ∷ behind) (at + size_of i) at row (omega arith)) (told_first rule n test (i ∷ behind) (at + size_of i) row)

-- one function, and the functions behind it
pub first_more : (r : ℕ) (rule : CodeRule) (slots : List Slot) (n : ℕ) (fs : List Func) (f : Func) → n < length fs → f ≡ get_or fs n f →
    in_functions r (λ m g c. failing rule slots g c) n (drop n fs) (disassemblies_of (drop n fs)) ≡
    or_else (at_function r n (first_of (failing rule slots f (disassembly_of f.bytes)))) (in_functions r (λ m g c. failing rule slots g c) (n + 1) (drop (n + 1) fs) (disassemblies_of (drop (n + 1) fs)))
first_more r rule slots n fs f h e =
    let rest = in_functions r (λ m g c. failing rule slots g c) (n + 1) (drop (n + 1) fs) (disassemblies_of (drop (n + 1) fs)) in
    ap (λ (gs : List Func). in_functions r (λ m g c. failing rule slots g c) n gs (disassemblies_of gs)) (drop_more fs n f h ∙ ap (λ (g : Func). g ∷ drop (n + 1) fs) (sym e)) ∙
    ap (λ (v : Option Violation). or_else v rest) (told_first r n (fails_at rule slots f (disassembly_of f.bytes)) [] 0 (disassembly_of f.bytes))

-- a test that all pass
pub all_at : (test : Slot → Bool) (xs : List Slot) (k : ℕ) (x : Slot) → list_all test xs ≡ true → k < length xs → x ≡ get_or xs k x → test x ≡ true
all_at test [] k x h lt e = absurd (omega (arith, lt))
all_at test (y ∷ ys) zero x h lt e = ap test e ∙ (and_parts (test y) _ h).0
all_at test (y ∷ ys) (suc k) x h lt e = all_at test ys k x (and_parts (test y) _ h).1 (omega (arith, lt)) e
