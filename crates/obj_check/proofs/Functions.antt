-- The first function in which a rule fails.
use Rattle.std.proofs.Common.{◌≡◌, ℕ, zero, suc, ◌+◌, ◌<◌, ◌≤◌, false, List, [], ◌∷◌, length, drop, get_or, min, Option, None, Some, refl, sym, ◌∙◌, ap, subst, arith}
use Rattle.std.proofs.lemmas.List.{drop_more}
use Rattle.x86_core.specs.declared.instr.Instr.{Instr}
use Rattle.obj_core.specs.declared.object.Func.{Func}
use Rattle.obj_core.specs.WellFormed.{Violation, Function, or_else, at_least_offset, least_from, in_functions, is_start}
use Rattle.obj_check.specs.declared.notes.Notes.{Notes}
use Rattle.obj_core.specs.Disassembly.{disassembly_of}
use Rattle.obj_check.specs.Disassembled.{IsNoted, AreNoted, disassemblies_of}
use Rattle.obj_check.specs.Least.{least_with}
use Rattle.obj_check.specs.Marked.{marked}

pub same_lengths : (fs : List Func) (cs : List Notes) → AreNoted fs cs → length cs ≡ length fs
same_lengths [] [] h = refl
same_lengths [] (c ∷ cs) h = absurd h
same_lengths (f ∷ fs) [] h = absurd h
same_lengths (f ∷ fs) (c ∷ cs) h = ap suc (same_lengths fs cs h.1)

at_place : (fs : List Func) (cs : List Notes) (n : ℕ) (f : Func) (c : Notes) → AreNoted fs cs → n < length fs → IsNoted (get_or fs n f).bytes (get_or cs n c)
at_place [] cs n f c h lt = absurd (omega arith)
at_place (g ∷ fs) [] n f c h lt = absurd h
at_place (g ∷ fs) (d ∷ cs) zero f c h lt = h.0
at_place (g ∷ fs) (d ∷ cs) (suc n) f c h lt = at_place fs cs n f c h.1 (omega arith)

-- the disassembly of a function stands at the function's number
pub noted_at : (fs : List Func) (cs : List Notes) (n : ℕ) (f : Func) (c : Notes) → AreNoted fs cs → n < length fs → f ≡ get_or fs n f → c ≡ get_or cs n c → IsNoted f.bytes c
noted_at fs cs n f c h lt ef ec =
    let k = at_place fs cs n f c h lt in
    let one = subst (λ (g : Func). IsNoted g.bytes (get_or cs n c)) (sym ef) k in
    subst (IsNoted f.bytes) (sym ec) one

-- where the instruction starts is noted at the function's number
pub start_at : (fs : List Func) (cs : List Notes) (n off : ℕ) (c : Notes) → AreNoted fs cs → n < length cs → c ≡ get_or cs n c → marked c.starts off ≡ is_start (disassemblies_of fs) (record { function = n; offset = off })
start_at [] cs n off c h lt e = absurd (let same = same_lengths [] cs h in omega arith)
start_at (f ∷ fs) [] n off c h lt e = absurd h
start_at (f ∷ fs) (d ∷ cs) zero off c h lt e = ap (λ (x : Notes). marked x.starts off) e ∙ h.0.notes.starts off
start_at (f ∷ fs) (d ∷ cs) (suc n) off c h lt e = start_at fs cs n off c h.1 (omega arith) e

pub start_past : (fs : List Func) (n off : ℕ) → length fs ≤ n → false ≡ is_start (disassemblies_of fs) (record { function = n; offset = off })
start_past [] n off h = refl
start_past (f ∷ fs) zero off h = absurd (omega arith)
start_past (f ∷ fs) (suc n) off h = start_past fs n off (omega arith)

least_some : (m : ℕ) (ms : List ℕ) → least_with (Some m) ms ≡ Some (least_from m ms)
least_some m [] = refl
least_some m (n ∷ ms) = least_some (min m n) ms

-- a rule that fails in a function, told by the least offset
abbrev pub at_function : ℕ → ℕ → Option ℕ → Option Violation
at_function rule n None = None
at_function rule n (Some off) = Some (record { rule = rule; spot = Function n; offset = off })

told_at : (rule n : ℕ) (ms : List ℕ) → at_least_offset rule n ms ≡ at_function rule n (least_with None ms)
told_at rule n [] = refl
told_at rule n (m ∷ ms) = ap (at_function rule n) (sym (least_some m ms))

-- one function, and the functions behind it
pub first_more : (rule : ℕ) (fails : ℕ → Func → List Instr → List ℕ) (n : ℕ) (fs : List Func) (f : Func) → n < length fs → f ≡ get_or fs n f →
    in_functions rule fails n (drop n fs) (disassemblies_of (drop n fs)) ≡ or_else (at_function rule n (least_with None (fails n f (disassembly_of f.bytes)))) (in_functions rule fails (n + 1) (drop (n + 1) fs) (disassemblies_of (drop (n + 1) fs)))
first_more rule fails n fs f h e =
    let rest = in_functions rule fails (n + 1) (drop (n + 1) fs) (disassemblies_of (drop (n + 1) fs)) in
    ap (λ (gs : List Func). in_functions rule fails n gs (disassemblies_of gs)) (drop_more fs n f h ∙ ap (λ (g : Func). g ∷ drop (n + 1) fs) (sym e)) ∙
    ap (λ (v : Option Violation). or_else v rest) (told_at rule n (fails n f (disassembly_of f.bytes)))
