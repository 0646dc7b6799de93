-- Functions that keep the rules of well-formed objects, and an object all of whose functions do.
use Rattle.std.proofs.Common.{◌≡◌, ℕ, zero, suc, ◌+◌, ◌⊎◌, inl, inr, Bool, true, false, nat_eq, if◌then◌else◌, List, [], ◌∷◌, ◌++◌, length, Some, None, slice_get, refl, ap, subst, ◌∙◌, arith}
use Rattle.x86_core.specs.declared.instr.Instr.{Instr}
use Rattle.obj_core.specs.declared.object.CodeAt.{CodeAt}
use Rattle.obj_core.specs.declared.object.Func.{Func}
use Rattle.obj_core.specs.declared.object.FuncKind.{FuncKind}
use Rattle.obj_core.specs.declared.object.Link.{Link}
use Rattle.obj_core.specs.Object.{Each}
use Rattle.obj_core.specs.Disassembly.{IsDisassembly, AreDisassemblies, Found, found, starts_at}
use Rattle.obj_core.specs.WellFormed.{bad_branches, bad_links, forbidden_in, open_end, is_saved_well, bad_cut, is_start, or_else, at_least_offset, in_functions, zero_unless}
use Rattle.obj_rows.specs.Assembled.{ends_in, ends_from}
use Rattle.obj_rows.specs.Sound.{IsSoundFunction}
use Rattle.frame_lower.proofs.Members.{IsIn}

-- a function of a number keeps the rules that speak of one function, and behind each of its links an instruction starts
pub record KeepsRules (reg_seed slots n : ℕ) (f : Func) : Type 0 where
  pub first : Instr
  pub others : List Instr
  pub disassembly : IsDisassembly f.bytes (first ∷ others)
  pub transfers : forbidden_in (found (first ∷ others)) ≡ []
  pub links : bad_links None (found (first ∷ others)) slots f.links ≡ []
  pub branches : bad_branches f.links (found (first ∷ others)) (found (first ∷ others)) ≡ []
  pub end : open_end (found (first ∷ others)) ≡ []
  pub saved : is_saved_well reg_seed n f (first ∷ others) ≡ true
  pub cuts : bad_cut 0 (found (first ∷ others)) f.cuts ≡ []
  pub ways_back : Each (λ (l : Link). starts_at (found (first ∷ others)) (l.at + 4) ≡ true) f.links

-- all functions, the first of them with a number
abbrev pub AllKeep : ℕ → ℕ → ℕ → List Func → Type 0
AllKeep reg_seed slots n [] = Unit {0}
AllKeep reg_seed slots n (f ∷ fs) = KeepsRules reg_seed slots n f × AllKeep reg_seed slots (n + 1) fs

pub keep_append : (reg_seed slots n : ℕ) (fs gs : List Func) → AllKeep reg_seed slots n fs → AllKeep reg_seed slots (n + length fs) gs → AllKeep reg_seed slots n (fs ++ gs)
keep_append reg_seed slots n [] gs hx hy = subst (λ k. AllKeep reg_seed slots k gs) (let e : n + 0 ≡ n = omega arith in e) hy
keep_append reg_seed slots n (f ∷ fs) gs hx hy =
    (hx.0, keep_append reg_seed slots (n + 1) fs gs hx.1 (subst (λ k. AllKeep reg_seed slots k gs) (let e : n + suc (length fs) ≡ n + 1 + length fs = omega arith in e) hy))

-- a function that keeps them by itself
pub sound_keeps : (reg_seed slots n : ℕ) (f : Func) → IsSoundFunction slots f → KeepsRules reg_seed slots n f
sound_keeps reg_seed slots n f s = record {
  first = s.first;
  others = s.others;
  disassembly = s.disassembly;
  transfers = s.transfers;
  links = s.links;
  branches = s.branches;
  end = s.end;
  saved = plain f.kind s.plain;
  cuts = ap (bad_cut 0 (found (s.first ∷ s.others))) s.uncut;
  ways_back = s.ways_back;
}
  where
    plain : (kind : FuncKind) → kind ≡ FuncKind.Plain → is_saved_well reg_seed n (record f { kind = kind }) (s.first ∷ s.others) ≡ true
    plain FuncKind.Plain e = refl
    plain FuncKind.Saved e = absurd cc

pub sounds_keep : (reg_seed slots n : ℕ) (fs : List Func) → Each (IsSoundFunction slots) fs → AllKeep reg_seed slots n fs
sounds_keep reg_seed slots n [] h = tt
sounds_keep reg_seed slots n (f ∷ fs) h = (sound_keeps reg_seed slots n f h.0, sounds_keep reg_seed slots (n + 1) fs h.1)

-- the instructions of each
abbrev pub instructions : (reg_seed slots n : ℕ) (fs : List Func) → AllKeep reg_seed slots n fs → List (List Instr)
instructions reg_seed slots n [] all = []
instructions reg_seed slots n (f ∷ fs) all = (all.0.first ∷ all.0.others) ∷ instructions reg_seed slots (n + 1) fs all.1

pub disassembled : (reg_seed slots n : ℕ) (fs : List Func) (all : AllKeep reg_seed slots n fs) → AreDisassemblies fs (instructions reg_seed slots n fs all)
disassembled reg_seed slots n [] all = tt
disassembled reg_seed slots n (f ∷ fs) all = (all.0.disassembly, disassembled reg_seed slots (n + 1) fs all.1)

pub instructions_long : (reg_seed slots n : ℕ) (fs : List Func) (all : AllKeep reg_seed slots n fs) → length (instructions reg_seed slots n fs all) ≡ length fs
instructions_long reg_seed slots n [] all = refl
instructions_long reg_seed slots n (f ∷ fs) all = ap suc (instructions_long reg_seed slots (n + 1) fs all.1)

-- a rule that each function keeps is kept by all
in_all : (reg_seed slots rule n : ℕ) (fails : ℕ → Func → List Instr → List ℕ) (fs : List Func) (all : AllKeep reg_seed slots n fs) →
    ((m : ℕ) (f : Func) (k : KeepsRules reg_seed slots m f) → fails m f (k.first ∷ k.others) ≡ []) → in_functions rule fails n fs (instructions reg_seed slots n fs all) ≡ None
in_all reg_seed slots rule n fails [] all each = refl
in_all reg_seed slots rule n fails (f ∷ fs) all each =
    ap (λ l. or_else (at_least_offset rule n l) (in_functions rule fails (n + 1) fs (instructions reg_seed slots (n + 1) fs all.1))) (each n f all.0)
    ∙ in_all reg_seed slots rule (n + 1) fails fs all.1 each

module _ (reg_seed slots : ℕ) (fs : List Func) (all : AllKeep reg_seed slots 0 fs) where
  abbrev pub code : List (List Instr)
  code = instructions reg_seed slots 0 fs all

  pub rule_3 : in_functions 3 (λ n f instrs. forbidden_in (found instrs)) 0 fs code ≡ None
  rule_3 = in_all reg_seed slots 3 0 (λ n f instrs. forbidden_in (found instrs)) fs all (λ m f k. k.transfers)

  pub rule_4 : in_functions 4 (λ n f instrs. bad_links None (found instrs) slots f.links ++ bad_branches f.links (found instrs) (found instrs)) 0 fs code ≡ None
  rule_4 = in_all reg_seed slots 4 0 (λ n f instrs. bad_links None (found instrs) slots f.links ++ bad_branches f.links (found instrs) (found instrs)) fs all
      (λ m f k. ap (λ l. l ++ bad_branches f.links (found (k.first ∷ k.others)) (found (k.first ∷ k.others))) k.links ∙ k.branches)

  pub rule_5 : in_functions 5 (λ n f instrs. open_end (found instrs)) 0 fs code ≡ None
  rule_5 = in_all reg_seed slots 5 0 (λ n f instrs. open_end (found instrs)) fs all (λ m f k. k.end)

  pub rule_8 : in_functions 8 (λ n f instrs. zero_unless (is_saved_well reg_seed n f instrs)) 0 fs code ≡ None
  rule_8 = in_all reg_seed slots 8 0 (λ n f instrs. zero_unless (is_saved_well reg_seed n f instrs)) fs all (λ m f k. ap zero_unless k.saved)

  pub rule_9 : in_functions 9 (λ n f instrs. bad_cut 0 (found instrs) f.cuts) 0 fs code ≡ None
  rule_9 = in_all reg_seed slots 9 0 (λ n f instrs. bad_cut 0 (found instrs) f.cuts) fs all (λ m f k. k.cuts)

-- an end of a jump is where an instruction starts
end_starts : (k n : ℕ) (found_here : List Found) (ls : List Link) (e : CodeAt) → Each (λ (l : Link). starts_at found_here (l.at + 4) ≡ true) ls → IsIn e (ends_in k n ls) → (e.function ≡ n) × (starts_at found_here e.offset ≡ true)
end_starts k n found_here [] e all is = absurd is
end_starts k n found_here (l ∷ ls) e all is = by (nat_eq l.slot k) is (λ m. end_starts k n found_here ls e all.1 m)
  where
    by : (b : Bool) → IsIn e (if b then record { function = n; offset = l.at + 4 } ∷ ends_in k n ls else ends_in k n ls) → (IsIn e (ends_in k n ls) → (e.function ≡ n) × (starts_at found_here e.offset ≡ true)) →
        (e.function ≡ n) × (starts_at found_here e.offset ≡ true)
    by true is others = elim is [
      | inl same ↦ (ap (λ (c : CodeAt). c.function) same, ap (λ (c : CodeAt). starts_at found_here c.offset) same ∙ all.0)
      | inr more ↦ others more
    ]
    by false is others = others is

in_both : {X : Type 0} (x : X) (xs ys : List X) → IsIn x (xs ++ ys) → IsIn x xs ⊎ IsIn x ys
in_both x [] ys is = inr is
in_both x (z ∷ xs) ys is = elim is [
  | inl e ↦ inl (inl e)
  | inr m ↦ elim (in_both x xs ys m) [ inl a ↦ inl (inr a) | inr b ↦ inr b ]
]

ends_start_from : (reg_seed slots k n : ℕ) (fs : List Func) (all : AllKeep reg_seed slots n fs) (e : CodeAt) → IsIn e (ends_from k n fs) →
    (i : ℕ) × (instrs : List Instr) × (e.function ≡ n + i) × (slice_get (instructions reg_seed slots n fs all) i ≡ Some instrs) × (starts_at (found instrs) e.offset ≡ true)
ends_start_from reg_seed slots k n [] all e is = absurd is
ends_start_from reg_seed slots k n (f ∷ fs) all e is = elim (in_both e (ends_in k n f.links) (ends_from k (suc n) fs) is) [
  | inl here ↦
      let r = end_starts k n (found (all.0.first ∷ all.0.others)) f.links e all.0.ways_back here in
      let at = r.0 in
      (0, all.0.first ∷ all.0.others, (let z : e.function ≡ n + 0 = omega (arith, at) in z), refl, r.1)
  | inr more ↦
      let one : suc n ≡ n + 1 = omega arith in
      let r = ends_start_from reg_seed slots k (n + 1) fs all.1 e (subst (λ m. IsIn e (ends_from k m fs)) one more) in
      let at = r.2 in
      (suc r.0, r.1, (let z : e.function ≡ n + suc r.0 = omega (arith, at) in z), r.3, r.4)
]

start_there : (ds : List (List Instr)) (n off : ℕ) (instrs : List Instr) → slice_get ds n ≡ Some instrs → starts_at (found instrs) off ≡ true → is_start ds (record { function = n; offset = off }) ≡ true
start_there [] n off instrs there starts = absurd cc
start_there (d ∷ ds) zero off instrs there starts = let same : d ≡ instrs = cc in ap (λ is. starts_at (found is) off) same ∙ starts
start_there (d ∷ ds) (suc n) off instrs there starts = start_there ds n off instrs there starts

-- so a way back is good
pub ways_start : (reg_seed slots k : ℕ) (fs : List Func) (all : AllKeep reg_seed slots 0 fs) (e : CodeAt) → IsIn e (ends_from k 0 fs) → is_start (instructions reg_seed slots 0 fs all) e ≡ true
ways_start reg_seed slots k fs all e is =
    let r = ends_start_from reg_seed slots k 0 fs all e is in
    let at = r.2 in
    let number : e.function ≡ r.0 = omega (arith, at) in
    start_there (instructions reg_seed slots 0 fs all) e.function e.offset r.1 (ap (slice_get (instructions reg_seed slots 0 fs all)) number ∙ r.3) r.4
