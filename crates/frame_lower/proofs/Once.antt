-- Each slot whose jump stands in a function of a program is linked once there, and no other slot that comes back is.
use Rattle.std.proofs.Common.{◌≡◌, ◌≢◌, ℕ, zero, suc, ◌+◌, ◌<◌, ◌≤◌, ◌⊎◌, inl, inr, if◌then◌else◌, List, [], ◌∷◌, ◌++◌, map, length, get_or, refl, ap, ◌∙◌, arith}
use Rattle.std.proofs.lemmas.Bool.{cases_lt, eq-eqb, ne_eqb}
use Rattle.std.proofs.lemmas.List.{length-append}
use Rattle.x86_core.specs.declared.reg.Reg.{Reg}
use Rattle.low_core.specs.declared.sel.Home.{Home}
use Rattle.low_core.specs.declared.sel.SelFun.{SelFun}
use Rattle.obj_core.specs.declared.object.CodeAt.{CodeAt}
use Rattle.obj_core.specs.declared.object.Link.{Link}
use Rattle.obj_rows.specs.Marked.{links_from}
use Rattle.obj_rows.specs.Assembled.{ends_in, ends_from}
use Rattle.frame_lower.specs.Blocks.{calls_of_blocks}
use Rattle.frame_lower.specs.Functions.{function_row, making_with, functions_with}
use Rattle.frame_lower.specs.Given.{calls_of_functions}
use Rattle.frame_lower.proofs.Marks.{numbered, function_marks, links_marks}
use Rattle.frame_lower.proofs.Programs.{calls_more}

slots_in : List Link → List ℕ
slots_in ls = map (λ (l : Link). l.slot) ls

two : {X : Type 0} {x y : X} {xs ys : List X} → x ∷ xs ≡ y ∷ ys → (x ≡ y) × (xs ≡ ys)
two e = (cc, cc)

-- links with numbers from one on have none outside of these
pub none_in : (k n first count : ℕ) (ls : List Link) → map (λ (l : Link). l.slot) ls ≡ numbered first count → (k < first) ⊎ (first + count ≤ k) → ends_in k n ls ≡ []
none_in k n first count [] are outside = refl
none_in k n first zero (l ∷ ls) are outside = absurd cc
none_in k n first (suc count) (l ∷ ls) are outside =
    let here : l.slot ≡ first = (two are).0 in
    let other : l.slot ≢ k = λ e. elim outside [ inl o ↦ omega (arith, e, here, o) | inr o ↦ omega (arith, e, here, o) ] in
    let rest = ends_in k n ls in
    ap (λ b. if b then record { function = n; offset = l.at + 4 } ∷ rest else rest) (ne_eqb l.slot k other)
    ∙ none_in k n (first + 1) count ls (two are).1 (elim outside [ inl o ↦ inl (omega (arith, o)) | inr o ↦ inr (omega (arith, o)) ])

-- and one for each of these
pub one_in : (k n first count : ℕ) (ls : List Link) → map (λ (l : Link). l.slot) ls ≡ numbered first count → first ≤ k → k < first + count → length (ends_in k n ls) ≡ 1
one_in k n first zero [] are low high = absurd (omega arith)
one_in k n first (suc count) [] are low high = absurd cc
one_in k n first zero (l ∷ ls) are low high = absurd (omega arith)
one_in k n first (suc count) (l ∷ ls) are low high = elim (cases_lt first k) [
  | inl less ↦
      let here : l.slot ≡ first = (two are).0 in
      let other : l.slot ≢ k = λ e. omega (arith, e, here, less) in
      let rest = ends_in k n ls in
      ap (λ b. length (if b then record { function = n; offset = l.at + 4 } ∷ rest else rest)) (ne_eqb l.slot k other)
      ∙ one_in k n (first + 1) count ls (two are).1 (omega (arith, less)) (omega (arith, high))
  | inr more ↦
      let here : l.slot ≡ first = (two are).0 in
      let same : l.slot ≡ k = omega (arith, here, low, more) in
      let rest = ends_in k n ls in
      ap (λ b. length (if b then record { function = n; offset = l.at + 4 } ∷ rest else rest)) (eq-eqb l.slot k same)
      ∙ ap (λ (l : List CodeAt). suc (length l)) (none_in k n (first + 1) count ls (two are).1 (inl (omega (arith, low, more))))
]

module _ (globals functions : List ℕ) (reg_draw : ℕ) (names : List (List Reg)) (homes : List (List Home)) where
  links_are : (number slot : ℕ) (f : SelFun) → let by = making_with globals functions reg_draw number (get_or names number []) (get_or homes number []) f in
      map (λ (l : Link). l.slot) (links_from 0 (function_row by slot f)) ≡ numbered slot (calls_of_blocks f.blocks)
  links_are number slot f =
      let by = making_with globals functions reg_draw number (get_or names number []) (get_or homes number []) f in
      links_marks 0 (function_row by slot f) ∙ function_marks by slot f

  pub none_from : (k number slot : ℕ) (fs : List SelFun) → (k < slot) ⊎ (slot + calls_of_functions fs ≤ k) → ends_from k number (functions_with globals functions reg_draw names homes number slot fs) ≡ []
  none_from k number slot [] outside = refl
  none_from k number slot (f ∷ fs) outside =
      let more = calls_more f fs in
      let rest = functions_with globals functions reg_draw names homes (suc number) (slot + calls_of_blocks f.blocks) fs in
      let by = making_with globals functions reg_draw number (get_or names number []) (get_or homes number []) f in
      ap (λ l. l ++ ends_from k (suc number) rest) (none_in k number slot (calls_of_blocks f.blocks) (links_from 0 (function_row by slot f)) (links_are number slot f)
      (elim outside [ inl o ↦ inl o | inr o ↦ inr (omega (arith, o, more)) ]))
      ∙ none_from k (suc number) (slot + calls_of_blocks f.blocks) fs (elim outside [ inl o ↦ inl (omega (arith, o)) | inr o ↦ inr (omega (arith, o, more)) ])

  pub one_from : (k number slot : ℕ) (fs : List SelFun) → slot ≤ k → k < slot + calls_of_functions fs → length (ends_from k number (functions_with globals functions reg_draw names homes number slot fs)) ≡ 1
  one_from k number slot [] low high = absurd (omega (arith, low, high))
  one_from k number slot (f ∷ fs) low high =
      let more = calls_more f fs in
      let here : ℕ = calls_of_blocks f.blocks in
      let rest = functions_with globals functions reg_draw names homes (suc number) (slot + here) fs in
      let by = making_with globals functions reg_draw number (get_or names number []) (get_or homes number []) f in
      let links = links_from 0 (function_row by slot f) in
      let long = length-append (ends_in k number links) (ends_from k (suc number) rest) in
      elim (cases_lt k (slot + here)) [
        | inl less ↦
            let first = one_in k number slot here links (links_are number slot f) low less in
            let none = none_from k (suc number) (slot + here) fs (inl less) in
            long ∙ ap (λ n. n + length (ends_from k (suc number) rest)) first ∙ ap (λ (l : List CodeAt). 1 + length l) none
        | inr beyond ↦
            let none = none_in k number slot here links (links_are number slot f) (inr beyond) in
            ap (λ l. length (l ++ ends_from k (suc number) rest)) none ∙ one_from k (suc number) (slot + here) fs beyond (omega (arith, high, more))
      ]
