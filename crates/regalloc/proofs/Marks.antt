-- Marks at the places of registers.
use Rattle.std.proofs.Common.{◌≡◌, ℕ, suc, ◌+◌, drop, get_or, ◌<◌, ◌⊎◌, inl, inr, Bool, true, false, List, [], ◌∷◌, ◌++◌, length, Some, slice_get, slice_set, refl, ap, sym, ◌∙◌, subst, arith}
use Rattle.std.proofs.lemmas.Bool.{cases_eq}
use Rattle.std.proofs.lemmas.Option.{slice_get_within}
use Rattle.std.proofs.lemmas.List.{append_assoc}
use Rattle.std.proofs.Math.Seq.{drop-cons}
use Rattle.std.specs.List.{flat_map}
use Rattle.low_core.specs.SelParts.{IsOneOf}
use Rattle.low_core.specs.declared.sel.SelFun.{SelFun}
use Rattle.regalloc.specs.Occurs.{marked, block_registers, registers_of, TellsOccurring}
use Rattle.regalloc.proofs.Lists.{get_set_same, get_set_other, length_set}

pub marked_append : (seen : List Bool) (xs ys : List ℕ) → marked seen (xs ++ ys) ≡ marked (marked seen xs) ys
marked_append seen [] ys = refl
marked_append seen (x ∷ xs) ys = marked_append (slice_set seen x true) xs ys

pub marked_next : (seen : List Bool) (xs ys zs : List ℕ) → marked seen ((xs ++ ys) ++ zs) ≡ marked (marked seen xs) (ys ++ zs)
marked_next seen xs ys zs = ap (marked seen) (append_assoc xs ys zs) ∙ marked_append seen xs (ys ++ zs)

marked_long : (seen : List Bool) (xs : List ℕ) → length (marked seen xs) ≡ length seen
marked_long seen [] = refl
marked_long seen (x ∷ xs) = marked_long (slice_set seen x true) xs ∙ length_set seen x true

marked_kept : (seen : List Bool) (xs : List ℕ) (r : ℕ) → slice_get seen r ≡ Some true → slice_get (marked seen xs) r ≡ Some true
marked_kept seen [] r h = h
marked_kept seen (x ∷ xs) r h = marked_kept (slice_set seen x true) xs r (elim (cases_eq x r) [
  | inl e ↦ subst (λ n. slice_get (slice_set seen x true) n ≡ Some true) e (get_set_same seen x true (let lt : r < length seen = slice_get_within seen r true h in omega arith))
  | inr ne ↦ get_set_other seen x r true ne ∙ h
])

marked_all : (seen : List Bool) (xs : List ℕ) (r : ℕ) → r < length seen → IsOneOf r xs → slice_get (marked seen xs) r ≡ Some true
marked_all seen [] r lt h = absurd h
marked_all seen (x ∷ xs) r lt (inl e) = marked_kept (slice_set seen x true) xs r (subst (λ n. slice_get (slice_set seen n true) r ≡ Some true) e (get_set_same seen r true lt))
marked_all seen (x ∷ xs) r lt (inr h) = let long : length (slice_set seen x true) ≡ length seen = length_set seen x true in marked_all (slice_set seen x true) xs r (omega arith) h

marked_sound : (seen : List Bool) (xs : List ℕ) (r : ℕ) → slice_get (marked seen xs) r ≡ Some true → (slice_get seen r ≡ Some true) ⊎ IsOneOf r xs
marked_sound seen [] r h = inl h
marked_sound seen (x ∷ xs) r h = elim (marked_sound (slice_set seen x true) xs r h) [
  | inr one ↦ inr (inr one)
  | inl is ↦ elim (cases_eq r x) [
    | inl e ↦ inr (inl e)
    | inr ne ↦ inl (sym (get_set_other seen x r true (λ e. ne (sym e))) ∙ is)
  ]
]

-- what is marked from nothing is what occurs
pub tells_occurring : (f : SelFun) (none seen : List Bool) → length none ≡ f.registers → ((x : ℕ) → x < f.registers → slice_get none x ≡ Some false) →
    seen ≡ marked (marked none f.params) (flat_map block_registers f.blocks) → TellsOccurring f seen
tells_occurring f none seen long unmarked is =
    let all : marked none (registers_of f) ≡ seen = marked_append none f.params (flat_map block_registers f.blocks) ∙ sym is in
    subst (TellsOccurring f) all (record {
      long = marked_long none (registers_of f) ∙ long;
      sound = sound;
      complete = λ x lt h. marked_all none (registers_of f) x (omega arith) h;
    })
  where
    sound : (x : ℕ) → slice_get (marked none (registers_of f)) x ≡ Some true → IsOneOf x (registers_of f)
    sound x h = elim (marked_sound none (registers_of f) x h) [
      | inr one ↦ one
      | inl is ↦ let lt : x < length none = slice_get_within none x true is in let no = unmarked x (omega arith) in absurd (cc)
    ]

one_left : {A : Type 0} (xs : List A) (i : ℕ) (x : A) → i < length xs → x ≡ get_or xs i x → drop i xs ≡ x ∷ drop (i + 1) xs
one_left xs i x lt is =
    let e = drop-cons xs i x lt in
    let s : suc i ≡ i + 1 = omega arith in
    e ∙ ap (λ y. y ∷ drop (suc i) xs) (sym is) ∙ ap (λ n. x ∷ drop n xs) s

-- what is left to mark, before others
pub marks_left : {A : Type 0} (F : A → List ℕ) (seen new whole : List Bool) (xs : List A) (i : ℕ) (x : A) (zs : List ℕ) → i < length xs → x ≡ get_or xs i x →
    marked seen (flat_map F (drop i xs) ++ zs) ≡ whole → new ≡ marked seen (F x) → marked new (flat_map F (drop (i + 1) xs) ++ zs) ≡ whole
marks_left {A = A} F seen new whole xs i x zs lt is all e =
    let rest = flat_map F (drop (i + 1) xs) in
    ap (λ s. marked s (rest ++ zs)) e ∙ sym (marked_next seen (F x) rest zs)
    ∙ subst (λ (ds : List A). marked seen (flat_map F ds ++ zs) ≡ whole) (one_left xs i x lt is) all

pub marks_last : {A : Type 0} (F : A → List ℕ) (seen new whole : List Bool) (xs : List A) (i : ℕ) (x : A) → i < length xs → x ≡ get_or xs i x →
    marked seen (flat_map F (drop i xs)) ≡ whole → new ≡ marked seen (F x) → marked new (flat_map F (drop (i + 1) xs)) ≡ whole
marks_last {A = A} F seen new whole xs i x lt is all e =
    let rest = flat_map F (drop (i + 1) xs) in
    ap (λ s. marked s rest) e ∙ sym (marked_append seen (F x) rest)
    ∙ subst (λ (ds : List A). marked seen (flat_map F ds) ≡ whole) (one_left xs i x lt is) all
