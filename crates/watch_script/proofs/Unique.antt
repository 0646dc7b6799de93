-- Bytes are one script at most, none where a line is the first bad one, and have one such line.
use Rattle.std.proofs.Common.{◌≡◌, ℕ, ◌+◌, ◌<◌, ◌≤◌, List, [], ◌∷◌, ◌++◌, length, Some, refl, sym, ap, subst, ◌∙◌, arith, inl, inr, append_assoc, length-append}
use Rattle.std.proofs.lemmas.Bool.{cases_lt}
use Rattle.watch_script.specs.declared.event.Event.{Event}
use Rattle.watch_script.specs.Events.{after_of, last_after}
use Rattle.watch_script.specs.Script.{IsLine, AreLines, ScriptOf, IsFirstBad}
use Rattle.watch_script.specs.Reading.{split_at, event_of}
use Rattle.watch_script.proofs.Parting.{split_found}
use Rattle.watch_script.proofs.Spelling.{no_feed, complete}

-- bytes have one first line
pub record SameLine (e f : Event) (rest others : List ℕ) : Type 0 where
  pub event : e ≡ f
  pub rest_is : rest ≡ others

first_line : (bytes line rest line2 others : List ℕ) (e f : Event) → bytes ≡ line ++ 10 ∷ rest → IsLine line e → bytes ≡ line2 ++ 10 ∷ others → IsLine line2 f → SameLine e f rest others
first_line bytes line rest line2 others e f is spelled is2 spelled2 =
    let p : List ℕ × List ℕ = (line, rest) in
    let q : List ℕ × List ℕ = (line2, others) in
    let first : split_at 10 bytes ≡ Some p = ap (split_at 10) is ∙ split_found 10 line rest (no_feed line e spelled) in
    let second : split_at 10 bytes ≡ Some q = ap (split_at 10) is2 ∙ split_found 10 line2 others (no_feed line2 f spelled2) in
    let same : p ≡ q = pair_is p q (sym first ∙ second) in
    let events : Some e ≡ Some f = sym (complete line e spelled) ∙ (ap (λ (r : List ℕ × List ℕ). event_of r.0) same ∙ complete line2 f spelled2) in
    record { event = event_is e f events; rest_is = ap (λ (r : List ℕ × List ℕ). r.1) same }
  where
    pair_is : (p q : List ℕ × List ℕ) → Some p ≡ Some q → p ≡ q
    pair_is p q e = cc

    event_is : (x y : Event) → Some x ≡ Some y → x ≡ y
    event_is x y e = cc

not_empty : (bytes line rest : List ℕ) → bytes ≡ [] → bytes ≡ line ++ 10 ∷ rest → ⊥
not_empty bytes line rest none is = let h : length bytes ≡ 0 = ap length none in let k : length bytes ≡ length line + length (10 ∷ rest) = ap length is ∙ length-append line (10 ∷ rest) in absurd (omega arith)

lines_are_one : (least : ℕ) (bytes : List ℕ) (es fs : List Event) → AreLines least bytes es → AreLines least bytes fs → es ≡ fs
lines_are_one least bytes [] [] h k = refl
lines_are_one least bytes [] (f ∷ fs) h k = absurd (not_empty bytes k.0 k.1.0 h k.1.1.0)
lines_are_one least bytes (e ∷ es) [] h k = absurd (not_empty bytes h.0 h.1.0 k h.1.1.0)
lines_are_one least bytes (e ∷ es) (f ∷ fs) h k =
    let same = first_line bytes h.0 h.1.0 k.0 k.1.0 e f h.1.1.0 h.1.1.1.0 k.1.1.0 k.1.1.1.0 in
    let others : AreLines (after_of e) h.1.0 fs = subst (λ n. AreLines n h.1.0 fs) (sym (ap (λ (e : Event). (after_of e)) same.event)) (subst (λ b. AreLines (after_of f) b fs) (sym same.rest_is) k.1.1.1.1.1) in
    let rest : es ≡ fs = lines_are_one (after_of e) h.1.0 es fs h.1.1.1.1.1 others in
    ap (λ (e : Event). e ∷ es) same.event ∙ ap (λ (es : List Event). f ∷ es) rest

pub one_script : (bytes : List ℕ) (es fs : List Event) → ScriptOf bytes es → ScriptOf bytes fs → es ≡ fs
one_script bytes es fs h k = lines_are_one 0 bytes es fs h.lines k.lines

-- no script goes on behind lines behind which no line may stand
none_behind : (least : ℕ) (bytes before rest : List ℕ) (es fs : List Event) → AreLines least before es → bytes ≡ before ++ rest → AreLines least bytes fs → 0 < length rest →
    ((e : Event) (next behind : List ℕ) → rest ≡ next ++ 10 ∷ behind → IsLine next e → last_after least es ≤ (after_of e) → length es < length fs → ⊥) → ⊥
none_behind least bytes before rest [] [] h is k some bad =
    let a : length bytes ≡ length before + length rest = ap length is ∙ length-append before rest in
    let b : length bytes ≡ 0 = ap length k in
    absurd (omega arith)
none_behind least bytes before rest [] (f ∷ fs) h is k some bad =
    let same : rest ≡ bytes = sym (is ∙ ap (λ b. b ++ rest) h) in
    bad f k.0 k.1.0 (same ∙ k.1.1.0) k.1.1.1.0 k.1.1.1.1.0 (omega arith)
none_behind least bytes before rest (e ∷ es) [] h is k some bad =
    let a : length bytes ≡ length before + length rest = ap length is ∙ length-append before rest in
    let b : length bytes ≡ 0 = ap length k in
    absurd (omega arith)
none_behind least bytes before rest (e ∷ es) (f ∷ fs) h is k some bad =
    let whole : bytes ≡ h.0 ++ 10 ∷ (h.1.0 ++ rest) = is ∙ (ap (λ b. b ++ rest) h.1.1.0 ∙ append_assoc h.0 (10 ∷ h.1.0) rest) in
    let same = first_line bytes h.0 (h.1.0 ++ rest) k.0 k.1.0 e f whole h.1.1.1.0 k.1.1.0 k.1.1.1.0 in
    let others : AreLines (after_of e) (h.1.0 ++ rest) fs = subst (λ n. AreLines n (h.1.0 ++ rest) fs) (sym (ap (λ (e : Event). (after_of e)) same.event)) (subst (λ b. AreLines (after_of f) b fs) (sym same.rest_is) k.1.1.1.1.1) in
    none_behind (after_of e) (h.1.0 ++ rest) h.1.0 rest es fs h.1.1.1.1.1 refl others some (λ g next behind parts spelled late few. bad g next behind parts spelled late (omega arith))

pub no_script : (bytes : List ℕ) (line : ℕ) (es : List Event) → IsFirstBad bytes line → ScriptOf bytes es → ⊥
no_script bytes line es bad h =
    let few : length es ≤ 4096 = h.few in
    none_behind 0 bytes bad.before bad.rest bad.events es bad.good.lines bad.parts h.lines bad.more (λ e next behind parts is late fewer. bad.bad e next behind parts is late (omega arith))

-- lines behind which no line may stand aren't fewer than those with which other bytes begin
none_within : (least : ℕ) (bytes before rest before2 rest2 : List ℕ) (es fs : List Event) → AreLines least before es → bytes ≡ before ++ rest → AreLines least before2 fs → bytes ≡ before2 ++ rest2 → length es < length fs →
    ((e : Event) (next behind : List ℕ) → rest ≡ next ++ 10 ∷ behind → IsLine next e → last_after least es ≤ (after_of e) → length es < length fs → ⊥) → ⊥
none_within least bytes before rest before2 rest2 [] [] h is k is2 fewer bad = absurd (omega arith)
none_within least bytes before rest before2 rest2 (e ∷ es) [] h is k is2 fewer bad = absurd (omega arith)
none_within least bytes before rest before2 rest2 [] (f ∷ fs) h is k is2 fewer bad =
    let same : rest ≡ bytes = sym (is ∙ ap (λ b. b ++ rest) h) in
    let whole : bytes ≡ k.0 ++ 10 ∷ (k.1.0 ++ rest2) = is2 ∙ (ap (λ b. b ++ rest2) k.1.1.0 ∙ append_assoc k.0 (10 ∷ k.1.0) rest2) in
    bad f k.0 (k.1.0 ++ rest2) (same ∙ whole) k.1.1.1.0 k.1.1.1.1.0 fewer
none_within least bytes before rest before2 rest2 (e ∷ es) (f ∷ fs) h is k is2 fewer bad =
    let whole : bytes ≡ h.0 ++ 10 ∷ (h.1.0 ++ rest) = is ∙ (ap (λ b. b ++ rest) h.1.1.0 ∙ append_assoc h.0 (10 ∷ h.1.0) rest) in
    let whole2 : bytes ≡ k.0 ++ 10 ∷ (k.1.0 ++ rest2) = is2 ∙ (ap (λ b. b ++ rest2) k.1.1.0 ∙ append_assoc k.0 (10 ∷ k.1.0) rest2) in
    let same = first_line bytes h.0 (h.1.0 ++ rest) k.0 (k.1.0 ++ rest2) e f whole h.1.1.1.0 whole2 k.1.1.1.0 in
    let others : AreLines (after_of e) k.1.0 fs = subst (λ n. AreLines n k.1.0 fs) (sym (ap (λ (e : Event). (after_of e)) same.event)) k.1.1.1.1.1 in
    none_within (after_of e) (h.1.0 ++ rest) h.1.0 rest k.1.0 rest2 es fs h.1.1.1.1.1 refl others same.rest_is (omega arith) (λ g next behind parts spelled late few. bad g next behind parts spelled late (omega arith))

not_fewer : (bytes : List ℕ) (line other : ℕ) (h : IsFirstBad bytes line) (k : IsFirstBad bytes other) → length h.events < length k.events → ⊥
not_fewer bytes line other h k fewer =
    let few : length k.events ≤ 4096 = k.good.few in
    none_within 0 bytes h.before h.rest k.before k.rest h.events k.events h.good.lines h.parts k.good.lines k.parts fewer (λ e next behind parts is late less. h.bad e next behind parts is late (omega arith))

-- bytes have one first bad line
pub one_bad : (bytes : List ℕ) (line other : ℕ) → IsFirstBad bytes line → IsFirstBad bytes other → line ≡ other
one_bad bytes line other h k =
    elim (cases_lt (length h.events) (length k.events)) [
      | inl less ↦ absurd (not_fewer bytes line other h k less)
      | inr ge ↦ elim (cases_lt (length k.events) (length h.events)) [
        | inl less ↦ absurd (not_fewer bytes other line k h less)
        | inr ge2 ↦ let a = h.number in let b = k.number in omega arith
      ]
    ]
