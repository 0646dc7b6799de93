-- The lines before a place of the bytes, and what they and the rest make of the whole.
use Rattle.std.proofs.Common.{◌≡◌, ℕ, ◌+◌, ◌<◌, ◌≤◌, Bool, true, false, ◌&&◌, cond, nat_le, nat_lt, List, [], ◌∷◌, ◌++◌, length, Option, Some, None, refl, sym, ap, subst, ◌∙◌, arith, append_assoc, length-append}
use Rattle.std.proofs.lemmas.Bool.Decides.{nat_tests}
use Rattle.std.proofs.lemmas.List.{append-nil}
use Rattle.watch_script.specs.declared.event.Event.{Event}
use Rattle.watch_script.specs.declared.event.Event.TheVariants.{Read, Write}
use Rattle.watch_script.specs.Events.{after_of, size_of, are_in_order, is_script, last_after}
use Rattle.rd_num.specs.Numeral.{number_behind, below, numeral}
use Rattle.watch_script.specs.Script.{IsLine, AreLines, ScriptOf, IsFirstBad}
use Rattle.watch_script.specs.Reading.{IsNext, HasNoNext}

-- the lines before the rest are those of the events
pub record SoFar (bytes rest : List ℕ) (events : List Event) (least count : ℕ) : Type 0 where
  pub before : List ℕ
  pub parts : bytes ≡ before ++ rest
  pub lines : AreLines 0 before events
  pub last : least ≡ last_after 0 events
  pub number : length events ≡ count
  pub order : are_in_order 0 events ≡ true

pub none_yet : (bytes : List ℕ) → SoFar bytes bytes [] 0 0
none_yet bytes = record { before = []; parts = refl; lines = refl; last = refl; number = refl; order = refl }

le_true : (m n : ℕ) → m ≤ n → nat_le m n ≡ true
le_true m n h = grind (arith, nat_tests)

and_both : (a b : Bool) → (a && b) ≡ true → (a ≡ true) × (b ≡ true)
and_both true b h = (refl, h)
and_both false b h = absurd (cc)

-- one line more at the end
lines_more : (least : ℕ) (bytes : List ℕ) (events : List Event) (line : List ℕ) (e : Event) → AreLines least bytes events → IsLine line e → last_after least events ≤ (after_of e) → AreLines least (bytes ++ (line ++ 10 ∷ [])) (events ++ e ∷ [])
lines_more least bytes [] line e is next late = (line, ([], (ap (λ b. b ++ (line ++ 10 ∷ [])) is, (next, (late, refl)))))
lines_more least bytes (f ∷ events) line e is next late =
    let first = is.0 in
    let rest = is.1.0 in
    let more = lines_more (after_of f) rest events line e is.1.1.1.1.1 next late in
    let whole : bytes ++ (line ++ 10 ∷ []) ≡ first ++ 10 ∷ (rest ++ (line ++ 10 ∷ [])) = ap (λ b. b ++ (line ++ 10 ∷ [])) is.1.1.0 ∙ append_assoc first (10 ∷ rest) (line ++ 10 ∷ []) in
    (first, (rest ++ (line ++ 10 ∷ []), (whole, (is.1.1.1.0, (is.1.1.1.1.0, more)))))

last_more : (least : ℕ) (events : List Event) (e : Event) → (after_of e) ≡ last_after least (events ++ e ∷ [])
last_more least [] e = refl
last_more least (f ∷ events) e = last_more (after_of f) events e

order_more : (least : ℕ) (events : List Event) (e : Event) → are_in_order least events ≡ true → last_after least events ≤ (after_of e) → 1 ≤ (size_of e) → (size_of e) ≤ 4096 → are_in_order least (events ++ e ∷ []) ≡ true
order_more least [] e h late some few = rw (le_true least (after_of e) late, le_true 1 (size_of e) some, le_true (size_of e) 4096 few) refl
order_more least (f ∷ events) e h late some few =
    let a = and_both (nat_le least (after_of f)) _ h in
    let b = and_both (nat_le 1 (size_of f)) _ a.1 in
    let c = and_both (nat_le (size_of f) 4096) _ b.1 in
    rw (a.0, b.0, c.0) (order_more (after_of f) events e c.1 late some few)

-- a number of a word is below its limit
numeral_below : (base most limit n : ℕ) (word : List ℕ) → numeral base most limit word ≡ Some n → n < limit
numeral_below base most limit n word e = by (nat_le 1 (length word) && nat_le (length word) most) e
  where
    lt_is : (m n : ℕ) → nat_lt m n ≡ true → m < n
    lt_is m n h = grind (arith, nat_tests)

    fits : (m : ℕ) (t : Bool) → nat_lt m limit ≡ t → cond t (Some m) None ≡ Some n → n < limit
    fits m true f h = let same : m ≡ n = some_is m n h in subst (λ k. k < limit) same (lt_is m limit f)
      where
        some_is : (x y : ℕ) → Some x ≡ Some y → x ≡ y
        some_is x y e = cc
    fits m false f h = absurd (cc)

    within : (o : Option ℕ) → below limit o ≡ Some n → n < limit
    within None h = absurd (cc)
    within (Some m) h = fits m (nat_lt m limit) refl h

    by : (t : Bool) → cond t (below limit (number_behind base 0 word)) None ≡ Some n → n < limit
    by true h = within (number_behind base 0 word) h
    by false h = absurd (cc)

-- a line's event reads or writes 1 to 4,096 bytes
line_sizes : (line : List ℕ) (e : Event) → IsLine line e → (1 ≤ size_of e) × (size_of e ≤ 4096)
line_sizes line (Read after at len) is = (is.some, (let lt : len < 4097 = numeral_below 10 4 4097 len is.count is.len_is in omega arith))
line_sizes line (Write after at bytes) is = (is.some, is.few)

pub one_more : (bytes rest : List ℕ) (events events2 : List Event) (least count : ℕ) (e : Event) (behind : List ℕ) → SoFar bytes rest events least count → IsNext least rest e behind → events2 ≡ events ++ e ∷ [] → (least2 : ℕ) → least2 ≡ after_of e → SoFar bytes behind events2 least2 (count + 1)
one_more bytes rest events events2 least count e behind h next is least2 same = subst (λ n. SoFar bytes behind events2 n (count + 1)) (sym same) (subst (λ es. SoFar bytes behind es (after_of e) (count + 1)) (sym is) (record {
  before = h.before ++ (next.line ++ 10 ∷ []);
  parts = h.parts ∙ (ap (λ r. h.before ++ r) (next.parts ∙ sym (append_assoc next.line (10 ∷ []) behind)) ∙ sym (append_assoc h.before (next.line ++ 10 ∷ []) behind));
  lines = lines_more 0 h.before events next.line e h.lines next.is late;
  last = last_more 0 events e;
  number = length-append events (e ∷ []) ∙ ap (λ n. n + 1) h.number;
  order = order_more 0 events e h.order late (line_sizes next.line e next.is).0 (line_sizes next.line e next.is).1;
}))
  where
    late : last_after 0 events ≤ (after_of e)
    late = subst (λ n. n ≤ (after_of e)) h.last next.late

-- nothing is left
pub is_whole : (bytes rest : List ℕ) (events : List Event) (least count : ℕ) → SoFar bytes rest events least count → rest ≡ [] → count ≤ 4096 → ScriptOf bytes events
is_whole bytes rest events least count h none few = record {
  lines = subst (λ b. AreLines 0 b events) (sym (h.parts ∙ (ap (λ r. h.before ++ r) none ∙ append-nil h.before))) h.lines;
  few = let number : length events ≡ count = h.number in omega arith;
}

pub keeps : (bytes rest : List ℕ) (events : List Event) (least count : ℕ) → SoFar bytes rest events least count → count ≤ 4096 → is_script events ≡ true
keeps bytes rest events least count h few = let number : length events ≡ count = h.number in let short : length events ≤ 4096 = omega arith in rw (le_true (length events) 4096 short, h.order) refl

some_length : (xs : List ℕ) → (xs ≡ [] → ⊥) → 0 < length xs
some_length [] h = absurd (h refl)
some_length (x ∷ xs) h = omega arith

-- no next line
pub bad_line : (bytes rest : List ℕ) (events : List Event) (least count : ℕ) → SoFar bytes rest events least count → (rest ≡ [] → ⊥) → count < 4096 → HasNoNext least rest → IsFirstBad bytes (count + 1)
bad_line bytes rest events least count h some few none = record {
  before = h.before;
  rest = rest;
  events = events;
  parts = h.parts;
  good = record { lines = h.lines; few = let number : length events ≡ count = h.number in omega arith };
  number = ap (λ n. n + 1) (sym h.number);
  more = some_length rest some;
  bad = λ e next behind parts is late more. none e behind (record { line = next; parts = parts; is = is; late = subst (λ n. n ≤ (after_of e)) (sym h.last) late });
}

-- more than there may be
pub too_many : (bytes rest : List ℕ) (events : List Event) (least count : ℕ) → SoFar bytes rest events least count → (rest ≡ [] → ⊥) → count ≡ 4096 → IsFirstBad bytes 4097
too_many bytes rest events least count h some full = record {
  before = h.before;
  rest = rest;
  events = events;
  parts = h.parts;
  good = record { lines = h.lines; few = let number : length events ≡ count = h.number in omega arith };
  number = let number : length events ≡ count = h.number in omega arith;
  more = some_length rest some;
  bad = λ e next behind parts is late more. let number : length events ≡ count = h.number in absurd (omega arith);
}
