-- Cuts of a text behind its longest front of a class, and the runs among these fronts.
use Rattle.std.proofs.Common.{◌≡◌, ℕ, ◌+◌, ◌<◌, ◌≤◌, ◌⊎◌, Bool, true, false, List, [], ◌∷◌, ◌++◌, length, take, drop, eqb, arith, ◌∙◌, sym, ap, refl, subst, inl, inr}
use Rattle.std.specs.List.{prefix_len, AllPass}
use Rattle.std.proofs.lemmas.Bool.{cond-true, cond-false, eqb-true, eq-eqb, both_ways, cases_Bool, cases_lt, and_parts, and_left, and_right, false_from_ne_true, false≢true}
use Rattle.std.proofs.lemmas.List.{take_at, drop_at}
use Rattle.std.proofs.lemmas.List.Elements.{All-head, All-tail, All-cons, All-nil}
use Rattle.ir_lex.specs.Tokens.{is_run_byte, begins, starts, IsRun, HasNoRun}
use Rattle.ir_lex.specs.First.{run_len_of, opens_string}

-- a text as its longest front of a class and the rest
pub record Front (test : ℕ → Bool) (text : List ℕ) : Type 0 where
  pub front : List ℕ
  pub rest : List ℕ
  pub whole : text ≡ front ++ rest
  pub passes : AllPass test front
  pub stops : begins test rest ≡ false
  pub len : prefix_len test text ≡ length front

-- the length of such a front
pub prefix_len-front : (test : ℕ → Bool) (xs ys : List ℕ) → AllPass test xs → begins test ys ≡ false → prefix_len test (xs ++ ys) ≡ length xs
prefix_len-front test [] [] h e = refl
prefix_len-front test [] (y ∷ ys) h e = cond-false (test y) _ _ e
prefix_len-front test (x ∷ xs) ys h e =
    let passes : test x ≡ true = All-head (λ z. test z ≡ true) x xs h in
    let more = prefix_len-front test xs ys (All-tail (λ z. test z ≡ true) x xs h) e in
    cond-true (test x) (1 + prefix_len test (xs ++ ys)) 0 passes ∙ omega arith

-- each text has one
pub front_of : (test : ℕ → Bool) (text : List ℕ) → Front test text
front_of test [] = record { front = []; rest = []; whole = refl; passes = All-nil (λ z. test z ≡ true); stops = refl; len = refl }
front_of test (x ∷ xs) = front_by test x xs (test x) refl (front_of test xs)
  where
    front_by : (test : ℕ → Bool) (x : ℕ) (xs : List ℕ) (b : Bool) → test x ≡ b → Front test xs → Front test (x ∷ xs)
    front_by test x xs true e f = record {
      front = x ∷ f.front;
      rest = f.rest;
      whole = ap (λ ys. x ∷ ys) f.whole;
      passes = All-cons (λ z. test z ≡ true) x f.front e f.passes;
      stops = f.stops;
      len = cond-true (test x) (1 + prefix_len test xs) 0 e ∙ (let l = f.len in omega arith);
    }
    front_by test x xs false e f = record {
      front = [];
      rest = x ∷ xs;
      whole = refl;
      passes = All-nil (λ z. test z ≡ true);
      stops = e;
      len = cond-false (test x) (1 + prefix_len test xs) 0 e;
    }

-- a cut by the length of its first part
pub take_cut : (n : ℕ) (text xs ys : List ℕ) → text ≡ xs ++ ys → n ≡ length xs → take n text ≡ xs
take_cut n text xs ys e l = ap (take n) e ∙ take_at xs ys n (sym l)

-- the rest behind such a cut
pub drop_cut : (n : ℕ) (text xs ys : List ℕ) → text ≡ xs ++ ys → n ≡ length xs → drop n text ≡ ys
drop_cut n text xs ys e l = ap (drop n) e ∙ drop_at xs ys n (sym l)

-- a text that starts with a byte is the byte and a rest
pub starts_is : (b : ℕ) (text : List ℕ) → starts b text ≡ true → (rest : List ℕ) × (text ≡ b ∷ rest)
starts_is b [] e = absurd (false≢true e)
starts_is b (c ∷ text) e = (text, ap (λ x. x ∷ text) (eqb-true c b e))

-- a byte and a rest start with the byte
pub starts_here : (b : ℕ) (text : List ℕ) → starts b (b ∷ text) ≡ true
starts_here b text = eq-eqb b b refl

-- `c` and a quote stand first exactly where a run `c` would end before a quote
pub opens_is : (text : List ℕ) → opens_string text ≡ true → (rest : List ℕ) × (text ≡ 99 ∷ 34 ∷ rest)
opens_is [] e = absurd (false≢true e)
opens_is (a ∷ []) e = absurd (false≢true e)
opens_is (a ∷ b ∷ rest) e =
    let both = and_parts (eqb a 99) (eqb b 34) e in
    (rest, ap (λ x. x ∷ b ∷ rest) (eqb-true a 99 both.0) ∙ ap (λ x. 99 ∷ x ∷ rest) (eqb-true b 34 both.1))

-- what follows a `c` that begins no string starts with no quote
no_quote : (rest : List ℕ) → opens_string (99 ∷ rest) ≡ false → starts 34 rest ≡ false
no_quote [] e = refl
no_quote (b ∷ rest) e = e

-- and a `c` before no quote begins no string
opens_not : (rest : List ℕ) → starts 34 rest ≡ false → opens_string (99 ∷ rest) ≡ false
opens_not [] e = refl
opens_not (b ∷ rest) e = e

-- nor does another byte
opens_other : (a : ℕ) (rest : List ℕ) → eqb a 99 ≡ false → opens_string (a ∷ rest) ≡ false
opens_other a [] e = refl
opens_other a (b ∷ rest) e = and_left (eqb a 99) (eqb b 34) e

-- a byte of a class is no byte outside it
pub class_excludes : (test : ℕ → Bool) (k b : ℕ) → test k ≡ false → test b ≡ true → eqb b k ≡ false
class_excludes test k b out in' =
    false_from_ne_true (eqb b k) (λ e. both_ways (test k) out (subst (λ z. test z ≡ true) (eqb-true b k e) in'))

-- no run is `c` before a quote, and no longer run looks like it
run_opens_not : (run rest : List ℕ) → IsRun run rest → opens_string (run ++ rest) ≡ false
unfolding is_run_byte
run_opens_not [] rest r = absurd (let h = r.filled in omega arith)
run_opens_not (a ∷ []) rest r = opens_by (cases_Bool (eqb a 99))
  where
    opens_by : (eqb a 99 ≡ true) ⊎ (eqb a 99 ≡ false) → opens_string (a ∷ rest) ≡ false
    opens_by (inl e) =
        let same = eqb-true a 99 e in
        ap (λ x. opens_string (x ∷ rest)) same ∙ opens_not rest (r.no_string (ap (λ x. x ∷ []) same))
    opens_by (inr e) = opens_other a rest e
run_opens_not (a ∷ b ∷ run) rest r =
    and_right (eqb a 99) (eqb b 34) (class_excludes is_run_byte 34 b refl (r.bytes 1 0 (omega arith)))

-- the length of a run
pub run_len-run : (run rest : List ℕ) → IsRun run rest → run_len_of (run ++ rest) ≡ length run
run_len-run run rest r =
    cond-false (opens_string (run ++ rest)) 0 (prefix_len is_run_byte (run ++ rest)) (run_opens_not run rest r)
    ∙ prefix_len-front is_run_byte run rest r.bytes r.longest

-- a text that begins with a run as the run and the rest
pub record RunCut (text : List ℕ) : Type 0 where
  pub run : List ℕ
  pub rest : List ℕ
  pub whole : text ≡ run ++ rest
  pub is : IsRun run rest
  pub len : run_len_of text ≡ length run

-- where a length is found there is a run
pub run_cut : (text : List ℕ) → 0 < run_len_of text → RunCut text
run_cut text h = cut_by (cases_Bool (opens_string text)) (front_of is_run_byte text)
  where
    cut_by : (opens_string text ≡ true) ⊎ (opens_string text ≡ false) → Front is_run_byte text → RunCut text
    cut_by (inl e) f = absurd (let none = cond-true (opens_string text) 0 (prefix_len is_run_byte text) e in omega arith)
    cut_by (inr e) f =
        let len : run_len_of text ≡ length f.front = cond-false (opens_string text) 0 (prefix_len is_run_byte text) e ∙ f.len in
        record {
          run = f.front;
          rest = f.rest;
          whole = f.whole;
          is = record {
            filled = omega arith;
            bytes = f.passes;
            longest = f.stops;
            no_string = λ c. no_quote f.rest (sym (ap opens_string (f.whole ∙ ap (λ x. x ++ f.rest) c)) ∙ e);
          };
          len = len;
        }

-- where none is found there is none
pub no_run : (text : List ℕ) → run_len_of text ≡ 0 → HasNoRun text
no_run text e run rest w r =
    let len = sym (ap run_len_of w ∙ run_len-run run rest r) ∙ e in let h = r.filled in omega arith

-- where there is no run none is found
pub run_len-none : (text : List ℕ) → HasNoRun text → run_len_of text ≡ 0
run_len-none text none = none_by (cases_lt 0 (run_len_of text))
  where
    none_by : (0 < run_len_of text) ⊎ (run_len_of text ≤ 0) → run_len_of text ≡ 0
    none_by (inl h) = let cut = run_cut text h in absurd (none cut.run cut.rest cut.whole cut.is)
    none_by (inr h) = omega arith
