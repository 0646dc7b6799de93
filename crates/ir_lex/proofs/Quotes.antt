-- What stands between quotes, and the names behind a sigil.
use Rattle.std.proofs.Common.{◌≡◌, ℕ, ◌+◌, ◌<◌, ◌⊎◌, Bool, true, false, cond, List, [], ◌∷◌, ◌++◌, length, take, drop, ltb, eqb, Option, Some, None, arith, ◌∙◌, sym, ap, refl, subst, inl, inr, append_assoc, append-nil}
use Rattle.std.specs.Prelude.{◌&&◌}
use Rattle.std.specs.List.{prefix_len, AllPass}
use Rattle.std.specs.Char.{is_ascii_digit}
use Rattle.std.proofs.lemmas.Bool.{cond-true, cond-false, lt-ltb, ltb-true, eqb-true, eq-eqb, and_from, and_parts, or_cases, or_left, or_right, cases_Bool}
use Rattle.std.proofs.lemmas.List.{length-append, length_push, nil_from_length}
use Rattle.ir_lex.specs.Tokens.{is_run_byte, is_name_byte, is_text_byte, begins, starts, IsRun, IsQuoted, quoted, MayName, SpellsName}
use Rattle.ir_lex.specs.First.{closed_at, quoted_name_at, text_by, text_found, may_name, run_name, run_len_of, quoted_as, name_at}
use Rattle.ir_lex.specs.declared.first.Found.TheVariants.{Token, Stray}
use Rattle.ir_lex.specs.declared.token.TokenKind.TheVariants as kind
use Rattle.ir_lex.proofs.Fronts.{front_of, prefix_len-front, take_cut, drop_cut, starts_is, starts_here, class_excludes, run_len-run, run_cut}

-- bytes of a class and a closing quote behind them
pub record QuoteCut (test : ℕ → Bool) (text : List ℕ) : Type 0 where
  pub inner : List ℕ
  pub rest : List ℕ
  pub whole : text ≡ inner ++ 34 ∷ rest
  pub passes : AllPass test inner
  pub len : prefix_len test text ≡ length inner

-- where a quote stands behind the longest front of a class
pub quote_cut : (test : ℕ → Bool) (text : List ℕ) → starts 34 (drop (prefix_len test text) text) ≡ true → QuoteCut test text
quote_cut test text e =
    let f = front_of test text in
    let behind = drop_cut (prefix_len test text) text f.front f.rest f.whole f.len in
    let q = starts_is 34 f.rest (sym (ap (starts 34) behind) ∙ e) in
    record { inner = f.front; rest = q.0; whole = f.whole ∙ ap (λ z. f.front ++ z) q.1; passes = f.passes; len = f.len }

-- a front that ends before a quote
pub prefix_len-quote : (test : ℕ → Bool) (inner rest : List ℕ) → test 34 ≡ false → AllPass test inner → prefix_len test (inner ++ 34 ∷ rest) ≡ length inner
prefix_len-quote test inner rest out passes = prefix_len-front test inner (34 ∷ rest) passes out

-- a quote behind n bytes
starts-drop : (n b : ℕ) (text inner rest : List ℕ) → text ≡ inner ++ b ∷ rest → n ≡ length inner → starts b (drop n text) ≡ true
starts-drop n b text inner rest w l = ap (starts b) (drop_cut n text inner (b ∷ rest) w l) ∙ starts_here b rest

-- a quoted name is told by its length
pub quoted_name_at-name : (name rest : List ℕ) → 0 < length name → AllPass is_name_byte name → quoted_name_at (name ++ 34 ∷ rest) ≡ Some (length name)
unfolding is_name_byte
quoted_name_at-name name rest some passes =
    let text = name ++ 34 ∷ rest in
    let len = prefix_len-quote is_name_byte name rest refl passes in
    ap (λ n. closed_at n text) len
    ∙ cond-true (ltb 0 (length name) && starts 34 (drop (length name) text)) (Some (length name)) None
    (and_from (ltb 0 (length name)) (starts 34 (drop (length name) text)) (lt-ltb 0 (length name) some)
    (starts-drop (length name) 34 text name rest refl refl))

-- a text as a quoted name's bytes, the closing quote and the rest
pub record NameCut (text : List ℕ) (n : ℕ) : Type 0 where
  pub name : List ℕ
  pub rest : List ℕ
  pub whole : text ≡ name ++ 34 ∷ rest
  pub filled : 0 < length name
  pub passes : AllPass is_name_byte name
  pub len : n ≡ length name

-- where a length is told there is a quoted name
pub name_cut : (text : List ℕ) (n : ℕ) → quoted_name_at text ≡ Some n → NameCut text n
name_cut text n e = cut_by (cases_Bool test)
  where
    front : ℕ
    front = prefix_len is_name_byte text

    test : Bool
    test = ltb 0 front && starts 34 (drop front text)

    cut_by : (test ≡ true) ⊎ (test ≡ false) → NameCut text n
    cut_by (inl t) =
        let both = and_parts (ltb 0 front) (starts 34 (drop front text)) t in
        let q = quote_cut is_name_byte text both.1 in
        let some = ltb-true 0 front both.0 in
        let same : Some front ≡ Some n = sym (cond-true test (Some front) None t) ∙ e in
        let len : n ≡ front = cc in
        let l = q.len in
        record { name = q.inner; rest = q.rest; whole = q.whole; filled = omega arith; passes = q.passes; len = len ∙ q.len }
    cut_by (inr f) = let none : None ≡ Some n = sym (cond-false test (Some front) None f) ∙ e in absurd (cc)

-- a run that may name a global or a local
pub may_name-run : (run : List ℕ) → MayName run → may_name run ≡ true
may_name-run run (inl all) =
    let len : prefix_len is_ascii_digit run ≡ length run =
    sym (ap (prefix_len is_ascii_digit) (append-nil run)) ∙ prefix_len-front is_ascii_digit run [] all refl in
    or_right (eqb (prefix_len is_ascii_digit run) 0) (eqb (prefix_len is_ascii_digit run) (length run)) (eq-eqb (prefix_len is_ascii_digit run) (length run) len)
may_name-run run (inr none) =
    let len : prefix_len is_ascii_digit run ≡ 0 = prefix_len-front is_ascii_digit [] run (λ k d h. absurd (omega arith)) none in
    or_left (eqb (prefix_len is_ascii_digit run) 0) (eqb (prefix_len is_ascii_digit run) (length run)) (eq-eqb (prefix_len is_ascii_digit run) 0 len)

-- a front of no bytes is none
begins-none : (test : ℕ → Bool) (text : List ℕ) → prefix_len test text ≡ 0 → begins test text ≡ false
begins-none test [] e = refl
begins-none test (b ∷ text) e = none_by (test b) refl
  where
    none_by : (t : Bool) → test b ≡ t → test b ≡ false
    none_by false f = f
    none_by true t = let l = sym (cond-true (test b) (1 + prefix_len test text) 0 t) ∙ e in absurd (omega arith)

-- a front as long as the text is the text
all-passes : (test : ℕ → Bool) (text : List ℕ) → prefix_len test text ≡ length text → AllPass test text
all-passes test text e =
    let f = front_of test text in
    let whole = ap length f.whole in
    let parts = length-append f.front f.rest in
    let len = f.len in
    let none : f.rest ≡ [] = nil_from_length f.rest (omega arith) in
    subst (AllPass test) (sym (f.whole ∙ ap (λ z. f.front ++ z) none ∙ append-nil f.front)) f.passes

-- and what is told to be one is one
pub may_name_is : (run : List ℕ) → may_name run ≡ true → MayName run
may_name_is run e = is_by (or_cases (eqb (prefix_len is_ascii_digit run) 0) (eqb (prefix_len is_ascii_digit run) (length run)) e)
  where
    is_by : (eqb (prefix_len is_ascii_digit run) 0 ≡ true) ⊎ (eqb (prefix_len is_ascii_digit run) (length run) ≡ true) → MayName run
    is_by (inl z) = inr (begins-none is_ascii_digit run (eqb-true (prefix_len is_ascii_digit run) 0 z))
    is_by (inr a) = inl (all-passes is_ascii_digit run (eqb-true (prefix_len is_ascii_digit run) (length run) a))

-- a name that is a run
name_at-run : (name rest : List ℕ) → IsRun name rest → MayName name → name_at (name ++ rest) ≡ Some (name, length name)
unfolding name_at is_run_byte
name_at-run [] rest r m = absurd (let h = r.filled in omega arith)
name_at-run (b ∷ bytes) rest r m =
    let text = b ∷ (bytes ++ rest) in
    let name = b ∷ bytes in
    let n = length name in
    cond-false (eqb b 34) (quoted_as (quoted_name_at (bytes ++ rest)) (bytes ++ rest)) (run_name (run_len_of text) text)
    (class_excludes is_run_byte 34 b refl (r.bytes 0 0 (omega arith)))
    ∙ ap (λ k. run_name k text) (run_len-run name rest r)
    ∙ ap (λ z. cond (ltb 0 n && may_name z) (Some (z, n)) None) (take_cut n text name rest refl refl)
    ∙ cond-true (ltb 0 n && may_name name) (Some (name, n)) None
    (and_from (ltb 0 n) (may_name name) (lt-ltb 0 n r.filled) (may_name-run name m))

-- what follows a closing quote
pub quoted-then : (inner rest : List ℕ) → (inner ++ 34 ∷ []) ++ rest ≡ inner ++ 34 ∷ rest
quoted-then inner rest = append_assoc inner (34 ∷ []) rest

-- a name between quotes
name_at-quoted : (name bytes rest : List ℕ) → IsQuoted name bytes → name_at (bytes ++ rest) ≡ Some (name, length bytes)
unfolding name_at
name_at-quoted name bytes rest q =
    let text = name ++ 34 ∷ rest in
    let n = length name in
    let longer = length_push name 34 in
    let len : n + 2 ≡ length (quoted name) = omega arith in
    ap (λ z. name_at (z ++ rest)) q.spelling
    ∙ ap (λ z. quoted_as (quoted_name_at z) z) (quoted-then name rest)
    ∙ ap (λ o. quoted_as o text) (quoted_name_at-name name rest q.filled q.bytes_of_name)
    ∙ ap (λ z. Some (z, n + 2)) (take_cut n text name (34 ∷ rest) refl refl)
    ∙ ap (λ k. Some (name, k)) len
    ∙ ap (λ z. Some (name, length z)) (sym q.spelling)

-- a sigil's name is told behind it
pub name_at-spelled : (sigil : ℕ) (name bytes rest : List ℕ) → SpellsName sigil name bytes rest
    → (tail : List ℕ) × (bytes ≡ sigil ∷ tail) × (name_at (tail ++ rest) ≡ Some (name, length tail))
name_at-spelled sigil name bytes rest (inl x) = (name, x.0, name_at-run name rest x.1 x.2)
name_at-spelled sigil name bytes rest (inr x) = (x.0, x.1, name_at-quoted name x.0 rest x.2)

-- a text as a name's spelling behind a sigil and the rest
pub record NamedCut (text : List ℕ) (told : List ℕ × ℕ) : Type 0 where
  pub tail : List ℕ
  pub rest : List ℕ
  pub whole : text ≡ tail ++ rest
  pub len : told.1 ≡ length tail
  pub spells : (sigil : ℕ) → SpellsName sigil told.0 (sigil ∷ tail) rest

-- a quoted name behind a sigil, by its length
quoted_name_is : (text : List ℕ) (o : Option ℕ) → quoted_name_at text ≡ o → (x : List ℕ × ℕ) → quoted_as o text ≡ Some x → NamedCut (34 ∷ text) x
quoted_name_is text None told x e = absurd (cc)
quoted_name_is text (Some n) told x e =
    let c = name_cut text n told in
    let same : (take n text, n + 2) ≡ x = cc in
    let longer = length_push c.name 34 in
    let len = c.len in
    let two : n + 2 ≡ length (quoted c.name) = omega arith in
    let name : x.0 ≡ c.name = ap (λ (z : List ℕ × ℕ). z.0) (sym same) ∙ take_cut n text c.name (34 ∷ c.rest) c.whole c.len in
    record {
      tail = quoted c.name;
      rest = c.rest;
      whole = ap (λ z. 34 ∷ z) (c.whole ∙ sym (quoted-then c.name c.rest));
      len = ap (λ (z : List ℕ × ℕ). z.1) (sym same) ∙ two;
      spells = λ sigil. inr (quoted c.name, refl, record { spelling = ap quoted (sym name); filled = subst (λ z. 0 < length z) (sym name) c.filled; bytes_of_name = subst (AllPass is_name_byte) (sym name) c.passes });
    }

-- a run behind a sigil, by its length
run_name_is : (text : List ℕ) (x : List ℕ × ℕ) → run_name (run_len_of text) text ≡ Some x → NamedCut text x
run_name_is text x e = is_by (cases_Bool test)
  where
    n : ℕ
    n = run_len_of text

    test : Bool
    test = ltb 0 n && may_name (take n text)

    is_by : (test ≡ true) ⊎ (test ≡ false) → NamedCut text x
    is_by (inl t) =
        let both = and_parts (ltb 0 n) (may_name (take n text)) t in
        let c = run_cut text (ltb-true 0 n both.0) in
        let told : Some (take n text, n) ≡ Some x = sym (cond-true test (Some (take n text, n)) None t) ∙ e in
        let same : (take n text, n) ≡ x = cc in
        let run : take n text ≡ c.run = take_cut n text c.run c.rest c.whole c.len in
        let name : x.0 ≡ c.run = ap (λ (z : List ℕ × ℕ). z.0) (sym same) ∙ run in
        let may : MayName c.run = may_name_is c.run (sym (ap may_name run) ∙ both.1) in
        record {
          tail = c.run;
          rest = c.rest;
          whole = c.whole;
          len = ap (λ (z : List ℕ × ℕ). z.1) (sym same) ∙ c.len;
          spells = λ sigil. inl (ap (λ z. sigil ∷ z) (sym name), subst (λ z. IsRun z c.rest) (sym name) c.is, subst MayName (sym name) may);
        }
    is_by (inr f) = let none : None ≡ Some x = sym (cond-false test (Some (take n text, n)) None f) ∙ e in absurd (cc)

-- what is told behind a sigil is a name
pub name_at_is : (text : List ℕ) (x : List ℕ × ℕ) → name_at text ≡ Some x → NamedCut text x
unfolding name_at
name_at_is [] x e = absurd (cc)
name_at_is (b ∷ text) x e = is_by (cases_Bool (eqb b 34))
  where
    quote : Option (List ℕ × ℕ)
    quote = quoted_as (quoted_name_at text) text

    run : Option (List ℕ × ℕ)
    run = run_name (run_len_of (b ∷ text)) (b ∷ text)

    is_by : (eqb b 34 ≡ true) ⊎ (eqb b 34 ≡ false) → NamedCut (b ∷ text) x
    is_by (inl t) =
        subst (λ z. NamedCut (z ∷ text) x) (sym (eqb-true b 34 t))
        (quoted_name_is text (quoted_name_at text) refl x (sym (cond-true (eqb b 34) quote run t) ∙ e))
    is_by (inr f) = run_name_is (b ∷ text) x (sym (cond-false (eqb b 34) quote run f) ∙ e)

-- a string that is no label's name is told by its length
pub text_found-quoted : (s rest : List ℕ) → AllPass is_text_byte s → text_found (s ++ 34 ∷ rest) ≡ Token (kind.Str s) (length s + 2)
unfolding is_text_byte
text_found-quoted s rest passes =
    let text = s ++ 34 ∷ rest in
    let n = length s in
    ap (λ k. text_by k text) (prefix_len-quote is_text_byte s rest refl passes)
    ∙ cond-true (starts 34 (drop n text)) (Token (kind.Str (take n text)) (n + 2)) Stray (starts-drop n 34 text s rest refl refl)
    ∙ ap (λ z. Token (kind.Str z) (n + 2)) (take_cut n text s (34 ∷ rest) refl refl)
