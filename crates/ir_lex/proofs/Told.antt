-- What is found at the front of a text is a piece.
use Rattle.std.proofs.Common.{◌≡◌, ℕ, ◌+◌, ◌<◌, ◌≤◌, ◌⊎◌, true, false, cond, List, [], ◌∷◌, ◌++◌, length, take, drop, eqb, Option, Some, None, ℤ, arith, ◌∙◌, sym, ap, refl, subst, inl, inr, append_assoc}
use Rattle.std.specs.List.{prefix_len}
use Rattle.std.proofs.lemmas.Bool.{cond-true, cond-false, cond_both, eqb-true, eq-eqb, ne_eqb, cases_Bool, cases_lt}
use Rattle.std.proofs.lemmas.List.{length_push, same_from_push}
use Rattle.ir_lex.specs.Tokens.{is_separator, is_run_byte, is_text_byte, is_mark, in_line, starts, IsRun, IsQuoted, quoted, SpellsName, Spells, Piece, separator, comment, token, piece_bytes, IsPiece}
use Rattle.ir_lex.specs.First.{start_of, found_by, found_in, run_found, run_len_of, opens_string, number_or_word, run_as, number_of, string_as, string_from, quote_found, quote_as, quoted_name_at, text_by, text_found, name_at, name_found, meta_found, hash_found}
use Rattle.ir_lex.specs.declared.class.Start.{Start}
use Rattle.ir_lex.specs.declared.class.Start.TheVariants as start
use Rattle.ir_lex.specs.declared.escape.Escape.TheVariants.{Plain}
use Rattle.ir_lex.specs.declared.first.Found.{Found}
use Rattle.ir_lex.specs.declared.first.Found.TheVariants.{Gap, Token, Stray}
use Rattle.ir_lex.specs.declared.token.TokenKind.{TokenKind}
use Rattle.ir_lex.specs.declared.token.TokenKind.TheVariants as kind
use Rattle.ir_lex.proofs.Fronts.{front_of, take_cut, drop_cut, starts_is, opens_is, run_cut, no_run}
use Rattle.ir_lex.proofs.Numbers.{number_of-spelled, number_is}
use Rattle.ir_lex.proofs.Strings.{string_cut}
use Rattle.ir_lex.proofs.Quotes.{quote_cut, name_cut, quoted_name_at-name, name_at_is, quoted-then}
use Rattle.ir_lex.proofs.Found.{found_of, run_found-run}

-- a text as the piece that is told and the rest
pub record Told (text : List ℕ) (found : Found) : Type 0 where
  pub piece : Piece
  pub rest : List ℕ
  pub whole : text ≡ piece_bytes piece ++ rest
  pub is : IsPiece piece rest
  pub same : found_of piece ≡ found

-- nothing is found, or a piece
abbrev pub Answers : List ℕ → Found → Type 0
Answers text found = (found ≡ Stray) ⊎ Told text found

-- a `c` string
told-string : (text : List ℕ) (o : Option (List ℕ × ℕ)) → string_from Plain text ≡ o → Answers (99 ∷ 34 ∷ text) (string_as o)
told-string text None e = inl refl
told-string text (Some x) e =
    let c = string_cut text Plain x e in
    let longer = length_push c.inner 34 in
    let l = c.len in
    let len : length (99 ∷ quoted c.inner) ≡ x.1 + 3 = omega arith in
    inr (record {
      piece = token (kind.CStr x.0) (99 ∷ quoted c.inner);
      rest = c.rest;
      whole = ap (λ z. 99 ∷ 34 ∷ z) (c.whole ∙ sym (quoted-then c.inner c.rest));
      is = (c.inner, refl, c.spells);
      same = ap (Token (kind.CStr x.0)) len;
    })

-- a number or a word
told-word : (run rest : List ℕ) → IsRun run rest → starts 58 rest ≡ false → (o : Option ℤ) → number_of run ≡ o → Answers (run ++ rest) (run_as o run)
told-word run rest r e None none =
    inr (record {
      piece = token (kind.Word run) run;
      rest = rest;
      whole = refl;
      is = (refl, r, e, λ n h. (let some = number_of-spelled n run h in let both : None ≡ Some n = sym none ∙ some in cc));
      same = refl;
    })
told-word run rest r e (Some n) some =
    inr (record { piece = token (kind.Int n) run; rest = rest; whole = refl; is = (r, e, number_is run n some); same = refl })

-- a label, a number or a word
told-run : (run rest : List ℕ) → IsRun run rest → Answers (run ++ rest) (run_found (run ++ rest))
told-run run rest r =
    subst (Answers (run ++ rest)) (sym (run_found-run run rest r)) (told_by (cases_Bool (starts 58 rest)))
  where
    label : Found
    label = Token (kind.Label run) (length run + 1)

    told_by : (starts 58 rest ≡ true) ⊎ (starts 58 rest ≡ false) → Answers (run ++ rest) (cond (starts 58 rest) label (number_or_word run))
    told_by (inl t) =
        let behind = starts_is 58 rest t in
        let told : Told (run ++ rest) label = record {
          piece = token (kind.Label run) (run ++ 58 ∷ []);
          rest = behind.0;
          whole = ap (λ z. run ++ z) behind.1 ∙ sym (append_assoc run (58 ∷ []) behind.0);
          is = (run, refl, inl (refl, subst (IsRun run) behind.1 r));
          same = ap (Token (kind.Label run)) (length_push run 58);
        } in
        subst (Answers (run ++ rest)) (sym (cond-true (starts 58 rest) label (number_or_word run) t)) (inr told)
    told_by (inr f) =
        subst (Answers (run ++ rest)) (sym (cond-false (starts 58 rest) label (number_or_word run) f)) (told-word run rest r f (number_of run) refl)

-- what a byte of a run begins
told-run_byte : (b : ℕ) (text : List ℕ) → is_run_byte b ≡ true → Answers (b ∷ text) (run_found (b ∷ text))
unfolding run_found is_run_byte
told-run_byte b text e = told_by (cases_Bool (opens_string (b ∷ text)))
  where
    all : List ℕ
    all = b ∷ text

    told_by : (opens_string all ≡ true) ⊎ (opens_string all ≡ false) → Answers all (run_found all)
    told_by (inl t) =
        let o = opens_is all t in
        subst (λ z. Answers z (run_found z)) (sym o.1) (told-string o.0 (string_from Plain o.0) refl)
    told_by (inr f) =
        let len = cond-false (opens_string all) 0 (prefix_len is_run_byte all) f in
        let some = cond-true (is_run_byte b) (1 + prefix_len is_run_byte text) 0 e in
        let c = run_cut all (omega arith) in
        subst (λ z. Answers z (run_found z)) (sym c.whole) (told-run c.run c.rest c.is)

-- what stands between quotes is one thing
quoted_once : (s t : List ℕ) → quoted s ≡ quoted t → s ≡ t
quoted_once s t e = let tails : s ++ 34 ∷ [] ≡ t ++ 34 ∷ [] = cc in (same_from_push s t 34 34 tails).0

-- a string, where it is no label
told-text : (text : List ℕ) → ((s rest : List ℕ) → text ≡ s ++ 34 ∷ rest → IsQuoted s (quoted s) → starts 58 rest ≡ false) → Answers (34 ∷ text) (text_found text)
told-text text no_label = told_by (cases_Bool (starts 34 (drop n text)))
  where
    n : ℕ
    n = prefix_len is_text_byte text

    string : Found
    string = Token (kind.Str (take n text)) (n + 2)

    told_by : (starts 34 (drop n text) ≡ true) ⊎ (starts 34 (drop n text) ≡ false) → Answers (34 ∷ text) (text_by n text)
    told_by (inl t) =
        let c = quote_cut is_text_byte text t in
        let longer = length_push c.inner 34 in
        let l = c.len in
        let len : length (quoted c.inner) ≡ n + 2 = omega arith in
        let told : Told (34 ∷ text) string = record {
          piece = token (kind.Str c.inner) (quoted c.inner);
          rest = c.rest;
          whole = ap (λ z. 34 ∷ z) (c.whole ∙ sym (quoted-then c.inner c.rest));
          is = (
            refl,
            c.passes,
            λ name q. no_label c.inner c.rest c.whole
                (subst (λ z. IsQuoted z (quoted c.inner)) (sym (quoted_once c.inner name q.spelling)) q),
          );
          same = ap (Token (kind.Str c.inner)) len ∙ ap (λ z. Token (kind.Str z) (n + 2)) (sym (take_cut n text c.inner (34 ∷ c.rest) c.whole c.len));
        } in
        subst (Answers (34 ∷ text)) (sym (cond-true (starts 34 (drop n text)) string Stray t)) (inr told)
    told_by (inr f) = inl (cond-false (starts 34 (drop n text)) string Stray f)

-- what a quote begins
told-quote : (text : List ℕ) (o : Option ℕ) → quoted_name_at text ≡ o → Answers (34 ∷ text) (quote_as o text)
told-quote text None e =
    told-text text (λ s rest whole q. (let some = ap quoted_name_at whole ∙ quoted_name_at-name s rest q.filled q.bytes_of_name in
    let both : None ≡ Some (length s) = sym e ∙ some in absurd (cc)))
told-quote text (Some n) e = told_by (cases_Bool (starts 58 (drop (n + 1) text)))
  where
    label : Found
    label = Token (kind.Label (take n text)) (n + 3)

    told_by : (starts 58 (drop (n + 1) text) ≡ true) ⊎ (starts 58 (drop (n + 1) text) ≡ false) → Answers (34 ∷ text) (quote_as (Some n) text)
    told_by (inl t) =
        let c = name_cut text n e in
        let longer = length_push c.name 34 in
        let l = c.len in
        let drops = drop_cut (n + 1) text (c.name ++ 34 ∷ []) c.rest (c.whole ∙ sym (quoted-then c.name c.rest)) (omega arith) in
        let behind = starts_is 58 c.rest (sym (ap (starts 58) drops) ∙ t) in
        let all = length_push (quoted c.name) 58 in
        let len : length (quoted c.name ++ 58 ∷ []) ≡ n + 3 = omega arith in
        let regrouped : text ≡ ((c.name ++ 34 ∷ []) ++ 58 ∷ []) ++ behind.0 =
        c.whole ∙ sym (quoted-then c.name c.rest) ∙ ap (λ z. (c.name ++ 34 ∷ []) ++ z) behind.1 ∙ sym (append_assoc (c.name ++ 34 ∷ []) (58 ∷ []) behind.0) in
        let told : Told (34 ∷ text) label = record {
          piece = token (kind.Label c.name) (quoted c.name ++ 58 ∷ []);
          rest = behind.0;
          whole = ap (λ z. 34 ∷ z) regrouped;
          is = (quoted c.name, refl, inr (record { spelling = refl; filled = c.filled; bytes_of_name = c.passes }));
          same = ap (Token (kind.Label c.name)) len ∙ ap (λ z. Token (kind.Label z) (n + 3)) (sym (take_cut n text c.name (34 ∷ c.rest) c.whole c.len));
        } in
        subst (Answers (34 ∷ text)) (sym (cond-true (starts 58 (drop (n + 1) text)) label (text_found text) t)) (inr told)
    told_by (inr f) =
        let text_told : Answers (34 ∷ text) (text_found text) = told-text text (λ s rest whole q.
        (let some = ap quoted_name_at whole ∙ quoted_name_at-name s rest q.filled q.bytes_of_name in
        let both : Some n ≡ Some (length s) = sym e ∙ some in
        let l : n ≡ length s = cc in
        let longer = length_push s 34 in
        let drops = drop_cut (n + 1) text (s ++ 34 ∷ []) rest (whole ∙ sym (quoted-then s rest)) (omega arith) in
        sym (ap (starts 58) drops) ∙ f)) in
        subst (Answers (34 ∷ text)) (sym (cond-false (starts 58 (drop (n + 1) text)) label (text_found text) f)) text_told

-- what a sigil begins
told-name : (sigil : ℕ) (make : List ℕ → TokenKind) → ((name bytes rest : List ℕ) → SpellsName sigil name bytes rest → Spells (make name) bytes rest)
    → (text : List ℕ) (o : Option (List ℕ × ℕ)) → name_at text ≡ o → Answers (sigil ∷ text) (name_found make o)
told-name sigil make spells text None e = inl refl
told-name sigil make spells text (Some x) e =
    let c = name_at_is text x e in
    let l = c.len in
    let len : length (sigil ∷ c.tail) ≡ x.1 + 1 = omega arith in
    inr (record {
      piece = token (make x.0) (sigil ∷ c.tail);
      rest = c.rest;
      whole = ap (λ z. sigil ∷ z) c.whole;
      is = spells x.0 (sigil ∷ c.tail) c.rest (c.spells sigil);
      same = ap (Token (make x.0)) len;
    })

-- what `!` begins
told-meta : (text : List ℕ) → Answers (33 ∷ text) (meta_found (run_len_of text) text)
told-meta text = told_by (cases_lt 0 (run_len_of text))
  where
    told_by : (0 < run_len_of text) ⊎ (run_len_of text ≤ 0) → Answers (33 ∷ text) (meta_found (run_len_of text) text)
    told_by (inl h) =
        let c = run_cut text h in
        let l = c.len in
        let len : length (33 ∷ c.run) ≡ run_len_of text + 1 = omega arith in
        inr (record {
          piece = token (kind.Meta c.run) (33 ∷ c.run);
          rest = c.rest;
          whole = ap (λ z. 33 ∷ z) c.whole;
          is = (refl, inl c.is);
          same = ap (Token (kind.Meta c.run)) len ∙ ap (λ z. Token (kind.Meta z) (run_len_of text + 1)) (sym (take_cut (run_len_of text) text c.run c.rest c.whole c.len));
        })
    told_by (inr h) =
        let none : run_len_of text ≡ 0 = omega arith in
        inr (record {
          piece = token (kind.Meta []) (33 ∷ []);
          rest = text;
          whole = refl;
          is = (refl, inr (refl, no_run text none));
          same = ap (λ n. meta_found n text) (sym none);
        })

-- what `#` begins
told-hash : (text : List ℕ) → Answers (35 ∷ text) (hash_found (run_len_of text) text)
told-hash text = told_by (cases_lt 0 (run_len_of text))
  where
    n : ℕ
    n = run_len_of text

    hash : Found
    hash = Token (kind.Hash (take n text)) (n + 1)

    told_by : (0 < n) ⊎ (n ≤ 0) → Answers (35 ∷ text) (hash_found n text)
    told_by (inl h) =
        let c = run_cut text h in
        let l = c.len in
        let len : length (35 ∷ c.run) ≡ n + 1 = omega arith in
        let told : Told (35 ∷ text) hash = record {
          piece = token (kind.Hash c.run) (35 ∷ c.run);
          rest = c.rest;
          whole = ap (λ z. 35 ∷ z) c.whole;
          is = (refl, c.is);
          same = ap (Token (kind.Hash c.run)) len ∙ ap (λ z. Token (kind.Hash z) (n + 1)) (sym (take_cut n text c.run c.rest c.whole c.len));
        } in
        subst (Answers (35 ∷ text)) (sym (cond-false (eqb n 0) Stray hash (ne_eqb n 0 (λ z. omega arith)))) (inr told)
    told_by (inr h) = inl (cond-true (eqb n 0) Stray hash (eq-eqb n 0 (omega arith)))

-- what is known of a byte by what it begins
abbrev StartIs : ℕ → Start → Type 0
StartIs b start.Run = is_run_byte b ≡ true
StartIs b start.Separator = is_separator b ≡ true
StartIs b start.Comment = b ≡ 59
StartIs b start.Quote = b ≡ 34
StartIs b start.Global = b ≡ 64
StartIs b start.Local = b ≡ 37
StartIs b start.Meta = b ≡ 33
StartIs b start.Hash = b ≡ 35
StartIs b start.Mark = is_mark b ≡ true
StartIs b start.Nothing = Unit {0}

-- it is known of each byte
start_is : (b : ℕ) → StartIs b (start_of b)
unfolding start_of
start_is b =
    cond_both (is_run_byte b) start.Run _ (StartIs b) (λ e. e)
    (λ _. cond_both (is_separator b) start.Separator _ (StartIs b) (λ e. e)
    (λ _. cond_both (eqb b 59) start.Comment _ (StartIs b) (eqb-true b 59)
    (λ _. cond_both (eqb b 34) start.Quote _ (StartIs b) (eqb-true b 34)
    (λ _. cond_both (eqb b 64) start.Global _ (StartIs b) (eqb-true b 64)
    (λ _. cond_both (eqb b 37) start.Local _ (StartIs b) (eqb-true b 37)
    (λ _. cond_both (eqb b 33) start.Meta _ (StartIs b) (eqb-true b 33)
    (λ _. cond_both (eqb b 35) start.Hash _ (StartIs b) (eqb-true b 35)
    (λ _. cond_both (is_mark b) start.Mark start.Nothing (StartIs b) (λ e. e) (λ _. tt)))))))))

-- what each byte begins
told_by_start : (s : Start) (b : ℕ) (text : List ℕ) → StartIs b s → Answers (b ∷ text) (found_by s b text)
unfolding quote_found
told_by_start start.Run b text e = told-run_byte b text e
told_by_start start.Separator b text e =
    inr (record { piece = separator b; rest = text; whole = refl; is = e; same = refl })
told_by_start start.Comment b text e =
    let f = front_of in_line text in
    inr (record {
      piece = comment f.front;
      rest = f.rest;
      whole = ap (λ z. z ∷ text) e ∙ ap (λ z. 59 ∷ z) f.whole;
      is = (f.passes, f.stops);
      same = ap (λ n. Gap (n + 1)) (sym f.len);
    })
told_by_start start.Quote b text e =
    subst (λ z. Answers (z ∷ text) (quote_found text)) (sym e) (told-quote text (quoted_name_at text) refl)
told_by_start start.Global b text e =
    subst (λ z. Answers (z ∷ text) (name_found kind.Global (name_at text))) (sym e) (told-name 64 kind.Global (λ name bytes rest h. h) text (name_at text) refl)
told_by_start start.Local b text e =
    subst (λ z. Answers (z ∷ text) (name_found kind.Local (name_at text))) (sym e) (told-name 37 kind.Local (λ name bytes rest h. h) text (name_at text) refl)
told_by_start start.Meta b text e =
    subst (λ z. Answers (z ∷ text) (meta_found (run_len_of text) text)) (sym e) (told-meta text)
told_by_start start.Hash b text e =
    subst (λ z. Answers (z ∷ text) (hash_found (run_len_of text) text)) (sym e) (told-hash text)
told_by_start start.Mark b text e =
    inr (record { piece = token (kind.Mark b) (b ∷ []); rest = text; whole = refl; is = (refl, e); same = refl })
told_by_start start.Nothing b text e = inl refl

-- at the front of each text nothing is found, or a piece
pub told : (text : List ℕ) → Answers text (found_in text)
unfolding found_in
told [] = inl refl
told (b ∷ text) = told_by_start (start_of b) b text (start_is b)
