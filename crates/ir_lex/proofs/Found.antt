-- Each piece is found: what stands at the front of a text is told with its length.
use Rattle.std.proofs.Common.{◌≡◌, ℕ, ◌+◌, ◌⊎◌, true, false, not, cond, List, [], ◌∷◌, ◌++◌, length, take, drop, leb, eqb, Option, Some, None, ℤ, codes, arith, ◌∙◌, sym, ap, refl, subst, inl, inr, append_assoc}
use Rattle.std.specs.Prelude.{◌&&◌, ◌||◌, ◌==◌}
use Rattle.std.specs.List.{prefix_len, AllPass, AllByRecursion, list_any}
use Rattle.std.proofs.lemmas.Bool.{cond-true, cond-false, eqb-true, ne_eqb, and_parts, and_from, or_cases, false≢true}
use Rattle.std.proofs.lemmas.List.{length_push}
use Rattle.std.proofs.lemmas.List.Elements.{All-weaker}
use Rattle.ir_lex.specs.Tokens.{is_separator, is_run_byte, is_name_byte, is_text_byte, is_mark, in_line, starts, IsRun, IsQuoted, quoted, SpellsNumber, SpellsBytes, SpellsName, HasNoRun, Spells, Piece, separator, comment, token, piece_bytes, IsPiece, HasNoPiece}
use Rattle.ir_lex.specs.First.{start_of, found_by, found_in, run_by, run_found, run_len_of, number_or_word, run_as, string_found, string_as, quote_found, quote_as, quoted_name_at, text_found, name_at, name_found, meta_found, hash_found}
use Rattle.ir_lex.specs.declared.class.Start.TheVariants as start
use Rattle.ir_lex.specs.declared.first.Found.{Found}
use Rattle.ir_lex.specs.declared.first.Found.TheVariants.{Gap, Token, Stray}
use Rattle.ir_lex.specs.declared.token.TokenKind.{TokenKind}
use Rattle.ir_lex.specs.declared.token.TokenKind.TheVariants as kind
use Rattle.ir_lex.proofs.Fronts.{prefix_len-front, take_cut, drop_cut, starts_here, run_len-run, run_len-none}
use Rattle.ir_lex.proofs.Numbers.{number_of-spelled, number_of-none}
use Rattle.ir_lex.proofs.Strings.{string_from-spelled}
use Rattle.ir_lex.proofs.Quotes.{quoted_name_at-name, prefix_len-quote, name_cut, name_at-spelled, text_found-quoted, quoted-then}

-- what is told of a piece
abbrev pub found_of : Piece → Found
found_of (separator b) = Gap 1
found_of (comment bytes) = Gap (length bytes + 1)
found_of (token kind bytes) = Token kind (length bytes)

-- one of these bytes has what each of them has
one_of : (P : ℕ → Type 0) (bytes : List ℕ) (b : ℕ) → AllByRecursion P bytes → list_any (λ m. m == b) bytes ≡ true → P b
one_of P [] b all e = absurd (false≢true e)
one_of P (m ∷ bytes) b all e = either (or_cases (eqb m b) (list_any (λ z. z == b) bytes) e) (one_of P bytes b all.1)
  where
    either : (eqb m b ≡ true) ⊎ (list_any (λ z. z == b) bytes ≡ true) → (list_any (λ z. z == b) bytes ≡ true → P b) → P b
    either (inl h) go = subst P (eqb-true m b h) all.0
    either (inr h) go = go h

-- punctuation begins a mark
start-mark : (b : ℕ) → is_mark b ≡ true → start_of b ≡ start.Mark
unfolding start_of is_run_byte is_separator is_mark
start-mark b e =
    one_of (λ z. start_of z ≡ start.Mark) (codes "=,()[]{}<>*|+:") b
    (refl, (refl, (refl, (refl, (refl, (refl, (refl, (refl, (refl, (refl, (refl, (refl, (refl, (refl, tt)))))))))))))) e

-- a separator begins itself
start-separator : (b : ℕ) → is_separator b ≡ true → start_of b ≡ start.Separator
unfolding start_of is_run_byte is_separator
start-separator b e = last (or_cases ((eqb b 32 || eqb b 9) || eqb b 13) (eqb b 10) e)
  where
    same : (k : ℕ) → start_of k ≡ start.Separator → eqb b k ≡ true → start_of b ≡ start.Separator
    same k h t = ap start_of (eqb-true b k t) ∙ h

    first : (eqb b 32 ≡ true) ⊎ (eqb b 9 ≡ true) → start_of b ≡ start.Separator
    first (inl t) = same 32 refl t
    first (inr t) = same 9 refl t

    second : (eqb b 32 || eqb b 9 ≡ true) ⊎ (eqb b 13 ≡ true) → start_of b ≡ start.Separator
    second (inl t) = first (or_cases (eqb b 32) (eqb b 9) t)
    second (inr t) = same 13 refl t

    last : ((eqb b 32 || eqb b 9) || eqb b 13 ≡ true) ⊎ (eqb b 10 ≡ true) → start_of b ≡ start.Separator
    last (inl t) = second (or_cases (eqb b 32 || eqb b 9) (eqb b 13) t)
    last (inr t) = same 10 refl t

-- a run in front is found as a run
start-run : (b : ℕ) → is_run_byte b ≡ true → start_of b ≡ start.Run
unfolding start_of
start-run b e = cond-true (is_run_byte b) start.Run _ e

-- a text with a run in front is read as one that begins with a run
pub found_in-run : (run rest : List ℕ) → IsRun run rest → found_in (run ++ rest) ≡ run_found (run ++ rest)
unfolding found_in
found_in-run [] rest r = absurd (let h = r.filled in omega arith)
found_in-run (b ∷ run) rest r = ap (λ s. found_by s b (run ++ rest)) (start-run b (r.bytes 0 0 (omega arith)))

-- a run is a label, or a number or a word
pub run_found-run : (run rest : List ℕ) → IsRun run rest → run_found (run ++ rest) ≡ cond (starts 58 rest) (Token (kind.Label run) (length run + 1)) (number_or_word run)
unfolding run_found
run_found-run run rest r =
    let text = run ++ rest in
    let n = length run in
    let some = r.filled in
    ap (λ k. run_by k text) (run_len-run run rest r)
    ∙ cond-false (eqb n 0) (string_found (drop 2 text)) _ (ne_eqb n 0 (λ z. omega arith))
    ∙ ap (λ z. cond (starts 58 z) (Token (kind.Label (take n text)) (n + 1)) (number_or_word (take n text))) (drop_cut n text run rest refl refl)
    ∙ ap (λ z. cond (starts 58 rest) (Token (kind.Label z) (n + 1)) (number_or_word z)) (take_cut n text run rest refl refl)

-- a run and a colon are found
found-label_run : (name rest : List ℕ) → IsRun name (58 ∷ rest) → found_in ((name ++ 58 ∷ []) ++ rest) ≡ Token (kind.Label name) (length (name ++ 58 ∷ []))
found-label_run name rest r =
    ap found_in (append_assoc name (58 ∷ []) rest)
    ∙ found_in-run name (58 ∷ rest) r
    ∙ run_found-run name (58 ∷ rest) r
    ∙ ap (Token (kind.Label name)) (sym (length_push name 58))

-- a number is found
found-number : (n : ℤ) (run rest : List ℕ) → IsRun run rest → starts 58 rest ≡ false → SpellsNumber n run → found_in (run ++ rest) ≡ Token (kind.Int n) (length run)
found-number n run rest r e spells =
    found_in-run run rest r
    ∙ run_found-run run rest r
    ∙ cond-false (starts 58 rest) (Token (kind.Label run) (length run + 1)) (number_or_word run) e
    ∙ ap (λ o. run_as o run) (number_of-spelled n run spells)

-- a word is found
found-word : (run rest : List ℕ) → IsRun run rest → starts 58 rest ≡ false → ((n : ℤ) → ¬ (SpellsNumber n run)) → found_in (run ++ rest) ≡ Token (kind.Word run) (length run)
found-word run rest r e none =
    found_in-run run rest r
    ∙ run_found-run run rest r
    ∙ cond-false (starts 58 rest) (Token (kind.Label run) (length run + 1)) (number_or_word run) e
    ∙ ap (λ o. run_as o run) (number_of-none run none)

-- a `c` string is found
found-c_string : (s inner rest : List ℕ) → SpellsBytes s inner → found_in ((99 ∷ quoted inner) ++ rest) ≡ Token (kind.CStr s) (length (99 ∷ quoted inner))
unfolding found_in start_of is_run_byte run_found
found-c_string s inner rest h =
    let longer = length_push inner 34 in
    let len : length inner + 3 ≡ length (99 ∷ quoted inner) = omega arith in
    ap string_found (quoted-then inner rest)
    ∙ ap string_as (string_from-spelled s inner rest h)
    ∙ ap (Token (kind.CStr s)) len

-- a quoted name and a colon are found
found-label_quoted : (name text rest : List ℕ) → IsQuoted name text → found_in ((text ++ 58 ∷ []) ++ rest) ≡ Token (kind.Label name) (length (text ++ 58 ∷ []))
unfolding found_in start_of is_run_byte is_separator quote_found
found-label_quoted name text rest q =
    let after_it = 58 ∷ rest in
    let behind = name ++ 34 ∷ after_it in
    let n = length name in
    let longer = length_push name 34 in
    let all = length_push (quoted name) 58 in
    let len : n + 3 ≡ length (quoted name ++ 58 ∷ []) = omega arith in
    let regrouped : ((name ++ 34 ∷ []) ++ 58 ∷ []) ++ rest ≡ behind = append_assoc (name ++ 34 ∷ []) (58 ∷ []) rest ∙ quoted-then name after_it in
    let colon : starts 58 (drop (n + 1) behind) ≡ true =
    ap (starts 58) (drop_cut (n + 1) behind (name ++ 34 ∷ []) after_it (sym (quoted-then name after_it)) (sym longer)) ∙ starts_here 58 rest in
    ap (λ z. found_in ((z ++ 58 ∷ []) ++ rest)) q.spelling
    ∙ ap quote_found regrouped
    ∙ ap (λ o. quote_as o behind) (quoted_name_at-name name after_it q.filled q.bytes_of_name)
    ∙ cond-true (starts 58 (drop (n + 1) behind)) (Token (kind.Label (take n behind)) (n + 3)) (text_found behind) colon
    ∙ ap (λ z. Token (kind.Label z) (n + 3)) (take_cut n behind name (34 ∷ after_it) refl refl)
    ∙ ap (Token (kind.Label name)) len
    ∙ ap (λ z. Token (kind.Label name) (length (z ++ 58 ∷ []))) (sym q.spelling)

-- a byte of a name is a byte of a string
name_byte_is_text : (b : ℕ) → is_name_byte b ≡ true → is_text_byte b ≡ true
unfolding is_name_byte is_text_byte
name_byte_is_text b e =
    let all = and_parts ((leb 32 b && leb b 126) && not (eqb b 34)) (not (eqb b 92)) e in
    let front = and_parts (leb 32 b && leb b 126) (not (eqb b 34)) all.0 in
    let low = and_parts (leb 32 b) (leb b 126) front.0 in
    and_from (leb 32 b) (not (eqb b 34)) low.0 front.1

-- a string is found, where it is no label
found-string : (s rest : List ℕ) → AllPass is_text_byte s → ((name : List ℕ) → IsQuoted name (quoted s) → starts 58 rest ≡ false)
    → found_in (quoted s ++ rest) ≡ Token (kind.Str s) (length (quoted s))
unfolding found_in start_of is_run_byte is_separator quote_found is_text_byte
found-string s rest passes no_label =
    let behind = s ++ 34 ∷ rest in
    let n = length s in
    let longer = length_push s 34 in
    let len : n + 2 ≡ length (quoted s) = omega arith in
    ap quote_found (quoted-then s rest)
    ∙ told (quoted_name_at behind) refl
    ∙ text_found-quoted s rest passes
    ∙ ap (Token (kind.Str s)) len
  where
    text : List ℕ
    text = s ++ 34 ∷ rest

    told : (o : Option ℕ) → quoted_name_at text ≡ o → quote_found text ≡ text_found text
    told None e = ap (λ o. quote_as o text) e
    told (Some n) e =
        let c = name_cut text n e in
        let text_bytes : AllPass is_text_byte c.name =
        All-weaker (λ z. is_name_byte z ≡ true) (λ z. is_text_byte z ≡ true) name_byte_is_text c.name c.passes in
        let short : prefix_len is_text_byte text ≡ length c.name = ap (prefix_len is_text_byte) c.whole ∙ prefix_len-quote is_text_byte c.name c.rest refl text_bytes in
        let long = prefix_len-quote is_text_byte s rest refl passes in
        let lengths : length s ≡ length c.name = sym long ∙ short in
        let name : s ≡ c.name = sym (take_cut (length s) text s (34 ∷ rest) refl refl) ∙ take_cut (length s) text c.name (34 ∷ c.rest) c.whole lengths in
        let longer = length_push s 34 in
        let count : n + 1 ≡ length (s ++ 34 ∷ []) = (let l = c.len in omega arith) in
        let behind : drop (n + 1) text ≡ rest = drop_cut (n + 1) text (s ++ 34 ∷ []) rest (sym (quoted-then s rest)) count in
        let quiet = no_label c.name (record { spelling = ap quoted name; filled = c.filled; bytes_of_name = c.passes }) in
        ap (λ o. quote_as o text) e
        ∙ cond-false (starts 58 (drop (n + 1) text)) (Token (kind.Label (take n text)) (n + 3)) (text_found text) (ap (starts 58) behind ∙ quiet)

-- a sigil and a name are found
found-name : (sigil : ℕ) (make : List ℕ → TokenKind) → ((text : List ℕ) → found_in (sigil ∷ text) ≡ name_found make (name_at text))
    → (name bytes rest : List ℕ) → SpellsName sigil name bytes rest → found_in (bytes ++ rest) ≡ Token (make name) (length bytes)
found-name sigil make begins_name name bytes rest h =
    let t = name_at-spelled sigil name bytes rest h in
    let len : length t.0 + 1 ≡ length (sigil ∷ t.0) = omega arith in
    ap (λ z. found_in (z ++ rest)) t.1
    ∙ begins_name (t.0 ++ rest)
    ∙ ap (name_found make) t.2
    ∙ ap (Token (make name)) len
    ∙ ap (λ z. Token (make name) (length z)) (sym t.1)

-- `!` and its run are found
found-meta : (text rest : List ℕ) → IsRun text rest ⊎ ((text ≡ []) × HasNoRun rest) → found_in ((33 ∷ text) ++ rest) ≡ Token (kind.Meta text) (length (33 ∷ text))
unfolding found_in start_of is_run_byte is_separator
found-meta text rest h =
    let len : length text + 1 ≡ length (33 ∷ text) = omega arith in
    ap (λ n. meta_found n (text ++ rest)) (run_by_cases h)
    ∙ ap (λ z. Token (kind.Meta z) (length text + 1)) (take_cut (length text) (text ++ rest) text rest refl refl)
    ∙ ap (Token (kind.Meta text)) len
  where
    run_by_cases : IsRun text rest ⊎ ((text ≡ []) × HasNoRun rest) → run_len_of (text ++ rest) ≡ length text
    run_by_cases (inl r) = run_len-run text rest r
    run_by_cases (inr x) = ap (λ z. run_len_of (z ++ rest)) x.0 ∙ run_len-none rest x.1 ∙ ap length (sym x.0)

-- `#` and its run are found
found-hash : (text rest : List ℕ) → IsRun text rest → found_in ((35 ∷ text) ++ rest) ≡ Token (kind.Hash text) (length (35 ∷ text))
unfolding found_in start_of is_run_byte is_separator
found-hash text rest r =
    let len : length text + 1 ≡ length (35 ∷ text) = omega arith in
    let some = r.filled in
    ap (λ n. hash_found n (text ++ rest)) (run_len-run text rest r)
    ∙ cond-false (eqb (length text) 0) Stray _ (ne_eqb (length text) 0 (λ z. omega arith))
    ∙ ap (λ z. Token (kind.Hash z) (length text + 1)) (take_cut (length text) (text ++ rest) text rest refl refl)
    ∙ ap (Token (kind.Hash text)) len

-- what `@` begins
begins-global : (text : List ℕ) → found_in (64 ∷ text) ≡ name_found kind.Global (name_at text)
unfolding found_in start_of is_run_byte is_separator
begins-global text = refl

-- what `%` begins
begins-local : (text : List ℕ) → found_in (37 ∷ text) ≡ name_found kind.Local (name_at text)
unfolding found_in start_of is_run_byte is_separator
begins-local text = refl

-- punctuation is found
found-mark : (m : ℕ) (rest : List ℕ) → is_mark m ≡ true → found_in (m ∷ rest) ≡ Token (kind.Mark m) 1
unfolding found_in
found-mark m rest is = ap (λ s. found_by s m rest) (start-mark m is)

-- each token is found
found-token : (kind : TokenKind) (bytes rest : List ℕ) → Spells kind bytes rest → found_in (bytes ++ rest) ≡ Token kind (length bytes)
found-token (kind.Label name) bytes rest (text, e, inl (same, r)) =
    ap (λ z. found_in (z ++ rest)) (e ∙ ap (λ z. z ++ 58 ∷ []) same) ∙ found-label_run name rest r
    ∙ ap (λ z. Token (kind.Label name) (length z)) (sym (e ∙ ap (λ z. z ++ 58 ∷ []) same))
found-token (kind.Label name) bytes rest (text, e, inr q) =
    ap (λ z. found_in (z ++ rest)) e ∙ found-label_quoted name text rest q ∙ ap (λ z. Token (kind.Label name) (length z)) (sym e)
found-token (kind.CStr s) bytes rest (inner, e, h) =
    ap (λ z. found_in (z ++ rest)) e ∙ found-c_string s inner rest h ∙ ap (λ z. Token (kind.CStr s) (length z)) (sym e)
found-token (kind.Int n) bytes rest h = found-number n bytes rest h.0 h.1 h.2
found-token (kind.Word word) bytes rest (e, r, no_colon, none) =
    ap (λ z. found_in (z ++ rest)) e ∙ found-word word rest r no_colon none ∙ ap (λ z. Token (kind.Word word) (length z)) (sym e)
found-token (kind.Global name) bytes rest h = found-name 64 kind.Global begins-global name bytes rest h
found-token (kind.Local name) bytes rest h = found-name 37 kind.Local begins-local name bytes rest h
found-token (kind.Meta text) bytes rest (e, h) =
    ap (λ z. found_in (z ++ rest)) e ∙ found-meta text rest h ∙ ap (λ z. Token (kind.Meta text) (length z)) (sym e)
found-token (kind.Hash text) bytes rest (e, r) =
    ap (λ z. found_in (z ++ rest)) e ∙ found-hash text rest r ∙ ap (λ z. Token (kind.Hash text) (length z)) (sym e)
found-token (kind.Str s) bytes rest (e, passes, no_label) =
    ap (λ z. found_in (z ++ rest)) e
    ∙ found-string s rest passes (λ name q. no_label name (subst (IsQuoted name) (sym e) q))
    ∙ ap (λ z. Token (kind.Str s) (length z)) (sym e)
found-token (kind.Mark m) bytes rest (e, is) =
    ap (λ z. found_in (z ++ rest)) e ∙ found-mark m rest is ∙ ap (λ z. Token (kind.Mark m) (length z)) (sym e)

-- each piece is found
pub found_in-piece : (piece : Piece) (rest : List ℕ) → IsPiece piece rest → found_in (piece_bytes piece ++ rest) ≡ found_of piece
unfolding found_in start_of is_run_byte is_separator
found_in-piece (separator b) rest h = ap (λ s. found_by s b rest) (start-separator b h)
found_in-piece (comment bytes) rest h = ap (λ n. Gap (n + 1)) (prefix_len-front in_line bytes rest h.0 h.1)
found_in-piece (token kind bytes) rest h = found-token kind bytes rest h

-- so where nothing is found there is no piece
pub no_piece : (text : List ℕ) → found_in text ≡ Stray → HasNoPiece text
no_piece text e piece rest whole is = differ piece (sym (ap found_in whole ∙ found_in-piece piece rest is) ∙ e)
  where
    differ : (piece : Piece) → found_of piece ≡ Stray → ⊥
    differ (separator b) h = cc
    differ (comment bytes) h = cc
    differ (token kind bytes) h = cc
