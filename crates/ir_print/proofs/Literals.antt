-- The fixed words of a text: letters, spaces, line feeds and punctuation.
use Rattle.std.proofs.Common.{◌≡◌, ℕ, ◌<◌, Bool, true, false, List, [], ◌∷◌, ◌++◌, length, get_or, refl, sym, ap, ◌∙◌, subst, append_assoc, arith, ℤ, inl, inr}
use Rattle.std.specs.Prelude.{◌&&◌, ◌||◌, not, ◌==◌, if◌then◌else◌}
use Rattle.std.specs.List.{list_all}
use Rattle.std.specs.Char.{is_ascii_digit}
use Rattle.std.proofs.lemmas.Bool.{and_parts, and_from}
use Rattle.std.proofs.lemmas.List.Sums.{AllPass-from_list_all}
use Rattle.ir_lex.specs.declared.token.TokenKind.TheVariants.{Word, Mark}
use Rattle.ir_lex.specs.Tokens.{is_run_byte, is_separator, is_mark, SpellsNumber, Piece, separator, token, piece_bytes, row_bytes, IsPiece, IsRow}
use Rattle.ir_print.proofs.Scanning.{kinds_in, Closed}

-- the first byte is neither a digit nor a `-`, so it is no number
abbrev pub begins_word : List ℕ → Bool
begins_word [] = true
begins_word (b ∷ bs) = not (is_ascii_digit b) && not (b == 45)

-- a byte that stands by itself
abbrev pub stands_alone : ℕ → Bool
stands_alone b = (is_separator b || is_mark b) && (not (b == 58) && not (b == 34))

-- its piece
abbrev pub single : ℕ → Piece
single b = if is_separator b then separator b else token (Mark b) (b ∷ [])

-- a word in front of pieces, where there is one
abbrev pub with_word : List ℕ → List Piece → List Piece
with_word [] ps = ps
with_word (b ∷ bs) ps = token (Word (b ∷ bs)) (b ∷ bs) ∷ ps

-- the pieces of fixed words behind the bytes of a word that has begun
abbrev pub split : List ℕ → List ℕ → List Piece
split run [] = with_word run []
split run (b ∷ bs) = if is_run_byte b then split (run ++ b ∷ []) bs else with_word run (single b ∷ split [] bs)

-- words and bytes that stand alone, one of these at the end
abbrev pub is_fixed : List ℕ → List ℕ → Bool
is_fixed [] [] = true
is_fixed (r ∷ rs) [] = false
is_fixed run (b ∷ bs) = if is_run_byte b then is_fixed (run ++ b ∷ []) bs else (begins_word run && (stands_alone b && is_fixed [] bs))

-- what begins as a word is no number
pub no_number : (b : ℕ) (bs : List ℕ) → begins_word (b ∷ bs) ≡ true → (n : ℤ) → ¬ (SpellsNumber n (b ∷ bs))
no_number b bs h n (digits, d, inl (e, v)) =
    let parts = and_parts (not (is_ascii_digit b)) (not (b == 45)) h in
    let first : is_ascii_digit b ≡ true = subst (λ (xs : List ℕ). (i d : ℕ) → i < length xs → is_ascii_digit (get_or xs i d) ≡ true) (sym e) d.bytes 0 0 (omega arith) in
    absurd (let p = parts.0 in cc)
no_number b bs h n (digits, d, inr (e, v)) = let parts = and_parts (not (is_ascii_digit b)) (not (b == 45)) h in absurd (grind (arith))

single_bytes : (b : ℕ) → piece_bytes (single b) ≡ b ∷ []
single_bytes b = by (is_separator b)
  where
    by : (t : Bool) → piece_bytes (if t then separator b else token (Mark b) (b ∷ [])) ≡ b ∷ []
    by true = refl
    by false = refl

single_stands : (b : ℕ) (rest : List ℕ) → (is_separator b || is_mark b) ≡ true → IsPiece (single b) rest
single_stands b rest = by (is_separator b) refl
  where
    by : (t : Bool) → is_separator b ≡ t → (t || is_mark b) ≡ true → IsPiece (if t then separator b else token (Mark b) (b ∷ [])) rest
    by true e h = e
    by false e h = (refl, h)

is_false : (t : Bool) → not t ≡ true → t ≡ false
is_false true h = absurd (cc)
is_false false h = refl

-- a word is spelled where a byte that stands alone follows
word_stands : (r : ℕ) (rs : List ℕ) (b : ℕ) (more : List ℕ) → list_all is_run_byte (r ∷ rs) ≡ true → begins_word (r ∷ rs) ≡ true → is_run_byte b ≡ false → (not (b == 58) && not (b == 34)) ≡ true → IsPiece (token (Word (r ∷ rs)) (r ∷ rs)) (b ∷ more)
word_stands r rs b more all word ends alone =
    let parts = and_parts (not (b == 58)) (not (b == 34)) alone in
    (refl, record { filled = omega arith; bytes = AllPass-from_list_all is_run_byte (r ∷ rs) all; longest = ends; no_string = λ is. is_false (b == 34) parts.1 }, is_false (b == 58) parts.0, no_number r rs word)

-- the bytes of a word in front of pieces
with_word_bytes : (run : List ℕ) (ps : List Piece) → row_bytes (with_word run ps) ≡ run ++ row_bytes ps
with_word_bytes [] ps = refl
with_word_bytes (b ∷ bs) ps = refl

-- a word that has begun, and a byte that stands alone behind it
with_word_row : (run : List ℕ) (b : ℕ) (ps : List Piece) (rest : List ℕ) → list_all is_run_byte run ≡ true → begins_word run ≡ true → is_run_byte b ≡ false → (not (b == 58) && not (b == 34)) ≡ true →
    IsRow (single b ∷ ps) rest → IsRow (with_word run (single b ∷ ps)) rest
with_word_row [] b ps rest all word ends alone row = row
with_word_row (r ∷ rs) b ps rest all word ends alone row =
    (subst (λ t. IsPiece (token (Word (r ∷ rs)) (r ∷ rs)) ((t ++ row_bytes ps) ++ rest)) (sym (single_bytes b)) (word_stands r rs b (row_bytes ps ++ rest) all word ends alone), row)

-- one byte more of a word
all_more : (run : List ℕ) (b : ℕ) → list_all is_run_byte run ≡ true → is_run_byte b ≡ true → list_all is_run_byte (run ++ b ∷ []) ≡ true
all_more [] b all h = and_from (is_run_byte b) true h refl
all_more (r ∷ rs) b all h =
    let parts = and_parts (is_run_byte r) (list_all is_run_byte rs) all in and_from (is_run_byte r) (list_all is_run_byte (rs ++ b ∷ [])) parts.0 (all_more rs b parts.1 h)

-- fixed words are their pieces, in front of every rest
fixed_bytes : (run bs : List ℕ) → run ++ bs ≡ row_bytes (split run bs)
fixed_bytes [] [] = refl
fixed_bytes (r ∷ rs) [] = refl
fixed_bytes run (b ∷ bs) = by (λ r. fixed_bytes r bs) (is_run_byte b)
  where
    by : ((r : List ℕ) → r ++ bs ≡ row_bytes (split r bs)) → (t : Bool) → run ++ b ∷ bs ≡ row_bytes (if t then split (run ++ b ∷ []) bs else with_word run (single b ∷ split [] bs))
    by go true = sym (append_assoc run (b ∷ []) bs) ∙ go (run ++ b ∷ [])
    by go false = ap (λ t. run ++ t) (ap (λ t. b ∷ t) (go []) ∙ ap (λ t. t ++ row_bytes (split [] bs)) (sym (single_bytes b))) ∙ sym (with_word_bytes run (single b ∷ split [] bs))

fixed_row : (run bs rest : List ℕ) → list_all is_run_byte run ≡ true → is_fixed run bs ≡ true → IsRow (split run bs) rest
fixed_row [] [] rest all fixed = tt
fixed_row (r ∷ rs) [] rest all fixed = absurd (cc)
fixed_row run (b ∷ bs) rest all fixed = by (λ r. fixed_row r bs rest) (is_run_byte b) refl fixed
  where
    by : ((r : List ℕ) → list_all is_run_byte r ≡ true → is_fixed r bs ≡ true → IsRow (split r bs) rest) → (t : Bool) → is_run_byte b ≡ t → (if t then is_fixed (run ++ b ∷ []) bs else (begins_word run && (stands_alone b && is_fixed [] bs))) ≡ true → IsRow (if t then split (run ++ b ∷ []) bs else with_word run (single b ∷ split [] bs)) rest
    by go true e fixed = go (run ++ b ∷ []) (all_more run b all e) fixed
    by go false e fixed =
        let first = and_parts (begins_word run) (stands_alone b && is_fixed [] bs) fixed in
        let second = and_parts (stands_alone b) (is_fixed [] bs) first.1 in
        let alone = and_parts (is_separator b || is_mark b) (not (b == 58) && not (b == 34)) second.0 in
        with_word_row run b (split [] bs) rest all first.0 e alone.1 (single_stands b (row_bytes (split [] bs) ++ rest) alone.0, go [] refl second.1)

-- fixed words are closed
pub fixed : (bytes : List ℕ) → is_fixed [] bytes ≡ true → Closed bytes (kinds_in (split [] bytes))
fixed bytes h rest = record { pieces = split [] bytes; bytes = fixed_bytes [] bytes; row = fixed_row [] bytes rest refl h; kinds = refl }
