-- Rows of pieces: a text is one at most, and a row is read piece by piece.
use Rattle.std.proofs.Common.{◌≡◌, ℕ, zero, suc, ◌+◌, ◌<◌, ◌≤◌, ◌⊎◌, List, [], ◌∷◌, ◌++◌, length, drop, arith, ◌∙◌, sym, ap, refl, subst, inl, inr, append_assoc, append-nil}
use Rattle.std.proofs.lemmas.Bool.{cases_lt}
use Rattle.std.proofs.lemmas.List.{length-append, length-drop, length_push, drop-drop, drop_all}
use Rattle.ir_lex.specs.Tokens.{Piece, separator, comment, token, piece_bytes, IsPiece, row_bytes, IsRow, tokens_from, Scans, HasNoPiece, Stops, Spells, SpellsName}
use Rattle.ir_lex.specs.First.{found_in}
use Rattle.ir_lex.specs.declared.token.Token as the_token
use Rattle.ir_lex.specs.declared.token.TokenKind.{TokenKind}
use Rattle.ir_lex.specs.declared.token.TokenKind.TheVariants as kinds
use Rattle.ir_lex.specs.declared.first.Found.{Found}
use Rattle.ir_lex.specs.declared.first.Found.TheVariants.{Gap, Token, Stray}
use Rattle.ir_lex.proofs.Fronts.{drop_cut}
use Rattle.ir_lex.proofs.Found.{found_of, found_in-piece, no_piece}
use Rattle.ir_lex.proofs.Told.{Told, Answers, told}

-- how many bytes are told
abbrev pub size_of : Found → ℕ
size_of (Gap n) = n
size_of (Token kind n) = n
size_of Stray = 0

-- the token that is told at a place, if any, before others
abbrev pub emitted : Found → ℕ → List the_token.Token → List the_token.Token
emitted (Gap n) place more = more
emitted (Token kind n) place more = record { kind = kind; place = place; len = n } ∷ more
emitted Stray place more = more

-- a piece has as many bytes as are told
length-piece : (p : Piece) → length (piece_bytes p) ≡ size_of (found_of p)
length-piece (separator b) = refl
length-piece (comment bytes) = omega arith
length-piece (token kind bytes) = refl

-- the tokens of a row begin with what is told of its first piece
tokens_from-piece : (place : ℕ) (p : Piece) (ps : List Piece) → tokens_from place (p ∷ ps) ≡ emitted (found_of p) place (tokens_from (place + size_of (found_of p)) ps)
tokens_from-piece place (separator b) ps = refl
tokens_from-piece place (comment bytes) ps = refl
tokens_from-piece place (token kind bytes) ps = refl

-- what follows fronts of one length
cancel : (xs ys r s : List ℕ) → xs ++ r ≡ ys ++ s → length xs ≡ length ys → r ≡ s
cancel xs ys r s e l = sym (drop_cut (length xs) (xs ++ r) xs r refl refl) ∙ drop_cut (length xs) (xs ++ r) ys s e l

-- two rows of one text before which nothing more can be read are one
one_row : (place : ℕ) (ps qs : List Piece) (r s : List ℕ) → IsRow ps r → IsRow qs s → HasNoPiece r → HasNoPiece s → row_bytes ps ++ r ≡ row_bytes qs ++ s
    → (tokens_from place ps ≡ tokens_from place qs) × (r ≡ s)
one_row place [] [] r s a b m n e = (refl, e)
one_row place [] (q ∷ qs) r s a b m n e = absurd (m q (row_bytes qs ++ s) (e ∙ append_assoc (piece_bytes q) (row_bytes qs) s) b.0)
one_row place (p ∷ ps) [] r s a b m n e = absurd (n p (row_bytes ps ++ r) (sym e ∙ append_assoc (piece_bytes p) (row_bytes ps) r) a.0)
one_row place (p ∷ ps) (q ∷ qs) r s a b m n e =
    let same : piece_bytes p ++ (row_bytes ps ++ r) ≡ piece_bytes q ++ (row_bytes qs ++ s) =
    sym (append_assoc (piece_bytes p) (row_bytes ps) r) ∙ e ∙ append_assoc (piece_bytes q) (row_bytes qs) s in
    let found : found_of p ≡ found_of q = sym (found_in-piece p (row_bytes ps ++ r) a.0) ∙ ap found_in same ∙ found_in-piece q (row_bytes qs ++ s) b.0 in
    let lengths : length (piece_bytes p) ≡ length (piece_bytes q) = length-piece p ∙ ap size_of found ∙ sym (length-piece q) in
    let tails = cancel (piece_bytes p) (piece_bytes q) (row_bytes ps ++ r) (row_bytes qs ++ s) same lengths in
    let more = one_row (place + size_of (found_of p)) ps qs r s a.1 b.1 m n tails in (
      tokens_from-piece place p ps
          ∙ ap (emitted (found_of p) place) more.0
          ∙ ap (λ f. emitted f place (tokens_from (place + size_of f) qs)) found
          ∙ sym (tokens_from-piece place q qs),
      more.1,
    )

-- no piece stands at a text's end
none_at_end : HasNoPiece []
unfolding found_in
none_at_end = no_piece [] refl

-- a text has one list of tokens at most
pub scan_once : (text : List ℕ) (a b : List the_token.Token) → Scans text a → Scans text b → a ≡ b
scan_once text a b x y =
    let e : row_bytes x.0 ++ [] ≡ row_bytes y.0 ++ [] = ap (λ z. z ++ []) (sym x.1 ∙ y.1) in
    let one = one_row 0 x.0 y.0 [] [] x.2 y.2 none_at_end none_at_end e in
    x.3 ∙ one.0 ∙ sym y.3

-- a text that stops has none
pub stop_scans_not : (text : List ℕ) (place : ℕ) (a : List the_token.Token) → Stops text place → Scans text a → ⊥
stop_scans_not text place a x y =
    let e : row_bytes x.pieces ++ x.rest ≡ row_bytes y.0 ++ [] = sym x.cut ∙ y.1 ∙ sym (append-nil (row_bytes y.0)) in
    let one = one_row 0 x.pieces y.0 x.rest [] x.row y.2 x.none none_at_end e in
    let l = ap length one.1 in let some = x.some_left in omega arith

-- and stops at one place
pub stop_once : (text : List ℕ) (p q : ℕ) → Stops text p → Stops text q → p ≡ q
stop_once text p q x y =
    let one = one_row 0 x.pieces y.pieces x.rest y.rest x.row y.row x.none y.none (sym x.cut ∙ y.cut) in
    let l = ap length one.1 in
    let all = ap length (sym x.cut ∙ y.cut) in
    let front = length-append (row_bytes x.pieces) x.rest in
    let other = length-append (row_bytes y.pieces) y.rest in
    let here = x.at in
    let there = y.at in
    omega arith

-- the text before a place is a row of pieces, and these are its tokens
pub record ReadTo (text : List ℕ) (place : ℕ) (tokens : List the_token.Token) : Type 0 where
  pub pieces : List Piece
  pub cut : text ≡ row_bytes pieces ++ drop place text
  pub row : IsRow pieces (drop place text)
  pub at : place ≡ length (row_bytes pieces)
  pub same : tokens ≡ tokens_from 0 pieces

-- nothing is read at first
pub read_none : (text : List ℕ) → ReadTo text 0 []
read_none text = record { pieces = []; cut = refl; row = tt; at = refl; same = refl }

-- the bytes of a row with one piece more
row_bytes-push : (ps : List Piece) (p : Piece) → row_bytes (ps ++ p ∷ []) ≡ row_bytes ps ++ piece_bytes p
row_bytes-push [] p = append-nil (piece_bytes p)
row_bytes-push (q ∷ ps) p = ap (λ z. piece_bytes q ++ z) (row_bytes-push ps p) ∙ sym (append_assoc (piece_bytes q) (row_bytes ps) (piece_bytes p))

-- the same before a rest
bytes-push : (ps : List Piece) (p : Piece) (r : List ℕ) → row_bytes (ps ++ p ∷ []) ++ r ≡ row_bytes ps ++ (piece_bytes p ++ r)
bytes-push ps p r = ap (λ z. z ++ r) (row_bytes-push ps p) ∙ append_assoc (row_bytes ps) (piece_bytes p) r

-- a row with one piece more is a row
row_push : (ps : List Piece) (p : Piece) (r : List ℕ) → IsRow ps (piece_bytes p ++ r) → IsPiece p r → IsRow (ps ++ p ∷ []) r
row_push [] p r row is = (is, tt)
row_push (q ∷ ps) p r row is = (subst (IsPiece q) (sym (bytes-push ps p r)) row.0, row_push ps p r row.1 is)

-- the tokens of a row with one piece more
tokens-push : (place : ℕ) (ps : List Piece) (p : Piece) → tokens_from place (ps ++ p ∷ []) ≡ tokens_from place ps ++ tokens_from (place + length (row_bytes ps)) (p ∷ [])
tokens-push place [] p = ap (λ n. tokens_from n (p ∷ [])) (omega arith)
tokens-push place (separator b ∷ ps) p =
    let n = length (row_bytes ps) in
    let e : place + 1 + n ≡ place + suc n = omega arith in
    tokens-push (place + 1) ps p ∙ ap (λ m. tokens_from (place + 1) ps ++ tokens_from m (p ∷ [])) e
tokens-push place (comment bytes ∷ ps) p =
    let n = length (row_bytes ps) in
    let all = length-append bytes (row_bytes ps) in
    let e : place + (length bytes + 1) + n ≡ place + suc (length (bytes ++ row_bytes ps)) = omega arith in
    tokens-push (place + (length bytes + 1)) ps p ∙ ap (λ m. tokens_from (place + (length bytes + 1)) ps ++ tokens_from m (p ∷ [])) e
tokens-push place (token kind bytes ∷ ps) p =
    let n = length (row_bytes ps) in
    let all = length-append bytes (row_bytes ps) in
    let e : place + length bytes + n ≡ place + length (bytes ++ row_bytes ps) = omega arith in
    let first : the_token.Token = record { kind = kind; place = place; len = length bytes } in
    ap (λ z. first ∷ z) (tokens-push (place + length bytes) ps p ∙ ap (λ m. tokens_from (place + length bytes) ps ++ tokens_from m (p ∷ [])) e)

-- one piece more is read
read_piece : (text : List ℕ) (place : ℕ) (tokens : List the_token.Token) (found : Found) → ReadTo text place tokens → Told (drop place text) found
    → ReadTo text (place + size_of found) (tokens ++ emitted found place [])
read_piece text place tokens found r t =
    let size : size_of found ≡ length (piece_bytes t.piece) = ap size_of (sym t.same) ∙ sym (length-piece t.piece) in
    let behind : drop (place + size_of found) text ≡ t.rest =
    sym (drop-drop (size_of found) place text) ∙ drop_cut (size_of found) (drop place text) (piece_bytes t.piece) t.rest t.whole size in
    let all = length-append (row_bytes r.pieces) (piece_bytes t.piece) in
    let front = ap length (row_bytes-push r.pieces t.piece) in
    let here = r.at in
    record {
      pieces = r.pieces ++ t.piece ∷ [];
      cut = r.cut ∙ ap (λ z. row_bytes r.pieces ++ z) (t.whole ∙ ap (λ z. piece_bytes t.piece ++ z) (sym behind))
          ∙ sym (bytes-push r.pieces t.piece (drop (place + size_of found) text));
      row = subst (IsRow (r.pieces ++ t.piece ∷ [])) (sym behind) (row_push r.pieces t.piece t.rest (subst (IsRow r.pieces) t.whole r.row) t.is);
      at = omega arith;
      same = ap (λ z. z ++ emitted found place []) r.same
          ∙ ap (λ z. tokens_from 0 r.pieces ++ emitted z place []) (sym t.same)
          ∙ ap (λ z. tokens_from 0 r.pieces ++ z) (sym (tokens_from-piece place t.piece []))
          ∙ ap (λ z. tokens_from 0 r.pieces ++ tokens_from z (t.piece ∷ [])) (omega arith)
          ∙ sym (tokens-push 0 r.pieces t.piece);
    }

-- no name behind a sigil is empty
name_filled : (sigil : ℕ) (name bytes rest : List ℕ) → SpellsName sigil name bytes rest → 0 < length bytes
name_filled sigil name bytes rest (inl x) = let l = ap length x.0 in omega arith
name_filled sigil name bytes rest (inr x) = let l = ap length x.1 in omega arith

-- no token is empty
pub token_filled : (kind : TokenKind) (bytes rest : List ℕ) → Spells kind bytes rest → 0 < length bytes
token_filled (kinds.Label name) bytes rest h = let l = ap length h.1 in let p = length_push h.0 58 in omega arith
token_filled (kinds.CStr s) bytes rest h = let l = ap length h.1 in omega arith
token_filled (kinds.Int n) bytes rest h = h.0.filled
token_filled (kinds.Word word) bytes rest h = let l = ap length h.0 in let some = h.1.filled in omega arith
token_filled (kinds.Global name) bytes rest h = name_filled 64 name bytes rest h
token_filled (kinds.Local name) bytes rest h = name_filled 37 name bytes rest h
token_filled (kinds.Meta text) bytes rest h = let l = ap length h.0 in omega arith
token_filled (kinds.Hash text) bytes rest h = let l = ap length h.0 in omega arith
token_filled (kinds.Str s) bytes rest h = let l = ap length h.0 in omega arith
token_filled (kinds.Mark m) bytes rest h = let l = ap length h.0 in omega arith

-- no piece is empty
piece_filled : (piece : Piece) (rest : List ℕ) → IsPiece piece rest → 0 < length (piece_bytes piece)
piece_filled (separator b) rest is = omega arith
piece_filled (comment bytes) rest is = omega arith
piece_filled (token kind bytes) rest is = token_filled kind bytes rest is

-- how reading goes on behind what is found
pub record ReadOn (text : List ℕ) (place : ℕ) (tokens : List the_token.Token) (found : Found) : Type 0 where
  pub read : ReadTo text (place + size_of found) (tokens ++ emitted found place [])
  pub grows : 0 < size_of found
  pub within : place + size_of found ≤ length text

-- a piece more is read, and reading comes nearer to the end
pub read_told : (text : List ℕ) (place : ℕ) (tokens : List the_token.Token) (found : Found) → place ≤ length text → ReadTo text place tokens
    → Told (drop place text) found → ReadOn text place tokens found
read_told text place tokens found low r t =
    let size : size_of found ≡ length (piece_bytes t.piece) = ap size_of (sym t.same) ∙ sym (length-piece t.piece) in
    let filled = piece_filled t.piece t.rest t.is in
    let whole = ap length t.whole in
    let parts = length-append (piece_bytes t.piece) t.rest in
    let left = length-drop place text in
    record { read = read_piece text place tokens found r t; grows = omega arith; within = omega arith }

-- where something is found reading goes on
pub read_on : (text : List ℕ) (place : ℕ) (tokens : List the_token.Token) (found : Found) → place ≤ length text → ReadTo text place tokens
    → found ≡ found_in (drop place text) → (found ≡ Stray → ⊥) → ReadOn text place tokens found
read_on text place tokens found low r e some = on_by (told (drop place text))
  where
    on_by : Answers (drop place text) (found_in (drop place text)) → ReadOn text place tokens found
    on_by (inl none) = absurd (some (e ∙ none))
    on_by (inr t) = read_told text place tokens found low r (subst (Told (drop place text)) (sym e) t)

-- where nothing is found the text stops
pub stops_here : (text : List ℕ) (place : ℕ) (tokens : List the_token.Token) → place < length text → ReadTo text place tokens → Stray ≡ found_in (drop place text)
    → Stops text place
stops_here text place tokens low r e = record {
  pieces = r.pieces;
  rest = drop place text;
  cut = r.cut;
  row = r.row;
  at = r.at;
  some_left = (let left = length-drop place text in omega arith);
  none = no_piece (drop place text) (sym e);
}

-- at its end the text is read
pub scans_here : (text : List ℕ) (place : ℕ) (tokens : List the_token.Token) → length text ≤ place → ReadTo text place tokens → Scans text tokens
scans_here text place tokens end r =
    let none : drop place text ≡ [] = drop_all place text end in
    (r.pieces, r.cut ∙ ap (λ z. row_bytes r.pieces ++ z) none ∙ append-nil (row_bytes r.pieces), subst (IsRow r.pieces) none r.row, r.same)

-- a text has tokens, or it stops
abbrev pub Decided : List ℕ → Type 0
Decided text = ((tokens : List the_token.Token) × Scans text tokens) ⊎ ((place : ℕ) × Stops text place)

-- reading on comes to either, in as many steps as there are bytes at most
decided_from : (text : List ℕ) (steps place : ℕ) (tokens : List the_token.Token) → length text ≤ place + steps → place ≤ length text → ReadTo text place tokens → Decided text
decided_from text zero place tokens enough low r = inl (tokens, scans_here text place tokens (omega arith) r)
decided_from text (suc steps) place tokens enough low r =
    step_by (cases_lt place (length text)) (told (drop place text)) (λ place tokens. decided_from text steps place tokens)
  where
    found : Found
    found = found_in (drop place text)

    step_by : (place < length text) ⊎ (length text ≤ place) → Answers (drop place text) found
        → ((place : ℕ) (tokens : List the_token.Token) → length text ≤ place + steps → place ≤ length text → ReadTo text place tokens → Decided text) → Decided text
    step_by (inr end) answer go = inl (tokens, scans_here text place tokens end r)
    step_by (inl more) (inl none) go = inr (place, stops_here text place tokens more r (sym none))
    step_by (inl more) (inr t) go =
        let on = read_told text place tokens found low r t in
        let nearer = on.grows in
        go (place + size_of found) (tokens ++ emitted found place []) (omega arith) on.within on.read

-- so each text is decided
pub decided : (text : List ℕ) → Decided text
decided text = decided_from text (length text) 0 [] (omega arith) (omega arith) (read_none text)
