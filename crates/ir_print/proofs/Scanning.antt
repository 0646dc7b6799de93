-- Texts as rows of pieces, one behind another.
use Rattle.std.proofs.Common.{◌≡◌, ℕ, ◌+◌, false, List, [], ◌∷◌, ◌++◌, length, map, refl, sym, ap, ◌∙◌, subst, append_assoc}
use Rattle.ir_lex.specs.declared.token.Token.{Token}
use Rattle.ir_lex.specs.declared.token.TokenKind.{TokenKind}
use Rattle.ir_lex.specs.Tokens.{is_run_byte, begins, starts, Piece, separator, comment, token, piece_bytes, IsPiece, row_bytes, IsRow, tokens_from, Scans}

-- the kinds of the tokens among pieces
abbrev pub kinds_in : List Piece → List TokenKind
kinds_in [] = []
kinds_in (separator b ∷ ps) = kinds_in ps
kinds_in (comment bytes ∷ ps) = kinds_in ps
kinds_in (token kind bytes ∷ ps) = kind ∷ kinds_in ps

-- where a word, a number or a name ends
pub record IsApart (rest : List ℕ) : Type 0 where
  pub run : begins is_run_byte rest ≡ false
  pub colon : starts 58 rest ≡ false
  pub quote : starts 34 rest ≡ false

-- the text is a row of pieces in front of this rest, and these are the kinds of its tokens
pub record IsScanned (text : List ℕ) (ks : List TokenKind) (rest : List ℕ) : Type 0 where
  pub pieces : List Piece
  pub bytes : text ≡ row_bytes pieces
  pub row : IsRow pieces rest
  pub kinds : kinds_in pieces ≡ ks

-- in front of every rest, and of every rest that is apart
abbrev pub Closed : List ℕ → List TokenKind → Type 0
Closed text ks = (rest : List ℕ) → IsScanned text ks rest

abbrev pub Open : List ℕ → List TokenKind → Type 0
Open text ks = (rest : List ℕ) → IsApart rest → IsScanned text ks rest

-- a text that stands apart from what is in front of it
abbrev pub Parts : List ℕ → Type 0
Parts text = (rest : List ℕ) → IsApart rest → IsApart (text ++ rest)

row_bytes-append : (ps qs : List Piece) → row_bytes (ps ++ qs) ≡ row_bytes ps ++ row_bytes qs
row_bytes-append [] qs = refl
row_bytes-append (p ∷ ps) qs = ap (λ t. piece_bytes p ++ t) (row_bytes-append ps qs) ∙ sym (append_assoc (piece_bytes p) (row_bytes ps) (row_bytes qs))

rows : (ps qs : List Piece) (rest : List ℕ) → IsRow ps (row_bytes qs ++ rest) → IsRow qs rest → IsRow (ps ++ qs) rest
rows [] qs rest h k = k
rows (p ∷ ps) qs rest h k =
    (subst (IsPiece p) (sym (append_assoc (row_bytes ps) (row_bytes qs) rest) ∙ ap (λ t. t ++ rest) (sym (row_bytes-append ps qs))) h.0, rows ps qs rest h.1 k)

kinds_in-append : (ps qs : List Piece) → kinds_in (ps ++ qs) ≡ kinds_in ps ++ kinds_in qs
kinds_in-append [] qs = refl
kinds_in-append (separator b ∷ ps) qs = kinds_in-append ps qs
kinds_in-append (comment bytes ∷ ps) qs = kinds_in-append ps qs
kinds_in-append (token kind bytes ∷ ps) qs = ap (λ ks. kind ∷ ks) (kinds_in-append ps qs)

-- one text behind another
pub behind : (text more : List ℕ) (ks ls : List TokenKind) (rest : List ℕ) → IsScanned text ks (more ++ rest) → IsScanned more ls rest → IsScanned (text ++ more) (ks ++ ls) rest
behind text more ks ls rest a b = record {
  pieces = a.pieces ++ b.pieces;
  bytes = ap (λ t. t ++ more) a.bytes ∙ ap (λ t. row_bytes a.pieces ++ t) b.bytes ∙ sym (row_bytes-append a.pieces b.pieces);
  row = rows a.pieces b.pieces rest (subst (λ t. IsRow a.pieces (t ++ rest)) b.bytes a.row) b.row;
  kinds = kinds_in-append a.pieces b.pieces ∙ (ap (λ k. k ++ kinds_in b.pieces) a.kinds ∙ ap (λ k. ks ++ k) b.kinds);
}

-- nothing
pub nothing : Closed [] []
nothing rest = record { pieces = []; bytes = refl; row = tt; kinds = refl }

pub closed_closed : (text more : List ℕ) (ks ls : List TokenKind) → Closed text ks → Closed more ls → Closed (text ++ more) (ks ++ ls)
closed_closed text more ks ls a b rest = behind text more ks ls rest (a (more ++ rest)) (b rest)

pub closed_open : (text more : List ℕ) (ks ls : List TokenKind) → Closed text ks → Open more ls → Open (text ++ more) (ks ++ ls)
closed_open text more ks ls a b rest apart = behind text more ks ls rest (a (more ++ rest)) (b rest apart)

-- a text that goes on with one that is apart whatever follows
pub open_closed : (text more : List ℕ) (ks ls : List TokenKind) → Open text ks → ((rest : List ℕ) → IsApart (more ++ rest)) → Closed more ls → Closed (text ++ more) (ks ++ ls)
open_closed text more ks ls a apart b rest = behind text more ks ls rest (a (more ++ rest) (apart rest)) (b rest)

pub open_open : (text more : List ℕ) (ks ls : List TokenKind) → Open text ks → Parts more → Open more ls → Open (text ++ more) (ks ++ ls)
open_open text more ks ls a parts b rest apart = behind text more ks ls rest (a (more ++ rest) (parts rest apart)) (b rest apart)

pub opened : (text : List ℕ) (ks : List TokenKind) → Closed text ks → Open text ks
opened text ks a rest apart = a rest

-- other tokens, or another text, that are the same
pub with_kinds : (text : List ℕ) (ks ls : List TokenKind) → ks ≡ ls → Closed text ks → Closed text ls
with_kinds text ks ls e a = subst (λ k. Closed text k) e a

-- the kinds of the tokens of a text
kinds_of_tokens : (ps : List Piece) (place : ℕ) → map (λ (t : Token). t.kind) (tokens_from place ps) ≡ kinds_in ps
kinds_of_tokens [] place = refl
kinds_of_tokens (separator b ∷ ps) place = kinds_of_tokens ps (place + 1)
kinds_of_tokens (comment bytes ∷ ps) place = kinds_of_tokens ps (place + (length bytes + 1))
kinds_of_tokens (token kind bytes ∷ ps) place = ap (λ ks. kind ∷ ks) (kinds_of_tokens ps (place + length bytes))

-- a whole text with its tokens
pub record HasTokens (text : List ℕ) (ks : List TokenKind) : Type 0 where
  pub tokens : List Token
  pub scans : Scans text tokens
  pub kinds : map (λ (t : Token). t.kind) tokens ≡ ks

pub whole : (text : List ℕ) (ks : List TokenKind) → Closed text ks → HasTokens text ks
whole text ks a =
    let s : IsScanned text ks [] = a [] in
    record { tokens = tokens_from 0 s.pieces; scans = (s.pieces, s.bytes, s.row, refl); kinds = kinds_of_tokens s.pieces 0 ∙ s.kinds }
