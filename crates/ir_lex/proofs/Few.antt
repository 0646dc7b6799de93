-- A text has no more tokens than bytes.
use Rattle.std.proofs.Common.{ℕ, ◌+◌, ◌≤◌, List, [], ◌∷◌, ◌++◌, length, length-append, ap, arith}
use Rattle.ir_lex.specs.declared.token.Token.{Token}
use Rattle.ir_lex.specs.Tokens.{Piece, separator, comment, token, row_bytes, IsRow, tokens_from}
use Rattle.ir_lex.proofs.Rows.{ReadTo, token_filled}

-- no more tokens than bytes of a row
few_in_row : (place : ℕ) (pieces : List Piece) (rest : List ℕ) → IsRow pieces rest → length (tokens_from place pieces) ≤ length (row_bytes pieces)
few_in_row place [] rest k = omega arith
few_in_row place (separator b ∷ ps) rest (p, k) = let few = few_in_row (place + 1) ps rest k in omega arith
few_in_row place (comment bytes ∷ ps) rest (p, k) =
    let few = few_in_row (place + (length bytes + 1)) ps rest k in let parts = length-append (59 ∷ bytes) (row_bytes ps) in omega arith
few_in_row place (token t bytes ∷ ps) rest (p, k) =
    let few = few_in_row (place + length bytes) ps rest k in
    let some = token_filled t bytes (row_bytes ps ++ rest) p in
    let parts = length-append bytes (row_bytes ps) in
    omega arith

-- no more tokens than bytes that were read
pub few_tokens : (text : List ℕ) (place : ℕ) (tokens : List Token) → ReadTo text place tokens → length tokens ≤ place
few_tokens text place tokens r = let few = few_in_row 0 r.pieces _ r.row in let at = r.at in let l = ap length r.same in omega arith
