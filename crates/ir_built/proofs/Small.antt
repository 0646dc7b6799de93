-- Tokens of a text of fewer than 2^32 bytes, and what holds of each by itself.
use Rattle.std.proofs.Common.{◌≡◌, ℕ, zero, suc, ◌+◌, ◌^◌, ◌<◌, ◌≤◌, Bool, true, List, [], ◌∷◌, ◌++◌, length, drop, length-append, append-nil, refl, sym, ◌∙◌, ap, subst, inl, inr, arith, ℤ, pos, neg_ℤ}
use Rattle.std.specs.Prelude.{◌&&◌, not, nat_lt, nat_le, nat_eq, ◌==◌, All}
use Rattle.std.specs.List.{list_all}
use Rattle.std.specs.Char.{is_ascii_digit, is_ascii_hexdigit, digit_value}
use Rattle.std.specs.Str.Parse.{digits_value, AllDigits}
use Rattle.std.proofs.Math.Nat.{pow-le-pow_right}
use Rattle.std.proofs.lemmas.Int.Digits.{digits_value-lt}
use Rattle.std.proofs.lemmas.Bool.{and_from, and_parts, lt-ltb}
use Rattle.std.proofs.lemmas.Bool.Decides.{nat_tests}
use Rattle.std.proofs.lemmas.List.{drop_all}
use Rattle.std.proofs.lemmas.List.Elements.{All-head, All-tail, All-cons, All-nil}
use Rattle.std.proofs.lemmas.List.Sums.{list_all-from_AllPass}
use Rattle.ir_core.specs.Built.{built_all, name_built, int_built, is_name_byte}
use Rattle.ir_lex.specs.declared.token.TokenKind.{TokenKind}
use Rattle.ir_lex.specs.declared.token.TokenKind.TheVariants as kind
use Rattle.ir_lex.specs.Tokens.{is_run_byte, IsRun, IsQuoted, quoted, AreDigits, SpellsByte, SpellsBytes, SpellsNumber, SpellsName, Spells, Piece, separator, comment, token, row_bytes, IsRow, tokens_from, Scans}
use Rattle.ir_lex.specs.Tokens as text
use Rattle.ir_lex.specs.declared.token.Token.{Token}
use Rattle.ir_lex.proofs.Few.{few_tokens}
use Rattle.ir_grammar.specs.Tokens.{kinds}
use Rattle.ir_grammar.proofs.Rows.{length-kinds}

-- what holds of a token of such a text
abbrev pub is_small : TokenKind → Bool
is_small (kind.Label name) = name_built name
is_small (kind.Global name) = name_built name
is_small (kind.Local name) = name_built name
is_small (kind.Int n) = int_built n
is_small (kind.CStr bytes) = built_all (λ b. nat_lt b 256) bytes
is_small _ = true

-- tokens of such a text
abbrev pub AreSmall : List TokenKind → Type 0
AreSmall ts = (length ts < 2 ^ 32) × (list_all is_small ts ≡ true)

-- tests that pass on both sides of a cut
all_left : {A : Type 0} (test : A → Bool) (xs ys : List A) → list_all test (xs ++ ys) ≡ true → list_all test xs ≡ true
all_left test [] ys h = refl
all_left test (x ∷ xs) ys h =
    let parts = and_parts (test x) (list_all test (xs ++ ys)) h in and_from (test x) (list_all test xs) parts.0 (all_left test xs ys parts.1)

all_right : {A : Type 0} (test : A → Bool) (xs ys : List A) → list_all test (xs ++ ys) ≡ true → list_all test ys ≡ true
all_right test [] ys h = h
all_right test (x ∷ xs) ys h = all_right test xs ys (and_parts (test x) (list_all test (xs ++ ys)) h).1

pub small_left : (ts front rest : List TokenKind) → ts ≡ front ++ rest → AreSmall ts → AreSmall front
small_left ts front rest cut (few, all) =
    let l = ap length cut in let parts = length-append front rest in
    (omega arith, all_left is_small front rest (subst (λ us. list_all is_small us ≡ true) cut all))

pub small_right : (ts front rest : List TokenKind) → ts ≡ front ++ rest → AreSmall ts → AreSmall rest
small_right ts front rest cut (few, all) =
    let l = ap length cut in let parts = length-append front rest in
    (omega arith, all_right is_small front rest (subst (λ us. list_all is_small us ≡ true) cut all))

-- names
pub name_is : (name : List ℕ) → 0 < length name → length name < 2 ^ 32 → list_all is_name_byte name ≡ true → name_built name ≡ true
name_is [] some few all = absurd (omega arith)
name_is (b ∷ bs) some few all = and_from (nat_lt (length (b ∷ bs)) (2 ^ 32)) (list_all is_name_byte (b ∷ bs)) (lt-ltb (length (b ∷ bs)) (2 ^ 32) few) all

run_byte : (b : ℕ) → is_run_byte b ≡ true → is_name_byte b ≡ true
unfolding is_run_byte
run_byte b h = grind (arith, nat_tests)

run_bytes : (bs : List ℕ) → list_all is_run_byte bs ≡ true → list_all is_name_byte bs ≡ true
run_bytes [] h = refl
run_bytes (b ∷ bs) h =
    let parts = and_parts (is_run_byte b) (list_all is_run_byte bs) h in and_from (is_name_byte b) (list_all is_name_byte bs) (run_byte b parts.0) (run_bytes bs parts.1)

quoted_byte : (b : ℕ) → text.is_name_byte b ≡ true → is_name_byte b ≡ true
unfolding text.is_name_byte
quoted_byte b h =
    let last = and_parts (nat_le 32 b && nat_le b 126 && not (b == 34)) (not (b == 92)) h in
    let more = and_parts (nat_le 32 b && nat_le b 126) (not (b == 34)) last.0 in
    and_from (nat_le 32 b && nat_le b 126) (not (nat_eq b 34) && not (nat_eq b 92)) more.0 (and_from (not (nat_eq b 34)) (not (nat_eq b 92)) more.1 last.1)

quoted_bytes : (bs : List ℕ) → list_all text.is_name_byte bs ≡ true → list_all is_name_byte bs ≡ true
quoted_bytes [] h = refl
quoted_bytes (b ∷ bs) h =
    let parts = and_parts (text.is_name_byte b) (list_all text.is_name_byte bs) h in
    and_from (is_name_byte b) (list_all is_name_byte bs) (quoted_byte b parts.0) (quoted_bytes bs parts.1)

run_name : (name rest : List ℕ) → IsRun name rest → length name < 2 ^ 32 → name_built name ≡ true
run_name name rest run few = name_is name run.filled few (run_bytes name (list_all-from_AllPass is_run_byte name run.bytes))

quoted_name : (name bytes : List ℕ) → IsQuoted name bytes → length bytes < 2 ^ 32 → name_built name ≡ true
quoted_name name bytes q few =
    let l = ap length q.spelling in
    let parts = length-append name (34 ∷ []) in
    name_is name q.filled (omega arith) (quoted_bytes name (list_all-from_AllPass text.is_name_byte name q.bytes_of_name))

sigil_name : (sigil : ℕ) (name bytes rest : List ℕ) → SpellsName sigil name bytes rest → length bytes < 2 ^ 32 → name_built name ≡ true
sigil_name sigil name bytes rest (inl (e, run, may)) few = let l = ap length e in run_name name rest run (omega arith)
sigil_name sigil name bytes rest (inr (inner, e, q)) few = let l = ap length e in quoted_name name inner q (omega arith)

-- numbers
digit_small : (b : ℕ) → is_ascii_digit b ≡ true → digit_value b < 10
digit_small b h = grind (arith, nat_tests)

are_digits : (ds : List ℕ) → list_all is_ascii_digit ds ≡ true → AllDigits 10 ds
are_digits [] h = tt
are_digits (d ∷ ds) h = let parts = and_parts (is_ascii_digit d) (list_all is_ascii_digit ds) h in (digit_small d parts.0, are_digits ds parts.1)

digits_small : (ds : List ℕ) → AreDigits ds → digits_value 10 ds < 10 ^ 38
digits_small ds d =
    let under = digits_value-lt 10 ds (are_digits ds (list_all-from_AllPass is_ascii_digit ds d.bytes)) in
    let wide : 10 ^ length ds ≤ 10 ^ 38 = pow-le-pow_right {n = 10} (omega arith) {i = length ds} {j = 38} d.few in
    omega arith

below_zero : (n : ℕ) → n < 10 ^ 38 → int_built (neg_ℤ (pos n)) ≡ true
below_zero zero h = refl
below_zero (suc n) h = lt-ltb (n + 1) (10 ^ 38) (omega arith)

number_small : (n : ℤ) (bytes : List ℕ) → SpellsNumber n bytes → int_built n ≡ true
number_small n bytes (ds, d, inl (same, is)) = subst (λ z. int_built z ≡ true) (sym is) (lt-ltb (digits_value 10 ds) (10 ^ 38) (digits_small ds d))
number_small n bytes (ds, d, inr (same, is)) = subst (λ z. int_built z ≡ true) (sym is) (below_zero (digits_value 10 ds) (digits_small ds d))

-- bytes
hex_small : (b : ℕ) → is_ascii_hexdigit b ≡ true → digit_value b < 16
hex_small b h = grind (arith, nat_tests)

front_small : (xs ys : List ℕ) → All (λ b. b < 256) (xs ++ ys) → All (λ b. b < 256) xs
front_small [] ys h = All-nil (λ b. b < 256)
front_small (x ∷ xs) ys h = All-cons (λ b. b < 256) x xs (All-head (λ b. b < 256) x (xs ++ ys) h) (front_small xs ys (All-tail (λ b. b < 256) x (xs ++ ys) h))

rest_small : (xs ys : List ℕ) → All (λ b. b < 256) (xs ++ ys) → All (λ b. b < 256) ys
rest_small [] ys h = h
rest_small (x ∷ xs) ys h = rest_small xs ys (All-tail (λ b. b < 256) x (xs ++ ys) h)

byte_small : (b : ℕ) (bytes : List ℕ) → SpellsByte b bytes → All (λ x. x < 256) bytes → (b < 256) × (0 < length bytes)
byte_small b bytes (inl (e, n, m)) h = let l = ap length e in (All-head (λ x. x < 256) b [] (subst (All (λ x. x < 256)) e h), omega arith)
byte_small b bytes (inr (inl (e, is))) h = let l = ap length e in (omega arith, omega arith)
byte_small b bytes (inr (inr (high, low, e, p, q, is))) h =
    let l = ap length e in let a = hex_small high p in let c = hex_small low q in (omega arith, omega arith)

bytes_small : (bs inner : List ℕ) → SpellsBytes bs inner → All (λ x. x < 256) inner → (list_all (λ b. nat_lt b 256) bs ≡ true) × (length bs ≤ length inner)
bytes_small [] inner e h = (refl, omega arith)
bytes_small (b ∷ bs) inner (front, rest, cut, d, more) h =
    let whole = subst (All (λ x. x < 256)) cut h in
    let one = byte_small b front d (front_small front rest whole) in
    let go = bytes_small bs rest more (rest_small front rest whole) in
    let l = ap length cut in
    let parts = length-append front rest in
    let few : length bs ≤ length rest = go.1 in
    let some : 0 < length front = one.1 in
    (and_from (nat_lt b 256) (list_all (λ x. nat_lt x 256) bs) (lt-ltb b 256 one.0) go.0, omega arith)

string_small : (bs bytes rest : List ℕ) → Spells (kind.CStr bs) bytes rest → length bytes < 2 ^ 32 → All (λ x. x < 256) bytes → built_all (λ b. nat_lt b 256) bs ≡ true
string_small bs bytes rest (inner, e, d) few h =
    let whole = subst (All (λ x. x < 256)) e h in
    let inside = front_small inner (34 ∷ []) (rest_small (34 ∷ []) (inner ++ 34 ∷ []) (All-tail (λ x. x < 256) 99 (quoted inner) whole)) in
    let all = bytes_small bs inner d inside in
    let l = ap length e in
    let parts = length-append inner (34 ∷ []) in
    let short : length bs ≤ length inner = all.1 in
    and_from (nat_lt (length bs) (2 ^ 32)) (list_all (λ b. nat_lt b 256) bs) (lt-ltb (length bs) (2 ^ 32) (omega arith)) all.0

-- what is spelled by fewer than 2^32 bytes
token_small : (t : TokenKind) (bytes rest : List ℕ) → Spells t bytes rest → length bytes < 2 ^ 32 → All (λ x. x < 256) bytes → is_small t ≡ true
token_small (kind.Label name) bytes rest (inner, cut, inl (same, run)) few h =
    let l = ap length cut in let parts = length-append inner (58 ∷ []) in let m = ap length same in run_name name (58 ∷ rest) run (omega arith)
token_small (kind.Label name) bytes rest (inner, cut, inr q) few h =
    let l = ap length cut in let parts = length-append inner (58 ∷ []) in quoted_name name inner q (omega arith)
token_small (kind.CStr bs) bytes rest d few h = string_small bs bytes rest d few h
token_small (kind.Int n) bytes rest (run, colon, d) few h = number_small n bytes d
token_small (kind.Word w) bytes rest d few h = refl
token_small (kind.Global name) bytes rest d few h = sigil_name 64 name bytes rest d few
token_small (kind.Local name) bytes rest d few h = sigil_name 37 name bytes rest d few
token_small (kind.Meta name) bytes rest d few h = refl
token_small (kind.Hash name) bytes rest d few h = refl
token_small (kind.Str bs) bytes rest d few h = refl
token_small (kind.Mark m) bytes rest d few h = refl

-- the tokens of a row of pieces
row_small : (place : ℕ) (pieces : List Piece) (rest : List ℕ) → IsRow pieces rest → length (row_bytes pieces) < 2 ^ 32 → All (λ x. x < 256) (row_bytes pieces)
    → list_all is_small (kinds (tokens_from place pieces)) ≡ true
row_small place [] rest k few h = refl
row_small place (separator b ∷ ps) rest (p, k) few h = row_small (place + 1) ps rest k (omega arith) (rest_small (b ∷ []) (row_bytes ps) h)
row_small place (comment bytes ∷ ps) rest (p, k) few h =
    let parts = length-append (59 ∷ bytes) (row_bytes ps) in
    row_small (place + (length bytes + 1)) ps rest k (omega arith) (rest_small (59 ∷ bytes) (row_bytes ps) h)
row_small place (token t bytes ∷ ps) rest (p, k) few h =
    let parts = length-append bytes (row_bytes ps) in
    and_from (is_small t) (list_all is_small (kinds (tokens_from (place + length bytes) ps)))
    (token_small t bytes (row_bytes ps ++ rest) p (omega arith) (front_small bytes (row_bytes ps) h))
    (row_small (place + length bytes) ps rest k (omega arith) (rest_small bytes (row_bytes ps) h))

-- the tokens of a text
pub text_small : (whole : List ℕ) (tokens : List Token) → Scans whole tokens → length whole < 2 ^ 32 → All (λ x. x < 256) whole → AreSmall (kinds tokens)
text_small whole tokens (pieces, same, row, are) few h =
    let l = ap length same in
    let none : drop (length whole) whole ≡ [] = drop_all (length whole) whole (omega arith) in
    let count = few_tokens whole (length whole) tokens (record {
      pieces = pieces;
      cut = same ∙ sym (append-nil (row_bytes pieces)) ∙ ap (λ x. row_bytes pieces ++ x) (sym none);
      row = subst (IsRow pieces) (sym none) row;
      at = l;
      same = are;
    }) in
    let n = length-kinds tokens in
    (omega arith, subst (λ ts. list_all is_small (kinds ts) ≡ true) (sym are) (row_small 0 pieces [] row (omega arith) (subst (All (λ x. x < 256)) same h)))
