-- Names, numbers and the bytes of strings, each a token in front of what is apart.
use Rattle.std.proofs.Common.{◌≡◌, ℕ, zero, suc, ◌+◌, ◌*◌, ◌/◌, ◌%◌, ◌^◌, ◌<◌, ◌≤◌, Bool, true, false, List, [], ◌∷◌, ◌++◌, length, refl, sym, ap, ◌∙◌, arith, ℤ, pos, negsuc, neg_ℤ, ◌⊎◌, inl, inr, flat_map}
use Rattle.std.specs.Prelude.{◌&&◌, ◌||◌, not, ◌==◌, nat_le, nat_lt, nat_eq, if◌then◌else◌, decimal, IsTrue}
use Rattle.std.specs.Fmt.{signed_decimal}
use Rattle.std.specs.List.{list_all}
use Rattle.std.specs.Char.{is_ascii_digit, is_ascii_hexdigit, digit_value}
use Rattle.std.specs.Str.Parse.{digits_value, AllDigits}
use Rattle.std.proofs.lemmas.Bool.{and_parts, and_from, ltb-true, leb-true}
use Rattle.std.proofs.lemmas.Bool.Decides.{nat_tests}
use Rattle.std.proofs.lemmas.List.Sums.{AllPass-from_list_all}
use Rattle.std.proofs.lemmas.List.{append-nil}
use Rattle.std.proofs.lemmas.Fmt.{decimal_is_IsNumeral_wide, length-decimal-le_wide}
use Rattle.ir_core.specs.Built.{name_built, built_all, int_built}
use Rattle.ir_core.specs.Built as built
use Rattle.ir_lex.specs.declared.token.TokenKind.{TokenKind}
use Rattle.ir_lex.specs.declared.token.TokenKind.TheVariants.{Int, Local, Global, Label, CStr}
use Rattle.ir_lex.specs.Tokens.{is_run_byte, is_name_byte, begins, starts, quoted, IsRun, IsQuoted, MayName, SpellsName, AreDigits, SpellsByte, SpellsBytes, token, IsPiece}
use Rattle.ir_print.specs.Names.{is_plain, name_text, local_text, global_text, label_text, hex_digit, escaped, string_text}
use Rattle.ir_print.proofs.Scanning.{IsApart, IsScanned, Closed, Open}

-- one token in front of a rest
one : (text rest : List ℕ) (kind : TokenKind) → IsPiece (token kind text) rest → IsScanned text (kind ∷ []) rest
one text rest kind h = record { pieces = token kind text ∷ []; bytes = sym (append-nil text); row = (h, tt); kinds = refl }

-- the bytes of a name may stand between quotes
name_byte : (b : ℕ) → built.is_name_byte b ≡ true → is_name_byte b ≡ true
unfolding is_name_byte
name_byte b h =
    let parts = and_parts (nat_le 32 b && nat_le b 126) (not (nat_eq b 34) && not (nat_eq b 92)) h in
    let marks = and_parts (not (nat_eq b 34)) (not (nat_eq b 92)) parts.1 in
    and_from (nat_le 32 b && nat_le b 126 && not (b == 34)) (not (b == 92)) (and_from (nat_le 32 b && nat_le b 126) (not (b == 34)) parts.0 marks.0) marks.1

name_bytes : (bs : List ℕ) → list_all built.is_name_byte bs ≡ true → list_all is_name_byte bs ≡ true
name_bytes [] h = refl
name_bytes (b ∷ bs) h = let parts = and_parts (built.is_name_byte b) (list_all built.is_name_byte bs) h in and_from (is_name_byte b) (list_all is_name_byte bs) (name_byte b parts.0) (name_bytes bs parts.1)

-- a built name between quotes
quoted_name : (name : List ℕ) → name_built name ≡ true → IsQuoted name (quoted name)
quoted_name [] h = absurd (cc)
quoted_name (b ∷ bs) h =
    let parts = and_parts (nat_lt (length (b ∷ bs)) (2 ^ 32)) (list_all built.is_name_byte (b ∷ bs)) h in
    record { spelling = refl; filled = omega arith; bytes_of_name = AllPass-from_list_all is_name_byte (b ∷ bs) (name_bytes (b ∷ bs) parts.1) }

-- a plain name is a run in front of what is apart
plain_run : (name rest : List ℕ) → name_built name ≡ true → list_all is_run_byte name ≡ true → begins is_run_byte rest ≡ false → starts 34 rest ≡ false → IsRun name rest
plain_run [] rest h all run quote = absurd (cc)
plain_run (b ∷ bs) rest h all run quote = record { filled = omega arith; bytes = AllPass-from_list_all is_run_byte (b ∷ bs) all; longest = run; no_string = λ is. quote }

or_cases : (a b : Bool) → (a || b) ≡ true → (a ≡ true) ⊎ (b ≡ true)
or_cases true b h = inl refl
or_cases false b h = inr h

is_false : (t : Bool) → not t ≡ true → t ≡ false
is_false true h = absurd (cc)
is_false false h = refl

-- it may name a local or a global
may_name : (name : List ℕ) → (list_all is_ascii_digit name || not (begins is_ascii_digit name)) ≡ true → MayName name
may_name name h = by (or_cases (list_all is_ascii_digit name) (not (begins is_ascii_digit name)) h)
  where
    by : (list_all is_ascii_digit name ≡ true) ⊎ (not (begins is_ascii_digit name) ≡ true) → MayName name
    by (inl all) = inl (AllPass-from_list_all is_ascii_digit name all)
    by (inr none) = inr (is_false (begins is_ascii_digit name) none)

-- a name behind a sigil
sigil_name : (sigil : ℕ) (name rest : List ℕ) → name_built name ≡ true → IsApart rest → SpellsName sigil name (sigil ∷ name_text name) rest
unfolding name_text
sigil_name sigil name rest h apart = by (is_plain name) refl
  where
    by : (t : Bool) → is_plain name ≡ t → SpellsName sigil name (sigil ∷ (if t then name else quoted name)) rest
    by true e =
        let parts = and_parts (list_all is_run_byte name) (list_all is_ascii_digit name || not (begins is_ascii_digit name)) e in
        inl (refl, plain_run name rest h parts.0 apart.run apart.quote, may_name name parts.1)
    by false e = inr (quoted name, refl, quoted_name name h)

pub local_scanned : (name : List ℕ) → name_built name ≡ true → Open (local_text name) (Local name ∷ [])
unfolding local_text
local_scanned name h rest apart = one (37 ∷ name_text name) rest (Local name) (sigil_name 37 name rest h apart)

pub global_scanned : (name : List ℕ) → name_built name ≡ true → Open (global_text name) (Global name ∷ [])
unfolding global_text
global_scanned name h rest apart = one (64 ∷ name_text name) rest (Global name) (sigil_name 64 name rest h apart)

pub label_scanned : (name : List ℕ) → name_built name ≡ true → Closed (label_text name) (Label name ∷ [])
unfolding label_text name_text is_run_byte
label_scanned name h rest = one (name_text name ++ 58 ∷ []) rest (Label name) (by (is_plain name) refl)
  where
    by : (t : Bool) → is_plain name ≡ t → IsPiece (token (Label name) ((if t then name else quoted name) ++ 58 ∷ [])) rest
    by true e = let parts = and_parts (list_all is_run_byte name) (list_all is_ascii_digit name || not (begins is_ascii_digit name)) e in (name, refl, inl (refl, plain_run name (58 ∷ rest) h parts.0 refl refl))
    by false e = (quoted name, refl, inr (quoted_name name h))

-- digits
digit_byte : (c : ℕ) → digit_value c < 10 → is_ascii_digit c ≡ true
digit_byte c h = grind (arith, nat_tests)

digit_bytes : (ds : List ℕ) → AllDigits 10 ds → list_all is_ascii_digit ds ≡ true
digit_bytes [] h = refl
digit_bytes (d ∷ ds) h = and_from (is_ascii_digit d) (list_all is_ascii_digit ds) (digit_byte d h.0) (digit_bytes ds h.1)

decimal_digits : (n : ℕ) → n < 10 ^ 38 → AreDigits (decimal n)
decimal_digits n h =
    let wide : 10 ^ 38 ≤ 10 ^ 64 = leb-true (10 ^ 38) (10 ^ 64) refl in
    let numeral = decimal_is_IsNumeral_wide n (omega arith) in
    record {
      filled = (let f = numeral.0.0 in omega arith);
      few = length-decimal-le_wide 38 n (omega arith) h (omega arith);
      bytes = AllPass-from_list_all is_ascii_digit (decimal n) (digit_bytes (decimal n) numeral.0.1);
    }

decimal_value : (n : ℕ) → n < 10 ^ 38 → n ≡ digits_value 10 (decimal n)
decimal_value n h =
    let wide : 10 ^ 38 ≤ 10 ^ 64 = leb-true (10 ^ 38) (10 ^ 64) refl in sym (decimal_is_IsNumeral_wide n (omega arith)).1

digit_runs : (d : ℕ) → is_ascii_digit d ≡ true → is_run_byte d ≡ true
unfolding is_run_byte
digit_runs d h = grind (arith, nat_tests)

-- a number is a run
digits_run : (ds : List ℕ) → list_all is_ascii_digit ds ≡ true → list_all is_run_byte ds ≡ true
digits_run [] h = refl
digits_run (d ∷ ds) h = let parts = and_parts (is_ascii_digit d) (list_all is_ascii_digit ds) h in and_from (is_run_byte d) (list_all is_run_byte ds) (digit_runs d parts.0) (digits_run ds parts.1)

decimal_run : (n : ℕ) → n < 10 ^ 38 → list_all is_run_byte (decimal n) ≡ true
decimal_run n h =
    let wide : 10 ^ 38 ≤ 10 ^ 64 = leb-true (10 ^ 38) (10 ^ 64) refl in
    digits_run (decimal n) (digit_bytes (decimal n) (decimal_is_IsNumeral_wide n (omega arith)).0.1)

run_of : (bytes rest : List ℕ) → 0 < length bytes → list_all is_run_byte bytes ≡ true → IsApart rest → IsRun bytes rest
run_of bytes rest some all apart = record { filled = some; bytes = AllPass-from_list_all is_run_byte bytes all; longest = apart.run; no_string = λ is. apart.quote }

-- a number that a text can have
pub number_scanned : (n : ℤ) → int_built n ≡ true → Open (signed_decimal n) (Int n ∷ [])
unfolding is_run_byte
number_scanned (pos n) h rest apart =
    let small : n < 10 ^ 38 = ltb-true n (10 ^ 38) h in
    let digits = decimal_digits n small in
    one (decimal n) rest (Int (pos n)) (run_of (decimal n) rest (let f = digits.filled in omega arith) (decimal_run n small) apart, apart.colon, (decimal n, digits, inl (refl, ap pos (decimal_value n small))))
number_scanned (negsuc n) h rest apart =
    let small : suc n < 10 ^ 38 = (let l : n + 1 < 10 ^ 38 = ltb-true (n + 1) (10 ^ 38) h in omega arith) in
    let digits = decimal_digits (suc n) small in
    one (45 ∷ decimal (suc n)) rest (Int (negsuc n)) (run_of (45 ∷ decimal (suc n)) rest (omega arith) (decimal_run (suc n) small) apart, apart.colon, (decimal (suc n), digits, inr (refl, ap (λ m. neg_ℤ (pos m)) (decimal_value (suc n) small))))

-- an upper-case hexadecimal digit and its value
hex_value : (d : ℕ) → d < 16 → IsTrue (is_ascii_hexdigit (hex_digit d)) × (digit_value (hex_digit d) ≡ d)
hex_value zero h = (refl, refl)
hex_value (suc zero) h = (refl, refl)
hex_value (suc (suc zero)) h = (refl, refl)
hex_value (suc (suc (suc zero))) h = (refl, refl)
hex_value (suc (suc (suc (suc zero)))) h = (refl, refl)
hex_value (suc (suc (suc (suc (suc zero))))) h = (refl, refl)
hex_value (suc (suc (suc (suc (suc (suc zero)))))) h = (refl, refl)
hex_value (suc (suc (suc (suc (suc (suc (suc zero))))))) h = (refl, refl)
hex_value (suc (suc (suc (suc (suc (suc (suc (suc zero)))))))) h = (refl, refl)
hex_value (suc (suc (suc (suc (suc (suc (suc (suc (suc zero))))))))) h = (refl, refl)
hex_value (suc (suc (suc (suc (suc (suc (suc (suc (suc (suc zero)))))))))) h = (refl, refl)
hex_value (suc (suc (suc (suc (suc (suc (suc (suc (suc (suc (suc zero))))))))))) h = (refl, refl)
hex_value (suc (suc (suc (suc (suc (suc (suc (suc (suc (suc (suc (suc zero)))))))))))) h = (refl, refl)
hex_value (suc (suc (suc (suc (suc (suc (suc (suc (suc (suc (suc (suc (suc zero))))))))))))) h = (refl, refl)
hex_value (suc (suc (suc (suc (suc (suc (suc (suc (suc (suc (suc (suc (suc (suc zero)))))))))))))) h = (refl, refl)
hex_value (suc (suc (suc (suc (suc (suc (suc (suc (suc (suc (suc (suc (suc (suc (suc zero))))))))))))))) h = (refl, refl)
hex_value (suc (suc (suc (suc (suc (suc (suc (suc (suc (suc (suc (suc (suc (suc (suc (suc d)))))))))))))))) h = absurd (omega arith)

-- the spelling of a byte
byte_spelled : (b : ℕ) → b < 256 → SpellsByte b (escaped b)
unfolding is_name_byte
byte_spelled b h = by (is_name_byte b) refl
  where
    by : (t : Bool) → is_name_byte b ≡ t → SpellsByte b (if t then b ∷ [] else 92 ∷ hex_digit (b / 16) ∷ hex_digit (b % 16) ∷ [])
    by true e =
        let outer = and_parts (nat_le 32 b && nat_le b 126 && not (b == 34)) (not (b == 92)) e in
        let inner = and_parts (nat_le 32 b && nat_le b 126) (not (b == 34)) outer.0 in
        inl (refl, (λ is. absurd (grind (arith))), (λ is. absurd (grind (arith))))
    by false e =
        let high = hex_value (b / 16) (omega arith) in
        let low = hex_value (b % 16) (omega arith) in
        let parts : b ≡ 16 * (b / 16) + b % 16 = omega arith in
        inr (inr (hex_digit (b / 16), hex_digit (b % 16), refl, high.0, low.0, parts ∙ (ap (λ d. 16 * d + b % 16) (sym high.1) ∙ ap (λ d. 16 * digit_value (hex_digit (b / 16)) + d) (sym low.1))))

bytes_spelled : (bs : List ℕ) → list_all (λ b. nat_lt b 256) bs ≡ true → SpellsBytes bs (flat_map escaped bs)
bytes_spelled [] h = refl
bytes_spelled (b ∷ bs) h =
    let parts = and_parts (nat_lt b 256) (list_all (λ c. nat_lt c 256) bs) h in
    (escaped b, flat_map escaped bs, refl, byte_spelled b (ltb-true b 256 parts.0), bytes_spelled bs parts.1)

pub string_scanned : (bs : List ℕ) → list_all (λ b. nat_lt b 256) bs ≡ true → Closed (string_text bs) (CStr bs ∷ [])
unfolding string_text
string_scanned bs h rest = one (99 ∷ quoted (flat_map escaped bs)) rest (CStr bs) (flat_map escaped bs, refl, bytes_spelled bs h)
