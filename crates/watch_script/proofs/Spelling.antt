-- A line that is taken apart as an event spells it, and every line that spells an event is taken apart so.
use Rattle.std.proofs.Common.{◌≡◌, ◌==◌, ℕ, zero, suc, ◌+◌, ◌*◌, ◌/◌, ◌%◌, ◌<◌, ◌≤◌, ◌^◌, Bool, true, false, cond, nat_eq, nat_lt, nat_le, List, [], ◌∷◌, ◌++◌, length, slice_index, Option, Some, None, Result, Ok, Err, codes, refl, sym, ap, subst, ◌∙◌, arith, ◌&&◌}
use Rattle.std.specs.Cmp.Lexicographic.{pointwise}
use Rattle.std.proofs.lemmas.Bool.Decides.{nat_tests}
use Rattle.hex.specs.declared.error.FromHexError.{FromHexError}
use Rattle.hex.specs.declared.error.FromHexError.TheVariants.{OddLength}
use Rattle.hex.specs.Hex.{IsBytes, decode_of, decode_pairs, digit_or_error, encode_lower, encode_with, hex_digit_value, lower_digits, pair_value, ◌>>=◌}
use Rattle.hex.proofs.HexLemmas.{IsDigits-lower_digits, decode_of-encode_lower}
use Rattle.behavior.specs.Moment.{AreBytes}
use Rattle.watch_script.specs.declared.event.Event.{Event}
use Rattle.watch_script.specs.declared.event.Event.TheVariants.{Read, Write}
use Rattle.rd_num.specs.Numeral.{digit_value, number_behind, below, numeral}
use Rattle.watch_script.specs.Events.{after_of}
use Rattle.watch_script.specs.Script.{IsRead, IsWrite, IsLine}
use Rattle.watch_script.specs.Reading.{split_at, read_by, written_so, bytes_of, write_by, by_read, by_write, by_fields, by_word, by_steps, event_of, IsNext, HasNoNext}
use Rattle.watch_script.proofs.Parting.{Lacks, lacks_both, split_found, split_is}

-- no digit is a mark
module _ (base mark : ℕ) (none : nat_lt (digit_value mark) base ≡ false) where
  lacks_behind : (n m : ℕ) (word : List ℕ) → number_behind base n word ≡ Some m → Lacks mark word
  lacks_behind n m [] e = tt
  lacks_behind n m (c ∷ cs) e = by (λ k. lacks_behind k m cs) (nat_lt (digit_value c) base) refl e
    where
      by : ((k : ℕ) → number_behind base k cs ≡ Some m → Lacks mark cs) → (t : Bool) → nat_lt (digit_value c) base ≡ t → cond t (number_behind base (n * base + digit_value c) cs) None ≡ Some m → Lacks mark (c ∷ cs)
      by others true f h = ((λ is. let g : nat_lt (digit_value mark) base ≡ true = subst (λ d. nat_lt (digit_value d) base ≡ true) is f in absurd (cc)), others (n * base + digit_value c) h)
      by others false f h = absurd (cc)

  pub lacks_numeral : (most limit n : ℕ) (word : List ℕ) → numeral base most limit word ≡ Some n → Lacks mark word
  lacks_numeral most limit n word e = by (nat_le 1 (length word) && nat_le (length word) most) e
    where
      within : (o : Option ℕ) → number_behind base 0 word ≡ o → below limit o ≡ Some n → Lacks mark word
      within None f h = absurd (cc)
      within (Some m) f h = lacks_behind 0 m word f

      by : (t : Bool) → cond t (below limit (number_behind base 0 word)) None ≡ Some n → Lacks mark word
      by true h = within (number_behind base 0 word) refl h
      by false h = absurd (cc)

module _ (mark : ℕ) (none : hex_digit_value mark ≡ None) where
  lacks_digit : (n : ℕ) → n < 16 → slice_index lower_digits n ≡ mark → ⊥
  lacks_digit n h is = let f : hex_digit_value (slice_index lower_digits n) ≡ Some n = IsDigits-lower_digits n h in let g : hex_digit_value mark ≡ Some n = ap hex_digit_value (sym is) ∙ f in absurd (cc)

  -- nor a digit of a byte
  pub lacks_bytes : (bytes : List ℕ) → AreBytes bytes → Lacks mark (encode_lower bytes)
  unfolding encode_with
  lacks_bytes [] h = tt
  lacks_bytes (b ∷ bs) h =
      let small : b < 256 = h.0 in
      (lacks_digit (b / 16) (omega arith), (lacks_digit (b % 16) (omega arith), lacks_bytes bs h.1))

-- a line has no line feed
pub no_feed : (line : List ℕ) (e : Event) → IsLine line e → Lacks 10 line
no_feed line (Read after at len) is =
    subst (Lacks 10) (sym is.parts)
    (lacks_both 10 is.steps (codes " read " ++ (is.address ++ 32 ∷ is.count)) (lacks_numeral 10 10 refl 20 (2 ^ 64) after is.steps is.steps_are)
    (lacks_both 10 (codes " read ") (is.address ++ 32 ∷ is.count) ((λ h. cc), ((λ h. cc), ((λ h. cc), ((λ h. cc), ((λ h. cc), ((λ h. cc), tt))))))
    (lacks_both 10 is.address (32 ∷ is.count) (lacks_numeral 16 10 refl 16 (2 ^ 64) at is.address is.address_is) ((λ h. cc), lacks_numeral 10 10 refl 4 4097 len is.count is.len_is))))
no_feed line (Write after at bytes) is =
    subst (Lacks 10) (sym is.parts)
    (lacks_both 10 is.steps (codes " write " ++ (is.address ++ 32 ∷ encode_lower bytes)) (lacks_numeral 10 10 refl 20 (2 ^ 64) after is.steps is.steps_are)
    (lacks_both 10 (codes " write ") (is.address ++ 32 ∷ encode_lower bytes) ((λ h. cc), ((λ h. cc), ((λ h. cc), ((λ h. cc), ((λ h. cc), ((λ h. cc), ((λ h. cc), tt)))))))
    (lacks_both 10 is.address (32 ∷ encode_lower bytes) (lacks_numeral 16 10 refl 16 (2 ^ 64) at is.address is.address_is) ((λ h. cc), lacks_bytes 10 refl bytes is.are_bytes))))

leb_true : (m n : ℕ) → m ≤ n → nat_le m n ≡ true
leb_true m n h = grind (arith, nat_tests)

le_is : (m n : ℕ) → nat_le m n ≡ true → m ≤ n
le_is m n h = grind (arith, nat_tests)

some_is : (x y : Event) → Some x ≡ Some y → x ≡ y
some_is x y e = cc

word_is : (xs ys : List ℕ) → pointwise nat_eq xs ys ≡ true → xs ≡ ys
word_is [] [] h = refl
word_is [] (y ∷ ys) h = absurd (cc)
word_is (x ∷ xs) [] h = absurd (cc)
word_is (x ∷ xs) (y ∷ ys) h = by (word_is xs ys) (nat_eq x y) refl h
  where
    same_is : (x y : ℕ) → nat_eq x y ≡ true → x ≡ y
    same_is x y h = grind (arith, nat_tests)

    by : (pointwise nat_eq xs ys ≡ true → xs ≡ ys) → (t : Bool) → nat_eq x y ≡ t → (t && pointwise nat_eq xs ys) ≡ true → x ∷ xs ≡ y ∷ ys
    by others true f g = let e : x ≡ y = same_is x y f in let k : xs ≡ ys = others g in rw (e, k) refl
    by others false f g = absurd (cc)

same_word : (xs : List ℕ) → pointwise nat_eq xs xs ≡ true
same_word [] = refl
same_word (x ∷ xs) = rw (same_number x) (same_word xs)
  where
    same_number : (n : ℕ) → nat_eq n n ≡ true
    same_number n = grind (arith, nat_tests)

-- bytes are what their digits are read as
bytes_index : (bytes : List ℕ) → AreBytes bytes → IsBytes bytes
bytes_index [] h i = omega arith
bytes_index (b ∷ bs) h zero = h.0
bytes_index (b ∷ bs) h (suc i) = bytes_index bs h.1 i

bytes_back : (bytes : List ℕ) → AreBytes bytes → bytes_of (encode_lower bytes) ≡ Some bytes
unfolding bytes_of
bytes_back bytes h = ap (written_so (encode_lower bytes)) (decode_of-encode_lower bytes (bytes_index bytes h)) ∙ rw (same_word (encode_lower bytes)) refl

made_read : (after at len : ℕ) (a b c : Option ℕ) → a ≡ Some after → b ≡ Some at → c ≡ Some len → 1 ≤ len → read_by a b c ≡ Some (Read after at len)
made_read after at len a b c ea eb ec h = rw (ea, eb, ec, leb_true 1 len h) refl

made_write : (after at : ℕ) (bytes : List ℕ) (a b : Option ℕ) (c : Option (List ℕ)) → a ≡ Some after → b ≡ Some at → c ≡ Some bytes → 1 ≤ length bytes → length bytes ≤ 4096 → write_by a b c ≡ Some (Write after at bytes)
made_write after at bytes a b c ea eb ec h k = rw (ea, eb, ec, leb_true 1 (length bytes) h, leb_true (length bytes) 4096 k) refl

-- every line that spells an event is taken apart so
read_complete : (line : List ℕ) (after at len : ℕ) → IsRead line after at len → event_of line ≡ Some (Read after at len)
unfolding event_of
read_complete line after at len is =
    let rest : List ℕ = is.address ++ 32 ∷ is.count in
    let first : split_at 32 line ≡ Some (is.steps, codes "read " ++ rest) =
    ap (split_at 32) is.parts ∙ split_found 32 is.steps (codes "read " ++ rest) (lacks_numeral 10 32 refl 20 (2 ^ 64) after is.steps is.steps_are) in
    let second : split_at 32 (codes "read " ++ rest) ≡ Some (codes "read", rest) = split_found 32 (codes "read") rest ((λ h. cc), ((λ h. cc), ((λ h. cc), ((λ h. cc), tt)))) in
    let third : split_at 32 rest ≡ Some (is.address, is.count) = split_found 32 is.address is.count (lacks_numeral 16 32 refl 16 (2 ^ 64) at is.address is.address_is) in
    ap by_steps first ∙ (ap (by_word is.steps) second ∙ (ap (by_fields is.steps (codes "read")) third ∙
    made_read after at len (numeral 10 20 (2 ^ 64) is.steps) (numeral 16 16 (2 ^ 64) is.address) (numeral 10 4 4097 is.count) is.steps_are is.address_is is.len_is is.some))

write_complete : (line : List ℕ) (after at : ℕ) (bytes : List ℕ) → IsWrite line after at bytes → event_of line ≡ Some (Write after at bytes)
unfolding event_of
write_complete line after at bytes is =
    let rest : List ℕ = is.address ++ 32 ∷ encode_lower bytes in
    let first : split_at 32 line ≡ Some (is.steps, codes "write " ++ rest) =
    ap (split_at 32) is.parts ∙ split_found 32 is.steps (codes "write " ++ rest) (lacks_numeral 10 32 refl 20 (2 ^ 64) after is.steps is.steps_are) in
    let second : split_at 32 (codes "write " ++ rest) ≡ Some (codes "write", rest) = split_found 32 (codes "write") rest ((λ h. cc), ((λ h. cc), ((λ h. cc), ((λ h. cc), ((λ h. cc), tt))))) in
    let third : split_at 32 rest ≡ Some (is.address, encode_lower bytes) = split_found 32 is.address (encode_lower bytes) (lacks_numeral 16 32 refl 16 (2 ^ 64) at is.address is.address_is) in
    ap by_steps first ∙ (ap (by_word is.steps) second ∙ (ap (by_fields is.steps (codes "write")) third ∙
    made_write after at bytes (numeral 10 20 (2 ^ 64) is.steps) (numeral 16 16 (2 ^ 64) is.address) (bytes_of (encode_lower bytes)) is.steps_are is.address_is (bytes_back bytes is.are_bytes) is.some is.few))

pub complete : (line : List ℕ) (e : Event) → IsLine line e → event_of line ≡ Some e
complete line (Read after at len) is = read_complete line after at len is
complete line (Write after at bytes) is = write_complete line after at bytes is

-- a line with these parts spells the read
read_line : (line steps address count : List ℕ) (e : Event) → line ≡ steps ++ (codes " read " ++ (address ++ 32 ∷ count)) → by_read steps address count ≡ Some e → IsLine line e
read_line line steps address count e parts h = by (numeral 10 20 (2 ^ 64) steps) (numeral 16 16 (2 ^ 64) address) (numeral 10 4 4097 count) refl refl refl h
  where
    by : (a b c : Option ℕ) → numeral 10 20 (2 ^ 64) steps ≡ a → numeral 16 16 (2 ^ 64) address ≡ b → numeral 10 4 4097 count ≡ c → read_by a b c ≡ Some e → IsLine line e
    by None b c ea eb ec h = absurd (cc)
    by (Some after) None c ea eb ec h = absurd (cc)
    by (Some after) (Some at) None ea eb ec h = absurd (cc)
    by (Some after) (Some at) (Some len) ea eb ec h = with (nat_le 1 len) refl h
      where
        with : (t : Bool) → nat_le 1 len ≡ t → cond t (Some (Read after at len)) None ≡ Some e → IsLine line e
        with true f h = subst (IsLine line) (some_is (Read after at len) e h) (record {
          steps = steps;
          address = address;
          count = count;
          parts = parts;
          steps_are = ea;
          address_is = eb;
          len_is = ec;
          some = le_is 1 len f;
        })
        with false f h = absurd (cc)

digit_small : (c v : ℕ) → hex_digit_value c ≡ Some v → v < 16
digit_small c v h = grind (arith, nat_tests)

pair_small : (high low i b : ℕ) → pair_value high low i ≡ Ok b → b < 256
pair_small high low i b h = by (hex_digit_value high) (hex_digit_value low) refl refl h
  where
    is : (x y : ℕ) → (let r : Result ℕ FromHexError = Ok x in r) ≡ Ok y → x ≡ y
    is x y e = cc

    by : (x y : Option ℕ) → hex_digit_value high ≡ x → hex_digit_value low ≡ y → (digit_or_error high i x >>= λ h. digit_or_error low (i + 1) y >>= λ l. Ok (h * 16 + l)) ≡ Ok b → b < 256
    by None y e f h = absurd (cc)
    by (Some x) None e f h = absurd (cc)
    by (Some x) (Some y) e f h =
        let a : x < 16 = digit_small high x e in
        let c : y < 16 = digit_small low y f in
        let g : x * 16 + y ≡ b = is (x * 16 + y) b h in
        omega arith

-- what digits are read as are bytes
pairs_bytes : (i : ℕ) (digits bytes : List ℕ) → decode_pairs i digits ≡ Ok bytes → AreBytes bytes
unfolding decode_pairs
pairs_bytes i [] bytes h = subst AreBytes (is [] bytes h) tt
  where
    is : (x y : List ℕ) → (let r : Result (List ℕ) FromHexError = Ok x in r) ≡ Ok y → x ≡ y
    is x y e = cc
pairs_bytes i (d ∷ []) bytes h = absurd (cc)
pairs_bytes i (high ∷ low ∷ rest) bytes h = by (pair_value high low i) (decode_pairs (i + 2) rest) refl (pairs_bytes (i + 2) rest) h
  where
    is : (x y : List ℕ) → (let r : Result (List ℕ) FromHexError = Ok x in r) ≡ Ok y → x ≡ y
    is x y e = cc

    by : (p : Result ℕ FromHexError) (q : Result (List ℕ) FromHexError) → pair_value high low i ≡ p → ((others : List ℕ) → q ≡ Ok others → AreBytes others) → (p >>= λ byte. q >>= λ others. Ok (byte ∷ others)) ≡ Ok bytes → AreBytes bytes
    by (Err e) q f others h = absurd (cc)
    by (Ok b) (Err e) f others h = absurd (cc)
    by (Ok b) (Ok bs) f others h = subst AreBytes (is (b ∷ bs) bytes h) (pair_small high low i b f, others bs refl)

-- what is made of digits
record Spelled (digits bytes : List ℕ) : Type 0 where
  pub same : digits ≡ encode_lower bytes
  pub are_bytes : AreBytes bytes

bytes_spelled : (digits bytes : List ℕ) → bytes_of digits ≡ Some bytes → Spelled digits bytes
unfolding bytes_of
bytes_spelled digits bytes h = by (decode_of digits) refl h
  where
    whole : (t : Bool) (bs : List ℕ) → (let r : Result (List ℕ) FromHexError = cond t (Err OddLength) (decode_pairs 0 digits) in r) ≡ Ok bs → AreBytes bs
    whole true bs h = absurd (cc)
    whole false bs h = pairs_bytes 0 digits bs h

    some_list : (x y : List ℕ) → Some x ≡ Some y → x ≡ y
    some_list x y e = cc

    by : (r : Result (List ℕ) FromHexError) → decode_of digits ≡ r → written_so digits r ≡ Some bytes → Spelled digits bytes
    by (Err e) f h = absurd (cc)
    by (Ok bs) f h = with (pointwise nat_eq (encode_lower bs) digits) refl h
      where
        with : (t : Bool) → pointwise nat_eq (encode_lower bs) digits ≡ t → cond t (Some bs) None ≡ Some bytes → Spelled digits bytes
        with true g h = subst (Spelled digits) (some_list bs bytes h) (record { same = sym (word_is (encode_lower bs) digits g); are_bytes = whole (length digits % 2 == 1) bs f })
        with false g h = absurd (cc)

and_both : (a b : Bool) → (a && b) ≡ true → (a ≡ true) × (b ≡ true)
and_both true b h = (refl, h)
and_both false b h = absurd (cc)

-- the same of a write
write_line : (line steps address digits : List ℕ) (e : Event) → line ≡ steps ++ (codes " write " ++ (address ++ 32 ∷ digits)) → by_write steps address digits ≡ Some e → IsLine line e
write_line line steps address digits e parts h = by (numeral 10 20 (2 ^ 64) steps) (numeral 16 16 (2 ^ 64) address) (bytes_of digits) refl refl refl h
  where
    by : (a b : Option ℕ) (c : Option (List ℕ)) → numeral 10 20 (2 ^ 64) steps ≡ a → numeral 16 16 (2 ^ 64) address ≡ b → bytes_of digits ≡ c → write_by a b c ≡ Some e → IsLine line e
    by None b c ea eb ec h = absurd (cc)
    by (Some after) None c ea eb ec h = absurd (cc)
    by (Some after) (Some at) None ea eb ec h = absurd (cc)
    by (Some after) (Some at) (Some bytes) ea eb ec h = with (nat_le 1 (length bytes) && nat_le (length bytes) 4096) refl h
      where
        with : (t : Bool) → (nat_le 1 (length bytes) && nat_le (length bytes) 4096) ≡ t → cond t (Some (Write after at bytes)) None ≡ Some e → IsLine line e
        with true f h =
            let spelled = bytes_spelled digits bytes ec in
            let sizes = and_both (nat_le 1 (length bytes)) (nat_le (length bytes) 4096) f in
            subst (IsLine line) (some_is (Write after at bytes) e h) (record {
              steps = steps;
              address = address;
              parts = parts ∙ ap (λ ds. steps ++ (codes " write " ++ (address ++ 32 ∷ ds))) spelled.same;
              steps_are = ea;
              address_is = eb;
              are_bytes = spelled.are_bytes;
              some = le_is 1 (length bytes) sizes.0;
              few = le_is (length bytes) 4096 sizes.1;
            })
        with false f h = absurd (cc)

-- a line that is taken apart as an event spells it
pub sound : (line : List ℕ) (e : Event) → event_of line ≡ Some e → IsLine line e
unfolding event_of
sound line e h = by_first (split_at 32 line) refl h
  where
    by_third : (steps word rest : List ℕ) → line ≡ steps ++ 32 ∷ (word ++ 32 ∷ rest) → (o : Option (List ℕ × List ℕ)) → split_at 32 rest ≡ o → by_fields steps word o ≡ Some e → IsLine line e
    by_third steps word rest is None f h = absurd (cc)
    by_third steps word rest is (Some p) f h = with (pointwise nat_eq word (codes "read")) (pointwise nat_eq word (codes "write")) refl refl h
      where
        parts : line ≡ steps ++ 32 ∷ (word ++ 32 ∷ (p.0 ++ 32 ∷ p.1))
        parts = is ∙ ap (λ r. steps ++ 32 ∷ (word ++ 32 ∷ r)) (split_is 32 rest p.0 p.1 f)

        with : (t u : Bool) → pointwise nat_eq word (codes "read") ≡ t → pointwise nat_eq word (codes "write") ≡ u → cond t (by_read steps p.0 p.1) (cond u (by_write steps p.0 p.1) None) ≡ Some e → IsLine line e
        with true u g k h = read_line line steps p.0 p.1 e (parts ∙ ap (λ w. steps ++ 32 ∷ (w ++ 32 ∷ (p.0 ++ 32 ∷ p.1))) (word_is word (codes "read") g)) h
        with false true g k h = write_line line steps p.0 p.1 e (parts ∙ ap (λ w. steps ++ 32 ∷ (w ++ 32 ∷ (p.0 ++ 32 ∷ p.1))) (word_is word (codes "write") k)) h
        with false false g k h = absurd (cc)

    by_second : (steps rest : List ℕ) → line ≡ steps ++ 32 ∷ rest → (o : Option (List ℕ × List ℕ)) → split_at 32 rest ≡ o → by_word steps o ≡ Some e → IsLine line e
    by_second steps rest is None f h = absurd (cc)
    by_second steps rest is (Some p) f h = by_third steps p.0 p.1 (is ∙ ap (λ r. steps ++ 32 ∷ r) (split_is 32 rest p.0 p.1 f)) (split_at 32 p.1) refl h

    by_first : (o : Option (List ℕ × List ℕ)) → split_at 32 line ≡ o → by_steps o ≡ Some e → IsLine line e
    by_first None f h = absurd (cc)
    by_first (Some p) f h = by_second p.0 p.1 (split_is 32 line p.0 p.1 f) (split_at 32 p.1) refl h

-- the next line is the one before the first line feed
pub next_line : (least : ℕ) (bytes : List ℕ) (e : Event) (rest : List ℕ) (next : IsNext least bytes e rest) → (split_at 10 bytes ≡ Some (next.line, rest)) × (event_of next.line ≡ Some e)
next_line least bytes e rest next = (ap (split_at 10) next.parts ∙ split_found 10 next.line rest (no_feed next.line e next.is), complete next.line e next.is)

pub no_line : (least : ℕ) (bytes : List ℕ) → split_at 10 bytes ≡ None → HasNoNext least bytes
no_line least bytes none e rest next = let h = (next_line least bytes e rest next).0 in absurd (cc)

first_is : (p q : List ℕ × List ℕ) → Some p ≡ Some q → p.0 ≡ q.0
first_is p q e = ap (λ (r : List ℕ × List ℕ). r.0) (let f : p ≡ q = cc in f)

pub no_event : (least : ℕ) (bytes line rest : List ℕ) → split_at 10 bytes ≡ Some (line, rest) → event_of line ≡ None → HasNoNext least bytes
no_event least bytes line rest is none e behind next =
    let h = next_line least bytes e behind next in
    let same : line ≡ next.line = first_is (line, rest) (next.line, behind) (sym is ∙ h.0) in
    let f : event_of line ≡ Some e = ap event_of same ∙ h.1 in
    absurd (cc)

pub too_early : (least : ℕ) (bytes line rest : List ℕ) (e : Event) → split_at 10 bytes ≡ Some (line, rest) → event_of line ≡ Some e → after_of e < least → HasNoNext least bytes
too_early least bytes line rest e is event early e2 behind next =
    let h = next_line least bytes e2 behind next in
    let same : line ≡ next.line = first_is (line, rest) (next.line, behind) (sym is ∙ h.0) in
    let f : Some e ≡ Some e2 = sym event ∙ (ap event_of same ∙ h.1) in
    let g : e ≡ e2 = event_is e e2 f in
    let after : after_of e ≡ after_of e2 = ap after_of g in
    let late : least ≤ after_of e2 = next.late in
    absurd (omega arith)
  where
    event_is : (x y : Event) → Some x ≡ Some y → x ≡ y
    event_is x y e = cc

pub is_next : (least : ℕ) (bytes line rest : List ℕ) (e : Event) → split_at 10 bytes ≡ Some (line, rest) → event_of line ≡ Some e → least ≤ after_of e → IsNext least bytes e rest
is_next least bytes line rest e is event late = record { line = line; parts = split_is 10 bytes line rest is; is = sound line e event; late = late }
