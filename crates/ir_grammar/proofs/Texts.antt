-- Each token of a text, and each example that ends one, can be spelled before a line feed.
use Rattle.std.proofs.Common.{◌≡◌, ℕ, ◌+◌, true, false, List, [], ◌∷◌, ◌++◌, length, map, refl, sym, ◌∙◌, ap, subst, inl, inr, arith}
use Rattle.std.proofs.lemmas.Bool.Decides.{nat_tests}
use Rattle.std.specs.Prelude.{codes, ℤ, IsTrue}
use Rattle.std.specs.List.{list_all, AllPass}
use Rattle.std.specs.Char.{is_ascii_digit, is_ascii_lowercase}
use Rattle.std.proofs.lemmas.List.Elements.{All-head, All-cons, All-nil}
use Rattle.std.proofs.lemmas.List.Sums.{AllPass-from_list_all}
use Rattle.ir_lex.specs.declared.token.Token.{Token}
use Rattle.ir_lex.specs.declared.token.TokenKind.{TokenKind}
use Rattle.ir_lex.specs.declared.token.TokenKind.TheVariants as kind
use Rattle.ir_lex.specs.Tokens.{is_run_byte, is_separator, is_text_byte, is_mark, starts, begins, IsRun, HasNoRun, AreDigits, SpellsNumber, SpellsName, Spells, Piece, separator, comment, token, row_bytes, IsRow, tokens_from, Scans}
use Rattle.ir_grammar.specs.Tokens.{Sort, word, mark, label, cstr, str, count, number, local, global, debug_global, meta, meta_number, hash, debug_hash, example, is_spellable, is_plain_word, is_word_byte, kinds}
use Rattle.ir_grammar.specs.Grammar.{Grammar, Viable, Derives}
use Rattle.ir_grammar.specs.Texts.{BeginsText}
use Rattle.ir_grammar.proofs.Sets.{and_left, and_right}

-- a run ends before a line feed
run_before : (run rest other : List ℕ) → IsRun run rest → IsRun run (10 ∷ other)
unfolding is_run_byte
run_before run rest other k = record { filled = k.filled; bytes = k.bytes; longest = refl; no_string = λ e. refl }

-- a run ends before a colon
run_colon : (run rest other : List ℕ) → IsRun run (58 ∷ rest) → IsRun run (58 ∷ other)
run_colon run rest other k = record { filled = k.filled; bytes = k.bytes; longest = k.longest; no_string = λ e. refl }

-- no run begins with a line feed
no_run : (other : List ℕ) → HasNoRun (10 ∷ other)
unfolding is_run_byte
no_run other [] rest e k = absurd (let f = k.filled in omega arith)
no_run other (b ∷ run) rest e k =
    let passes : is_run_byte b ≡ true = All-head (λ x. is_run_byte x ≡ true) b run k.bytes in
    let same : b ≡ 10 = cc in
    let q : false ≡ true = subst (λ x. is_run_byte x ≡ true) same passes in
    absurd (cc)

-- a name ends before a line feed
name_before : (sigil : ℕ) (name bytes rest other : List ℕ) → SpellsName sigil name bytes rest → SpellsName sigil name bytes (10 ∷ other)
name_before sigil name bytes rest other (inl (e, run, may)) = inl (e, run_before name rest other run, may)
name_before sigil name bytes rest other (inr q) = inr q

-- what spells a token before any rest spells it before a line feed
pub respell : (t : TokenKind) (bytes rest other : List ℕ) → Spells t bytes rest → Spells t bytes (10 ∷ other)
respell (kind.Label name) bytes rest other (text, cut, inl (same, run)) = (text, cut, inl (same, run_colon name rest (10 ∷ other) run))
respell (kind.Label name) bytes rest other (text, cut, inr q) = (text, cut, inr q)
respell (kind.CStr s) bytes rest other d = d
respell (kind.Int n) bytes rest other (run, colon, d) = (run_before bytes rest other run, refl, d)
respell (kind.Word w) bytes rest other (same, run, colon, none) = (same, run_before w rest other run, refl, none)
respell (kind.Global name) bytes rest other d = name_before 64 name bytes rest other d
respell (kind.Local name) bytes rest other d = name_before 37 name bytes rest other d
respell (kind.Meta text) bytes rest other (e, inl run) = (e, inl (run_before text rest other run))
respell (kind.Meta text) bytes rest other (e, inr (none, free)) = (e, inr (none, no_run other))
respell (kind.Hash text) bytes rest other (e, run) = (e, run_before text rest other run)
respell (kind.Str s) bytes rest other (e, passes, free) = (e, passes, λ name q. refl)
respell (kind.Mark m) bytes rest other d = d

-- tokens that bytes spell, each before some rest
pub record IsSpelled (t : TokenKind) : Type 0 where
  pub bytes : List ℕ
  pub rest : List ℕ
  pub spells : Spells t bytes rest

-- each of some tokens is spelled
abbrev pub AreSpelled : List TokenKind → Type 0
AreSpelled [] = Unit {0}
AreSpelled (t ∷ ts) = IsSpelled t × AreSpelled ts

-- two rows of such tokens are one
spelled-append : (ts us : List TokenKind) → AreSpelled ts → AreSpelled us → AreSpelled (ts ++ us)
spelled-append [] us a b = b
spelled-append (t ∷ ts) us (s, a) b = (s, spelled-append ts us a b)

-- the front of such tokens is spelled too
spelled_left : (ts us : List TokenKind) → AreSpelled (ts ++ us) → AreSpelled ts
spelled_left [] us a = tt
spelled_left (t ∷ ts) us (s, a) = (s, spelled_left ts us a)

-- a text's tokens are spelled
row_spelled : (place : ℕ) (pieces : List Piece) → IsRow pieces [] → AreSpelled (kinds (tokens_from place pieces))
row_spelled place [] k = tt
row_spelled place (separator b ∷ ps) (p, k) = row_spelled (place + 1) ps k
row_spelled place (comment bytes ∷ ps) (p, k) = row_spelled (place + (length bytes + 1)) ps k
row_spelled place (token t bytes ∷ ps) (p, k) =
    (record { bytes = bytes; rest = row_bytes ps ++ []; spells = p }, row_spelled (place + length bytes) ps k)

-- the pieces that spell tokens, with a line feed behind each
abbrev pub respelled : (ts : List TokenKind) → AreSpelled ts → List Piece
respelled [] a = []
respelled (t ∷ ts) (s, a) = token t s.bytes ∷ separator 10 ∷ respelled ts a

-- these pieces are a text's
respelled_row : (ts : List TokenKind) (a : AreSpelled ts) → IsRow (respelled ts a) []
unfolding is_separator
respelled_row [] a = tt
respelled_row (t ∷ ts) (s, a) = (respell t s.bytes s.rest (row_bytes (respelled ts a) ++ []) s.spells, (refl, respelled_row ts a))

-- their tokens are the ones that were spelled
respelled_kinds : (place : ℕ) (ts : List TokenKind) (a : AreSpelled ts) → kinds (tokens_from place (respelled ts a)) ≡ ts
respelled_kinds place [] a = refl
respelled_kinds place (t ∷ ts) (s, a) = ap (λ us. t ∷ us) (respelled_kinds (place + length s.bytes + 1) ts a)

-- bytes of words are bytes of runs
word_byte_run : (b : ℕ) → is_word_byte b ≡ true → is_run_byte b ≡ true
unfolding is_run_byte
word_byte_run b e = grind (arith, nat_tests)

-- so are small letters
small_run : (b : ℕ) → is_ascii_lowercase b ≡ true → is_run_byte b ≡ true
unfolding is_run_byte
small_run b e = grind (arith, nat_tests)

-- a small letter is no digit
small_digit : (b : ℕ) → is_ascii_lowercase b ≡ true → is_ascii_digit b ≡ true → ⊥
small_digit b e f = grind (arith, nat_tests)

-- and rows of them
word_bytes_run : (bs : List ℕ) → list_all is_word_byte bs ≡ true → AllPass is_run_byte bs
word_bytes_run [] e = All-nil (λ x. is_run_byte x ≡ true)
word_bytes_run (b ∷ bs) e =
    All-cons (λ x. is_run_byte x ≡ true) b bs (word_byte_run b (and_left (is_word_byte b) (list_all is_word_byte bs) e))
    (word_bytes_run bs (and_right (is_word_byte b) (list_all is_word_byte bs) e))

-- a word is a run
plain_run : (w : List ℕ) → is_plain_word w ≡ true → IsRun w (10 ∷ [])
unfolding is_run_byte
plain_run [] e = absurd (let q : false ≡ true = e in cc)
plain_run (b ∷ bs) e = record {
  filled = omega arith;
  bytes = All-cons (λ x. is_run_byte x ≡ true) b bs (small_run b (and_left (is_ascii_lowercase b) (list_all is_word_byte bs) e))
      (word_bytes_run bs (and_right (is_ascii_lowercase b) (list_all is_word_byte bs) e));
  longest = refl;
  no_string = λ q. refl;
}

-- a word is no number
no_number : (w : List ℕ) → is_plain_word w ≡ true → (n : ℤ) → ¬ (SpellsNumber n w)
no_number [] e n d = absurd (let q : false ≡ true = e in cc)
no_number (b ∷ bs) e n (digits, are, inl (same, v)) =
    let first : is_ascii_digit b ≡ true = All-head (λ x. is_ascii_digit x ≡ true) b bs (subst (AllPass is_ascii_digit) (sym same) are.bytes) in
    small_digit b (and_left (is_ascii_lowercase b) (list_all is_word_byte bs) e) first
no_number (b ∷ bs) e n (digits, are, inr (same, v)) =
    let minus : b ≡ 45 = cc in
    let small : is_ascii_lowercase 45 ≡ true = subst (λ x. is_ascii_lowercase x ≡ true) minus (and_left (is_ascii_lowercase b) (list_all is_word_byte bs) e) in
    absurd (cc)

-- a run before bytes that are none of a run, and no quote
run_of : (b : ℕ) (bs rest : List ℕ) → list_all is_run_byte (b ∷ bs) ≡ true → begins is_run_byte rest ≡ false → starts 34 rest ≡ false → IsRun (b ∷ bs) rest
run_of b bs rest e stop quote =
    record { filled = omega arith; bytes = AllPass-from_list_all is_run_byte (b ∷ bs) e; longest = stop; no_string = λ q. quote }

-- one digit
one_digit : (d : ℕ) → is_ascii_digit d ≡ true → AreDigits (d ∷ [])
one_digit d e = record { filled = omega arith; few = omega arith; bytes = All-cons (λ x. is_ascii_digit x ≡ true) d [] e (All-nil (λ x. is_ascii_digit x ≡ true)) }

-- a mark that can be spelled is punctuation
mark_is : (m : ℕ) → is_spellable (mark m) ≡ true → IsTrue (is_mark m)
unfolding is_mark
mark_is m e = e

-- examples of sorts that can be spelled
example_spelled : (s : Sort) → is_spellable s ≡ true → IsSpelled (example s)
unfolding is_run_byte
example_spelled (word w) e = record { bytes = w; rest = 10 ∷ []; spells = (refl, plain_run w e, refl, no_number w e) }
example_spelled (mark m) e = record { bytes = m ∷ []; rest = 10 ∷ []; spells = (refl, mark_is m e) }
example_spelled label e = record { bytes = codes "a:"; rest = 10 ∷ []; spells = (codes "a", refl, inl (refl, run_of 97 [] (58 ∷ 10 ∷ []) refl refl refl)) }
example_spelled cstr e = record { bytes = 99 ∷ 34 ∷ 34 ∷ []; rest = 10 ∷ []; spells = ([], refl, refl) }
example_spelled str e = record { bytes = 34 ∷ 34 ∷ []; rest = 10 ∷ []; spells = (refl, All-nil (λ x. is_text_byte x ≡ true), λ name q. refl) }
example_spelled count e = record { bytes = codes "0"; rest = 10 ∷ []; spells = (run_of 48 [] (10 ∷ []) refl refl refl, refl, (codes "0", one_digit 48 refl, inl (refl, refl))) }
example_spelled number e = record { bytes = codes "-1"; rest = 10 ∷ []; spells = (run_of 45 (49 ∷ []) (10 ∷ []) refl refl refl, refl, (codes "1", one_digit 49 refl, inr (refl, refl))) }
example_spelled local e = record { bytes = codes "%a"; rest = 10 ∷ []; spells = inl (refl, run_of 97 [] (10 ∷ []) refl refl refl, inr refl) }
example_spelled global e = record { bytes = codes "@a"; rest = 10 ∷ []; spells = inl (refl, run_of 97 [] (10 ∷ []) refl refl refl, inr refl) }
example_spelled debug_global e = record { bytes = codes "@llvm.dbg.a"; rest = 10 ∷ []; spells = inl (refl, run_of 108 (codes "lvm.dbg.a") (10 ∷ []) refl refl refl, inr refl) }
example_spelled meta e = record { bytes = codes "!"; rest = 10 ∷ []; spells = (refl, inr (refl, no_run [])) }
example_spelled meta_number e = record { bytes = codes "!0"; rest = 10 ∷ []; spells = (refl, inl (run_of 48 [] (10 ∷ []) refl refl refl)) }
example_spelled hash e = record { bytes = codes "#0"; rest = 10 ∷ []; spells = (refl, run_of 48 [] (10 ∷ []) refl refl refl) }
example_spelled debug_hash e = record { bytes = codes "#dbg_a"; rest = 10 ∷ []; spells = (refl, plain_run (codes "dbg_a") refl) }

-- rows of such examples
examples_spelled : (ss : List Sort) → list_all is_spellable ss ≡ true → AreSpelled (map example ss)
examples_spelled [] e = tt
examples_spelled (s ∷ ss) e =
    (example_spelled s (and_left (is_spellable s) (list_all is_spellable ss) e), examples_spelled ss (and_right (is_spellable s) (list_all is_spellable ss) e))

-- tokens that are spelled are a text's
spelled_text : {A : Type 0} (g : Grammar A) (v : A) (ts more : List TokenKind) → AreSpelled (ts ++ more) → Derives g v (ts ++ more) → BeginsText g ts
spelled_text g v ts more a d =
    let same = respelled_kinds 0 (ts ++ more) a in
    record {
      text = row_bytes (respelled (ts ++ more) a);
      tokens = tokens_from 0 (respelled (ts ++ more) a);
      behind = more;
      value = v;
      scans = (respelled (ts ++ more) a, refl, respelled_row (ts ++ more) a, refl);
      begins = same;
      derives = subst (Derives g v) (sym same) d;
    }

-- tokens that a text of the grammar may begin with, where they stand in some text of tokens, begin a text of the grammar
pub viable_text : {A : Type 0} (g : Grammar A) (text : List ℕ) (tokens : List Token) (front rest : List TokenKind) → Scans text tokens → kinds tokens ≡ front ++ rest → Viable g front
    → BeginsText g front
viable_text g text tokens front rest (pieces, whole, row, are) cut v =
    let spelled : AreSpelled (front ++ rest) = subst AreSpelled (sym (ap kinds are) ∙ cut) (row_spelled 0 pieces row) in
    spelled_text g v.value front (map example v.more) (spelled-append front (map example v.more) (spelled_left front rest spelled) (examples_spelled v.more v.spelled)) v.derives
