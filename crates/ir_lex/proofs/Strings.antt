-- The bytes of a `c` string: what reads them byte by byte tells exactly their spellings.
use Rattle.std.proofs.Common.{◌≡◌, ℕ, suc, ◌+◌, ◌*◌, Bool, true, false, List, [], ◌∷◌, ◌++◌, length, Option, Some, None, eqb, refl, sym, ap, ◌∙◌, subst, inl, inr}
use Rattle.std.specs.Char.{is_ascii_hexdigit, digit_value}
use Rattle.std.proofs.lemmas.Bool.{cond-true, cond-false, eqb-true, eqb-false, ne_eqb}
use Rattle.ir_lex.specs.Tokens.{SpellsByte, SpellsBytes}
use Rattle.ir_lex.specs.First.{string_from, step_of, after, with_byte, with_spelling, hex_of, pair_of}
use Rattle.ir_lex.specs.declared.escape.Escape.{Escape}
use Rattle.ir_lex.specs.declared.escape.Escape.TheVariants.{Plain, Backslash, High}
use Rattle.ir_lex.specs.declared.escape.Step.{Step}
use Rattle.ir_lex.specs.declared.escape.Step.TheVariants.{End, Byte, Within, Stray as Wrong}
use Rattle.ir_lex.proofs.Fronts.{class_excludes}

-- a string's end behind bytes that are known, and how many bytes spell both
abbrev pub onto : List ℕ → ℕ → Option (List ℕ × ℕ) → Option (List ℕ × ℕ)
onto front n None = None
onto front n (Some x) = Some (front ++ x.0, n + x.1)

-- a byte that stands for itself
step-byte : (b : ℕ) → eqb b 34 ≡ false → eqb b 92 ≡ false → step_of Plain b ≡ Byte b
step-byte b q s =
    cond-false (eqb b 34) End _ q ∙ cond-false (eqb b 92) (Within Backslash) (Byte b) s

-- the first digit of an escape
step-high : (h : ℕ) → is_ascii_hexdigit h ≡ true → step_of Backslash h ≡ Within (High h)
step-high h e =
    cond-false (eqb h 92) (Byte h) _ (class_excludes is_ascii_hexdigit 92 h refl e)
    ∙ cond-true (is_ascii_hexdigit h) (Within (High h)) Wrong e

-- its second digit
step-low : (h l : ℕ) → is_ascii_hexdigit h ≡ true → is_ascii_hexdigit l ≡ true → step_of (High h) l ≡ Byte (16 * digit_value h + digit_value l)
step-low h l e f =
    ap (λ o. pair_of o (hex_of l)) (cond-true (is_ascii_hexdigit h) (Some (digit_value h)) None e)
    ∙ ap (λ o. pair_of (Some (digit_value h)) o) (cond-true (is_ascii_hexdigit l) (Some (digit_value l)) None f)

-- a string as one more step and what the rest tells
stepped : (at : Escape) (b : ℕ) (text : List ℕ) (s : Step) → step_of at b ≡ s → string_from at (b ∷ text) ≡ after s (λ next. string_from next text)
stepped at b text s e = ap (λ z. after z (λ next. string_from next text)) e

-- the first byte of a string is told, whichever way it is spelled
first_told : (b : ℕ) (bs first more rest : List ℕ) → SpellsByte b first → string_from Plain (more ++ 34 ∷ rest) ≡ Some (bs, length more)
    → string_from Plain ((first ++ more) ++ 34 ∷ rest) ≡ Some (b ∷ bs, length (first ++ more))
first_told b bs first more rest (inl x) e =
    let told : List ℕ → Type 0 = λ f. string_from Plain ((f ++ more) ++ 34 ∷ rest) ≡ Some (b ∷ bs, length (f ++ more)) in
    subst told (sym x.0) (stepped Plain b (more ++ 34 ∷ rest) (Byte b) (step-byte b (ne_eqb b 34 x.1) (ne_eqb b 92 x.2)) ∙ ap (with_byte b) e)
first_told b bs first more rest (inr (inl x)) e =
    let told : List ℕ → Type 0 = λ f. string_from Plain ((f ++ more) ++ 34 ∷ rest) ≡ Some (b ∷ bs, length (f ++ more)) in
    subst told (sym x.0) (ap (λ o. with_spelling (with_byte 92 o)) e ∙ ap (λ z. Some (z ∷ bs, suc (suc (length more)))) (sym x.1))
first_told b bs first more rest (inr (inr x)) e =
    let told : List ℕ → Type 0 = λ f. string_from Plain ((f ++ more) ++ 34 ∷ rest) ≡ Some (b ∷ bs, length (f ++ more)) in
    let after_it = more ++ 34 ∷ rest in
    let value = 16 * digit_value x.0 + digit_value x.1 in
    subst told (sym x.2)
    (ap with_spelling (stepped Backslash x.0 (x.1 ∷ after_it) (Within (High x.0)) (step-high x.0 x.3))
    ∙ ap (λ o. with_spelling (with_spelling o)) (stepped (High x.0) x.1 after_it (Byte value) (step-low x.0 x.1 x.3 x.4))
    ∙ ap (λ o. with_spelling (with_spelling (with_byte value o))) e
    ∙ ap (λ z. Some (z ∷ bs, suc (suc (suc (length more))))) (sym x.5))

-- what is spelled is told
pub string_from-spelled : (s inner rest : List ℕ) → SpellsBytes s inner → string_from Plain (inner ++ 34 ∷ rest) ≡ Some (s, length inner)
string_from-spelled [] inner rest h = ap (λ z. string_from Plain (z ++ 34 ∷ rest)) h ∙ ap (λ z. Some ([], length z)) (sym h)
string_from-spelled (b ∷ bs) inner rest h =
    ap (λ z. string_from Plain (z ++ 34 ∷ rest)) h.2
    ∙ first_told b bs h.0 h.1 rest h.3 (string_from-spelled bs h.1 rest h.4)
    ∙ ap (λ z. Some (b ∷ bs, length z)) (sym h.2)

-- what spells the bytes where this much of an escape has been read before
abbrev pub SpellsFrom : Escape → List ℕ → List ℕ → Type 0
SpellsFrom Plain s inner = SpellsBytes s inner
SpellsFrom Backslash s inner = SpellsBytes s (92 ∷ inner)
SpellsFrom (High h) s inner = is_ascii_hexdigit h ≡ true → SpellsBytes s (92 ∷ h ∷ inner)

-- a text as a string's spelling, its closing quote, and the rest
pub record StringCut (at : Escape) (text : List ℕ) (told : List ℕ × ℕ) : Type 0 where
  pub inner : List ℕ
  pub rest : List ℕ
  pub whole : text ≡ inner ++ 34 ∷ rest
  pub len : told.1 ≡ length inner
  pub spells : SpellsFrom at told.0 inner

-- a string with a byte more comes from one without it
with_byte_some : (b : ℕ) (o : Option (List ℕ × ℕ)) (x : List ℕ × ℕ) → with_byte b o ≡ Some x → (y : List ℕ × ℕ) × (o ≡ Some y) × ((b ∷ y.0, suc y.1) ≡ x)
with_byte_some b None x e = absurd (cc)
with_byte_some b (Some y) x e = (y, refl, cc)

-- and a longer spelling from a shorter one
with_spelling_some : (o : Option (List ℕ × ℕ)) (x : List ℕ × ℕ) → with_spelling o ≡ Some x → (y : List ℕ × ℕ) × (o ≡ Some y) × ((y.0, suc y.1) ≡ x)
with_spelling_some None x e = absurd (cc)
with_spelling_some (Some y) x e = (y, refl, cc)

-- what a cut of the rest gives
go_on : (at next : Escape) (b : ℕ) (text : List ℕ) (x : List ℕ × ℕ) → with_spelling (string_from next text) ≡ Some x
    → ((y : List ℕ × ℕ) → string_from next text ≡ Some y → StringCut next text y)
    → ((s inner : List ℕ) → SpellsFrom next s inner → SpellsFrom at s (b ∷ inner)) → StringCut at (b ∷ text) x
go_on at next b text x e cut more =
    let w = with_spelling_some (string_from next text) x e in
    let c = cut w.0 w.1 in
    record {
      inner = b ∷ c.inner;
      rest = c.rest;
      whole = ap (λ z. b ∷ z) c.whole;
      len = subst (λ (z : List ℕ × ℕ). z.1 ≡ suc (length c.inner)) w.2 (ap suc c.len);
      spells = subst (λ (z : List ℕ × ℕ). SpellsFrom at z.0 (b ∷ c.inner)) w.2 (more w.0.0 c.inner c.spells);
    }

-- what a cut behind a byte that is complete gives
put_on : (at : Escape) (b byte : ℕ) (text : List ℕ) (x : List ℕ × ℕ) → with_byte byte (string_from Plain text) ≡ Some x
    → ((y : List ℕ × ℕ) → string_from Plain text ≡ Some y → StringCut Plain text y)
    → ((s inner : List ℕ) → SpellsBytes s inner → SpellsFrom at (byte ∷ s) (b ∷ inner)) → StringCut at (b ∷ text) x
put_on at b byte text x e cut more =
    let w = with_byte_some byte (string_from Plain text) x e in
    let c = cut w.0 w.1 in
    record {
      inner = b ∷ c.inner;
      rest = c.rest;
      whole = ap (λ z. b ∷ z) c.whole;
      len = subst (λ (z : List ℕ × ℕ). z.1 ≡ suc (length c.inner)) w.2 (ap suc c.len);
      spells = subst (λ (z : List ℕ × ℕ). SpellsFrom at z.0 (b ∷ c.inner)) w.2 (more w.0.0 c.inner c.spells);
    }

-- one more byte, outside an escape and within one
cut_plain : (b : ℕ) (text : List ℕ) (x : List ℕ × ℕ) → ((at : Escape) (y : List ℕ × ℕ) → string_from at text ≡ Some y → StringCut at text y)
    → (quote slash : Bool) → eqb b 34 ≡ quote → eqb b 92 ≡ slash → string_from Plain (b ∷ text) ≡ Some x → StringCut Plain (b ∷ text) x
cut_plain b text x cut true slash q s e =
    let is_end : step_of Plain b ≡ End = cond-true (eqb b 34) End _ q in
    let told : ([], 0) ≡ x = (let h : Some ([], 0) ≡ Some x = sym (stepped Plain b text End is_end) ∙ e in cc) in
    record {
      inner = [];
      rest = text;
      whole = ap (λ z. z ∷ text) (eqb-true b 34 q);
      len = ap (λ (z : List ℕ × ℕ). z.1) (sym told);
      spells = subst (λ (z : List ℕ × ℕ). SpellsBytes z.0 []) told refl;
    }
cut_plain b text x cut false true q s e =
    let goes : step_of Plain b ≡ Within Backslash = cond-false (eqb b 34) End _ q ∙ cond-true (eqb b 92) (Within Backslash) (Byte b) s in
    go_on Plain Backslash b text x (sym (stepped Plain b text (Within Backslash) goes) ∙ e) (cut Backslash)
    (λ t inner h. subst (λ z. SpellsBytes t (z ∷ inner)) (sym (eqb-true b 92 s)) h)
cut_plain b text x cut false false q s e =
    put_on Plain b b text x (sym (stepped Plain b text (Byte b) (step-byte b q s)) ∙ e) (cut Plain)
    (λ t inner h. (b ∷ [], inner, refl, inl (refl, eqb-false b 34 q, eqb-false b 92 s), h))

-- the byte behind a backslash
cut_backslash : (b : ℕ) (text : List ℕ) (x : List ℕ × ℕ) → ((at : Escape) (y : List ℕ × ℕ) → string_from at text ≡ Some y → StringCut at text y)
    → (slash hex : Bool) → eqb b 92 ≡ slash → is_ascii_hexdigit b ≡ hex → string_from Backslash (b ∷ text) ≡ Some x → StringCut Backslash (b ∷ text) x
cut_backslash b text x cut true hex s d e =
    let puts : step_of Backslash b ≡ Byte b = cond-true (eqb b 92) (Byte b) _ s in
    put_on Backslash b b text x (sym (stepped Backslash b text (Byte b) puts) ∙ e) (cut Plain)
    (λ t inner h. (92 ∷ b ∷ [], inner, refl, inr (inl (ap (λ z. 92 ∷ z ∷ []) (eqb-true b 92 s), eqb-true b 92 s)), h))
cut_backslash b text x cut false true s d e =
    go_on Backslash (High b) b text x (sym (stepped Backslash b text (Within (High b)) (step-high b d)) ∙ e) (cut (High b))
    (λ t inner h. h d)
cut_backslash b text x cut false false s d e =
    let wrong : step_of Backslash b ≡ Wrong = cond-false (eqb b 92) (Byte b) _ s ∙ cond-false (is_ascii_hexdigit b) (Within (High b)) Wrong d in
    let none : None ≡ Some x = sym (stepped Backslash b text Wrong wrong) ∙ e in
    absurd (cc)

-- the second digit of an escape
cut_high : (h b : ℕ) (text : List ℕ) (x : List ℕ × ℕ) → ((at : Escape) (y : List ℕ × ℕ) → string_from at text ≡ Some y → StringCut at text y)
    → (high low : Bool) → is_ascii_hexdigit h ≡ high → is_ascii_hexdigit b ≡ low → string_from (High h) (b ∷ text) ≡ Some x → StringCut (High h) (b ∷ text) x
cut_high h b text x cut true true d f e =
    let value = 16 * digit_value h + digit_value b in
    put_on (High h) b value text x (sym (stepped (High h) b text (Byte value) (step-low h b d f)) ∙ e) (cut Plain)
    (λ t inner sp. λ _. (92 ∷ h ∷ b ∷ [], inner, refl, inr (inr (h, b, refl, d, f, refl)), sp))
cut_high h b text x cut true false d f e =
    let wrong : step_of (High h) b ≡ Wrong =
    ap (λ o. pair_of o (hex_of b)) (cond-true (is_ascii_hexdigit h) (Some (digit_value h)) None d)
    ∙ ap (λ o. pair_of (Some (digit_value h)) o) (cond-false (is_ascii_hexdigit b) (Some (digit_value b)) None f) in
    let none : None ≡ Some x = sym (stepped (High h) b text Wrong wrong) ∙ e in
    absurd (cc)
cut_high h b text x cut false low d f e =
    let wrong : step_of (High h) b ≡ Wrong =
    ap (λ o. pair_of o (hex_of b)) (cond-false (is_ascii_hexdigit h) (Some (digit_value h)) None d) in
    let none : None ≡ Some x = sym (stepped (High h) b text Wrong wrong) ∙ e in
    absurd (cc)

-- what is told is spelled
pub string_cut : (text : List ℕ) (at : Escape) (x : List ℕ × ℕ) → string_from at text ≡ Some x → StringCut at text x
string_cut [] at x e = absurd (cc)
string_cut (b ∷ text) Plain x e = cut_plain b text x (λ at y. string_cut text at y) (eqb b 34) (eqb b 92) refl refl e
string_cut (b ∷ text) Backslash x e = cut_backslash b text x (λ at y. string_cut text at y) (eqb b 92) (is_ascii_hexdigit b) refl refl e
string_cut (b ∷ text) (High h) x e = cut_high h b text x (λ at y. string_cut text at y) (is_ascii_hexdigit h) (is_ascii_hexdigit b) refl refl e
