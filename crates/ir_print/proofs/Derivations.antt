-- Texts that read back, part behind part: a text with the tokens that derive its value.
use Rattle.std.proofs.Common.{◌≡◌, ℕ, Bool, true, false, List, [], ◌∷◌, ◌++◌, refl, sym, subst, inl, inr, arith}
use Rattle.std.proofs.lemmas.Bool.{and_parts}
use Rattle.std.proofs.lemmas.List.{append-nil}
use Rattle.std.proofs.lemmas.List.Sums.{AllPass-from_list_all}
use Rattle.std.specs.List.{list_all}
use Rattle.ir_lex.specs.declared.token.TokenKind.{TokenKind}
use Rattle.ir_lex.specs.declared.token.TokenKind.TheVariants.{Word, Mark}
use Rattle.std.specs.Prelude.{codes, ◌&&◌, ◌==◌, not}
use Rattle.ir_lex.specs.Tokens.{is_run_byte, is_separator, is_mark, token as piece_of}
use Rattle.ir_grammar.specs.Tokens.{mark, word, has}
use Rattle.ir_print.proofs.Scanning.{kinds_in, IsApart, Open, Closed, Parts, nothing, opened, closed_closed, closed_open, open_open, open_closed}
use Rattle.ir_print.proofs.Literals.{fixed, is_fixed, split, begins_word, no_number}
use Rattle.ir_grammar.specs.Grammar.{Grammar, give, both, either, Derives, ◌▸◌, ◌▹◌}
use Rattle.ir_grammar.specs.Parts.{the_word, the_mark, skip}

-- the text is the value's, whatever is apart behind it
pub record Reads {A : Type 0} (g : Grammar A) (v : A) (text : List ℕ) : Type 0 where
  pub ks : List TokenKind
  pub scan : Open text ks
  pub derives : Derives g v ks

-- the same, whatever is behind it
pub record Shut {A : Type 0} (g : Grammar A) (v : A) (text : List ℕ) : Type 0 where
  pub ks : List TokenKind
  pub scan : Closed text ks
  pub derives : Derives g v ks

-- the same, and the text is apart from what is in front of it
pub record Tight {A : Type 0} (g : Grammar A) (v : A) (text : List ℕ) : Type 0 where
  pub shut : Shut g v text
  pub apart : (rest : List ℕ) → IsApart (text ++ rest)

-- it is apart from what is in front of it wherever what is behind it is
pub record Trails {A : Type 0} (g : Grammar A) (v : A) (text : List ℕ) : Type 0 where
  pub reads : Reads g v text
  pub parts : Parts text

-- one part behind another
parted : {A B C : Type 0} (g : Grammar A) (h : Grammar B) (f : A → B → C) (a : A) (b : B) (us vs : List TokenKind) → Derives g a us → Derives h b vs → Derives (both f g h) (f a b) (us ++ vs)
parted g h f a b us vs d e = (a, b, us, vs, refl, d, e, refl)

-- a value without a text
pub given : {A : Type 0} (a : A) → Shut (give a) a []
given a = record { ks = []; scan = nothing; derives = (refl, refl) }

-- what is shut is read
pub loose : {A : Type 0} {g : Grammar A} {v : A} {t : List ℕ} → Shut g v t → Reads g v t
loose {t = t} a = record { ks = a.ks; scan = opened t a.ks a.scan; derives = a.derives }

-- a function, and its argument behind it
pub value_open : {A B : Type 0} {g : Grammar (A → B)} {h : Grammar A} {f : A → B} {a : A} {s t : List ℕ} → Shut g f s → Reads h a t → Reads (g ▸ h) (f a) (s ++ t)
value_open {g = g} {h = h} {f = f} {a = a} {s = s} {t = t} x y =
    record { ks = x.ks ++ y.ks; scan = closed_open s t x.ks y.ks x.scan y.scan; derives = parted g h (λ k b. k b) f a x.ks y.ks x.derives y.derives }

pub value_shut : {A B : Type 0} {g : Grammar (A → B)} {h : Grammar A} {f : A → B} {a : A} {s t : List ℕ} → Shut g f s → Shut h a t → Shut (g ▸ h) (f a) (s ++ t)
value_shut {g = g} {h = h} {f = f} {a = a} {s = s} {t = t} x y =
    record { ks = x.ks ++ y.ks; scan = closed_closed s t x.ks y.ks x.scan y.scan; derives = parted g h (λ k b. k b) f a x.ks y.ks x.derives y.derives }

pub value_tight : {A B : Type 0} {g : Grammar (A → B)} {h : Grammar A} {f : A → B} {a : A} {s t : List ℕ} → Reads g f s → Tight h a t → Shut (g ▸ h) (f a) (s ++ t)
value_tight {g = g} {h = h} {f = f} {a = a} {s = s} {t = t} x y =
    record { ks = x.ks ++ y.shut.ks; scan = open_closed s t x.ks y.shut.ks x.scan y.apart y.shut.scan; derives = parted g h (λ k b. k b) f a x.ks y.shut.ks x.derives y.shut.derives }

pub value_trails : {A B : Type 0} {g : Grammar (A → B)} {h : Grammar A} {f : A → B} {a : A} {s t : List ℕ} → Reads g f s → Trails h a t → Reads (g ▸ h) (f a) (s ++ t)
value_trails {g = g} {h = h} {f = f} {a = a} {s = s} {t = t} x y =
    record { ks = x.ks ++ y.reads.ks; scan = open_open s t x.ks y.reads.ks x.scan y.parts y.reads.scan; derives = parted g h (λ k b. k b) f a x.ks y.reads.ks x.derives y.reads.derives }

-- something, and behind it what has no value
pub word_open : {A B : Type 0} {g : Grammar A} {h : Grammar B} {a : A} {b : B} {s t : List ℕ} → Shut g a s → Reads h b t → Reads (g ▹ h) a (s ++ t)
word_open {g = g} {h = h} {a = a} {b = b} {s = s} {t = t} x y =
    record { ks = x.ks ++ y.ks; scan = closed_open s t x.ks y.ks x.scan y.scan; derives = parted g h (λ k _. k) a b x.ks y.ks x.derives y.derives }

pub word_shut : {A B : Type 0} {g : Grammar A} {h : Grammar B} {a : A} {b : B} {s t : List ℕ} → Shut g a s → Shut h b t → Shut (g ▹ h) a (s ++ t)
word_shut {g = g} {h = h} {a = a} {b = b} {s = s} {t = t} x y =
    record { ks = x.ks ++ y.ks; scan = closed_closed s t x.ks y.ks x.scan y.scan; derives = parted g h (λ k _. k) a b x.ks y.ks x.derives y.derives }

pub word_tight : {A B : Type 0} {g : Grammar A} {h : Grammar B} {a : A} {b : B} {s t : List ℕ} → Reads g a s → Tight h b t → Shut (g ▹ h) a (s ++ t)
word_tight {g = g} {h = h} {a = a} {b = b} {s = s} {t = t} x y =
    record { ks = x.ks ++ y.shut.ks; scan = open_closed s t x.ks y.shut.ks x.scan y.apart y.shut.scan; derives = parted g h (λ k _. k) a b x.ks y.shut.ks x.derives y.shut.derives }

-- something, and nothing behind it
pub none_open : {A B : Type 0} {g : Grammar A} {a : A} {s : List ℕ} (h : Grammar B) (b : B) → Derives h b [] → Reads g a s → Reads (g ▹ h) a s
none_open {a = a} h b e x = record { ks = x.ks; scan = x.scan; derives = (a, b, x.ks, [], sym (append-nil x.ks), x.derives, e, refl) }

pub none_shut : {A B : Type 0} {g : Grammar A} {a : A} {s : List ℕ} (h : Grammar B) (b : B) → Derives h b [] → Shut g a s → Shut (g ▹ h) a s
none_shut {a = a} h b e x = record { ks = x.ks; scan = x.scan; derives = (a, b, x.ks, [], sym (append-nil x.ks), x.derives, e, refl) }

-- none of several
pub skipped_none : {A : Type 0} (g : Grammar A) → Derives (skip g) tt []
skipped_none g = ((λ _. tt), [], [], [], refl, (refl, refl), refl, refl)

pub skip_open : {A B : Type 0} {g : Grammar A} {a : A} {s : List ℕ} (h : Grammar B) → Reads g a s → Reads (g ▹ skip h) a s
skip_open h x = none_open (skip h) tt (skipped_none h) x

pub skip_shut : {A B : Type 0} {g : Grammar A} {a : A} {s : List ℕ} (h : Grammar B) → Shut g a s → Shut (g ▹ skip h) a s
skip_shut h x = none_shut (skip h) tt (skipped_none h) x

-- one of two
pub left_open : {A : Type 0} {g h : Grammar A} {v : A} {t : List ℕ} → Reads g v t → Reads (either g h) v t
left_open x = record { ks = x.ks; scan = x.scan; derives = inl x.derives }

pub right_open : {A : Type 0} {g h : Grammar A} {v : A} {t : List ℕ} → Reads h v t → Reads (either g h) v t
right_open x = record { ks = x.ks; scan = x.scan; derives = inr x.derives }

pub left_shut : {A : Type 0} {g h : Grammar A} {v : A} {t : List ℕ} → Shut g v t → Shut (either g h) v t
left_shut x = record { ks = x.ks; scan = x.scan; derives = inl x.derives }

pub right_shut : {A : Type 0} {g h : Grammar A} {v : A} {t : List ℕ} → Shut h v t → Shut (either g h) v t
right_shut x = record { ks = x.ks; scan = x.scan; derives = inr x.derives }

-- a gap behind a text, and in front of it
pub gap_open : {A : Type 0} {g : Grammar A} {v : A} {s : List ℕ} (t : List ℕ) → is_fixed [] t ≡ true → kinds_in (split [] t) ≡ [] → ((rest : List ℕ) → IsApart (t ++ rest)) → Reads g v s → Shut g v (s ++ t)
gap_open {s = s} t stands none apart x = record {
  ks = x.ks;
  scan = subst (λ k. Closed (s ++ t) k) (append-nil x.ks) (open_closed s t x.ks [] x.scan apart (subst (λ k. Closed t k) none (fixed t stands)));
  derives = x.derives;
}

pub gap_shut : {A : Type 0} {g : Grammar A} {v : A} {s : List ℕ} (t : List ℕ) → is_fixed [] t ≡ true → kinds_in (split [] t) ≡ [] → Shut g v s → Shut g v (s ++ t)
gap_shut {s = s} t stands none x = record {
  ks = x.ks;
  scan = subst (λ k. Closed (s ++ t) k) (append-nil x.ks) (closed_closed s t x.ks [] x.scan (subst (λ k. Closed t k) none (fixed t stands)));
  derives = x.derives;
}

pub gap_before : {A : Type 0} {g : Grammar A} {v : A} {s : List ℕ} (t : List ℕ) → is_fixed [] t ≡ true → kinds_in (split [] t) ≡ [] → Reads g v s → Reads g v (t ++ s)
gap_before {s = s} t stands none x = record { ks = x.ks; scan = closed_open t s [] x.ks (subst (λ k. Closed t k) none (fixed t stands)) x.scan; derives = x.derives }

-- a space, and a line feed
pub spaced : {A : Type 0} {g : Grammar A} {v : A} {s : List ℕ} → Reads g v s → Shut g v (s ++ codes " ")
unfolding is_run_byte is_separator is_mark
spaced x = gap_open (codes " ") refl refl (λ rest. record { run = refl; colon = refl; quote = refl }) x

pub lined : {A : Type 0} {g : Grammar A} {v : A} {s : List ℕ} → Reads g v s → Shut g v (s ++ codes "\n")
unfolding is_run_byte is_separator is_mark
lined x = gap_open (codes "\n") refl refl (λ rest. record { run = refl; colon = refl; quote = refl }) x

pub indented : {A : Type 0} {g : Grammar A} {v : A} {s : List ℕ} → Reads g v s → Reads g v (codes "  " ++ s)
unfolding is_run_byte is_separator is_mark
indented x = gap_before (codes "  ") refl refl x

-- the same text, grouped in another way
pub same_open : {A : Type 0} {g : Grammar A} {v : A} {s t : List ℕ} → s ≡ t → Reads g v s → Reads g v t
same_open {g = g} {v = v} e x = subst (λ u. Reads g v u) e x

pub same_shut : {A : Type 0} {g : Grammar A} {v : A} {s t : List ℕ} → s ≡ t → Shut g v s → Shut g v t
same_shut {g = g} {v = v} e x = subst (λ u. Shut g v u) e x

-- a text of one word or one mark, and of one with a gap
abbrev pub is_word : List ℕ → Bool
is_word [] = false
is_word (b ∷ bs) = list_all is_run_byte (b ∷ bs) && begins_word (b ∷ bs)

word_scanned : (w : List ℕ) → is_word w ≡ true → Open w (Word w ∷ [])
word_scanned [] h rest apart = absurd (let e : false ≡ true = h in cc)
word_scanned (b ∷ bs) h rest apart =
    let parts = and_parts (list_all is_run_byte (b ∷ bs)) (begins_word (b ∷ bs)) h in
    record {
      pieces = piece_of (Word (b ∷ bs)) (b ∷ bs) ∷ [];
      bytes = sym (append-nil (b ∷ bs));
      row = ((refl, record { filled = omega arith; bytes = AllPass-from_list_all is_run_byte (b ∷ bs) parts.0; longest = apart.run; no_string = λ is. apart.quote }, apart.colon, no_number b bs parts.1), tt);
      kinds = refl;
    }

pub read_word : {A : Type 0} {g : Grammar A} {v : A} (w : List ℕ) → is_word w ≡ true → Derives g v (Word w ∷ []) → Reads g v w
read_word w h d = record { ks = Word w ∷ []; scan = word_scanned w h; derives = d }

pub one_shut : {A : Type 0} {g : Grammar A} {v : A} (t : List ℕ) (k : TokenKind) → is_fixed [] t ≡ true → kinds_in (split [] t) ≡ k ∷ [] → Derives g v (k ∷ []) → Shut g v t
one_shut t k stands is d = record { ks = k ∷ []; scan = subst (λ ks. Closed t ks) is (fixed t stands); derives = d }

pub shut_word : (w t : List ℕ) → is_fixed [] t ≡ true → kinds_in (split [] t) ≡ Word w ∷ [] → has (word w ∷ []) (word w) ≡ true → Shut (the_word w) tt t
shut_word w t stands is same = one_shut t (Word w) stands is (Word w, same, refl, refl)

pub shut_mark : (m : ℕ) (t : List ℕ) → is_fixed [] t ≡ true → kinds_in (split [] t) ≡ Mark m ∷ [] → has (mark m ∷ []) (mark m) ≡ true → Shut (the_mark m) tt t
shut_mark m t stands is same = one_shut t (Mark m) stands is (Mark m, same, refl, refl)

-- one that begins apart
abbrev pub begins_apart : List ℕ → Bool
begins_apart [] = false
begins_apart (b ∷ bs) = not (is_run_byte b) && (not (b == 58) && not (b == 34))

is_false : (t : Bool) → not t ≡ true → t ≡ false
is_false true h = absurd (let e : false ≡ true = h in cc)
is_false false h = refl

pub tight : {A : Type 0} {g : Grammar A} {v : A} {t : List ℕ} → begins_apart t ≡ true → Shut g v t → Tight g v t
tight {t = t} h x = record { shut = x; apart = λ rest. stands t rest h }
  where
    stands : (s rest : List ℕ) → begins_apart s ≡ true → IsApart (s ++ rest)
    stands [] rest e = absurd (let f : false ≡ true = e in cc)
    stands (b ∷ bs) rest e =
        let parts = and_parts (not (is_run_byte b)) (not (b == 58) && not (b == 34)) e in
        let marks = and_parts (not (b == 58)) (not (b == 34)) parts.1 in record { run = is_false (is_run_byte b) parts.0; colon = is_false (b == 58) marks.0; quote = is_false (b == 34) marks.1 }

-- a comma
pub comma : Tight (the_mark 44) tt (codes ", ")
unfolding is_run_byte is_separator is_mark
comma = tight refl (shut_mark 44 (codes ", ") refl refl refl)
