-- In each set of texts no text begins another, and there is one at least.
use Rattle.std.proofs.Common.{◌≡◌, ℕ, zero, suc, ◌<◌, ◌≤◌, ◌^◌, List, [], ◌∷◌, ◌++◌, length, refl, sym, ◌∙◌, ap, subst, arith, append_assoc, replicate}
use Rattle.std.proofs.lemmas.List.{length-replicate}
use Rattle.rd_num.specs.Number.{le_number}
use Rattle.x86_core.proofs.Parts.{number_back4}
use Rattle.obj_core.specs.Object.{Each, IsByte, field}
use Rattle.obj_file.specs.declared.format.Format.{Format}
use Rattle.obj_file.specs.Texts.{IsText, IsRaw, IsNumber, number_of, IsFormat, FormatThen, FieldThen, Then, Times}

-- no text of the set begins another, and it has a text
pub record Good (L : List ℕ → Type 0) : Type 0 where
  pub unique : (s t x y : List ℕ) → L s → L t → s ++ x ≡ t ++ y → (s ≡ t) × (x ≡ y)
  pub some : List ℕ
  pub holds : L some

-- equal lists have equal tails
pub cons_tail : (a b : ℕ) (x y : List ℕ) → a ∷ x ≡ b ∷ y → x ≡ y
cons_tail a b x y e = cc

-- equal lists have equal heads
pub cons_head : (a b : ℕ) (x y : List ℕ) → a ∷ x ≡ b ∷ y → a ≡ b
cons_head a b x y e = cc

-- two lists with beginnings of one length
pub same_split : (a b x y : List ℕ) → length a ≡ length b → a ++ x ≡ b ++ y → (a ≡ b) × (x ≡ y)
same_split [] [] x y h e = (refl, e)
same_split [] (b ∷ bs) x y h e = absurd (omega arith)
same_split (a ∷ ds) [] x y h e = absurd (omega arith)
same_split (a ∷ ds) (b ∷ bs) x y h e =
    let rest = same_split ds bs x y (omega arith) (cons_tail a b (ds ++ x) (bs ++ y) e) in
    let first = cons_head a b (ds ++ x) (bs ++ y) e in
    (ap (λ c. c ∷ ds) first ∙ ap (λ cs. b ∷ cs) rest.0, rest.1)

-- one text alone
pub good_text : (c : List ℕ) → Good (IsText c)
good_text c = record {
  unique = λ s t x y h k e. let q : s ≡ t = h.same ∙ sym k.same in (q, (same_split s t x y (ap length q) e).1);
  some = c;
  holds = record { same = refl };
}

-- a repeated item
pub each_replicate : {T : Type 0} (P : T → Type 0) (n : ℕ) (x : T) → P x → Each P (replicate n x)
each_replicate P zero x h = tt
each_replicate P (suc n) x h = (h, each_replicate P n x h)

-- zeros are bytes
pub zeros_raw : (n : ℕ) → IsRaw n (replicate n 0)
zeros_raw n = record { bytes = each_replicate IsByte n 0 (omega arith); size = length-replicate n 0 }

-- rows of bytes of one length
pub good_raw : (n : ℕ) → Good (IsRaw n)
good_raw n = record {
  unique = λ s t x y h k e. same_split s t x y (h.size ∙ sym k.size) e;
  some = replicate n 0;
  holds = zeros_raw n;
}

-- a field tells its number
pub field_unique : (n m : ℕ) (x y : List ℕ) → n < 2 ^ 32 → m < 2 ^ 32 → field n ++ x ≡ field m ++ y → (n ≡ m) × (x ≡ y)
field_unique n m x y h k e =
    let both = same_split (field n) (field m) x y refl e in
    (sym (number_back4 n h) ∙ ap le_number both.0 ∙ number_back4 m k, both.1)

-- the limits of fields: not 0, and no more than a field can hold
pub record IsLimit (limit : ℕ) : Type 0 where
  pub some : 0 < limit
  pub fits : limit ≤ 2 ^ 32

-- fields below a limit
pub good_number : (limit : ℕ) → IsLimit limit → Good (IsNumber limit)
good_number limit l = record {
  unique = λ s t x y h k e. unique s t x y h k e;
  some = field 0;
  holds = record { number = 0; below = l.some; text = refl };
}
  where
    unique : (s t x y : List ℕ) → IsNumber limit s → IsNumber limit t → s ++ x ≡ t ++ y → (s ≡ t) × (x ≡ y)
    unique s t x y h k e =
        let small : h.number < 2 ^ 32 = let a = h.below in let b = l.fits in omega arith in
        let small2 : k.number < 2 ^ 32 = let a = k.below in let b = l.fits in omega arith in
        let both = field_unique h.number k.number x y small small2 (ap (λ z. z ++ x) (sym h.text) ∙ e ∙ ap (λ z. z ++ y) k.text) in
        (h.text ∙ ap field both.0 ∙ sym k.text, both.1)

-- a field and what its number names
pub good_field : (limit : ℕ) (L : ℕ → List ℕ → Type 0) → IsLimit limit → ((n : ℕ) → Good (L n)) → Good (FieldThen limit L)
good_field limit L l good = record {
  unique = λ s t x y h k e. unique s t x y h k e;
  some = field 0 ++ (good 0).some;
  holds = record { number = 0; below = l.some; rest = (good 0).some; text = refl; ends = (good 0).holds };
}
  where
    unique : (s t x y : List ℕ) → FieldThen limit L s → FieldThen limit L t → s ++ x ≡ t ++ y → (s ≡ t) × (x ≡ y)
    unique s t x y h k e =
        let small : h.number < 2 ^ 32 = let a = h.below in let b = l.fits in omega arith in
        let small2 : k.number < 2 ^ 32 = let a = k.below in let b = l.fits in omega arith in
        let e2 : field h.number ++ (h.rest ++ x) ≡ field k.number ++ (k.rest ++ y) =
        ap (λ z. z ++ x) (sym h.text) ∙ e ∙ ap (λ z. z ++ y) k.text in
        let both = field_unique h.number k.number (h.rest ++ x) (k.rest ++ y) small small2 e2 in
        let there : L k.number h.rest = subst (λ n. L n h.rest) both.0 h.ends in
        let rests = (good k.number).unique h.rest k.rest x y there k.ends both.1 in
        (h.text ∙ ap (λ n. field n ++ h.rest) both.0 ∙ ap (λ r. field k.number ++ r) rests.0 ∙ sym k.text, rests.1)

-- numbers of formats fit a field
pub format_small : (f : Format) → number_of f < 2 ^ 32
format_small Format.One = omega arith
format_small Format.Two = omega arith

-- and tell the format
pub format_told : (f g : Format) → number_of f ≡ number_of g → f ≡ g
format_told Format.One Format.One e = refl
format_told Format.One Format.Two e = absurd (omega (arith, e))
format_told Format.Two Format.One e = absurd (omega (arith, e))
format_told Format.Two Format.Two e = refl

-- fields with the number of a format
pub good_number_of : Good IsFormat
good_number_of = record {
  unique = λ s t x y h k e. unique s t x y h k e;
  some = field 1;
  holds = record { format = Format.One; text = refl };
}
  where
    unique : (s t x y : List ℕ) → IsFormat s → IsFormat t → s ++ x ≡ t ++ y → (s ≡ t) × (x ≡ y)
    unique s t x y h k e =
        let both = field_unique (number_of h.format) (number_of k.format) x y (format_small h.format) (format_small k.format) (ap (λ z. z ++ x) (sym h.text) ∙ e ∙ ap (λ z. z ++ y) k.text) in
        (h.text ∙ ap field both.0 ∙ sym k.text, both.1)

-- the number of a format and what it names
pub good_format : (L : Format → List ℕ → Type 0) → ((f : Format) → Good (L f)) → Good (FormatThen L)
good_format L good = record {
  unique = λ s t x y h k e. unique s t x y h k e;
  some = field 1 ++ (good Format.One).some;
  holds = record { format = Format.One; rest = (good Format.One).some; text = refl; ends = (good Format.One).holds };
}
  where
    unique : (s t x y : List ℕ) → FormatThen L s → FormatThen L t → s ++ x ≡ t ++ y → (s ≡ t) × (x ≡ y)
    unique s t x y h k e =
        let e2 : field (number_of h.format) ++ (h.rest ++ x) ≡ field (number_of k.format) ++ (k.rest ++ y) =
        ap (λ z. z ++ x) (sym h.text) ∙ e ∙ ap (λ z. z ++ y) k.text in
        let both = field_unique (number_of h.format) (number_of k.format) (h.rest ++ x) (k.rest ++ y) (format_small h.format) (format_small k.format) e2 in
        let there : L k.format h.rest = subst (λ f. L f h.rest) (format_told h.format k.format both.0) h.ends in
        let rests = (good k.format).unique h.rest k.rest x y there k.ends both.1 in
        (h.text ∙ ap (λ n. field n ++ h.rest) both.0 ∙ ap (λ r. field (number_of k.format) ++ r) rests.0 ∙ sym k.text, rests.1)

-- texts of one set, and of another
pub good_then : (L M : List ℕ → Type 0) → Good L → Good M → Good (Then L M)
good_then L M l m = record {
  unique = λ s t x y h k e. unique s t x y h k e;
  some = l.some ++ m.some;
  holds = record { first = l.some; second = m.some; text = refl; begins = l.holds; ends = m.holds };
}
  where
    unique : (s t x y : List ℕ) → Then L M s → Then L M t → s ++ x ≡ t ++ y → (s ≡ t) × (x ≡ y)
    unique s t x y h k e =
        let e2 : h.first ++ (h.second ++ x) ≡ k.first ++ (k.second ++ y) =
        sym (append_assoc h.first h.second x) ∙ ap (λ z. z ++ x) (sym h.text) ∙ e ∙ ap (λ z. z ++ y) k.text ∙ append_assoc k.first k.second y in
        let one = l.unique h.first k.first (h.second ++ x) (k.second ++ y) h.begins k.begins e2 in
        let two = m.unique h.second k.second x y h.ends k.ends one.1 in
        (h.text ∙ ap (λ z. z ++ h.second) one.0 ∙ ap (λ z. k.first ++ z) two.0 ∙ sym k.text, two.1)

-- so many texts of a set
pub good_times : (L : List ℕ → Type 0) (n : ℕ) → Good L → Good (Times L n)
good_times L zero l = good_text []
good_times L (suc n) l = good_then L (Times L n) l (good_times L n l)
