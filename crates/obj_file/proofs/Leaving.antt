-- Bytes that leave the set of a part's texts leave that of the whole there too.
use Rattle.std.proofs.Common.{◌≡◌, ℕ, ◌+◌, ◌<◌, ◌^◌, List, [], ◌∷◌, ◌++◌, length, drop, refl, sym, ◌∙◌, ap, subst, arith, append_assoc, length-append, ◌⊎◌, inl, inr}
use Rattle.obj_core.specs.Object.{field}
use Rattle.obj_file.specs.declared.fault.FormFault.{FormFault}
use Rattle.obj_file.specs.declared.format.Format.{Format}
use Rattle.obj_file.specs.Texts.{IsNumber, number_of, IsFormat, FormatThen, FieldThen, Then, Spans, NoneBegins, Leaves, Fault}
use Rattle.obj_file.proofs.Good.{cons_tail, cons_head, Good, field_unique, IsLimit, good_number, format_small, format_told, good_number_of}

-- how two beginnings of one list lie
pub record Longer (short long : List ℕ) (after : List ℕ) : Type 0 where
  pub next : ℕ
  pub more : List ℕ
  pub begins : long ≡ short ++ next ∷ more
  pub rest : List ℕ
  pub ends : after ≡ next ∷ (more ++ rest)

-- the second beginning is within the first
pub record Shorter (long short : List ℕ) : Type 0 where
  pub more : List ℕ
  pub begins : long ≡ short ++ more

-- one of two beginnings is within the other
pub two_ways : (a x b y : List ℕ) → a ++ x ≡ b ++ y → Shorter a b ⊎ Longer a b x
two_ways [] x [] y e = inl (record { more = []; begins = refl })
two_ways [] x (b ∷ bs) y e = inr (record { next = b; more = bs; begins = refl; rest = y; ends = e })
two_ways (a ∷ ds) x [] y e = inl (record { more = a ∷ ds; begins = refl })
two_ways (a ∷ ds) x (b ∷ bs) y e =
    let head = cons_head a b (ds ++ x) (bs ++ y) e in
    elim (two_ways ds x bs y (cons_tail a b (ds ++ x) (bs ++ y) e)) [
      | inl s ↦ inl (record { more = s.more; begins = ap (λ c. c ∷ ds) head ∙ ap (λ cs. b ∷ cs) s.begins })
      | inr l ↦ inr (record { next = l.next; more = l.more; begins = ap (λ c. c ∷ bs) (sym head) ∙ ap (λ cs. a ∷ cs) l.begins; rest = l.rest; ends = l.ends })
    ]

-- a text of the whole begins with a text of the part
pub record Led (L : List ℕ → Type 0) (t : List ℕ) : Type 0 where
  pub first : List ℕ
  pub rest : List ℕ
  pub text : t ≡ first ++ rest
  pub begins : L first

-- each text of the part begins a text of the whole
pub record Closed (M : List ℕ → Type 0) (s : List ℕ) : Type 0 where
  pub rest : List ℕ
  pub whole : M (s ++ rest)

-- a list with an item is not empty
not_nil : (x : List ℕ) (n : ℕ) (more : List ℕ) → [] ≡ x ++ n ∷ more → ⊥
not_nil [] n more e = cc
not_nil (a ∷ x) n more e = cc

-- no text of the whole goes on as no text of the part does
none_part : (L M : List ℕ → Type 0) (front : List ℕ) (next : ℕ) (more others : List ℕ) → Good L → L (front ++ next ∷ more) → ((t : List ℕ) → M t → Led L t) → NoneBegins L front others → NoneBegins M front others
none_part L M front next more [] g h leads w = tt
none_part L M front next more (b ∷ bs) g h leads w =
    λ rest m.
    let led = leads (front ++ b ∷ rest) m in
    elim (two_ways front (b ∷ rest) led.first led.rest led.text) [
      | inl s ↦
          let e : led.first ++ (s.more ++ next ∷ more) ≡ front ++ next ∷ more = sym (append_assoc led.first s.more (next ∷ more)) ∙ ap (λ z. z ++ next ∷ more) (sym s.begins) in
          let both = g.unique led.first (front ++ next ∷ more) (s.more ++ next ∷ more) [] led.begins h (e ∙ sym (nil_right (front ++ next ∷ more))) in
          not_nil s.more next more (sym both.1)
      | inr l ↦
          let same : l.next ≡ b = sym (cons_head b l.next rest (l.more ++ l.rest) l.ends) in
          w l.more (subst L (l.begins ∙ ap (λ c. front ++ c ∷ l.more) same) led.begins)
    ]
  where
    nil_right : (x : List ℕ) → x ++ [] ≡ x
    nil_right [] = refl
    nil_right (a ∷ x) = ap (λ z. a ∷ z) (nil_right x)

-- out of the first part of a whole
pub leaves_part : (L M : List ℕ → Type 0) (bytes : List ℕ) (n : ℕ) → Good L → ((s : List ℕ) → L s → Closed M s) → ((t : List ℕ) → M t → Led L t) → Leaves L bytes n → Leaves M bytes n
leaves_part L M bytes n g closes leads v =
    let c = closes (v.front ++ v.next ∷ v.more) v.goes_on in
    record {
      front = v.front;
      others = v.others;
      split = v.split;
      size = v.size;
      next = v.next;
      more = v.more ++ c.rest;
      goes_on = subst M (append_assoc v.front (v.next ∷ v.more) c.rest) c.whole;
      wrong = none_part L M v.front v.next v.more v.others g v.goes_on leads v.wrong;
    }

-- the same behind a part that was read
none_past : (N M : List ℕ → Type 0) (s front others : List ℕ) → ((t : List ℕ) → M (s ++ t) → N t) → NoneBegins N front others → NoneBegins M (s ++ front) others
none_past N M s front [] leads w = tt
none_past N M s front (b ∷ bs) leads w = λ rest m. w rest (leads (front ++ b ∷ rest) (subst M (append_assoc s front (b ∷ rest)) m))

-- out of what follows a part that was read
pub leaves_past : (N M : List ℕ → Type 0) (s bytes : List ℕ) (n : ℕ) → ((t : List ℕ) → N t → M (s ++ t)) → ((t : List ℕ) → M (s ++ t) → N t) → Leaves N bytes n → Leaves M (s ++ bytes) (length s + n)
leaves_past N M s bytes n closes leads v = record {
  front = s ++ v.front;
  others = v.others;
  split = ap (λ z. s ++ z) v.split ∙ sym (append_assoc s v.front v.others);
  size = ap (λ k. length s + k) v.size ∙ sym (length-append s v.front);
  next = v.next;
  more = v.more;
  goes_on = subst M (sym (append_assoc s v.front (v.next ∷ v.more))) (closes (v.front ++ v.next ∷ v.more) v.goes_on);
  wrong = none_past N M s v.front v.others leads v.wrong;
}

-- a fault in the first part is one of the whole
pub fault_part : (L M : List ℕ → Type 0) (bytes : List ℕ) (at : ℕ) (e : FormFault) → Good L → ((s : List ℕ) → L s → Closed M s) → ((t : List ℕ) → M t → Led L t) → Fault L bytes at e → Fault M bytes at e
fault_part L M bytes at e g closes leads f = record {
  left = λ place is.
      let v = f.left place is in
      record { inside = v.inside; is = v.is; leaves = leaves_part L M (drop at bytes) v.inside g closes leads v.leaves };
}

-- a fault behind a part that was read is one of the whole
pub fault_past : (N M : List ℕ → Type 0) (bytes : List ℕ) (at to : ℕ) (s : List ℕ) (e : FormFault) → Spans bytes at to s → ((t : List ℕ) → N t → M (s ++ t)) → ((t : List ℕ) → M (s ++ t) → N t) → Fault N bytes to e → Fault M bytes at e
fault_past N M bytes at to s e p closes leads f = record {
  left = λ place is.
      let v = f.left place is in
      let inside : place ≡ at + (length s + v.inside) = let a = v.is in let b = p.size in omega arith in
      let whole = leaves_past N M s (drop to bytes) v.inside closes leads v.leaves in
      let there : Leaves M (drop at bytes) (length s + v.inside) = subst (λ z. Leaves M z (length s + v.inside)) (sym p.text) whole in
      record { inside = length s + v.inside; is = inside; leaves = there };
}

-- the first part of two
pub fault_first : (L M : List ℕ → Type 0) (bytes : List ℕ) (at : ℕ) (e : FormFault) → Good L → Good M → Fault L bytes at e → Fault (Then L M) bytes at e
fault_first L M bytes at e l m f =
    fault_part L (Then L M) bytes at e l
    (λ s h. record { rest = m.some; whole = record { first = s; second = m.some; text = refl; begins = h; ends = m.holds } })
    (λ t h. record { first = h.first; rest = h.second; text = h.text; begins = h.begins })
    f

-- the second part of two
pub fault_second : (L M : List ℕ → Type 0) (bytes : List ℕ) (at to : ℕ) (s : List ℕ) (e : FormFault) → Good L → L s → Spans bytes at to s → Fault M bytes to e → Fault (Then L M) bytes at e
fault_second L M bytes at to s e l h p f =
    fault_past M (Then L M) bytes at to s e p
    (λ t k. record { first = s; second = t; text = refl; begins = h; ends = k })
    (λ t k. subst M (sym (l.unique s k.first t k.second h k.begins k.text).1) k.ends)
    f

-- the field in front
pub fault_number : (limit : ℕ) (L : ℕ → List ℕ → Type 0) (bytes : List ℕ) (at : ℕ) (e : FormFault) → IsLimit limit → ((n : ℕ) → Good (L n)) → Fault (IsNumber limit) bytes at e → Fault (FieldThen limit L) bytes at e
fault_number limit L bytes at e l good f =
    fault_part (IsNumber limit) (FieldThen limit L) bytes at e (good_number limit l)
    (λ s h. record { rest = (good h.number).some; whole = record { number = h.number; below = h.below; rest = (good h.number).some; text = ap (λ z. z ++ (good h.number).some) h.text; ends = (good h.number).holds } })
    (λ t h. record { first = field h.number; rest = h.rest; text = h.text; begins = record { number = h.number; below = h.below; text = refl } })
    f

-- what follows a field
pub fault_after : (limit : ℕ) (L : ℕ → List ℕ → Type 0) (bytes : List ℕ) (at to n : ℕ) (e : FormFault) → IsLimit limit → n < limit → Spans bytes at to (field n) → Fault (L n) bytes to e → Fault (FieldThen limit L) bytes at e
fault_after limit L bytes at to n e l h p f =
    fault_past (L n) (FieldThen limit L) bytes at to (field n) e p
    (λ t k. record { number = n; below = h; rest = t; text = refl; ends = k })
    (λ t k.
    let small : n < 2 ^ 32 = let b = l.fits in omega arith in
    let small2 : k.number < 2 ^ 32 = let a = k.below in let b = l.fits in omega arith in
    let both = field_unique n k.number t k.rest small small2 k.text in
    subst (λ z. L n z) (sym both.1) (subst (λ m. L m k.rest) (sym both.0) k.ends))
    f

-- the number of a format in front
pub fault_format : (L : Format → List ℕ → Type 0) (bytes : List ℕ) (at : ℕ) (e : FormFault) → ((f : Format) → Good (L f)) → Fault IsFormat bytes at e → Fault (FormatThen L) bytes at e
fault_format L bytes at e good f =
    fault_part IsFormat (FormatThen L) bytes at e good_number_of
    (λ s h. record { rest = (good h.format).some; whole = record { format = h.format; rest = (good h.format).some; text = ap (λ z. z ++ (good h.format).some) h.text; ends = (good h.format).holds } })
    (λ t h. record { first = field (number_of h.format); rest = h.rest; text = h.text; begins = record { format = h.format; text = refl } })
    f

-- what follows it
pub fault_after_format : (L : Format → List ℕ → Type 0) (bytes : List ℕ) (at to : ℕ) (format : Format) (e : FormFault) → Spans bytes at to (field (number_of format)) → Fault (L format) bytes to e → Fault (FormatThen L) bytes at e
fault_after_format L bytes at to format e p f =
    fault_past (L format) (FormatThen L) bytes at to (field (number_of format)) e p
    (λ t k. record { format = format; rest = t; text = refl; ends = k })
    (λ t k.
    let both = field_unique (number_of format) (number_of k.format) t k.rest (format_small format) (format_small k.format) k.text in
    subst (λ z. L format z) (sym both.1) (subst (λ m. L m k.rest) (sym (format_told format k.format both.0)) k.ends))
    f
