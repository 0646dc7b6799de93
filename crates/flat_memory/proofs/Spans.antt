-- Live objects lie in parts of flat memory that may be used.
use Rattle.std.proofs.Common.{◌≡◌, ℕ, zero, suc, ◌+◌, ◌≤◌, ◌⊎◌, inl, inr, List, [], ◌∷◌, ◌++◌, length, map, Some, slice_get, Bool, true, false, nat_le, ◌&&◌, not, refl, ap, sym, ◌∙◌, subst, arith}
use Rattle.std.proofs.lemmas.Bool.{leb-true, le-leb, and_parts, and_from, or_cases, or_left, or_right}
use Rattle.ir_core.specs.declared.memory.Object0.{Object0}
use Rattle.ir_core.specs.Memory.{Memory}
use Rattle.low_core.specs.Flat.{Span, Bytes, covers, is_inside, is_writable}
use Rattle.low_core.specs.Plan.{Content, global_spans}
use Rattle.low_core.specs.Contents.{Addresses}
use Rattle.low_core.specs.Bridge.{Setting, CallMemory, flat_in, Lives, address_of, IsInCall, Bridges}
use Rattle.flat_memory.specs.Accesses.{SettingFits}

-- a part of a range that a span holds
covers_part : (s : Span) (a n b k : ℕ) → a ≤ b → b + k ≤ a + n → covers a n s ≡ true → covers b k s ≡ true
covers_part s a n b k low high h =
    let both = and_parts (nat_le s.start a) (nat_le (a + n) (s.start + s.size)) h in
    let one : s.start ≤ a = leb-true s.start a both.0 in
    let two : a + n ≤ s.start + s.size = leb-true (a + n) (s.start + s.size) both.1 in
    let three : s.start ≤ b = omega arith in
    let four : b + k ≤ s.start + s.size = omega arith in
    and_from (nat_le s.start b) (nat_le (b + k) (s.start + s.size)) (le-leb s.start b three) (le-leb (b + k) (s.start + s.size) four)

pub inside_part : (ss : List Span) (a n b k : ℕ) → a ≤ b → b + k ≤ a + n → is_inside a n ss ≡ true → is_inside b k ss ≡ true
inside_part [] a n b k low high h = h
inside_part (s ∷ ss) a n b k low high h =
    elim (or_cases (covers a n s) (is_inside a n ss) h) [
      | inl x ↦ or_left (covers b k s) (is_inside b k ss) (covers_part s a n b k low high x)
      | inr x ↦ or_right (covers b k s) (is_inside b k ss) (inside_part ss a n b k low high x)
    ]

pub writable_part : (ss : List Span) (a n b k : ℕ) → a ≤ b → b + k ≤ a + n → is_writable a n ss ≡ true → is_writable b k ss ≡ true
writable_part [] a n b k low high h = h
writable_part (s ∷ ss) a n b k low high h =
    elim (or_cases (s.writable && covers a n s) (is_writable a n ss) h) [
      | inl x ↦
          let both = and_parts s.writable (covers a n s) x in
          or_left (s.writable && covers b k s) (is_writable b k ss) (and_from s.writable (covers b k s) both.0 (covers_part s a n b k low high both.1))
      | inr x ↦ or_right (s.writable && covers b k s) (is_writable b k ss) (writable_part ss a n b k low high x)
    ]

-- a live object that stands at a number is the one that is known to stand there
pub same_object : (m : Memory) (i : ℕ) (x y : Object0) → Lives m i x → Lives m i y → x ≡ y
same_object m i x y a b = some_same (sym a.stands ∙ b.stands)
  where
    some_same : {A : Type 0} {x y : A} → Some x ≡ Some y → x ≡ y
    some_same e = cc

-- an element, or the end of the list
pub found_or_past : {A : Type 0} (xs : List A) (i : ℕ) → ((x : A) × (slice_get xs i ≡ Some x)) ⊎ (length xs ≤ i)
found_or_past [] i = inr (omega arith)
found_or_past (x ∷ xs) zero = inl (x, refl)
found_or_past (x ∷ xs) (suc i) = elim (found_or_past xs i) [
  | inl r ↦ inl r
  | inr le ↦ inr (omega arith)
]

-- spans in front of others
inside_front : (ss ts : List Span) (a n : ℕ) → is_inside a n ss ≡ true → is_inside a n (ss ++ ts) ≡ true
inside_front [] ts a n h = absurd (cc)
inside_front (s ∷ ss) ts a n h =
    elim (or_cases (covers a n s) (is_inside a n ss) h) [
      | inl x ↦ or_left (covers a n s) (is_inside a n (ss ++ ts)) x
      | inr x ↦ or_right (covers a n s) (is_inside a n (ss ++ ts)) (inside_front ss ts a n x)
    ]

inside_back : (ss ts : List Span) (a n : ℕ) → is_inside a n ts ≡ true → is_inside a n (ss ++ ts) ≡ true
inside_back [] ts a n h = h
inside_back (s ∷ ss) ts a n h = or_right (covers a n s) (is_inside a n (ss ++ ts)) (inside_back ss ts a n h)

writable_front : (ss ts : List Span) (a n : ℕ) → is_writable a n ss ≡ true → is_writable a n (ss ++ ts) ≡ true
writable_front [] ts a n h = absurd (cc)
writable_front (s ∷ ss) ts a n h =
    elim (or_cases (s.writable && covers a n s) (is_writable a n ss) h) [
      | inl x ↦ or_left (s.writable && covers a n s) (is_writable a n (ss ++ ts)) x
      | inr x ↦ or_right (s.writable && covers a n s) (is_writable a n (ss ++ ts)) (writable_front ss ts a n x)
    ]

writable_back : (ss ts : List Span) (a n : ℕ) → is_writable a n ts ≡ true → is_writable a n (ss ++ ts) ≡ true
writable_back [] ts a n h = h
writable_back (s ∷ ss) ts a n h = or_right (s.writable && covers a n s) (is_writable a n (ss ++ ts)) (writable_back ss ts a n h)

-- the own memory of a call
call_inside : (cs : List CallMemory) (i a n : ℕ) → IsInCall cs i a n → is_inside a n (map (λ (c : CallMemory). c.own) cs) ≡ true
call_inside [] i a n h = absurd h
call_inside (c ∷ cs) i a n (inl x) = or_left (covers a n c.own) (is_inside a n (map (λ (d : CallMemory). d.own) cs)) x.inside
call_inside (c ∷ cs) i a n (inr x) = or_right (covers a n c.own) (is_inside a n (map (λ (d : CallMemory). d.own) cs)) (call_inside cs i a n x)

call_writable : (cs : List CallMemory) (i a n : ℕ) → IsInCall cs i a n → is_writable a n (map (λ (c : CallMemory). c.own) cs) ≡ true
call_writable [] i a n h = absurd h
call_writable (c ∷ cs) i a n (inl x) =
    or_left (c.own.writable && covers a n c.own) (is_writable a n (map (λ (d : CallMemory). d.own) cs)) (and_from c.own.writable (covers a n c.own) x.writable x.inside)
call_writable (c ∷ cs) i a n (inr x) = or_right (c.own.writable && covers a n c.own) (is_writable a n (map (λ (d : CallMemory). d.own) cs)) (call_writable cs i a n x)

-- a global
covers_itself : (a n : ℕ) (w : Bool) → covers a n (record { start = a; size = n; writable = w }) ≡ true
covers_itself a n w = and_from (nat_le a a) (nat_le (a + n) (a + n)) (le-leb a a (omega arith)) (le-leb (a + n) (a + n) (omega arith))

global_inside : (ats : List ℕ) (cs : List Content) (n a : ℕ) (c : Content) → slice_get ats n ≡ Some a → slice_get cs n ≡ Some c → is_inside a (length c.bytes) (global_spans ats cs) ≡ true
global_inside [] cs n a c h k = absurd (cc)
global_inside (b ∷ ats) [] n a c h k = absurd (cc)
global_inside (b ∷ ats) (d ∷ cs) zero a c h k =
    let same : b ≡ a = cc in
    let same2 : d ≡ c = cc in
    or_left (covers a (length c.bytes) (record { start = b; size = length d.bytes; writable = not d.constant })) (is_inside a (length c.bytes) (global_spans ats cs))
    (subst (λ x. covers a (length c.bytes) (record { start = x; size = length d.bytes; writable = not d.constant }) ≡ true) (sym same)
    (subst (λ y. covers a (length c.bytes) (record { start = a; size = length y.bytes; writable = not y.constant }) ≡ true) (sym same2) (covers_itself a (length c.bytes) (not c.constant))))
global_inside (b ∷ ats) (d ∷ cs) (suc n) a c h k =
    or_right (covers a (length c.bytes) (record { start = b; size = length d.bytes; writable = not d.constant })) (is_inside a (length c.bytes) (global_spans ats cs)) (global_inside ats cs n a c h k)

global_writable : (ats : List ℕ) (cs : List Content) (n a : ℕ) (c : Content) → slice_get ats n ≡ Some a → slice_get cs n ≡ Some c → c.constant ≡ false → is_writable a (length c.bytes) (global_spans ats cs) ≡ true
global_writable [] cs n a c h k f = absurd (cc)
global_writable (b ∷ ats) [] n a c h k f = absurd (cc)
global_writable (b ∷ ats) (d ∷ cs) zero a c h k f =
    let same : b ≡ a = cc in
    let same2 : d ≡ c = cc in
    or_left (not d.constant && covers a (length c.bytes) (record { start = b; size = length d.bytes; writable = not d.constant })) (is_writable a (length c.bytes) (global_spans ats cs))
    (subst (λ x. (not d.constant && covers a (length c.bytes) (record { start = x; size = length d.bytes; writable = not d.constant })) ≡ true) (sym same)
    (subst (λ y. (not y.constant && covers a (length c.bytes) (record { start = a; size = length y.bytes; writable = not y.constant })) ≡ true) (sym same2)
    (and_from (not c.constant) (covers a (length c.bytes) (record { start = a; size = length c.bytes; writable = not c.constant })) (ap not f) (covers_itself a (length c.bytes) (not c.constant)))))
global_writable (b ∷ ats) (d ∷ cs) (suc n) a c h k f =
    or_right (not d.constant && covers a (length c.bytes) (record { start = b; size = length d.bytes; writable = not d.constant })) (is_writable a (length c.bytes) (global_spans ats cs)) (global_writable ats cs n a c h k f)

-- the place of a global, from what is told of the list of addresses
address_found : (ats : List ℕ) (cs : List Content) (n : ℕ) (c : Content) → length ats ≡ length cs → slice_get cs n ≡ Some c → (a : ℕ) × (slice_get ats n ≡ Some a)
address_found [] [] n c e k = absurd (cc)
address_found [] (d ∷ cs) n c e k = absurd (cc)
address_found (b ∷ ats) [] n c e k = absurd (cc)
address_found (b ∷ ats) (d ∷ cs) zero c e k = (b, refl)
address_found (b ∷ ats) (d ∷ cs) (suc n) c e k = address_found ats cs n c (cc) k

module _ (g : Setting) (calls : List CallMemory) (m : Memory) (at : Addresses) (bytes : Bytes) (fits : SettingFits g) (b : Bridges g calls m at bytes) where
  -- the range of a live object may be used
  pub object_inside : (i : ℕ) (x : Object0) → Lives m i x → is_inside (address_of at i) x.size (flat_in g calls bytes).spans ≡ true
  object_inside i x l =
      elim (found_or_past g.contents i) [
        | inl r ↦
            let a = address_found g.plan.globals g.contents i r.0 fits.globals r.1 in
            let global = b.global i a.0 r.0 (record { address = a.1; content = r.1 }) in
            let same = same_object m i x global.object l global.lives in
            let here = global_inside g.plan.globals g.contents i a.0 r.0 a.1 r.1 in
            inside_back (map (λ (c : CallMemory). c.own) calls) (global_spans g.plan.globals g.contents) (address_of at i) x.size
            (subst (λ p. is_inside p x.size (global_spans g.plan.globals g.contents) ≡ true) (sym global.address_is)
            (subst (λ n. is_inside a.0 n (global_spans g.plan.globals g.contents) ≡ true) (sym (ap (λ (z : Object0). z.size) same ∙ global.size)) here))
        | inr past ↦ inside_front (map (λ (c : CallMemory). c.own) calls) (global_spans g.plan.globals g.contents) (address_of at i) x.size (call_inside calls i (address_of at i) x.size (b.in_call i x l past).1)
      ]

  -- and may be written, unless it is constant
  pub object_writable : (i : ℕ) (x : Object0) → Lives m i x → x.constant ≡ false → is_writable (address_of at i) x.size (flat_in g calls bytes).spans ≡ true
  object_writable i x l k =
      elim (found_or_past g.contents i) [
        | inl r ↦
            let a = address_found g.plan.globals g.contents i r.0 fits.globals r.1 in
            let global = b.global i a.0 r.0 (record { address = a.1; content = r.1 }) in
            let same = same_object m i x global.object l global.lives in
            let not_constant : r.0.constant ≡ false = sym global.constant ∙ ap (λ (z : Object0). z.constant) (sym same) ∙ k in
            let here = global_writable g.plan.globals g.contents i a.0 r.0 a.1 r.1 not_constant in
            writable_back (map (λ (c : CallMemory). c.own) calls) (global_spans g.plan.globals g.contents) (address_of at i) x.size
            (subst (λ p. is_writable p x.size (global_spans g.plan.globals g.contents) ≡ true) (sym global.address_is)
            (subst (λ n. is_writable a.0 n (global_spans g.plan.globals g.contents) ≡ true) (sym (ap (λ (z : Object0). z.size) same ∙ global.size)) here))
        | inr past ↦ writable_front (map (λ (c : CallMemory). c.own) calls) (global_spans g.plan.globals g.contents) (address_of at i) x.size (call_writable calls i (address_of at i) x.size (b.in_call i x l past).1)
      ]
