-- Loads: bytes of the flat memory that are told stand in the segments, and a load finds them there.
use Rattle.std.proofs.Common.{◌≡◌, ℕ, zero, suc, ◌+◌, ◌*◌, ◌^◌, ◌<◌, ◌≤◌, Bool, true, false, ◌&&◌, ◌||◌, nat_le, option_map, List, [], ◌∷◌, length, Option, Some, None, Ok, Err, refl, sym, ◌∙◌, ap, subst, inl, inr, ◌⊎◌, arith}
use Rattle.std.specs.Prelude.{pos}
use Rattle.std.proofs.lemmas.Bool.{or_cases, and_parts, and_from, leb-true, le-leb}
use Rattle.rd_num.specs.declared.width.Width.{Width}
use Rattle.rd_num.specs.declared.width.Width.TheVariants.{W1, W8, W16, W32, W64}
use Rattle.rd_num.specs.Number.{le_number}
use Rattle.ir_core.specs.declared.memory.Reason.TheVariants.{Bounds, Unset}
use Rattle.ir_core.specs.Shapes.{bytes_of}
use Rattle.ir_core.specs.Stops.{Answer, Left, and_then, found_or}
use Rattle.x86_core.specs.declared.flags.Flags.{Flags}
use Rattle.x86_core.specs.declared.reg.Reg.TheVariants.{Rax}
use Rattle.x86_core.specs.declared.image.Segment.{Segment}
use Rattle.x86_core.specs.declared.instr.Instr.TheVariants.{Load}
use Rattle.x86_core.specs.Arithmetic.{moved}
use Rattle.x86_core.specs.Effect.{effect_of}
use Rattle.x86_core.specs.Memory.{read_at}
use Rattle.x86_core.specs.Step.{size_bytes}
use Rattle.x86_rows.specs.Addresses.{range_at}
use Rattle.x86_rows.specs.Straight.{Through, loaded, ran}
use Rattle.x86_rows.proofs.Covers.{chosen, passed_over}
use Rattle.x86_rows.proofs.Reading.{read_range}
use Rattle.x86_rows.proofs.Rows.{exec-first}
use Rattle.low_core.specs.Flat.{Span, Flat, covers, is_inside, is_writable, bytes_from, all_set, word_at}
use Rattle.low_core.specs.SelState.{word_in}
use Rattle.frame_rows.specs.declared.spot.Spot.{Spot}
use Rattle.frame_rows.specs.Words.{Words, in_order, core_of}
use Rattle.frame_rows.specs.Code.{access_size, at_rax, home_read}
use Rattle.frame_rows.specs.Ties.{Contains, Tied}
use Rattle.frame_rows.proofs.Results.{Makes, reads_one}

-- a range that lies in a span, in numbers
record Within (s : Span) (p n : ℕ) : Type 0 where
  from : s.start ≤ p
  to : p + n ≤ s.start + s.size

within : (s : Span) (p n : ℕ) → covers p n s ≡ true → Within s p n
within s p n h =
    let two = and_parts (nat_le s.start p) (nat_le (p + n) (s.start + s.size)) h in
    record { from = leb-true s.start p two.0; to = leb-true (p + n) (s.start + s.size) two.1 }

-- what a span covers of a range, it covers of each part of it
part_covered : (s : Span) (p n q m : ℕ) → p ≤ q → q + m ≤ p + n → Within s p n → covers q m s ≡ true
part_covered s p n q m lo hi x =
    let from = x.from in
    let to = x.to in
    and_from (nat_le s.start q) (nat_le (q + m) (s.start + s.size)) (le-leb s.start q (omega (arith, lo, from))) (le-leb (q + m) (s.start + s.size) (omega (arith, hi, to)))

either_first : (x y : Bool) → x ≡ true → (x || y) ≡ true
either_first x y h = ap (λ b. b || y) h

either_second : (x y : Bool) → y ≡ true → (x || y) ≡ true
either_second true y h = refl
either_second false y h = h

pub inside_part : (spans : List Span) (p n q m : ℕ) → p ≤ q → q + m ≤ p + n → is_inside p n spans ≡ true → is_inside q m spans ≡ true
inside_part [] p n q m lo hi h = absurd (cc)
inside_part (s ∷ spans) p n q m lo hi h = elim (or_cases (covers p n s) (is_inside p n spans) h) [
  | inl t ↦ either_first (covers q m s) (is_inside q m spans) (part_covered s p n q m lo hi (within s p n t))
  | inr t ↦ either_second (covers q m s) (is_inside q m spans) (inside_part spans p n q m lo hi t)
]

-- what may be written may be read
pub writable_inside : (spans : List Span) (p n : ℕ) → is_writable p n spans ≡ true → is_inside p n spans ≡ true
writable_inside [] p n h = absurd (cc)
writable_inside (s ∷ spans) p n h = elim (or_cases (s.writable && covers p n s) (is_writable p n spans) h) [
  | inl t ↦ either_first (covers p n s) (is_inside p n spans) (and_parts s.writable (covers p n s) t).1
  | inr t ↦ either_second (covers p n s) (is_inside p n spans) (writable_inside spans p n t)
]

abbrev pub AreBytes : List ℕ → Type 0
AreBytes [] = Unit {0}
AreBytes (b ∷ bs) = (b < 256) × AreBytes bs

-- the bytes of a range, all of which are told
pub record Told (ss : List Segment) (p n : ℕ) (bs : List ℕ) : Type 0 where
  pub range : range_at ss p n ≡ bs
  pub count : length bs ≡ n
  pub bytes : AreBytes bs

module _ (base words : ℕ) (flat : Flat) (ss : List Segment) (c : Contains base words flat ss) where
  some_is : (x y : List ℕ) → Some x ≡ Some y → x ≡ y
  some_is x y e = cc

  -- one more byte in front
  told_more : (p n : ℕ) (bs : List ℕ) → is_inside p 1 flat.spans ≡ true → (o : Option ℕ) → flat.bytes p ≡ o → (r : Option (List ℕ)) → all_set (bytes_from flat.bytes (p + 1) n) ≡ r → all_set (flat.bytes p ∷ bytes_from flat.bytes (p + 1) n) ≡ Some bs →
      ((rest : List ℕ) → all_set (bytes_from flat.bytes (p + 1) n) ≡ Some rest → Told ss (p + 1) n rest) → Told ss p (suc n) bs
  told_more p n bs inside None is r rs k go = let z : all_set (None ∷ bytes_from flat.bytes (p + 1) n) ≡ Some bs = subst (λ o. all_set (o ∷ bytes_from flat.bytes (p + 1) n) ≡ Some bs) is k in absurd (cc)
  told_more p n bs inside (Some b) is None rs k go =
      let z : option_map (λ ns. b ∷ ns) (all_set (bytes_from flat.bytes (p + 1) n)) ≡ Some bs = subst (λ o. all_set (o ∷ bytes_from flat.bytes (p + 1) n) ≡ Some bs) is k in
      let lost : option_map (λ ns. b ∷ ns) None ≡ Some bs = sym (ap (option_map (λ ns. b ∷ ns)) rs) ∙ z in
      absurd (cc)
  told_more p n bs inside (Some b) is (Some rest) rs k go =
      let z : option_map (λ ns. b ∷ ns) (all_set (bytes_from flat.bytes (p + 1) n)) ≡ Some bs = subst (λ o. all_set (o ∷ bytes_from flat.bytes (p + 1) n) ≡ Some bs) is k in
      let found : Some (b ∷ rest) ≡ Some bs = sym (ap (option_map (λ ns. b ∷ ns)) rs) ∙ z in
      let same : b ∷ rest ≡ bs = some_is (b ∷ rest) bs found in
      let x = c.told p b inside is in
      let g = go rest rs in
      let long = g.count in
      record {
        range = ap (λ a. a ∷ range_at ss (p + 1) n) x.0 ∙ ap (λ r. b ∷ r) g.range ∙ same;
        count = ap length (sym same) ∙ omega (arith, long);
        bytes = subst AreBytes same (x.1, g.bytes);
      }

  pub told_range : (n p : ℕ) → is_inside p n flat.spans ≡ true → (bs : List ℕ) → all_set (bytes_from flat.bytes p n) ≡ Some bs → Told ss p n bs
  told_range zero p h bs e = let same : [] ≡ bs = some_is [] bs e in record { range = same; count = ap length (sym same); bytes = subst AreBytes same tt }
  told_range (suc n) p h bs e =
      told_more p n bs (inside_part flat.spans p (suc n) p 1 (omega arith) (omega arith) h) (flat.bytes p) refl (all_set (bytes_from flat.bytes (p + 1) n)) refl e
      (λ rest k. told_range n (p + 1) (inside_part flat.spans p (suc n) (p + 1) n (omega arith) (omega arith) h) rest k)

-- numbers of so many bytes are below this one
abbrev pub limit_of : ℕ → ℕ
limit_of zero = 1
limit_of (suc n) = limit_of n * 256

number_below : (bs : List ℕ) → AreBytes bs → le_number bs < limit_of (length bs)
number_below [] h = omega arith
number_below (b ∷ bs) h = let x = number_below bs h.1 in let y = h.0 in omega arith

limit_of_most : (w : Width) → limit_of (bytes_of w) ≤ 2 ^ 64
limit_of_most W1 = omega arith
limit_of_most W8 = omega arith
limit_of_most W16 = omega arith
limit_of_most W32 = omega arith
limit_of_most W64 = omega arith

pub same_bytes : (w : Width) → size_bytes (access_size w) ≡ bytes_of w
same_bytes W1 = refl
same_bytes W8 = refl
same_bytes W16 = refl
same_bytes W32 = refl
same_bytes W64 = refl

pub some_bytes : (w : Width) → 1 ≤ bytes_of w
some_bytes W1 = omega arith
some_bytes W8 = omega arith
some_bytes W16 = omega arith
some_bytes W32 = omega arith
some_bytes W64 = omega arith

-- a load that gives a word, and one that leaves
pub record LoadsWord (flat : Flat) (p n word : ℕ) : Type 0 where
  pub inside : is_inside p n flat.spans ≡ true
  pub bytes : List ℕ
  pub are : all_set (bytes_from flat.bytes p n) ≡ Some bytes
  pub number : le_number bytes ≡ word

abbrev read_answer : Option (List ℕ) → Answer ℕ
read_answer o = and_then (found_or (Left Unset) o) (λ ns. Ok (le_number ns))

pub load_cases : (flat : Flat) (p n : ℕ) → ((word : ℕ) × ((word_at flat p n ≡ Ok word) × LoadsWord flat p n word)) ⊎ ((word_at flat p n ≡ Err (Left Bounds)) ⊎ (word_at flat p n ≡ Err (Left Unset)))
load_cases flat p n = by_test (is_inside p n flat.spans) refl (all_set (bytes_from flat.bytes p n)) refl
  where
    by_test : (b : Bool) → is_inside p n flat.spans ≡ b → (o : Option (List ℕ)) → all_set (bytes_from flat.bytes p n) ≡ o →
        ((word : ℕ) × ((word_at flat p n ≡ Ok word) × LoadsWord flat p n word)) ⊎ ((word_at flat p n ≡ Err (Left Bounds)) ⊎ (word_at flat p n ≡ Err (Left Unset)))
    by_test true i (Some bs) t = inl (le_number bs, (chosen (is_inside p n flat.spans) _ _ i ∙ ap read_answer t, record { inside = i; bytes = bs; are = t; number = refl }))
    by_test true i None t = inr (inr (chosen (is_inside p n flat.spans) _ _ i ∙ ap read_answer t))
    by_test false i o t = inr (inl (passed_over (is_inside p n flat.spans) _ _ i))

module _ (homes : ℕ → Spot) (base words : ℕ) (live : ℕ → Type 0) (registers : List (Option ℕ)) (flat : Flat) (w : Words) (f : Flags) (ss : List Segment) (tied : Tied homes base words live registers flat w ss) where
  pub load_makes : (wi : Width) (x a word : ℕ) → live x → word_in registers x ≡ Ok a → LoadsWord flat a (bytes_of wi) word → Makes (home_read (homes x) Rax ∷ Load (access_size wi) Rax at_rax ∷ []) w f ss word
  unfolding effect_of
  load_makes wi x a word l is from =
      let t = told_range base words flat ss tied.memory (bytes_of wi) a from.inside from.bytes from.are in
      let small = tied.small x a is in
      let at : moved a (pos 0) ≡ a = omega (arith, small) in
      let w1 : Words = record w { rax = a } in
      let i = Load (access_size wi) Rax at_rax in
      let read : read_at ss (moved a (pos 0)) (size_bytes (access_size wi)) ≡ Some from.bytes =
      ap (λ n. read_at ss (moved a (pos 0)) n) (same_bytes wi) ∙ ap (λ p. read_at ss p (bytes_of wi)) at ∙
      read_range ss a (bytes_of wi) tied.room.disjoint (some_bytes wi) (tied.memory.readable a (bytes_of wi) from.inside (some_bytes wi)) ∙ ap Some t.range in
      let runs : ran i (core_of w1 f ss) ≡ Through (core_of (record w { rax = word }) f ss) =
      ap (λ r. loaded r (effect_of i (in_order w1) f) Rax ss) read ∙ ap (λ n. Through (core_of (record w { rax = n }) f ss)) from.number in
      record {
        after = record w { rax = word };
        flags = f;
        runs =
            exec-first (home_read (homes x) Rax) (i ∷ []) (core_of w f ss) (core_of w1 f ss) (reads_one homes base words live registers flat w f ss tied x a Rax l is) ∙
            exec-first i [] (core_of w1 f ss) (core_of (record w { rax = word }) f ss) runs;
        made = refl;
        same = record { rbx = refl; rbp = refl; rsp = refl; r12 = refl; r13 = refl; r14 = refl; r15 = refl };
      }

  pub load_small : (wi : Width) (a word : ℕ) → LoadsWord flat a (bytes_of wi) word → word < 2 ^ 64
  load_small wi a word from =
      let t = told_range base words flat ss tied.memory (bytes_of wi) a from.inside from.bytes from.are in
      let x : le_number from.bytes < limit_of (bytes_of wi) = subst (λ n. le_number from.bytes < limit_of n) t.count (number_below from.bytes t.bytes) in
      let y = limit_of_most wi in
      let e = from.number in
      omega (arith, e, x, y)
