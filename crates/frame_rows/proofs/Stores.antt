-- A store changes the same bytes of the flat memory and of the segments.
use Rattle.std.proofs.Common.{◌≡◌, ℕ, zero, suc, ◌+◌, ◌-◌, ◌*◌, ◌/◌, ◌%◌, ◌^◌, ◌<◌, ◌≤◌, Bool, true, false, nat_eq, List, [], ◌∷◌, length, map, get_or, Option, Some, Ok, Err, refl, sym, ◌∙◌, ap, subst, inl, inr, ◌⊎◌, arith, lit<}
use Rattle.std.specs.Prelude.{pos}
use Rattle.std.proofs.lemmas.Bool.{cases_lt, eq-eqb, ne_eqb}
use Rattle.std.proofs.Math.Arith.{mod-mul}
use Rattle.rd_num.specs.declared.width.Width.{Width}
use Rattle.rd_num.specs.declared.width.Width.TheVariants.{W1, W8, W16, W32, W64}
use Rattle.rd_num.specs.Number.{le_bytes}
use Rattle.ir_core.specs.declared.memory.Reason.TheVariants.{Bounds}
use Rattle.ir_core.specs.Shapes.{bytes_of}
use Rattle.ir_core.specs.Stops.{Left}
use Rattle.x86_core.specs.declared.flags.Flags.{Flags}
use Rattle.x86_core.specs.declared.reg.Reg.TheVariants.{Rcx}
use Rattle.x86_core.specs.declared.image.Segment.{Segment}
use Rattle.x86_core.specs.declared.instr.Instr.TheVariants.{Store}
use Rattle.x86_core.specs.Arithmetic.{moved, size_bits}
use Rattle.x86_core.specs.Effect.{effect_of}
use Rattle.x86_core.specs.Memory.{write_at, reads, writes, one_covers}
use Rattle.x86_core.specs.Step.{size_bytes}
use Rattle.x86_rows.specs.Addresses.{byte_at, Written}
use Rattle.x86_rows.specs.Straight.{Through, stored, ran}
use Rattle.x86_rows.proofs.Covers.{range_same, chosen, passed_over}
use Rattle.x86_rows.proofs.Writing.{write_range}
use Rattle.x86_rows.proofs.Shapes.{one_same}
use Rattle.x86_rows.proofs.Rows.{exec-first}
use Rattle.low_core.specs.Flat.{Bytes, Flat, is_inside, is_writable, with_byte, with_bytes, with_word_at}
use Rattle.low_core.specs.SelState.{word_in}
use Rattle.frame_rows.specs.declared.spot.Spot.{Spot}
use Rattle.frame_rows.specs.declared.spot.Spot.TheVariants.{Own, Frame}
use Rattle.frame_rows.specs.Words.{Words, in_order, core_of}
use Rattle.frame_rows.specs.Code.{access_size, at_rax, both}
use Rattle.frame_rows.specs.Ties.{IsHome, Keeps, Contains, Tied}
use Rattle.frame_rows.specs.Steps.{Leads}
use Rattle.frame_rows.proofs.Registers.{Same}
use Rattle.frame_rows.proofs.Homes.{room_same}
use Rattle.frame_rows.proofs.Kept.{keeps_same}
use Rattle.frame_rows.proofs.Results.{reads_both}
use Rattle.frame_rows.proofs.Accesses.{inside_part, writable_inside, limit_of, same_bytes, some_bytes}

-- bytes put in their place, and beside it
put_beside : (bs : List ℕ) (m : Bytes) (p q : ℕ) → (q < p) ⊎ (p + length bs ≤ q) → with_bytes m p (map Some bs) q ≡ m q
put_beside [] m p q o = refl
put_beside (b ∷ bs) m p q o =
    put_beside bs (with_byte m p (Some b)) (p + 1) q (elim o [ inl lt ↦ inl (omega arith) | inr le ↦ inr (omega arith) ]) ∙
    passed_over (nat_eq q p) (Some b) (m q) (ne_eqb q p (λ e. elim o [ inl lt ↦ absurd (omega (arith, e)) | inr le ↦ absurd (omega (arith, e)) ]))

put_inside : (bs : List ℕ) (m : Bytes) (p i : ℕ) → i < length bs → with_bytes m p (map Some bs) (p + i) ≡ Some (get_or bs i 0)
put_inside [] m p i lt = absurd (omega arith)
put_inside (b ∷ bs) m p zero lt =
    put_beside bs (with_byte m p (Some b)) (p + 1) (p + 0) (inl (omega arith)) ∙ chosen (nat_eq (p + 0) p) (Some b) (m (p + 0)) (eq-eqb (p + 0) p (omega arith))
put_inside (b ∷ bs) m p (suc i) lt =
    let e : p + suc i ≡ p + 1 + i = omega arith in
    ap (with_bytes (with_byte m p (Some b)) (p + 1) (map Some bs)) e ∙ put_inside bs (with_byte m p (Some b)) (p + 1) i (omega arith)

byte_below : (k n i : ℕ) → get_or (le_bytes k n) i 0 < 256
byte_below zero n i = omega arith
byte_below (suc k) n zero = omega arith
byte_below (suc k) n (suc i) = byte_below k (n / 256) i

limit_of_some : (k : ℕ) → 0 < limit_of k
limit_of_some zero = omega arith
limit_of_some (suc k) = let h = limit_of_some k in omega arith

-- one byte more: the lowest one, and the number of the others
lowest_of : (k n : ℕ) → n % limit_of (suc k) % 256 ≡ n % 256
lowest_of k n = ap (λ m. m % 256) (mod-mul n (limit_of_some k) (lit< tt)) ∙ omega arith

others_of : (k n : ℕ) → n % limit_of (suc k) / 256 ≡ n / 256 % limit_of k
others_of k n = ap (λ m. m / 256) (mod-mul n (limit_of_some k) (lit< tt)) ∙ omega arith

-- bits above so many bytes don't count
low_bytes_of : (k n : ℕ) → le_bytes k (n % limit_of k) ≡ le_bytes k n
low_bytes_of zero n = refl
low_bytes_of (suc k) n =
    ap (λ b. b ∷ le_bytes k (n % limit_of (suc k) / 256)) (lowest_of k n) ∙ ap (λ m. (n % 256) ∷ le_bytes k m) (others_of k n) ∙
    ap (λ bs. (n % 256) ∷ bs) (low_bytes_of k (n / 256))

low_bytes : (w : Width) (n : ℕ) → le_bytes (bytes_of w) (n % 2 ^ size_bits (access_size w)) ≡ le_bytes (bytes_of w) n
low_bytes W1 n = low_bytes_of 1 n
low_bytes W8 n = low_bytes_of 1 n
low_bytes W16 n = low_bytes_of 2 n
low_bytes W32 n = low_bytes_of 4 n
low_bytes W64 n = low_bytes_of 8 n

count_bytes : (k n : ℕ) → length (le_bytes k n) ≡ k
count_bytes zero n = refl
count_bytes (suc k) n = let e = count_bytes k (n / 256) in omega arith

-- a store that is allowed, and one that leaves
abbrev pub put_word : Flat → ℕ → ℕ → ℕ → Bytes
put_word flat at count word = with_bytes flat.bytes at (map Some (le_bytes count word))

pub store_cases : (flat : Flat) (p n word : ℕ) → ((is_writable p n flat.spans ≡ true) × (with_word_at flat p n word ≡ Ok (put_word flat p n word))) ⊎ (with_word_at flat p n word ≡ Err (Left Bounds))
store_cases flat p n word = by_test (is_writable p n flat.spans) refl
  where
    by_test : (b : Bool) → is_writable p n flat.spans ≡ b → ((is_writable p n flat.spans ≡ true) × (with_word_at flat p n word ≡ Ok (put_word flat p n word))) ⊎ (with_word_at flat p n word ≡ Err (Left Bounds))
    by_test true i = inl (i, chosen (is_writable p n flat.spans) _ _ i)
    by_test false i = inr (passed_over (is_writable p n flat.spans) _ _ i)

-- the same bytes put at the same address of both memories
contains_put : (base words : ℕ) (flat : Flat) (ss : List Segment) (p : ℕ) (bs : List ℕ) → ((i : ℕ) → get_or bs i 0 < 256) → (x : Written ss p bs) → Contains base words flat ss →
    Contains base words (record flat { bytes = with_bytes flat.bytes p (map Some bs) }) x.segments
contains_put base words flat ss p bs small x c = record {
  told = λ q b inside e. elim (cases_lt q p) [
    | inl lt ↦ old q b inside (inl lt) e
    | inr le ↦ elim (cases_lt q (p + length bs)) [
      | inl lt ↦
          let z : p + (q - p) ≡ q = omega arith in
          let k : q - p < length bs = omega arith in
          let new : with_bytes flat.bytes p (map Some bs) q ≡ Some (get_or bs (q - p) 0) = ap (with_bytes flat.bytes p (map Some bs)) (sym z) ∙ put_inside bs flat.bytes p (q - p) k in
          let same : get_or bs (q - p) 0 ≡ b = let two : Some (get_or bs (q - p) 0) ≡ Some b = sym new ∙ e in cc in
          (ap (byte_at x.segments) (sym z) ∙ x.inside (q - p) k ∙ same, subst (λ n. n < 256) same (small (q - p)))
      | inr ge ↦ old q b inside (inr ge) e
    ]
  ];
  readable = λ q n inside some. sym (one_same reads ss x.segments q n x.shape) ∙ c.readable q n inside some;
  writable = λ q n inside some. sym (one_same writes ss x.segments q n x.shape) ∙ c.writable q n inside some;
  beside = c.beside;
}
  where
    old : (q b : ℕ) → is_inside q 1 flat.spans ≡ true → (q < p) ⊎ (p + length bs ≤ q) → with_bytes flat.bytes p (map Some bs) q ≡ Some b → (byte_at x.segments q ≡ b) × (b < 256)
    old q b inside o e = let y = c.told q b inside (sym (put_beside bs flat.bytes p q o) ∙ e) in (x.outside q o ∙ y.0, y.1)

module _ (homes : ℕ → Spot) (base words : ℕ) (live after : ℕ → Type 0) (registers : List (Option ℕ)) (flat : Flat) (w : Words) (f : Flags) (ss : List Segment) (tied : Tied homes base words live registers flat w ss) where
  -- an address that is not in a range of the flat memory
  off_range : (p n q : ℕ) → is_inside p n flat.spans ≡ true → (is_inside q 1 flat.spans ≡ true → ⊥) → (q < p) ⊎ (p + n ≤ q)
  off_range p n q inside off = elim (cases_lt q p) [
    | inl lt ↦ inl lt
    | inr le ↦ elim (cases_lt q (p + n)) [ inl lt ↦ absurd (off (inside_part flat.spans p n q 1 le (omega arith) inside)) | inr ge ↦ inr ge ]
  ]

  -- homes have what they had where bytes of the flat memory change
  keeps_beside : (p : ℕ) (bs : List ℕ) (x : Written ss p bs) → is_inside p (length bs) flat.spans ≡ true → (v : Words) → v.rsp ≡ base → (h : Spot) (n : ℕ) → IsHome words h → Keeps v ss h n → Keeps v x.segments h n
  keeps_beside p bs x inside v at (Own r) n is e = e
  keeps_beside p bs x inside v at (Frame k) n is e = range_same x.segments ss 8 (v.rsp + 8 * k) (λ q lo hi. x.outside q (off_range p (length bs) q inside (λ i. tied.memory.beside q i (omega (arith, at, lo)) (omega (arith, at, hi))))) ∙ e

  pub store_leads : (wi : Width) (x y a b : ℕ) → live x → live y → ((z : ℕ) → after z → live z) → word_in registers x ≡ Ok a → word_in registers y ≡ Ok b → is_writable a (bytes_of wi) flat.spans ≡ true →
      Leads homes base words (both homes x y (Store (access_size wi) at_rax Rcx ∷ [])) w f ss after registers (record flat { bytes = put_word flat a (bytes_of wi) b })
  unfolding effect_of
  store_leads wi x y a b l m fewer is js may =
      let bs = le_bytes (bytes_of wi) b in
      let long : length bs ≡ bytes_of wi = count_bytes (bytes_of wi) b in
      let some : 1 ≤ length bs = let s = some_bytes wi in omega (arith, long) in
      let inside : is_inside a (length bs) flat.spans ≡ true = subst (λ n. is_inside a n flat.spans ≡ true) (sym long) (writable_inside flat.spans a (bytes_of wi) may) in
      let covered = tied.memory.writable a (bytes_of wi) may (some_bytes wi) in
      let wrote = write_range ss a bs tied.room.disjoint some (subst (λ n. one_covers writes ss a n ≡ true) (sym long) covered) in
      let small = tied.small x a is in
      let at : moved a (pos 0) ≡ a = omega (arith, small) in
      let v : Words = record w { rax = a; rcx = b } in
      let same : Same w v = record { rbx = refl; rbp = refl; rsp = refl; r12 = refl; r13 = refl; r14 = refl; r15 = refl } in
      let i = Store (access_size wi) at_rax Rcx in
      let c = effect_of i (in_order v) f in
      let cut = b % 2 ^ size_bits (access_size wi) in
      let write : write_at ss (moved a (pos 0)) (le_bytes (size_bytes (access_size wi)) cut) ≡ Some wrote.segments =
      ap (λ p. write_at ss p (le_bytes (size_bytes (access_size wi)) cut)) at ∙ ap (λ n. write_at ss a (le_bytes n cut)) (same_bytes wi) ∙ ap (write_at ss a) (low_bytes wi b) ∙ wrote.gives in
      let runs : ran i (core_of v f ss) ≡ Through (core_of v f wrote.segments) = ap (λ r. stored r c) write in
      record {
        after = v;
        flags = f;
        segments = wrote.segments;
        runs = reads_both homes base words live registers flat w f ss x y a b (i ∷ []) tied l m is js ∙ exec-first i [] (core_of v f ss) (core_of v f wrote.segments) runs;
        tied = record {
          room = room_same base words ss wrote.segments wrote.shape tied.room;
          at_base = tied.at_base;
          spots = tied.spots;
          kept = λ z n k e. keeps_beside a bs wrote inside v tied.at_base (homes z) n (tied.spots z) (keeps_same words w v ss (homes z) n same (tied.spots z) (tied.kept z n (fewer z k) e));
          small = tied.small;
          memory = contains_put base words flat ss a bs (byte_below (bytes_of wi) b) wrote tied.memory;
        };
        depth = refl;
        shape = wrote.shape;
        others = λ q o off. wrote.outside q (off_range a (length bs) q inside off);
      }
