-- The arguments of a call: those past the sixth go to the lowest words of the frame, the first six to their registers.
use Rattle.std.proofs.Common.{◌≡◌, ℕ, zero, suc, ◌+◌, ◌*◌, ◌%◌, ◌^◌, ◌<◌, ◌≤◌, List, [], ◌∷◌, ◌++◌, drop, length, Option, Ok, inl, inr, ◌⊎◌, refl, ◌∙◌, ap, subst, arith, append_assoc, lit≤}
use Rattle.std.specs.Prelude.{pos}
use Rattle.std.proofs.lemmas.Bool.{cases_lt}
use Rattle.rd_num.specs.Number.{le_bytes}
use Rattle.x86_core.specs.declared.flags.Flags.{Flags}
use Rattle.x86_core.specs.declared.reg.Reg.{Reg}
use Rattle.x86_core.specs.declared.reg.Reg.TheVariants.{Rax, R11}
use Rattle.x86_core.specs.declared.image.Segment.{Segment}
use Rattle.x86_core.specs.declared.instr.Size.{Size}
use Rattle.x86_core.specs.declared.instr.Instr.{Instr}
use Rattle.x86_core.specs.Arithmetic.{moved}
use Rattle.x86_rows.specs.Addresses.{byte_at, range_at, SameShape}
use Rattle.x86_rows.specs.Straight.{Through, ran, exec}
use Rattle.x86_rows.proofs.Covers.{range_same}
use Rattle.x86_rows.proofs.Rows.{exec-first}
use Rattle.x86_rows.proofs.Shapes.{shape_refl, shape_trans}
use Rattle.x86_rows.proofs.Writing.{write_range}
use Rattle.x86_rows.proofs.Leaves.{store}
use Rattle.low_core.specs.Flat.{Flat}
use Rattle.low_core.specs.SelParts.{IsOneOf}
use Rattle.low_core.specs.SelState.{word_in}
use Rattle.frame_rows.specs.declared.spot.Spot.{Spot}
use Rattle.frame_rows.specs.declared.spot.Spot.TheVariants.{Own, Frame}
use Rattle.frame_rows.specs.Code.{frame_word, home_read, home_write}
use Rattle.frame_rows.specs.Ties.{Differ, Keeps, Room, Tied}
use Rattle.frame_rows.specs.Words.{Words, with_held, core_of}
use Rattle.frame_rows.proofs.Registers.{Same, scratch_written}
use Rattle.frame_rows.proofs.Homes.{room_same}
use Rattle.frame_rows.proofs.Kept.{contains_same, tied_same}
use Rattle.frame_rows.proofs.Results.{reads_one}
use Rattle.frame_lower.specs.Calls.{argument_registers, into_registers, into_words, pass_row}
use Rattle.frame_lower.proofs.Arguments.{HaveWords, have_drop, AreHeld, StandAt, AreScratch, arguments_scratch, filled, same_refl, same_trans, filled_same, filled_held, six_held}

-- after a write of rax to a word of the frame
record PutWord (base : ℕ) (k : ℕ) (w : Words) (f : Flags) (ss : List Segment) (n : ℕ) : Type 0 where
  segments : List Segment
  runs : ran (home_write (Frame k) Rax) (core_of w f ss) ≡ Through (core_of w f segments)
  shape : SameShape ss segments
  there : range_at segments (base + 8 * k) 8 ≡ le_bytes 8 n
  outside : (p : ℕ) → (p < base + 8 * k) ⊎ (base + 8 * k + 8 ≤ p) → byte_at segments p ≡ byte_at ss p

put_word : (base words k : ℕ) (w : Words) (f : Flags) (ss : List Segment) (n : ℕ) → Room base words ss → k < words → w.rsp ≡ base → w.rax ≡ n → n < 2 ^ 64 → PutWord base k w f ss n
put_word base words k w f ss n room lt at is small =
    let h = room.below in
    let place : moved w.rsp (pos (8 * k)) ≡ base + 8 * k = ap (λ b. moved b (pos (8 * k))) at ∙ omega (arith, h, lt) in
    let same : w.rax % 2 ^ 64 ≡ n = ap (λ m. m % 2 ^ 64) is ∙ omega (arith, small) in
    let x = write_range ss (base + 8 * k) (le_bytes 8 n) room.disjoint (lit≤ tt) (room.writable k lt) in
    record { segments = x.segments; runs = store (core_of w f ss) Size.W64 (frame_word k) Rax (base + 8 * k) n place same x; shape = x.shape; there = x.range; outside = x.outside }

module _ (homes : ℕ → Spot) (base words : ℕ) (live : ℕ → Type 0) (registers : List (Option ℕ)) (flat : Flat) where
  abbrev Ties : Words → List Segment → Type 0
  Ties w ss = Tied homes base words live registers flat w ss

  -- the ties hold where one word of the frame changes in which nothing lives
  tied_put : (k : ℕ) (w : Words) (f : Flags) (ss : List Segment) (n : ℕ) → k < words → ((x : ℕ) → live x → Differ (homes x) (Frame k)) → Ties w ss → (y : PutWord base k w f ss n) → Ties w y.segments
  tied_put k w f ss n lt free tied y = record {
    room = room_same base words ss y.segments y.shape tied.room;
    at_base = tied.at_base;
    spots = tied.spots;
    kept = λ x m l e. by_home (homes x) m (free x l) (tied.kept x m l e);
    small = tied.small;
    memory = contains_same base words flat ss y.segments y.shape (λ p o. y.outside p (elim o [ inl under ↦ inl (omega (arith, under)) | inr above ↦ inr (omega (arith, above, lt)) ])) tied.memory;
  }
    where
      beside : (j q : ℕ) → (j ≡ k → ⊥) → base + 8 * j ≤ q → q < base + 8 * j + 8 → (q < base + 8 * k) ⊎ (base + 8 * k + 8 ≤ q)
      beside j q ne from to = elim (cases_lt j k) [
        | inl under ↦ inl (omega (arith, to, under))
        | inr above ↦ elim (cases_lt k j) [ inl over ↦ inr (omega (arith, from, over)) | inr least ↦ absurd (ne (omega (arith, above, least))) ]
      ]

      by_home : (h : Spot) (m : ℕ) → Differ h (Frame k) → Keeps w ss h m → Keeps w y.segments h m
      by_home (Own r) m ne e = e
      by_home (Frame j) m ne e =
          let b = tied.at_base in
          range_same y.segments ss 8 (w.rsp + 8 * j) (λ q from to. y.outside q (beside j q ne (omega (arith, b, from)) (omega (arith, b, to)))) ∙ e

  -- what arguments in the words of the frame leave, from word k on
  record Stacked (k : ℕ) (args ns : List ℕ) (w : Words) (f : Flags) (ss : List Segment) : Type 0 where
    after : Words
    segments : List Segment
    runs : (behind : List Instr) → exec (into_words homes k args ++ behind) (core_of w f ss) ≡ exec behind (core_of after f segments)
    tied : Ties after segments
    same : Same w after
    stand : StandAt segments (base + 8 * k) ns
    shape : SameShape ss segments
    outside : (p : ℕ) → (p < base + 8 * k) ⊎ (base + 8 * (k + length ns) ≤ p) → byte_at segments p ≡ byte_at ss p

  stacks : (args ns : List ℕ) (k : ℕ) (w : Words) (f : Flags) (ss : List Segment) → k + length args ≤ words → ((x j : ℕ) → live x → j < k + length args → Differ (homes x) (Frame j)) →
      ((x : ℕ) → IsOneOf x args → live x) → HaveWords registers args ns → Ties w ss → Stacked k args ns w f ss
  stacks [] [] k w f ss fit free used have tied = record { after = w; segments = ss; runs = λ behind. refl; tied = tied; same = same_refl w; stand = tt; shape = shape_refl ss; outside = λ p o. refl }
  stacks [] (n ∷ ns) k w f ss fit free used have tied = absurd have
  stacks (a ∷ args) [] k w f ss fit free used have tied = absurd have
  stacks (a ∷ args) (n ∷ ns) k w f ss fit free used have tied =
      let w1 : Words = record w { rax = n } in
      let same1 = scratch_written w Rax n refl in
      let tied1 = tied_same homes base words live registers flat w w1 ss same1 tied in
      let small = tied.small a n have.0 in
      let lt : k < words = omega (arith, fit) in
      let y = put_word base words k w1 f ss n tied1.room lt tied1.at_base refl small in
      let tied2 = tied_put k w1 f ss n lt (λ x l. free x k l (omega arith)) tied1 y in
      let next : base + 8 * (k + 1) ≡ base + 8 * k + 8 = omega arith in
      let x = stacks args ns (k + 1) w1 f y.segments (omega (arith, fit)) (λ z j l m. free z j l (omega (arith, m))) (λ z i. used z (inr i)) have.1 tied2 in
      record {
        after = x.after;
        segments = x.segments;
        runs = λ behind.
            exec-first (home_read (homes a) Rax) (home_write (Frame k) Rax ∷ (into_words homes (k + 1) args ++ behind)) (core_of w f ss) (core_of w1 f ss)
            (reads_one homes base words live registers flat w f ss tied a n Rax (used a (inl refl)) have.0) ∙
            exec-first (home_write (Frame k) Rax) (into_words homes (k + 1) args ++ behind) (core_of w1 f ss) (core_of w1 f y.segments) y.runs ∙ x.runs behind;
        tied = x.tied;
        same = same_trans w w1 x.after same1 x.same;
        stand = (
          range_same x.segments y.segments 8 (base + 8 * k) (λ q from to. x.outside q (inl (omega (arith, to)))) ∙ y.there,
          subst (λ at. StandAt x.segments at ns) next x.stand,
        );
        shape = shape_trans ss y.segments x.segments y.shape x.shape;
        outside = λ p o. elim o [
          | inl under ↦ x.outside p (inl (omega (arith, under))) ∙ y.outside p (inl under)
          | inr above ↦ x.outside p (inr (omega (arith, above))) ∙ y.outside p (inr (omega (arith, above)))
        ];
      }

  -- arguments in registers
  loads : (ts : List Reg) (args ns : List ℕ) (w : Words) (f : Flags) (ss : List Segment) (behind : List Instr) → AreScratch ts → ((x : ℕ) → IsOneOf x args → live x) → HaveWords registers args ns → Ties w ss →
      exec (into_registers homes ts args ++ behind) (core_of w f ss) ≡ exec behind (core_of (filled w ts ns) f ss)
  loads [] args ns w f ss behind are used have tied = refl
  loads (t ∷ ts) [] [] w f ss behind are used have tied = refl
  loads (t ∷ ts) [] (n ∷ ns) w f ss behind are used have tied = absurd have
  loads (t ∷ ts) (a ∷ args) [] w f ss behind are used have tied = absurd have
  loads (t ∷ ts) (a ∷ args) (n ∷ ns) w f ss behind are used have tied =
      let w1 = with_held w t n in
      exec-first (home_read (homes a) t) (into_registers homes ts args ++ behind) (core_of w f ss) (core_of w1 f ss) (reads_one homes base words live registers flat w f ss tied a n t (used a (inl refl)) have.0) ∙
      loads ts args ns w1 f ss behind are.1 (λ x i. used x (inr i)) have.1 (tied_same homes base words live registers flat w w1 ss (scratch_written w t n are.0) tied)

  -- all arguments where the function that is called finds them; homes, rsp, r15 and memory are as they were, but for the words
  -- that are passed, and the row leads to what stands behind it
  pub record Passes (args ns : List ℕ) (w : Words) (f : Flags) (ss : List Segment) : Type 0 where
    pub after : Words
    pub segments : List Segment
    pub runs : (behind : List Instr) → exec (pass_row homes args ++ behind) (core_of w f ss) ≡ exec behind (core_of after f segments)
    pub tied : Tied homes base words live registers flat after segments
    pub same : Same w after
    pub held : AreHeld after argument_registers ns
    pub stand : StandAt segments base (drop 6 ns)
    pub shape : SameShape ss segments
    pub outside : (p : ℕ) → (p < base) ⊎ (base + 8 * length (drop 6 ns) ≤ p) → byte_at segments p ≡ byte_at ss p

  pub passes : (args ns : List ℕ) (w : Words) (f : Flags) (ss : List Segment) → length (drop 6 args) ≤ words → ((x j : ℕ) → live x → j < length (drop 6 args) → Differ (homes x) (Frame j)) →
      ((x : ℕ) → IsOneOf x args → live x) → HaveWords registers args ns →
      Tied homes base words live registers flat w ss → Passes args ns w f ss
  passes args ns w f ss fit free used have tied =
      let extra = drop 6 args in
      let above = have_drop 6 registers args ns have in
      let x = stacks extra (drop 6 ns) 0 w f ss (omega (arith, fit)) (λ z j l lt. free z j l (omega (arith, lt))) (λ z i. used z (later 6 args z i)) above tied in
      let v = filled x.after argument_registers ns in
      let at : base + 8 * 0 ≡ base = omega arith in
      record {
        after = v;
        segments = x.segments;
        runs = λ behind.
            ap (λ row. exec row (core_of w f ss)) (append_assoc (into_words homes 0 extra) (into_registers homes argument_registers args) behind) ∙
            x.runs (into_registers homes argument_registers args ++ behind) ∙ loads argument_registers args ns x.after f x.segments behind arguments_scratch used have x.tied;
        tied = tied_same homes base words live registers flat x.after v x.segments (filled_same argument_registers ns x.after arguments_scratch) x.tied;
        same = same_trans w x.after v x.same (filled_same argument_registers ns x.after arguments_scratch);
        held = filled_held x.after ns;
        stand = subst (λ p. StandAt x.segments p (drop 6 ns)) at x.stand;
        shape = x.shape;
        outside = λ p o. x.outside p (elim o [ inl under ↦ inl (omega (arith, under)) | inr over ↦ inr (omega (arith, over)) ]);
      }
    where
      later : (k : ℕ) (xs : List ℕ) (z : ℕ) → IsOneOf z (drop k xs) → IsOneOf z xs
      later zero xs z i = i
      later (suc k) [] z i = i
      later (suc k) (y ∷ xs) z i = inr (later k xs z i)

  -- with a pointer's word in r11 besides
  pub record PassesAt (s : ℕ) (args ns : List ℕ) (w : Words) (f : Flags) (ss : List Segment) (at : ℕ) : Type 0 where
    pub after : Words
    pub segments : List Segment
    pub runs : (behind : List Instr) → exec ((pass_row homes args ++ home_read (homes s) R11 ∷ []) ++ behind) (core_of w f ss) ≡ exec behind (core_of after f segments)
    pub tied : Tied homes base words live registers flat after segments
    pub same : Same w after
    pub pointer : after.r11 ≡ at
    pub held : AreHeld after argument_registers ns
    pub stand : StandAt segments base (drop 6 ns)
    pub shape : SameShape ss segments
    pub outside : (p : ℕ) → (p < base) ⊎ (base + 8 * length (drop 6 ns) ≤ p) → byte_at segments p ≡ byte_at ss p

  pub passes_at : (s : ℕ) (args ns : List ℕ) (w : Words) (f : Flags) (ss : List Segment) (at : ℕ) → live s → word_in registers s ≡ Ok at → Passes args ns w f ss → PassesAt s args ns w f ss at
  passes_at s args ns w f ss at l is x =
      let v : Words = record x.after { r11 = at } in
      let same = scratch_written x.after R11 at refl in
      record {
        after = v;
        segments = x.segments;
        runs = λ behind.
            ap (λ row. exec row (core_of w f ss)) (append_assoc (pass_row homes args) (home_read (homes s) R11 ∷ []) behind) ∙ x.runs (home_read (homes s) R11 ∷ behind) ∙
            exec-first (home_read (homes s) R11) behind (core_of x.after f x.segments) (core_of v f x.segments) (reads_one homes base words live registers flat x.after f x.segments x.tied s at R11 l is);
        tied = tied_same homes base words live registers flat x.after v x.segments same x.tied;
        same = same_trans w x.after v x.same same;
        pointer = refl;
        held = six_held x.after v ns (record { rdi = refl; rsi = refl; rdx = refl; rcx = refl; r8 = refl; r9 = refl }) x.held;
        stand = x.stand;
        shape = x.shape;
        outside = x.outside;
      }
