-- A home is read or written by one instruction, whichever it is.
use Rattle.std.proofs.Common.{◌≡◌, ℕ, true, ◌+◌, ◌*◌, ◌%◌, ◌^◌, ◌<◌, ◌≤◌, List, Some, refl, sym, ◌∙◌, ap, subst, inl, inr, ◌⊎◌, arith}
use Rattle.std.specs.Prelude.{pos}
use Rattle.std.proofs.lemmas.Bool.{cases_lt}
use Rattle.rd_num.specs.Number.{le_bytes}
use Rattle.x86_core.specs.declared.flags.Flags.{Flags}
use Rattle.x86_core.specs.declared.reg.Reg.{Reg}
use Rattle.x86_core.specs.declared.image.Segment.{Segment}
use Rattle.x86_core.specs.Registers.{word, with_word}
use Rattle.x86_core.specs.Arithmetic.{moved}
use Rattle.x86_core.specs.Effect.{effect_of}
use Rattle.x86_core.specs.Memory.{read_at, write_at, reads, writes}
use Rattle.x86_core.proofs.Parts.{number_back8}
use Rattle.x86_rows.specs.Addresses.{byte_at, range_at, SameShape, Written}
use Rattle.x86_rows.specs.Straight.{Core, Through, loaded, stored, ran}
use Rattle.x86_rows.proofs.Covers.{range_same}
use Rattle.x86_rows.proofs.Reading.{read_range}
use Rattle.x86_rows.proofs.Writing.{write_range}
use Rattle.x86_rows.proofs.Shapes.{shape_refl, one_same, disjoint_same}
use Rattle.frame_rows.specs.declared.spot.Spot.{Spot}
use Rattle.frame_rows.specs.declared.spot.Spot.TheVariants.{Own, Frame}
use Rattle.frame_rows.specs.Words.{Words, in_order, held_in, with_held, core_of}
use Rattle.frame_rows.specs.Code.{home_read, home_write}
use Rattle.frame_rows.specs.Ties.{is_scratch, IsHome, Differ, Keeps, Room}
use Rattle.frame_rows.proofs.Registers.{word_held, with_word_held, home_written, home_at_base, home_depth, home_scratch, home_beside}

-- a word of the frame is where rsp says
frame_address : (base words k : ℕ) (ss : List Segment) → Room base words ss → k < words → moved base (pos (8 * k)) ≡ base + 8 * k
frame_address base words k ss room lt = let h = room.below in omega arith

-- the frame is as it was after any write
pub room_same : (base words : ℕ) (ss ts : List Segment) → SameShape ss ts → Room base words ss → Room base words ts
room_same base words ss ts same room = record {
  disjoint = disjoint_same ss ts same room.disjoint;
  below = room.below;
  readable = λ k lt. sym (one_same reads ss ts (base + 8 * k) 8 same) ∙ room.readable k lt;
  writable = λ k lt. sym (one_same writes ss ts (base + 8 * k) 8 same) ∙ room.writable k lt;
}

-- the registers with a word that is known
known : (w : Words) (f : Flags) (ss : List Segment) (t : Reg) (n k : ℕ) → k ≡ n → let c : ℕ → Core = λ m. record { regs = with_word (in_order w) t m; flags = f; segments = ss } in Through (c k) ≡ Through (core_of (with_held w t n) f ss)
known w f ss t n k e = ap (λ m. Through (record { regs = with_word (in_order w) t m; flags = f; segments = ss })) e ∙ ap (λ l. Through (record { regs = l; flags = f; segments = ss })) (with_word_held w t n)

-- the read of a home
pub home_read_law : (base words : ℕ) (w : Words) (f : Flags) (ss : List Segment) (h : Spot) (t : Reg) (n : ℕ) → Room base words ss → w.rsp ≡ base → n < 2 ^ 64 → IsHome words h → Keeps w ss h n →
    ran (home_read h t) (core_of w f ss) ≡ Through (core_of (with_held w t n) f ss)
unfolding effect_of
home_read_law base words w f ss (Own r) t n room at small is keeps =
    known w f ss t n (word (in_order w) r % 2 ^ 64) (ap (λ m. m % 2 ^ 64) (word_held w r ∙ keeps) ∙ omega arith)
home_read_law base words w f ss (Frame k) t n room at small is keeps =
    let place : moved w.rsp (pos (8 * k)) ≡ base + 8 * k = ap (λ b. moved b (pos (8 * k))) at ∙ frame_address base words k ss room is in
    let bytes : range_at ss (base + 8 * k) 8 ≡ le_bytes 8 n = subst (λ b. range_at ss (b + 8 * k) 8 ≡ le_bytes 8 n) at keeps in
    let read : read_at ss (moved w.rsp (pos (8 * k))) 8 ≡ Some (le_bytes 8 n) =
    ap (λ p. read_at ss p 8) place ∙ read_range ss (base + 8 * k) 8 room.disjoint (omega arith) (room.readable k is) ∙ ap Some bytes in
    ap (λ r. loaded r (effect_of (home_read (Frame k) t) (in_order w) f) t ss) read ∙
    known w f ss t n _ (number_back8 n small)

-- what a write of a register to a home leaves
pub record Put (base words : ℕ) (w : Words) (f : Flags) (ss : List Segment) (h : Spot) (t : Reg) (n : ℕ) : Type 0 where
  pub after : Words
  pub segments : List Segment
  pub runs : ran (home_write h t) (core_of w f ss) ≡ Through (core_of after f segments)
  pub at_base : after.rsp ≡ base
  pub depth : after.r15 ≡ w.r15
  pub scratch : (s : Reg) → is_scratch s ≡ true → held_in after s ≡ held_in w s
  pub shape : SameShape ss segments
  pub keeps : Keeps after segments h n
  pub others : (g : Spot) (m : ℕ) → IsHome words g → Differ g h → Keeps w ss g m → Keeps after segments g m
  pub outside : (p : ℕ) → (p < base) ⊎ (base + 8 * words ≤ p) → byte_at segments p ≡ byte_at ss p

-- the register has the word
pub home_write_law : (base words : ℕ) (w : Words) (f : Flags) (ss : List Segment) (h : Spot) (t : Reg) (n : ℕ) → Room base words ss → w.rsp ≡ base → n < 2 ^ 64 → IsHome words h → held_in w t ≡ n → Put base words w f ss h t n
unfolding effect_of
home_write_law base words w f ss (Own r) t n room at small is from =
    let same : word (in_order w) t % 2 ^ 64 ≡ n = ap (λ m. m % 2 ^ 64) (word_held w t ∙ from) ∙ omega arith in
    record {
      after = with_held w r n;
      segments = ss;
      runs = known w f ss r n _ same;
      at_base = home_at_base w r n is ∙ at;
      depth = home_depth w r n is;
      scratch = λ s scratch. home_scratch w r s n is scratch;
      shape = shape_refl ss;
      keeps = home_written w r n is;
      others = others;
      outside = λ p o. refl;
    }
  where
    others : (g : Spot) (m : ℕ) → IsHome words g → Differ g (Own r) → Keeps w ss g m → Keeps (with_held w r n) ss g m
    others (Own s) m k ne e = home_beside w r s n is k ne ∙ e
    others (Frame j) m k ne e = subst (λ b. range_at ss (b + 8 * j) 8 ≡ le_bytes 8 m) (sym (home_at_base w r n is)) e
home_write_law base words w f ss (Frame k) t n room at small is from =
    let place : moved w.rsp (pos (8 * k)) ≡ base + 8 * k = ap (λ b. moved b (pos (8 * k))) at ∙ frame_address base words k ss room is in
    let x = write_range ss (base + 8 * k) (le_bytes 8 n) room.disjoint (omega arith) (room.writable k is) in
    let same : word (in_order w) t % 2 ^ 64 ≡ n = ap (λ m. m % 2 ^ 64) (word_held w t ∙ from) ∙ omega arith in
    let c = effect_of (home_write (Frame k) t) (in_order w) f in
    record {
      after = w;
      segments = x.segments;
      runs = ap (λ m. stored (write_at ss (moved w.rsp (pos (8 * k))) (le_bytes 8 m)) c) same ∙ ap (λ p. stored (write_at ss p (le_bytes 8 n)) c) place ∙ ap (λ r. stored r c) x.gives;
      at_base = at;
      depth = refl;
      scratch = λ s scratch. refl;
      shape = x.shape;
      keeps = subst (λ b. range_at x.segments (b + 8 * k) 8 ≡ le_bytes 8 n) (sym at) x.range;
      others = others x;
      outside = λ p o. x.outside p (elim o [ inl lt ↦ inl (omega arith) | inr le ↦ inr (omega arith) ]);
    }
  where
    others : (x : Written ss (base + 8 * k) (le_bytes 8 n)) (g : Spot) (m : ℕ) → IsHome words g → Differ g (Frame k) → Keeps w ss g m → Keeps w x.segments g m
    others x (Own s) m h ne e = e
    others x (Frame j) m h ne e =
        let b : w.rsp ≡ base = at in
        range_same x.segments ss 8 (w.rsp + 8 * j) (λ q lo hi. x.outside q (elim (cases_lt j k) [ inl lt ↦ inl (omega arith) | inr le ↦ inr (let d : j ≡ k → ⊥ = ne in past j k q le d (omega arith)) ])) ∙ e
      where
        past : (j k q : ℕ) → k ≤ j → (j ≡ k → ⊥) → base + 8 * j ≤ q → base + 8 * k + 8 ≤ q
        past j k q le ne lo = elim (cases_lt k j) [ inl lt ↦ omega arith | inr ge ↦ absurd (ne (omega arith)) ]
