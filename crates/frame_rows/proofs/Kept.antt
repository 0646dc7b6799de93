-- What keeps the ties: other words in scratch registers, and a register that is assigned.
use Rattle.std.proofs.Common.{◌≡◌, ◌≢◌, ℕ, zero, suc, ◌+◌, ◌*◌, ◌^◌, ◌<◌, ◌≤◌, List, [], ◌∷◌, Option, Ok, Err, refl, sym, ◌∙◌, ap, subst, inl, inr, ◌⊎◌, arith}
use Rattle.std.proofs.lemmas.Bool.{cases_lt}
use Rattle.rd_num.specs.Number.{le_bytes}
use Rattle.ir_core.specs.declared.memory.Reason.TheVariants.{Unset}
use Rattle.ir_core.specs.Stops.{Answer, Left}
use Rattle.x86_core.specs.declared.flags.Flags.{Flags}
use Rattle.x86_core.specs.declared.reg.Reg.{Reg}
use Rattle.x86_core.specs.declared.image.Segment.{Segment}
use Rattle.x86_core.specs.Memory.{reads, writes}
use Rattle.x86_rows.specs.Addresses.{byte_at, range_at, SameShape}
use Rattle.x86_rows.proofs.Shapes.{one_same}
use Rattle.low_core.specs.Flat.{Flat}
use Rattle.low_core.specs.SelState.{word_in, with_register}
use Rattle.frame_rows.specs.declared.spot.Spot.{Spot}
use Rattle.frame_rows.specs.declared.spot.Spot.TheVariants.{Own, Frame}
use Rattle.frame_rows.specs.Words.{Words}
use Rattle.frame_rows.specs.Ties.{IsHome, Differ, Keeps, Contains, Tied}
use Rattle.frame_rows.proofs.Registers.{Same, home_same}
use Rattle.frame_rows.proofs.Homes.{Put, room_same}

-- an answer that isn't a word
not_word : (n : ℕ) → let none : Answer ℕ = Err (Left Unset) in none ≡ Ok n → ⊥
not_word n e = absurd (cc)

-- a word after an assignment: that of the register that was assigned, or what another one had
abbrev pub FromAssigned : List (Option ℕ) → ℕ → ℕ → ℕ → ℕ → Type 0
FromAssigned registers r n x m = ((x ≡ r) × (m ≡ n)) ⊎ ((word_in registers x ≡ Ok m) × (x ≢ r))

pub from_assigned : (registers : List (Option ℕ)) (r n x m : ℕ) → word_in (with_register registers r n) x ≡ Ok m → FromAssigned registers r n x m
from_assigned [] r n x m e = absurd (not_word m e)
from_assigned (o ∷ registers) zero n zero m e = let both : Answer ℕ = Ok n in let same : both ≡ Ok m = e in inl (refl, cc)
from_assigned (o ∷ registers) zero n (suc x) m e = inr (e, λ z. absurd (cc))
from_assigned (o ∷ registers) (suc r) n zero m e = inr (e, λ z. absurd (cc))
from_assigned (o ∷ registers) (suc r) n (suc x) m e = elim (from_assigned registers r n x m e) [ inl p ↦ inl (ap suc p.0, p.1) | inr q ↦ inr (q.0, λ z. q.1 (omega (arith, z))) ]

-- a home has what it had where only scratch registers change
pub keeps_same : (words : ℕ) (w v : Words) (ss : List Segment) (h : Spot) (n : ℕ) → Same w v → IsHome words h → Keeps w ss h n → Keeps v ss h n
keeps_same words w v ss (Own r) n same is e = home_same w v r is same ∙ e
keeps_same words w v ss (Frame k) n same is e = subst (λ b. range_at ss (b + 8 * k) 8 ≡ le_bytes 8 n) (sym same.rsp) e

-- the flat memory is there where only words of the frame change
pub contains_same : (base words : ℕ) (flat : Flat) (ss ts : List Segment) → SameShape ss ts → ((p : ℕ) → (p < base) ⊎ (base + 8 * words ≤ p) → byte_at ts p ≡ byte_at ss p) → Contains base words flat ss → Contains base words flat ts
contains_same base words flat ss ts shape same c = record {
  told = λ p b inside e.
      let x = c.told p b inside e in
      let off : (p < base) ⊎ (base + 8 * words ≤ p) = elim (cases_lt p base) [
        | inl lt ↦ inl lt
        | inr le ↦ elim (cases_lt p (base + 8 * words)) [ inl lt ↦ absurd (c.beside p inside le lt) | inr ge ↦ inr ge ]
      ] in
      (same p off ∙ x.0, x.1);
  readable = λ p n inside some. sym (one_same reads ss ts p n shape) ∙ c.readable p n inside some;
  writable = λ p n inside some. sym (one_same writes ss ts p n shape) ∙ c.writable p n inside some;
  beside = c.beside;
}

module _ (homes : ℕ → Spot) (base words : ℕ) where
  -- what is live once r is assigned was live before, or is r, and doesn't live where r does
  abbrev pub IsFree : (ℕ → Type 0) → (ℕ → Type 0) → ℕ → Type 0
  IsFree live after r = (x : ℕ) → after x → x ≢ r → live x × Differ (homes x) (homes r)

  pub tied_same : (live : ℕ → Type 0) (registers : List (Option ℕ)) (flat : Flat) (w v : Words) (ss : List Segment) → Same w v → Tied homes base words live registers flat w ss → Tied homes base words live registers flat v ss
  tied_same live registers flat w v ss same t = record {
    room = t.room;
    at_base = same.rsp ∙ t.at_base;
    spots = t.spots;
    kept = λ x n l e. keeps_same words w v ss (homes x) n same (t.spots x) (t.kept x n l e);
    small = t.small;
    memory = t.memory;
  }

  -- where less is live, the ties hold too
  pub tied_fewer : (live after : ℕ → Type 0) (registers : List (Option ℕ)) (flat : Flat) (w : Words) (ss : List Segment) → ((x : ℕ) → after x → live x) → Tied homes base words live registers flat w ss → Tied homes base words after registers flat w ss
  tied_fewer live after registers flat w ss fewer t =
      record { room = t.room; at_base = t.at_base; spots = t.spots; kept = λ x n l e. t.kept x n (fewer x l) e; small = t.small; memory = t.memory }

  -- the word of an assigned register stands in its home
  pub tied_assigned : (live after : ℕ → Type 0) (registers : List (Option ℕ)) (flat : Flat) (w : Words) (f : Flags) (ss : List Segment) (r : ℕ) (t : Reg) (n : ℕ) → IsFree live after r → n < 2 ^ 64 →
      Tied homes base words live registers flat w ss → (x : Put base words w f ss (homes r) t n) → Tied homes base words after (with_register registers r n) flat x.after x.segments
  tied_assigned live after registers flat w f ss r t n free small tied x = record {
    room = room_same base words ss x.segments x.shape tied.room;
    at_base = x.at_base;
    spots = tied.spots;
    kept = λ y m l e. elim (from_assigned registers r n y m e) [
      | inl p ↦ subst (λ z. Keeps x.after x.segments (homes z) m) (sym p.0) (subst (λ k. Keeps x.after x.segments (homes r) k) (sym p.1) x.keeps)
      | inr q ↦ let s = free y l q.1 in x.others (homes y) m (tied.spots y) s.1 (tied.kept y m s.0 q.0)
    ];
    small = λ y m e. elim (from_assigned registers r n y m e) [
      | inl p ↦ let s = p.1 in omega (arith, s, small)
      | inr q ↦ tied.small y m q.0
    ];
    memory = contains_same base words flat ss x.segments x.shape x.outside tied.memory;
  }
