-- Reads and writes see data alone, fetches see code alone, and a write leaves hidden code as it is.
use Rattle.std.proofs.Common.{◌≡◌, ℕ, Bool, true, false, ◌&&◌, ◌||◌, List, [], ◌∷◌, length, Option, Some, None, if◌then◌else◌, nat_eq, refl, sym, ◌∙◌, ap, subst, arith}
use Rattle.x86_core.specs.declared.image.Segment.{Segment}
use Rattle.x86_core.specs.Memory.{executes, reads, writes, covers, one_covers, is_allowed, read_at, with_bytes, behind, write_at, code_at, data_of, code_of}
use Rattle.x86_core.specs.Observation.{readable}
use Rattle.obj_lay.specs.Held.{AreHidden}

-- a read sees data alone
pub read_same : (ss : List Segment) (at n : ℕ) → read_at ss at n ≡ read_at (data_of ss) at n
read_same [] at n = refl
read_same (s ∷ ss) at n = grind (arith, read_same ss at n)

-- a fetch sees code alone
pub code_same : (ss : List Segment) (at : ℕ) → code_at ss at ≡ code_at (code_of ss) at
code_same [] at = refl
code_same (s ∷ ss) at = grind (arith, code_same ss at)

-- who may read sees the same of all segments and of the data
pub readable_same : (ss : List Segment) → readable (data_of ss) ≡ readable ss
readable_same [] = refl
readable_same (s ∷ ss) = grind (arith, readable_same ss)

-- the data after a write
abbrev pub data_after : Option (List Segment) → Option (List Segment)
data_after None = None
data_after (Some ss) = Some (data_of ss)

-- the code after a write
abbrev pub CodeStays : List Segment → Option (List Segment) → Type 0
CodeStays exec None = Unit {0}
CodeStays exec (Some ss) = code_of ss ≡ exec

-- data behind a segment
data_behind : (s : Segment) (o : Option (List Segment)) → data_after (behind s o) ≡ (if reads s.rights || writes s.rights then behind s (data_after o) else data_after o)
data_behind s None = grind arith
data_behind s (Some ss) = grind arith

-- a write to all segments writes to the data
pub write_same : (ss : List Segment) (at : ℕ) (bs : List ℕ) → write_at (data_of ss) at bs ≡ data_after (write_at ss at bs)
write_same [] at bs = refl
write_same (s ∷ ss) at bs = grind (arith, data_behind s (write_at ss at bs), write_same ss at bs)

-- a segment in front of the code, or left out
in_code : (s : Segment) (ss : List Segment) (t : Bool) → executes s.rights ≡ t → code_of (s ∷ ss) ≡ (if t then s ∷ code_of ss else code_of ss)
in_code s ss t e = ap (λ u. if u then s ∷ code_of ss else code_of ss) e

-- behind a segment of code
stays_behind_code : (s : Segment) → executes s.rights ≡ true → (exec : List Segment) (o : Option (List Segment)) → CodeStays exec o → CodeStays (s ∷ exec) (behind s o)
stays_behind_code s e exec None h = tt
stays_behind_code s e exec (Some ss) h = in_code s ss true e ∙ ap (λ r. s ∷ r) h

-- behind another segment
stays_behind_data : (s : Segment) → executes s.rights ≡ false → (exec : List Segment) (o : Option (List Segment)) → CodeStays exec o → CodeStays exec (behind s o)
stays_behind_data s e exec None h = tt
stays_behind_data s e exec (Some ss) h = in_code s ss false e ∙ h

module _ (s : Segment) (ss : List Segment) (at : ℕ) (bs : List ℕ) (others : AreHidden (code_of ss) → CodeStays (code_of ss) (write_at ss at bs)) where
  abbrev Claim : List Segment → Type 0
  Claim exec = AreHidden exec → CodeStays exec (write_at (s ∷ ss) at bs)

  -- a segment of code refuses the write
  past_code : executes s.rights ≡ true → Claim (s ∷ code_of ss)
  past_code e hidden =
      let refused : write_at (s ∷ ss) at bs ≡ behind s (write_at ss at bs) = ap (λ t. if t && covers s at (length bs) then Some (with_bytes s at bs ∷ ss) else behind s (write_at ss at bs)) hidden.1 in
      subst (CodeStays (s ∷ code_of ss)) (sym refused) (stays_behind_code s e (code_of ss) (write_at ss at bs) (others hidden.2))

  -- another one takes it, or passes it on
  taken : executes s.rights ≡ false → AreHidden (code_of ss) → (t : Bool) → CodeStays (code_of ss) (if t then Some (with_bytes s at bs ∷ ss) else behind s (write_at ss at bs))
  taken e hidden true = in_code (with_bytes s at bs) ss false e
  taken e hidden false = stays_behind_data s e (code_of ss) (write_at ss at bs) (others hidden)

  -- either kind of segment
  by_right : (t : Bool) → executes s.rights ≡ t → Claim (code_of (s ∷ ss))
  by_right true e = subst Claim (sym (in_code s ss true e)) (past_code e)
  by_right false e = subst Claim (sym (in_code s ss false e)) (λ hidden. taken e hidden (writes s.rights && covers s at (length bs)))

-- a write leaves hidden code as it is
pub code_stays : (ss : List Segment) (at : ℕ) (bs : List ℕ) → AreHidden (code_of ss) → CodeStays (code_of ss) (write_at ss at bs)
code_stays [] at bs hidden = tt
code_stays (s ∷ ss) at bs hidden = by_right s ss at bs (code_stays ss at bs) (executes s.rights) refl hidden

-- a write is allowed by what may be read or written
covered_same : (ss : List Segment) (at n : ℕ) → one_covers writes (data_of ss) at n ≡ one_covers writes ss at n
covered_same [] at n = refl
covered_same (s ∷ ss) at n = by (reads s.rights) (writes s.rights) refl (covered_same ss at n)
  where
    by : (r w : Bool) → writes s.rights ≡ w → one_covers writes (data_of ss) at n ≡ one_covers writes ss at n →
        one_covers writes (if r || w then s ∷ data_of ss else data_of ss) at n ≡ ((w && covers s at n) || one_covers writes ss at n)
    by true w e h = rw (e, h) refl
    by false true e h = rw (e, h) refl
    by false false e h = h

pub allowed_same : (ss : List Segment) (at n : ℕ) → is_allowed writes (data_of ss) at n ≡ is_allowed writes ss at n
allowed_same ss at n = ap (λ t. nat_eq n 0 || t) (covered_same ss at n)
