-- A segment behind others: an access is that of the others where they allow it, and else its own.
use Rattle.std.proofs.Common.{◌≡◌, ℕ, ◌-◌, zero, suc, Bool, true, false, ◌&&◌, ◌||◌, List, [], ◌∷◌, ◌++◌, length, take, drop, Option, Some, None, refl, ap, ◌∙◌, if◌then◌else◌, slice_get}
use Rattle.x86_core.specs.declared.image.Segment.{Segment}
use Rattle.x86_core.specs.declared.image.Rights.{Rights}
use Rattle.x86_core.specs.Memory.{reads, writes, executes, covers, one_covers, read_at, write_at, code_at, with_bytes, behind}

-- the first choice, or else the second
first_or : {A : Type 0} → Option A → Option A → Option A
first_or None b = b
first_or (Some a) b = Some a

module _ (t : Segment) where
  pub read_front : (ss : List Segment) (at n : ℕ) (bs : List ℕ) → read_at ss at n ≡ Some bs → read_at (ss ++ t ∷ []) at n ≡ Some bs
  read_front [] at n bs e = absurd (cc)
  read_front (s ∷ ss) at n bs e = by (reads s.rights && covers s at n) (read_front ss at n bs) e
    where
      by : (c : Bool) → (read_at ss at n ≡ Some bs → read_at (ss ++ t ∷ []) at n ≡ Some bs) →
          (if c then Some (take n (drop (at - s.start) s.bytes)) else read_at ss at n) ≡ Some bs →
          (if c then Some (take n (drop (at - s.start) s.bytes)) else read_at (ss ++ t ∷ []) at n) ≡ Some bs
      by true go e = e
      by false go e = go e

  pub read_back : (ss : List Segment) (at n : ℕ) → read_at ss at n ≡ None → read_at (ss ++ t ∷ []) at n ≡ read_at (t ∷ []) at n
  read_back [] at n e = refl
  read_back (s ∷ ss) at n e = by (reads s.rights && covers s at n) (read_back ss at n) e
    where
      by : (c : Bool) → (read_at ss at n ≡ None → read_at (ss ++ t ∷ []) at n ≡ read_at (t ∷ []) at n) →
          (if c then Some (take n (drop (at - s.start) s.bytes)) else read_at ss at n) ≡ None →
          (if c then Some (take n (drop (at - s.start) s.bytes)) else read_at (ss ++ t ∷ []) at n) ≡ read_at (t ∷ []) at n
      by true go e = absurd (cc)
      by false go e = go e

  pub code_front : (ss : List Segment) (at : ℕ) (bs : List ℕ) → code_at ss at ≡ Some bs → code_at (ss ++ t ∷ []) at ≡ Some bs
  code_front [] at bs e = absurd (cc)
  code_front (s ∷ ss) at bs e = by (executes s.rights && covers s at 1) (code_front ss at bs) e
    where
      by : (c : Bool) → (code_at ss at ≡ Some bs → code_at (ss ++ t ∷ []) at ≡ Some bs) →
          (if c then Some (take 16 (drop (at - s.start) s.bytes)) else code_at ss at) ≡ Some bs →
          (if c then Some (take 16 (drop (at - s.start) s.bytes)) else code_at (ss ++ t ∷ []) at) ≡ Some bs
      by true go e = e
      by false go e = go e

  pub code_back : (ss : List Segment) (at : ℕ) → code_at ss at ≡ None → code_at (ss ++ t ∷ []) at ≡ code_at (t ∷ []) at
  code_back [] at e = refl
  code_back (s ∷ ss) at e = by (executes s.rights && covers s at 1) (code_back ss at) e
    where
      by : (c : Bool) → (code_at ss at ≡ None → code_at (ss ++ t ∷ []) at ≡ code_at (t ∷ []) at) →
          (if c then Some (take 16 (drop (at - s.start) s.bytes)) else code_at ss at) ≡ None →
          (if c then Some (take 16 (drop (at - s.start) s.bytes)) else code_at (ss ++ t ∷ []) at) ≡ code_at (t ∷ []) at
      by true go e = absurd (cc)
      by false go e = go e

  pub write_front : (ss more : List Segment) (at : ℕ) (bs : List ℕ) → write_at ss at bs ≡ Some more → write_at (ss ++ t ∷ []) at bs ≡ Some (more ++ t ∷ [])
  write_front [] more at bs e = absurd (cc)
  write_front (s ∷ ss) more at bs e = by (writes s.rights && covers s at (length bs)) (write_at ss at bs) (write_front ss) more refl e
    where
      by : (c : Bool) (o : Option (List Segment)) → ((more : List Segment) (at : ℕ) (bs : List ℕ) → write_at ss at bs ≡ Some more → write_at (ss ++ t ∷ []) at bs ≡ Some (more ++ t ∷ [])) →
          (more : List Segment) → write_at ss at bs ≡ o →
          (if c then Some (with_bytes s at bs ∷ ss) else behind s o) ≡ Some more →
          (if c then Some (with_bytes s at bs ∷ (ss ++ t ∷ [])) else behind s (write_at (ss ++ t ∷ []) at bs)) ≡ Some (more ++ t ∷ [])
      by true o go more f e = let same : with_bytes s at bs ∷ ss ≡ more = cc in ap (λ (m : List Segment). Some (m ++ t ∷ [])) same
      by false None go more f e = absurd (cc)
      by false (Some ms) go more f e = let same : s ∷ ms ≡ more = cc in ap (behind s) (go ms at bs f) ∙ ap (λ (m : List Segment). Some (m ++ t ∷ [])) same

  pub write_back : (ss : List Segment) (at : ℕ) (bs : List ℕ) → write_at ss at bs ≡ None → writes t.rights && covers t at (length bs) ≡ true → write_at (ss ++ t ∷ []) at bs ≡ Some (ss ++ with_bytes t at bs ∷ [])
  write_back [] at bs e h = rw h refl
  write_back (s ∷ ss) at bs e h = by (writes s.rights && covers s at (length bs)) (write_at ss at bs) (λ f. write_back ss at bs f h) refl e
    where
      by : (c : Bool) (o : Option (List Segment)) → (write_at ss at bs ≡ None → write_at (ss ++ t ∷ []) at bs ≡ Some (ss ++ with_bytes t at bs ∷ [])) → write_at ss at bs ≡ o →
          (if c then Some (with_bytes s at bs ∷ ss) else behind s o) ≡ None →
          (if c then Some (with_bytes s at bs ∷ (ss ++ t ∷ [])) else behind s (write_at (ss ++ t ∷ []) at bs)) ≡ Some (s ∷ (ss ++ with_bytes t at bs ∷ []))
      by true o go f e = absurd (cc)
      by false None go f e = ap (behind s) (go f)
      by false (Some ms) go f e = absurd (cc)

  pub write_none : (ss : List Segment) (at : ℕ) (bs : List ℕ) → write_at ss at bs ≡ None → writes t.rights && covers t at (length bs) ≡ false → write_at (ss ++ t ∷ []) at bs ≡ None
  write_none [] at bs e h = rw h refl
  write_none (s ∷ ss) at bs e h = by (writes s.rights && covers s at (length bs)) (write_at ss at bs) (λ f. write_none ss at bs f h) refl e
    where
      by : (c : Bool) (o : Option (List Segment)) → (write_at ss at bs ≡ None → write_at (ss ++ t ∷ []) at bs ≡ None) → write_at ss at bs ≡ o →
          (if c then Some (with_bytes s at bs ∷ ss) else behind s o) ≡ None →
          (if c then Some (with_bytes s at bs ∷ (ss ++ t ∷ [])) else behind s (write_at (ss ++ t ∷ []) at bs)) ≡ None
      by true o go f e = absurd (cc)
      by false None go f e = ap (behind s) (go f)
      by false (Some ms) go f e = absurd (cc)

  pub holds_behind : (right : Rights → Bool) (ss : List Segment) (at n : ℕ) → one_covers right (ss ++ t ∷ []) at n ≡ (one_covers right ss at n || one_covers right (t ∷ []) at n)
  holds_behind right [] at n = refl
  holds_behind right (s ∷ ss) at n = by (right s.rights && covers s at n) (holds_behind right ss at n)
    where
      by : (c : Bool) → one_covers right (ss ++ t ∷ []) at n ≡ (one_covers right ss at n || one_covers right (t ∷ []) at n) →
          (c || one_covers right (ss ++ t ∷ []) at n) ≡ ((c || one_covers right ss at n) || one_covers right (t ∷ []) at n)
      by true go = refl
      by false go = go

  pub get_front : (ss : List Segment) (i : ℕ) (s : Segment) → slice_get ss i ≡ Some s → slice_get (ss ++ t ∷ []) i ≡ Some s
  get_front [] i s e = absurd (cc)
  get_front (x ∷ ss) zero s e = e
  get_front (x ∷ ss) (suc i) s e = get_front ss i s e

  pub get_last : (ss : List Segment) → slice_get (ss ++ t ∷ []) (length ss) ≡ Some t
  get_last [] = refl
  get_last (x ∷ ss) = get_last ss
