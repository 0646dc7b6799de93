-- A write changes the first segment that may be written and covers its range, and no other.
use Rattle.std.proofs.Common.{◌≡◌, ℕ, ◌<◌, zero, suc, Bool, true, false, ◌&&◌, List, [], ◌∷◌, length, Option, Some, None, refl, ap, ◌∙◌, arith, if◌then◌else◌, slice_set, option_map, get_or}
use Rattle.x86_core.specs.declared.image.Segment.{Segment}
use Rattle.x86_core.specs.Memory.{writes, covers, write_at, with_bytes, behind}
use Rattle.xom_memory.specs.Access.{place_of}

pub place_within : (ss : List Segment) (at n i : ℕ) → place_of ss at n ≡ Some i → i < length ss
place_within [] at n i e = absurd (cc)
place_within (s ∷ ss) at n i e = by (writes s.rights && covers s at n) (place_of ss at n) (place_within ss at n) refl e
  where
    by : (c : Bool) (o : Option ℕ) → ((k : ℕ) → place_of ss at n ≡ Some k → k < length ss) → place_of ss at n ≡ o → (if c then Some 0 else option_map suc o) ≡ Some i → i < suc (length ss)
    by true o go f e = let same : 0 ≡ i = cc in omega arith
    by false None go f e = absurd (cc)
    by false (Some k) go f e = let same : suc k ≡ i = cc in let h : k < length ss = go k f in omega arith

pub placed_holds : (ss : List Segment) (at n i : ℕ) (d : Segment) → place_of ss at n ≡ Some i → covers (get_or ss i d) at n ≡ true
placed_holds [] at n i d e = absurd (cc)
placed_holds (x ∷ ss) at n i d e = by (writes x.rights) (covers x at n) refl (place_of ss at n) i (λ k. placed_holds ss at n k d) refl e
  where
    by : (w h : Bool) → covers x at n ≡ h → (o : Option ℕ) (i : ℕ) → ((k : ℕ) → place_of ss at n ≡ Some k → covers (get_or ss k d) at n ≡ true) → place_of ss at n ≡ o →
        (if w && h then Some 0 else option_map suc o) ≡ Some i → covers (get_or (x ∷ ss) i d) at n ≡ true
    by true true he o zero go f e = he
    by true true he o (suc i) go f e = absurd (cc)
    by true false he None i go f e = absurd (cc)
    by true false he (Some k) zero go f e = absurd (cc)
    by true false he (Some k) (suc i) go f e = go i (let same : k ≡ i = cc in f ∙ ap Some same)
    by false h he None i go f e = absurd (cc)
    by false h he (Some k) zero go f e = absurd (cc)
    by false h he (Some k) (suc i) go f e = go i (let same : k ≡ i = cc in f ∙ ap Some same)

pub write_unplaced : (ss : List Segment) (at : ℕ) (bs : List ℕ) → place_of ss at (length bs) ≡ None → write_at ss at bs ≡ None
write_unplaced [] at bs e = refl
write_unplaced (s ∷ ss) at bs e = by (writes s.rights && covers s at (length bs)) (place_of ss at (length bs)) (write_unplaced ss at bs) refl e
  where
    by : (c : Bool) (o : Option ℕ) → (place_of ss at (length bs) ≡ None → write_at ss at bs ≡ None) → place_of ss at (length bs) ≡ o → (if c then Some 0 else option_map suc o) ≡ None →
        (if c then Some (with_bytes s at bs ∷ ss) else behind s (write_at ss at bs)) ≡ None
    by true o go f e = absurd (cc)
    by false None go f e = ap (behind s) (go f)
    by false (Some k) go f e = absurd (cc)

pub write_placed : (ss : List Segment) (at : ℕ) (bs : List ℕ) (i : ℕ) (d : Segment) → place_of ss at (length bs) ≡ Some i → write_at ss at bs ≡ Some (slice_set ss i (with_bytes (get_or ss i d) at bs))
write_placed [] at bs i d e = absurd (cc)
write_placed (x ∷ ss) at bs i d e = by (writes x.rights && covers x at (length bs)) (place_of ss at (length bs)) i (λ k. write_placed ss at bs k d) refl e
  where
    by : (c : Bool) (o : Option ℕ) (i : ℕ) → ((k : ℕ) → place_of ss at (length bs) ≡ Some k → write_at ss at bs ≡ Some (slice_set ss k (with_bytes (get_or ss k d) at bs))) → place_of ss at (length bs) ≡ o →
        (if c then Some 0 else option_map suc o) ≡ Some i →
        (if c then Some (with_bytes x at bs ∷ ss) else behind x (write_at ss at bs)) ≡ Some (slice_set (x ∷ ss) i (with_bytes (get_or (x ∷ ss) i d) at bs))
    by true o zero go f e = refl
    by true o (suc i) go f e = absurd (cc)
    by false None i go f e = absurd (cc)
    by false (Some k) zero go f e = absurd (cc)
    by false (Some k) (suc i) go f e = let same : k ≡ i = cc in ap (behind x) (go i (f ∙ ap Some same))
