-- Elements of lists that were changed, lengthened and spliced.
use Rattle.std.proofs.Common.{◌≡◌, ◌≢◌, ℕ, zero, suc, ◌+◌, ◌<◌, ◌≤◌, ◌⊎◌, inl, inr, List, [], ◌∷◌, ◌++◌, length, take, drop, Some, slice_get, slice_set, refl, ap, ◌∙◌, subst, arith}

the : (A : Type 0) → A → A
the A a = a

pub get_set_same : {A : Type 0} (xs : List A) (i : ℕ) (x : A) → i < length xs → slice_get (slice_set xs i x) i ≡ Some x
get_set_same [] i x lt = absurd (omega arith)
get_set_same (y ∷ ys) zero x lt = refl
get_set_same (y ∷ ys) (suc i) x lt = get_set_same ys i x (omega arith)

pub get_set_other : {A : Type 0} (xs : List A) (i j : ℕ) (x : A) → i ≢ j → slice_get (slice_set xs i x) j ≡ slice_get xs j
get_set_other [] i j x ne = refl
get_set_other (y ∷ ys) zero zero x ne = absurd (ne refl)
get_set_other (y ∷ ys) zero (suc j) x ne = refl
get_set_other (y ∷ ys) (suc i) zero x ne = refl
get_set_other (y ∷ ys) (suc i) (suc j) x ne = get_set_other ys i j x (λ e. ne (ap suc e))

pub length_set : {A : Type 0} (xs : List A) (i : ℕ) (x : A) → length (slice_set xs i x) ≡ length xs
length_set [] i x = refl
length_set (y ∷ ys) zero x = refl
length_set (y ∷ ys) (suc i) x = ap suc (length_set ys i x)

-- one of a list with one more
pub get_pushed : {A : Type 0} (xs : List A) (x : A) (i : ℕ) (y : A) → slice_get (xs ++ x ∷ []) i ≡ Some y → ((i ≡ length xs) × (x ≡ y)) ⊎ ((i < length xs) × (slice_get xs i ≡ Some y))
get_pushed [] x zero y h = inl (refl, cc)
get_pushed [] x (suc i) y h = absurd (cc)
get_pushed (z ∷ zs) x zero y h = inr (omega arith, h)
get_pushed (z ∷ zs) x (suc i) y h =
    elim (get_pushed zs x i y h) [
      | inl r ↦ inl (ap suc r.0, r.1)
      | inr r ↦ let lt : i < length zs = r.0 in inr (omega arith, r.1)
    ]

pub get_front : {A : Type 0} (xs ys : List A) (i : ℕ) → i < length xs → slice_get (xs ++ ys) i ≡ slice_get xs i
get_front [] ys i lt = absurd (omega arith)
get_front (x ∷ xs) ys zero lt = refl
get_front (x ∷ xs) ys (suc i) lt = get_front xs ys i (omega arith)

pub length_pushed : {A : Type 0} (xs : List A) (x : A) → length (xs ++ x ∷ []) ≡ suc (length xs)
length_pushed [] x = refl
length_pushed (y ∷ ys) x = ap suc (length_pushed ys x)

-- an element of a list in which new ones stand in the place of others from d on
pub data Splits {A : Type 0} (xs new : List A) (d k : ℕ) (c : A) : Type 0 where
  Beside : (k < d) ⊎ (d + length new ≤ k) → slice_get xs k ≡ Some c → Splits xs new d k c
  Within : (j : ℕ) → k ≡ d + j → j < length new → slice_get new j ≡ Some c → Splits xs new d k c

at_front : {A : Type 0} (xs new : List A) (k : ℕ) (c : A) → length new ≤ length xs → slice_get (new ++ drop (length new) xs) k ≡ Some c → Splits xs new 0 k c
at_front xs [] k c le h = Beside (inr (omega arith)) h
at_front [] (n ∷ ns) k c le h = absurd (omega arith)
at_front (x ∷ xs) (n ∷ ns) zero c le h = Within 0 refl (omega arith) h
at_front (x ∷ xs) (n ∷ ns) (suc k) c le h =
    elim (at_front xs ns k c (omega arith) h) [
      | Beside (inl lt) is ↦ absurd (omega arith)
      | Beside (inr past) is ↦ Beside (inr (omega arith)) is
      | Within j e lt is ↦ Within (suc j) (omega (arith, e)) (omega arith) is
    ]

splits_behind : {A : Type 0} (xs new : List A) (d k : ℕ) (c : A) → d + length new ≤ length xs → slice_get (take d xs ++ new ++ drop (length new) (drop d xs)) k ≡ Some c → Splits xs new d k c
splits_behind xs new zero k c le h = at_front xs new k c (omega arith) h
splits_behind [] new (suc d) k c le h = absurd (omega arith)
splits_behind (x ∷ xs) new (suc d) zero c le h = Beside (inl (omega arith)) h
splits_behind (x ∷ xs) new (suc d) (suc k) c le h =
    elim (splits_behind xs new d k c (omega arith) h) [
      | Beside (inl lt) is ↦ Beside (inl (omega arith)) is
      | Beside (inr past) is ↦ Beside (inr (omega arith)) is
      | Within j e lt is ↦ Within j (omega (arith, e)) lt is
    ]

drop_twice : {A : Type 0} (xs : List A) (d n : ℕ) → drop (d + n) xs ≡ drop n (drop d xs)
drop_twice xs zero n = ap (λ k. drop k xs) (the (0 + n ≡ n) (omega arith))
drop_twice [] (suc d) zero = ap (λ k. drop k []) (the (suc d + 0 ≡ suc d) (omega arith))
drop_twice [] (suc d) (suc n) = ap (λ k. drop k []) (the (suc d + suc n ≡ suc (d + suc n)) (omega arith))
drop_twice (x ∷ xs) (suc d) n = ap (λ k. drop k (x ∷ xs)) (the (suc d + n ≡ suc (d + n)) (omega arith)) ∙ drop_twice xs d n

pub splits : {A : Type 0} (xs new : List A) (d k : ℕ) (c : A) → d + length new ≤ length xs → slice_get (take d xs ++ new ++ drop (d + length new) xs) k ≡ Some c → Splits xs new d k c
splits xs new d k c le h = splits_behind xs new d k c le (subst (λ r. slice_get (take d xs ++ new ++ r) k ≡ Some c) (drop_twice xs d (length new)) h)

length_front : {A : Type 0} (xs new : List A) → length new ≤ length xs → length (new ++ drop (length new) xs) ≡ length xs
length_front xs [] le = refl
length_front [] (n ∷ ns) le = absurd (omega arith)
length_front (x ∷ xs) (n ∷ ns) le = ap suc (length_front xs ns (omega arith))

length_behind : {A : Type 0} (xs new : List A) (d : ℕ) → d + length new ≤ length xs → length (take d xs ++ new ++ drop (length new) (drop d xs)) ≡ length xs
length_behind xs new zero le = length_front xs new (omega arith)
length_behind [] new (suc d) le = absurd (omega arith)
length_behind (x ∷ xs) new (suc d) le = ap suc (length_behind xs new d (omega arith))

pub length_spliced : {A : Type 0} (xs new : List A) (d : ℕ) → d + length new ≤ length xs → length (take d xs ++ new ++ drop (d + length new) xs) ≡ length xs
length_spliced xs new d le = ap (λ r. length (take d xs ++ new ++ r)) (drop_twice xs d (length new)) ∙ length_behind xs new d le

get_taken : {A : Type 0} (xs : List A) (n j : ℕ) (c : A) → slice_get (take n xs) j ≡ Some c → (j < n) × (slice_get xs j ≡ Some c)
get_taken xs zero j c h = absurd (cc)
get_taken [] (suc n) j c h = absurd (cc)
get_taken (x ∷ xs) (suc n) zero c h = (omega arith, h)
get_taken (x ∷ xs) (suc n) (suc j) c h = let r = get_taken xs n j c h in let lt : j < n = r.0 in (omega arith, r.1)

get_dropped : {A : Type 0} (xs : List A) (d j : ℕ) (c : A) → slice_get (drop d xs) j ≡ Some c → slice_get xs (d + j) ≡ Some c
get_dropped xs zero j c h = subst (λ k. slice_get xs k ≡ Some c) (the (j ≡ 0 + j) (omega arith)) h
get_dropped [] (suc d) j c h = absurd (cc)
get_dropped (x ∷ xs) (suc d) j c h = subst (λ k. slice_get (x ∷ xs) k ≡ Some c) (the (suc (d + j) ≡ suc d + j) (omega arith)) (get_dropped xs d j c h)

-- an element of a range
pub get_range : {A : Type 0} (xs : List A) (d n j : ℕ) (c : A) → slice_get (take n (drop d xs)) j ≡ Some c → (j < n) × (slice_get xs (d + j) ≡ Some c)
get_range xs d n j c h = let r = get_taken (drop d xs) n j c h in (r.0, get_dropped xs d j c r.1)

length_taken : {A : Type 0} (xs : List A) (n : ℕ) → n ≤ length xs → length (take n xs) ≡ n
length_taken xs zero le = refl
length_taken [] (suc n) le = absurd (omega arith)
length_taken (x ∷ xs) (suc n) le = ap suc (length_taken xs n (omega arith))

pub length_range : {A : Type 0} (xs : List A) (d n : ℕ) → d + n ≤ length xs → length (take n (drop d xs)) ≡ n
length_range xs zero n le = length_taken xs n (omega arith)
length_range [] (suc d) zero le = refl
length_range [] (suc d) (suc n) le = absurd (omega arith)
length_range (x ∷ xs) (suc d) n le = length_range xs d n (omega arith)
