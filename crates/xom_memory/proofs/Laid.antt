-- What pages hold: one page between those below and those behind it, reads and writes of a part of it, and one page more.
use Rattle.std.proofs.Common.{◌≡◌, ℕ, ◌+◌, ◌-◌, ◌*◌, ◌/◌, ◌%◌, ◌<◌, ◌≤◌, zero, suc, true, List, [], ◌∷◌, ◌++◌, length, take, drop, set, get_or, Option, Some, None, ◌⊎◌, inl, inr, refl, ap, sym, ◌∙◌, subst, arith, append_assoc, append-nil, length-append, length-take, length-drop}
use Rattle.std.specs.Prelude.{replicate}
use Rattle.std.specs.Option.{is_some}
use Rattle.std.proofs.lemmas.List.{length-replicate, take-append-drop, replicate-append-replicate, length-take-le, take_all, take-replicate, drop-replicate, take_at, take-append-le, drop-append-le, drop-drop, get_or-set_same, get_or_default, drop-set-lt, take-set}
use Rattle.std.proofs.lemmas.Bool.{cases_lt}
use Rattle.std.proofs.Math.Seq.{take-append-add, drop-append-add, take-add}
use Rattle.x86_core.specs.Data.{stack_bytes}
use Rattle.xom_memory.specs.Pages.{zeros, put_at, page_bytes, page_at, is_made, laid, page_of, stack_pages}

-- zeros
pub length_zeros : (n : ℕ) → length (zeros n) ≡ n
unfolding zeros
length_zeros n = length-replicate n 0

zeros_add : (a b : ℕ) → zeros a ++ zeros b ≡ zeros (a + b)
unfolding zeros
zeros_add a b = replicate-append-replicate a b 0

zeros_none : zeros 0 ≡ []
unfolding zeros
zeros_none = refl

pub zeros_part : (n o c : ℕ) → o + c ≤ n → take c (drop o (zeros n)) ≡ replicate c 0
unfolding zeros
zeros_part n o c h = ap (take c) (drop-replicate o n 0) ∙ take-replicate c (n - o) 0 (omega arith)

-- one page
pub length_page : (p : Option (List ℕ)) → length (page_bytes p) ≡ 4096
unfolding page_bytes
length_page None = length_zeros 4096
length_page (Some b) = length-take-le 4096 (b ++ zeros 4096) (omega (arith, length-append b (zeros 4096), length_zeros 4096))

pub page_is : (b : List ℕ) → length b ≡ 4096 → page_bytes (Some b) ≡ b
unfolding page_bytes
page_is b h = take_at b (zeros 4096) 4096 h

pub none_is : page_bytes None ≡ zeros 4096
unfolding page_bytes
none_is = refl

pub new_page : page_bytes (Some (zeros 4096)) ≡ page_bytes None
new_page = page_is (zeros 4096) (length_zeros 4096) ∙ sym none_is

pub made_part : (b : List ℕ) (o c : ℕ) → length b ≡ 4096 → take c (drop o (page_bytes (Some b))) ≡ take c (drop o b)
made_part b o c h = ap (λ x. take c (drop o x)) (page_is b h)

pub unmade_part : (o c : ℕ) → o + c ≤ 4096 → take c (drop o (page_bytes None)) ≡ replicate c 0
unmade_part o c h = ap (λ x. take c (drop o x)) none_is ∙ zeros_part 4096 o c h

pub put_page : (b : List ℕ) (o : ℕ) (bs : List ℕ) → length b ≡ 4096 → o + length bs ≤ 4096 → page_bytes (Some (put_at b o bs)) ≡ put_at (page_bytes (Some b)) o bs
put_page b o bs h k = page_is (put_at b o bs) same ∙ ap (λ x. put_at x o bs) (sym (page_is b h))
  where
    same : length (put_at b o bs) ≡ 4096
    same = omega (arith, length-append (take o b) (bs ++ drop (o + length bs) b), length-append bs (drop (o + length bs) b), length-take o b, length-drop (o + length bs) b)

nothing : (k : ℕ) → take {A = Option (List ℕ)} k [] ≡ []
nothing zero = refl
nothing (suc k) = refl

-- the pages below one, it, and those behind it
pub parts : (es : List (Option (List ℕ))) (k below n : ℕ) → below + suc k ≡ n → laid n es ≡ laid below (drop (suc k) es) ++ (page_bytes (page_at es k) ++ laid k (take k es))
unfolding laid
parts [] k below n e =
    let inner : page_bytes None ++ laid k (take k []) ≡ zeros (4096 + 4096 * k) = ap (λ p. p ++ laid k (take k [])) none_is ∙ ap (λ x. zeros 4096 ++ laid k x) (nothing k) ∙ zeros_add 4096 (4096 * k) in
    sym (ap (λ x. zeros (4096 * below) ++ x) inner ∙ zeros_add (4096 * below) (4096 + 4096 * k) ∙ ap zeros (omega arith))
parts (p ∷ ps) k below zero e = absurd (omega arith)
parts (p ∷ ps) zero below (suc n) e =
    let same : n ≡ below = omega arith in
    ap (λ m. laid m ps ++ page_bytes p) same ∙ ap (λ x. laid below ps ++ x) (sym (append-nil (page_bytes p)) ∙ ap (λ x. page_bytes p ++ x) (sym zeros_none))
parts (p ∷ ps) (suc k) below (suc n) e =
    ap (λ x. x ++ page_bytes p) (parts ps k below n (omega arith)) ∙ append_assoc (laid below (drop (suc k) ps)) (page_bytes (page_at ps k) ++ laid k (take k ps)) (page_bytes p)
    ∙ ap (λ x. laid below (drop (suc k) ps) ++ x) (append_assoc (page_bytes (page_at ps k)) (laid k (take k ps)) (page_bytes p))

pub length_laid : (n : ℕ) (es : List (Option (List ℕ))) → length (laid n es) ≡ 4096 * n
unfolding laid
length_laid n [] = length_zeros (4096 * n)
length_laid zero (p ∷ ps) = refl
length_laid (suc n) (p ∷ ps) = omega (arith, length-append (laid n ps) (page_bytes p), length_laid n ps, length_page p)

-- a part of the middle one of three lists
in_middle : (a p b : List ℕ) (o c : ℕ) → o + c ≤ length p → take c (drop (length a + o) (a ++ (p ++ b))) ≡ take c (drop o p)
in_middle a p b o c h =
    ap (take c) (drop-append-add a (p ++ b) o ∙ drop-append-le o p b (omega arith)) ∙ take-append-le c (drop o p) b (omega (arith, length-drop o p))

put_middle : (a p b bs : List ℕ) (o : ℕ) → o + length bs ≤ length p → a ++ (put_at p o bs ++ b) ≡ put_at (a ++ (p ++ b)) (length a + o) bs
put_middle a p b bs o h = sym (
    ap (λ x. x ++ (bs ++ drop (length a + o + length bs) (a ++ (p ++ b)))) front
    ∙ ap (λ x. (a ++ take o p) ++ (bs ++ x)) back
    ∙ append_assoc a (take o p) (bs ++ (drop (o + length bs) p ++ b))
    ∙ ap (λ x. a ++ x) (ap (λ x. take o p ++ x) (sym (append_assoc bs (drop (o + length bs) p) b)) ∙ sym (append_assoc (take o p) (bs ++ drop (o + length bs) p) b)))
  where
    front : take (length a + o) (a ++ (p ++ b)) ≡ a ++ take o p
    front = take-append-add a (p ++ b) o ∙ ap (λ x. a ++ x) (take-append-le o p b (omega arith))

    back : drop (length a + o + length bs) (a ++ (p ++ b)) ≡ drop (o + length bs) p ++ b
    back = let e : length a + o + length bs ≡ length a + (o + length bs) = omega arith in
        ap (λ n. drop n (a ++ (p ++ b))) e ∙ drop-append-add a (p ++ b) (o + length bs) ∙ drop-append-le (o + length bs) p b h

-- a read of a part of one page, and a write to it
pub read_laid : (es : List (Option (List ℕ))) (n from c : ℕ) → 0 < c → from + c ≤ 4096 * n → c ≤ 4096 - from % 4096 →
    take c (drop from (laid n es)) ≡ take c (drop (from % 4096) (page_bytes (page_at es (n - 1 - from / 4096))))
read_laid es n from c some h k =
    let q : ℕ = from / 4096 in
    let o : ℕ = from % 4096 in
    let j : ℕ = n - 1 - from / 4096 in
    let e : from / 4096 + suc (n - 1 - from / 4096) ≡ n = omega arith in
    let len : length (laid (from / 4096) (drop (suc (n - 1 - from / 4096)) es)) ≡ 4096 * (from / 4096) = length_laid (from / 4096) (drop (suc (n - 1 - from / 4096)) es) in
    let at : from ≡ length (laid (from / 4096) (drop (suc (n - 1 - from / 4096)) es)) + from % 4096 = omega arith in
    ap (λ x. take c (drop from x)) (parts es (n - 1 - from / 4096) (from / 4096) n e)
    ∙ ap (λ i. take c (drop i (laid (from / 4096) (drop (suc (n - 1 - from / 4096)) es) ++ (page_bytes (page_at es (n - 1 - from / 4096)) ++ laid (n - 1 - from / 4096) (take (n - 1 - from / 4096) es))))) at
    ∙ in_middle (laid (from / 4096) (drop (suc (n - 1 - from / 4096)) es)) (page_bytes (page_at es (n - 1 - from / 4096))) (laid (n - 1 - from / 4096) (take (n - 1 - from / 4096) es)) (from % 4096) c (omega (arith, length_page (page_at es (n - 1 - from / 4096))))

pub read_one : (es : List (Option (List ℕ))) (n from c len : ℕ) (new rest : List ℕ) → 0 < c → from + c ≤ 4096 * n → c ≤ 4096 - from % 4096 → len ≡ c →
    new ≡ take len (drop (from % 4096) (page_bytes (page_at es (n - 1 - from / 4096)))) → take c (new ++ rest) ≡ take c (drop from (laid n es))
read_one es n from c len new rest some h k is e =
    let page : length (page_bytes (page_at es (n - 1 - from / 4096))) ≡ 4096 = length_page (page_at es (n - 1 - from / 4096)) in
    let part : new ≡ take c (drop (from % 4096) (page_bytes (page_at es (n - 1 - from / 4096)))) = e ∙ ap (λ m. take m (drop (from % 4096) (page_bytes (page_at es (n - 1 - from / 4096))))) is in
    let count : length new ≡ c = ap length part ∙ length-take-le c (drop (from % 4096) (page_bytes (page_at es (n - 1 - from / 4096)))) (omega (arith, length-drop (from % 4096) (page_bytes (page_at es (n - 1 - from / 4096))))) in
    take_at new rest c count ∙ part ∙ sym (read_laid es n from c some h k)

put_laid_at : (es : List (Option (List ℕ))) (n from q o k : ℕ) (new : Option (List ℕ)) (bs : List ℕ) → q + suc k ≡ n → from ≡ 4096 * q + o → k < length es → o + length bs ≤ 4096 →
    page_bytes new ≡ put_at (page_bytes (page_at es k)) o bs → laid n (set es k new) ≡ put_at (laid n es) from bs
put_laid_at es n from q o k new bs e at within fits is =
    let a : List ℕ = laid q (drop (suc k) es) in
    let b : List ℕ = laid k (take k es) in
    let p : List ℕ = page_bytes (page_at es k) in
    let len : length (laid q (drop (suc k) es)) ≡ 4096 * q = length_laid q (drop (suc k) es) in
    let place : length (laid q (drop (suc k) es)) + o ≡ from = omega arith in
    parts (set es k new) k q n e
    ∙ ap (λ x. laid q x ++ (page_bytes (page_at (set es k new) k) ++ laid k (take k (set es k new)))) (drop-set-lt (suc k) es k new (omega arith))
    ∙ ap (λ x. laid q (drop (suc k) es) ++ (page_bytes x ++ laid k (take k (set es k new)))) (get_or-set_same es k new None within)
    ∙ ap (λ x. laid q (drop (suc k) es) ++ (page_bytes new ++ laid k x)) (take-set es k new)
    ∙ ap (λ x. laid q (drop (suc k) es) ++ (x ++ laid k (take k es))) is
    ∙ put_middle (laid q (drop (suc k) es)) (page_bytes (page_at es k)) (laid k (take k es)) bs o (omega (arith, length_page (page_at es k)))
    ∙ ap (λ x. put_at x (length (laid q (drop (suc k) es)) + o) bs) (sym (parts es k q n e))
    ∙ ap (λ i. put_at (laid n es) i bs) place

pub put_laid : (es : List (Option (List ℕ))) (n from : ℕ) (new d : Option (List ℕ)) (bs : List ℕ) → 0 < length bs → from + length bs ≤ 4096 * n → n - 1 - from / 4096 < length es → length bs ≤ 4096 - from % 4096 →
    page_bytes new ≡ put_at (page_bytes (get_or es (n - 1 - from / 4096) d)) (from % 4096) bs → laid n (set es (n - 1 - from / 4096) new) ≡ put_at (laid n es) from bs
put_laid es n from new d bs some h within fits is =
    put_laid_at es n from (from / 4096) (from % 4096) (n - 1 - from / 4096) new bs (omega arith) (omega arith) within (omega arith)
    (is ∙ ap (λ x. put_at (page_bytes x) (from % 4096) bs) (get_or_default es (n - 1 - from / 4096) d None within))

-- a page with the same bytes, and one more that isn't made
pub same_laid : (es : List (Option (List ℕ))) (n k : ℕ) (new d : Option (List ℕ)) → k < length es → page_bytes new ≡ page_bytes (get_or es k d) → laid n (set es k new) ≡ laid n es
unfolding laid
same_laid [] n k new d h e = absurd (omega arith)
same_laid (p ∷ ps) zero zero new d h e = refl
same_laid (p ∷ ps) zero (suc k) new d h e = refl
same_laid (p ∷ ps) (suc n) zero new d h e = ap (λ x. laid n ps ++ x) e
same_laid (p ∷ ps) (suc n) (suc k) new d h e = ap (λ x. x ++ page_bytes p) (same_laid ps n k new d (omega arith) e)

pub longer_laid : (es : List (Option (List ℕ))) (n : ℕ) → length es < n → laid n (es ++ None ∷ []) ≡ laid n es
unfolding laid
longer_laid [] zero h = absurd (omega arith)
longer_laid [] (suc n) h = ap (λ x. zeros (4096 * n) ++ x) none_is ∙ zeros_add (4096 * n) 4096 ∙ ap zeros (omega arith)
longer_laid (p ∷ ps) zero h = absurd (omega arith)
longer_laid (p ∷ ps) (suc n) h = ap (λ x. x ++ page_bytes p) (longer_laid ps n (omega arith))

-- which pages are made
pub made_within : (es : List (Option (List ℕ))) (k : ℕ) → is_made es k ≡ true → k < length es
made_within [] k e = absurd (cc)
made_within (p ∷ ps) zero e = omega arith
made_within (p ∷ ps) (suc k) e = let h : k < length ps = made_within ps k e in omega arith

pub stays_made : (es : List (Option (List ℕ))) (k : ℕ) (new : Option (List ℕ)) → is_some new ≡ true → (j : ℕ) → is_made es j ≡ true → is_made (set es k new) j ≡ true
stays_made [] k new s j e = e
stays_made (p ∷ ps) zero new s zero e = s
stays_made (p ∷ ps) zero new s (suc j) e = e
stays_made (p ∷ ps) (suc k) new s zero e = e
stays_made (p ∷ ps) (suc k) new s (suc j) e = stays_made ps k new s j e

pub is_made_now : (es : List (Option (List ℕ))) (k : ℕ) (new : Option (List ℕ)) → k < length es → is_some new ≡ true → is_made (set es k new) k ≡ true
is_made_now es k new h s = ap is_some (get_or-set_same es k new None h) ∙ s

pub made_some : (es : List (Option (List ℕ))) (k : ℕ) (d : Option (List ℕ)) → is_made es k ≡ true → is_some (get_or es k d) ≡ true
made_some es k d e = ap is_some (get_or_default es k d None (made_within es k e)) ∙ e

pub one_more_made : (es : List (Option (List ℕ))) (k low : ℕ) (new : Option (List ℕ)) → k < length es → is_some new ≡ true → ((j : ℕ) → low ≤ j → j < k → is_made es j ≡ true) → (j : ℕ) → low ≤ j → j < k + 1 → is_made (set es k new) j ≡ true
one_more_made es k low new h s before j l b = by (cases_lt j k)
  where
    by : (j < k) ⊎ (k ≤ j) → is_made (set es k new) j ≡ true
    by (inl c) = stays_made es k new s j (before j l c)
    by (inr c) = let e : k ≡ j = omega arith in subst (λ n. is_made (set es k new) n ≡ true) e (is_made_now es k new h s)

-- where the pages of a range stand in the list
pub page_range : (n from len i : ℕ) → from + len ≤ 4096 * n → i < len → (n - 1 - (from + len - 1) / 4096 ≤ page_of n (from + i)) × (page_of n (from + i) < n - from / 4096)
page_range n from len i h k = (omega arith, omega arith)

-- one part more of a read, and of a write
pub read_more : (out new rest bytes : List ℕ) (from done c : ℕ) → done ≤ length out → c ≤ length new → take done out ≡ take done (drop from bytes) → take c new ≡ take c (drop (from + done) bytes) →
    take (done + c) (take done out ++ (new ++ rest)) ≡ take (done + c) (drop from bytes)
read_more out new rest bytes from done c h k e f =
    let len : length (take done out) ≡ done = length-take-le done out h in
    ap (λ n. take (n + c) (take done out ++ (new ++ rest))) (sym len) ∙ take-append-add (take done out) (new ++ rest) c
    ∙ ap (λ x. take done out ++ x) (take-append-le c new rest k ∙ f ∙ ap (take c) (sym (drop-drop done from bytes)))
    ∙ ap (λ x. x ++ take c (drop done (drop from bytes))) e ∙ sym (take-add done c (drop from bytes))

put_put : (b s t : List ℕ) (at : ℕ) → at ≤ length b → put_at (put_at b at s) (at + length s) t ≡ put_at b at (s ++ t)
put_put b s t at h =
    ap (λ x. x ++ (t ++ drop (at + length s + length t) (put_at b at s))) front
    ∙ ap (λ x. (take at b ++ s) ++ (t ++ x)) back
    ∙ append_assoc (take at b) s (t ++ drop (at + length (s ++ t)) b)
    ∙ ap (λ x. take at b ++ x) (sym (append_assoc s t (drop (at + length (s ++ t)) b)))
  where
    len : length (take at b) ≡ at
    len = length-take-le at b h

    whole : put_at b at s ≡ (take at b ++ s) ++ drop (at + length s) b
    whole = sym (append_assoc (take at b) s (drop (at + length s) b))

    count : length (take at b ++ s) ≡ at + length s
    count = length-append (take at b) s ∙ ap (λ n. n + length s) len

    front : take (at + length s) (put_at b at s) ≡ take at b ++ s
    front = ap (take (at + length s)) whole ∙ take_at (take at b ++ s) (drop (at + length s) b) (at + length s) count

    back : drop (at + length s + length t) (put_at b at s) ≡ drop (at + length (s ++ t)) b
    back = ap (drop (at + length s + length t)) whole ∙ ap (λ n. drop (n + length t) ((take at b ++ s) ++ drop (at + length s) b)) (sym count)
        ∙ drop-append-add (take at b ++ s) (drop (at + length s) b) (length t) ∙ drop-drop (length t) (at + length s) b
        ∙ ap (λ n. drop n b) (let e : length (s ++ t) ≡ length s + length t = length-append s t in omega arith)

pub put_more : (b bytes : List ℕ) (from done c : ℕ) → from ≤ length b → done ≤ length bytes → put_at (put_at b from (take done bytes)) (from + done) (take c (drop done bytes)) ≡ put_at b from (take (done + c) bytes)
put_more b bytes from done c h k =
    let len : length (take done bytes) ≡ done = length-take-le done bytes k in
    ap (λ n. put_at (put_at b from (take done bytes)) (from + n) (take c (drop done bytes))) (sym len)
    ∙ put_put b (take done bytes) (take c (drop done bytes)) from h ∙ ap (put_at b from) (sym (take-add done c bytes))

pub put_nothing : (b : List ℕ) (at : ℕ) → put_at b at [] ≡ b
put_nothing b at = ap (λ n. take at b ++ drop n b) (let e : at + 0 ≡ at = omega arith in e) ∙ take-append-drop at b

-- no page is made
pub new_stack : laid stack_pages [] ≡ stack_bytes
unfolding laid zeros stack_bytes
new_stack = refl

-- the pages before all those in the list, and one page by its index from the lowest
pub blank_front : (n : ℕ) (es : List (Option (List ℕ))) → take (4096 * (n - length es)) (laid n es) ≡ zeros (4096 * (n - length es))
unfolding laid
blank_front n [] = let e : n - 0 ≡ n = omega arith in ap (λ m. take (4096 * m) (zeros (4096 * n))) e ∙ take_all (4096 * n) (zeros (4096 * n)) (omega (arith, length_zeros (4096 * n))) ∙ ap (λ m. zeros (4096 * m)) (sym e)
blank_front zero (p ∷ ps) = let e : 4096 * (zero - suc (length ps)) ≡ 0 = omega arith in ap (λ m. take m []) e ∙ sym zeros_none ∙ ap zeros (sym e)
blank_front (suc n) (p ∷ ps) =
    let e : suc n - suc (length ps) ≡ n - length ps = omega arith in
    ap (λ m. take (4096 * m) (laid n ps ++ page_bytes p)) e ∙ take-append-le (4096 * (n - length ps)) (laid n ps) (page_bytes p) (omega (arith, length_laid n ps)) ∙ blank_front n ps ∙ ap (λ m. zeros (4096 * m)) (sym e)

pub page_laid : (es : List (Option (List ℕ))) (n i : ℕ) → i < n → take 4096 (drop (4096 * i) (laid n es)) ≡ page_bytes (page_at es (n - 1 - i))
page_laid es n i h =
    let e : i + suc (n - 1 - i) ≡ n = omega arith in
    let len : length (laid i (drop (suc (n - 1 - i)) es)) ≡ 4096 * i = length_laid i (drop (suc (n - 1 - i)) es) in
    let at : 4096 * i ≡ length (laid i (drop (suc (n - 1 - i)) es)) + 0 = omega arith in
    ap (λ x. take 4096 (drop (4096 * i) x)) (parts es (n - 1 - i) i n e)
    ∙ ap (λ m. take 4096 (drop m (laid i (drop (suc (n - 1 - i)) es) ++ (page_bytes (page_at es (n - 1 - i)) ++ laid (n - 1 - i) (take (n - 1 - i) es))))) at
    ∙ in_middle (laid i (drop (suc (n - 1 - i)) es)) (page_bytes (page_at es (n - 1 - i))) (laid (n - 1 - i) (take (n - 1 - i) es)) 0 4096 (omega (arith, length_page (page_at es (n - 1 - i))))
    ∙ take_all 4096 (page_bytes (page_at es (n - 1 - i))) (omega (arith, length_page (page_at es (n - 1 - i))))

pub no_zeros : (bytes : List ℕ) → take (4096 * 0) bytes ≡ zeros (4096 * 0)
no_zeros bytes = sym zeros_none
