-- Links in the order of their offsets, looked up by halving.
use Rattle.std.proofs.Common.{◌≡◌, ℕ, zero, suc, ◌+◌, ◌<◌, ◌≤◌, Bool, true, false, ◌||◌, if◌then◌else◌, List, [], ◌∷◌, length, get_or, Option, Some, None, refl, sym, ◌∙◌, ap, subst, arith}
use Rattle.std.specs.Prelude.{nat_eq, nat_lt, slice_get}
use Rattle.std.specs.List.Sorted.{IsNonDecreasingBy, IsPartitionPoint}
use Rattle.std.proofs.lemmas.Option.{slice_get_within}
use Rattle.std.proofs.lemmas.Bool.{ltb-true, ltb-false, and_parts}
use Rattle.std.proofs.lemmas.Bool.Decides.{nat_tests}
use Rattle.obj_core.specs.declared.object.Link.{Link}
use Rattle.obj_core.specs.Disassembly.{Found}
use Rattle.obj_core.specs.WellFormed.{bad_links, is_linked}
use Rattle.obj_core.specs.SymbolicMachine.{link_before}
use Rattle.obj_core.proofs.Kept.{good_first}

-- where a link's displacement ends
abbrev pub link_end : Link → ℕ
link_end l = l.at + 4

all_behind : (b : ℕ) (xs : List Found) (slots : ℕ) (ls : List Link) → bad_links (Some b) xs slots ls ≡ [] → (j : ℕ) (d : Link) → j < length ls → b < (get_or ls j d).at
all_behind b xs slots [] h j d lt = absurd (omega (arith, lt))
all_behind b xs slots (l ∷ ls) h zero d lt = ltb-true b l.at (and_parts (nat_lt b l.at) _ (good_first (Some b) xs slots l ls h).0).0
all_behind b xs slots (l ∷ ls) h (suc j) d lt =
    let x = good_first (Some b) xs slots l ls h in
    let first = ltb-true b l.at (and_parts (nat_lt b l.at) _ x.0).0 in
    let more = all_behind l.at xs slots ls x.1 j d (omega (arith, lt)) in
    omega (arith, first, more)

-- good links stand one behind the other
pub links_rise : (before : Option ℕ) (xs : List Found) (slots : ℕ) (ls : List Link) → bad_links before xs slots ls ≡ [] → IsNonDecreasingBy link_end ls
links_rise before xs slots [] h i j d le lt = absurd (omega (arith, lt))
links_rise before xs slots (l ∷ ls) h zero zero d le lt = omega arith
links_rise before xs slots (l ∷ ls) h zero (suc j) d le lt =
    let more = all_behind l.at xs slots ls (good_first before xs slots l ls h).1 j d (omega (arith, lt)) in
    omega (arith, more)
links_rise before xs slots (l ∷ ls) h (suc i) zero d le lt = absurd (omega (arith, le))
links_rise before xs slots (l ∷ ls) h (suc i) (suc j) d le lt = links_rise (Some l.at) xs slots ls (good_first before xs slots l ls h).1 i j d (omega (arith, le)) (omega (arith, lt))

-- the link at a place, if its displacement ends here
abbrev pub by_link : Option Link → ℕ → Option ℕ
by_link None end = None
by_link (Some l) end = if nat_eq (l.at + 4) end then Some l.slot else None

none_here : (ls : List Link) (end : ℕ) → ((j : ℕ) (d : Link) → j < length ls → end < (get_or ls j d).at + 4) → None ≡ link_before ls end
none_here [] end h = refl
none_here (l ∷ ls) end h =
    let first : end < l.at + 4 = h 0 l (omega arith) in
    let test : nat_eq (l.at + 4) end ≡ false = grind (arith, nat_tests) in
    none_here ls end (λ j d lt. h (suc j) d (omega (arith, lt))) ∙ sym (ap (λ t. if t then Some l.slot else link_before ls end) test)

by_first : (l : Link) (ls : List Link) (end : ℕ) (t : Bool) → (t ≡ false → None ≡ link_before ls end) → (if t then Some l.slot else None) ≡ (if t then Some l.slot else link_before ls end)
by_first l ls end true h = refl
by_first l ls end false h = h refl

unequal : (a b : ℕ) → nat_eq a b ≡ false → b ≤ a → b < a
unequal a b e le = grind (arith, nat_tests)

looked : (ls : List Link) (end k : ℕ) → IsNonDecreasingBy link_end ls → ((j : ℕ) (d : Link) → j < k → (get_or ls j d).at + 4 < end) → ((l : Link) → slice_get ls k ≡ Some l → end ≤ l.at + 4) → by_link (slice_get ls k) end ≡ link_before ls end
looked [] end k up before here = refl
looked (l ∷ ls) end zero up before here =
    by_first l ls end (nat_eq (l.at + 4) end)
    (λ e. let past = unequal (l.at + 4) end e (here l refl) in none_here ls end (λ j d lt. let more = up 0 (suc j) d (omega arith) (omega (arith, lt)) in omega (arith, past, more)))
looked (l ∷ ls) end (suc k) up before here =
    let first : l.at + 4 < end = before 0 l (omega arith) in
    let test : nat_eq (l.at + 4) end ≡ false = grind (arith, nat_tests) in
    looked ls end k (λ i j d le lt. up (suc i) (suc j) d (omega (arith, le)) (omega (arith, lt))) (λ j d h. before (suc j) d (omega (arith, h))) here ∙
    sym (ap (λ t. if t then Some l.slot else link_before ls end) test)

get_is : (ys : List Link) (j : ℕ) (r : Link) → slice_get ys j ≡ Some r → get_or ys j r ≡ r
get_is [] j r h = refl
get_is (y ∷ ys) zero r h = cc
get_is (y ∷ ys) (suc j) r h = get_is ys j r h

-- the first link that ends here or later tells the slot
pub link_looked : (ls : List Link) (end k : ℕ) → IsNonDecreasingBy link_end ls → k ≤ length ls → IsPartitionPoint (λ (l : Link). nat_lt (l.at + 4) end ≡ true) (λ (l : Link). nat_lt (l.at + 4) end ≡ false) ls k → by_link (slice_get ls k) end ≡ link_before ls end
link_looked ls end k up le point =
    looked ls end k up (λ j d h. ltb-true _ _ (point.0 j d (omega arith) h))
    (λ l h. let within = slice_get_within ls k l h in ltb-false _ _ (subst (λ (x : Link). nat_lt (x.at + 4) end ≡ false) (get_is ls k l h) (point.1 k l (omega arith) within)))

-- a displacement has a link where it leads by one
abbrev pub is_some : Option ℕ → Bool
is_some None = false
is_some (Some k) = true

linked_by : (t : Bool) (k : ℕ) (rest : Option ℕ) (more : Bool) → is_some rest ≡ more → is_some (if t then Some k else rest) ≡ (t || more)
linked_by true k rest more h = refl
linked_by false k rest more h = h

pub linked_is : (ls : List Link) (end : ℕ) → is_some (link_before ls end) ≡ is_linked ls end
linked_is [] end = refl
linked_is (l ∷ ls) end = linked_by (nat_eq (l.at + 4) end) l.slot (link_before ls end) (is_linked ls end) (linked_is ls end)
