-- What stands at the number of a slot once the ends of jumps are noted.
use Rattle.std.proofs.Common.{◌≡◌, ℕ, zero, suc, ◌+◌, ◌<◌, ◌≤◌, Bool, true, false, nat_eq, if◌then◌else◌, List, [], ◌∷◌, ◌++◌, length, drop, get_or, replicate, Option, Some, None, slice_get, slice_set, refl, ap, sym, subst, inl, inr, ◌∙◌, arith}
use Rattle.std.proofs.lemmas.Bool.{eq-eqb, ne_eqb, cases_eq}
use Rattle.std.proofs.lemmas.List.{length-replicate}
use Rattle.obj_core.specs.declared.object.CodeAt.{CodeAt}
use Rattle.obj_core.specs.declared.object.Func.{Func}
use Rattle.obj_core.specs.declared.object.Link.{Link}
use Rattle.obj_core.specs.declared.object.Slot.{Slot}
use Rattle.obj_core.specs.declared.plan.Site.{Site}
use Rattle.obj_core.specs.declared.plan.Slot0.{Slot0}
use Rattle.obj_core.specs.Object.{Each}
use Rattle.obj_rows.specs.Assembled.{ends_in, ends_from, site_of, IsSlotOf, AreSlotsOf}
use Rattle.obj_assemble.specs.Linked.{IsLinkTo}
use Rattle.obj_assemble.specs.Made.{end_or_first, slot_made, slots_made}
use Rattle.obj_assemble.specs.Noted.{noted, all_noted}

-- the last of some ends, or another one
abbrev pub later : List CodeAt → Option CodeAt → Option CodeAt
later [] before = before
later (e ∷ es) before = later es (Some e)

later_both : (xs ys : List CodeAt) (before : Option CodeAt) → later (xs ++ ys) before ≡ later ys (later xs before)
later_both [] ys before = refl
later_both (x ∷ xs) ys before = later_both xs ys (Some x)

set_long : {X : Type 0} (xs : List X) (k : ℕ) (x : X) → length (slice_set xs k x) ≡ length xs
set_long [] k x = refl
set_long (y ∷ xs) zero x = refl
set_long (y ∷ xs) (suc k) x = ap suc (set_long xs k x)

set_here : {X : Type 0} (xs : List X) (k : ℕ) (x old : X) → slice_get xs k ≡ Some old → slice_get (slice_set xs k x) k ≡ Some x
set_here [] k x old there = absurd cc
set_here (y ∷ xs) zero x old there = refl
set_here (y ∷ xs) (suc k) x old there = set_here xs k x old there

set_elsewhere : {X : Type 0} (xs : List X) (k j : ℕ) (x : X) → (k ≡ j → ⊥) → slice_get (slice_set xs k x) j ≡ slice_get xs j
set_elsewhere [] k j x other = refl
set_elsewhere (y ∷ xs) zero zero x other = absurd (other refl)
set_elsewhere (y ∷ xs) zero (suc j) x other = refl
set_elsewhere (y ∷ xs) (suc k) zero x other = refl
set_elsewhere (y ∷ xs) (suc k) (suc j) x other = set_elsewhere xs k j x (λ e. other (ap suc e))

pub noted_long : (n : ℕ) (ls : List Link) (ends : List (Option CodeAt)) → length (noted n ls ends) ≡ length ends
noted_long n [] ends = refl
noted_long n (l ∷ ls) ends = noted_long n ls (slice_set ends l.slot (Some (record { function = n; offset = l.at + 4 }))) ∙ set_long ends l.slot (Some (record { function = n; offset = l.at + 4 }))

pub all_noted_long : (n : ℕ) (fs : List Func) (ends : List (Option CodeAt)) → length (all_noted n fs ends) ≡ length ends
all_noted_long n [] ends = refl
all_noted_long n (f ∷ fs) ends = all_noted_long (suc n) fs (noted n f.links ends) ∙ noted_long n f.links ends

noted_at : (n k : ℕ) (ls : List Link) (ends : List (Option CodeAt)) (e : Option CodeAt) → slice_get ends k ≡ Some e → slice_get (noted n ls ends) k ≡ Some (later (ends_in k n ls) e)
noted_at n k [] ends e there = there
noted_at n k (l ∷ ls) ends e there = elim (cases_eq l.slot k) [
  | inl same ↦
      let new : CodeAt = record { function = n; offset = l.at + 4 } in
      let set = slice_set ends l.slot (Some new) in
      let here : slice_get set k ≡ Some (Some new) = subst (λ j. slice_get (slice_set ends j (Some new)) k ≡ Some (Some new)) (sym same) (set_here ends k (Some new) e there) in
      noted_at n k ls set (Some new) here ∙ ap (λ b. Some (later (if b then new ∷ ends_in k n ls else ends_in k n ls) e)) (sym (eq-eqb l.slot k same))
  | inr other ↦
      let new : CodeAt = record { function = n; offset = l.at + 4 } in
      let set = slice_set ends l.slot (Some new) in
      noted_at n k ls set e (set_elsewhere ends l.slot k (Some new) other ∙ there) ∙ ap (λ b. Some (later (if b then new ∷ ends_in k n ls else ends_in k n ls) e)) (sym (ne_eqb l.slot k other))
]

pub all_noted_at : (n k : ℕ) (fs : List Func) (ends : List (Option CodeAt)) (e : Option CodeAt) → slice_get ends k ≡ Some e → slice_get (all_noted n fs ends) k ≡ Some (later (ends_from k n fs) e)
all_noted_at n k [] ends e there = there
all_noted_at n k (f ∷ fs) ends e there =
    all_noted_at (suc n) k fs (noted n f.links ends) (later (ends_in k n f.links) e) (noted_at n k f.links ends e there)
    ∙ ap Some (sym (later_both (ends_in k n f.links) (ends_from k (suc n) fs) e))

pub none_at : (count k : ℕ) → k < count → let none : Option CodeAt = None in slice_get (replicate count none) k ≡ Some None
none_at zero k below = absurd (omega (arith, below))
none_at (suc count) zero below = refl
none_at (suc count) (suc k) below = none_at count k (omega (arith, below))

-- an only end is the last one
only : (es : List CodeAt) → length es ≡ 1 → es ≡ end_or_first (later es None) ∷ []
only [] one = absurd (let z : zero ≡ 1 = one in omega (arith, z))
only (e ∷ []) one = refl
only (e ∷ d ∷ es) one = absurd (omega (arith, one))

-- so the slots are made as planned
module _ (fs : List Func) where
  slot_is : (k : ℕ) (s : Slot0) (e : Option CodeAt) → e ≡ later (ends_from k 0 fs) None → ((site : Site) → site_of s ≡ Some site → length (ends_from k 0 fs) ≡ 1) → IsSlotOf fs k s (slot_made s e)
  slot_is k (Slot0.Entry target) e is once = refl
  slot_is k (Slot0.Jump target) e is once = refl
  slot_is k (Slot0.Call target site) e is once = (refl, only (ends_from k 0 fs) (once site refl) ∙ ap (λ d. end_or_first d ∷ []) (sym is))
  slot_is k (Slot0.Indirect site) e is once = only (ends_from k 0 fs) (once site refl) ∙ ap (λ d. end_or_first d ∷ []) (sym is)
  slot_is k (Slot0.System site) e is once = only (ends_from k 0 fs) (once site refl) ∙ ap (λ d. end_or_first d ∷ []) (sym is)

  pub slots_are : (first : ℕ) (planned : List Slot0) (ends : List (Option CodeAt)) → length planned ≤ length ends →
      ((i : ℕ) (e : Option CodeAt) → slice_get ends i ≡ Some e → i < length planned → e ≡ later (ends_from (first + i) 0 fs) None) →
      ((i : ℕ) (s : Slot0) (site : Site) → slice_get planned i ≡ Some s → site_of s ≡ Some site → length (ends_from (first + i) 0 fs) ≡ 1) → AreSlotsOf fs first planned (slots_made planned ends)
  slots_are first [] ends few each once = tt
  slots_are first (s ∷ ss) [] few each once = absurd (omega (arith, few))
  slots_are first (s ∷ ss) (e ∷ es) few each once =
      let none : first + 0 ≡ first = omega arith in (
        slot_is first s e (each 0 e refl (omega arith) ∙ ap (λ k. later (ends_from k 0 fs) None) none) (λ site has. ap (λ k. length (ends_from k 0 fs)) (sym none) ∙ once 0 s site refl has),
        slots_are (suc first) ss es (omega (arith, few))
            (λ i d there below. each (suc i) d there (omega (arith, below)) ∙ ap (λ k. later (ends_from k 0 fs) None) (let z : first + suc i ≡ suc first + i = omega arith in z))
            (λ i t site there has. ap (λ k. length (ends_from k 0 fs)) (let z : suc first + i ≡ first + suc i = omega arith in z) ∙ once (suc i) t site there has),
      )

-- from what was noted
pub made_is : (fs : List Func) (planned : List Slot0) (ends : List (Option CodeAt)) → (let none : Option CodeAt = None in ends ≡ all_noted 0 fs (replicate (length planned) none)) →
    ((k : ℕ) (slot : Slot0) (site : Site) → slice_get planned k ≡ Some slot → site_of slot ≡ Some site → length (ends_from k 0 fs) ≡ 1) → AreSlotsOf fs 0 planned (slots_made planned ends)
made_is fs planned ends are once =
    let none : Option CodeAt = None in
    let long : length ends ≡ length planned = ap length are ∙ all_noted_long 0 fs (replicate (length planned) none) ∙ length-replicate (length planned) none in
    slots_are fs 0 planned ends (omega (arith, long))
    (λ i e there below. some_same e (later (ends_from (0 + i) 0 fs) None) (sym there ∙ ap (λ l. slice_get l i) are ∙ all_noted_at 0 i fs (replicate (length planned) none) None (none_at (length planned) i below)
    ∙ ap (λ k. Some (later (ends_from k 0 fs) None)) (let z : i ≡ 0 + i = omega arith in z)))
    (λ i s site there has. ap (λ k. length (ends_from k 0 fs)) (let z : 0 + i ≡ i = omega arith in z) ∙ once i s site there has)
  where
    some_same : (a b : Option CodeAt) → let o : Option (Option CodeAt) = Some a in o ≡ Some b → a ≡ b
    some_same a b e = cc

pub made_long : (fs : List Func) (planned : List Slot0) (ends : List (Option CodeAt)) → (let none : Option CodeAt = None in ends ≡ all_noted 0 fs (replicate (length planned) none)) → length ends ≡ length planned
made_long fs planned ends are = let none : Option CodeAt = None in ap length are ∙ all_noted_long 0 fs (replicate (length planned) none) ∙ length-replicate (length planned) none
