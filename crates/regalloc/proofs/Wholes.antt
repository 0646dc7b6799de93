-- Homes of registers that are taken to be in use in all of a function.
use Rattle.std.proofs.Common.{◌≡◌, ℕ, zero, suc, ◌+◌, ◌<◌, inl, inr, Bool, true, false, List, [], ◌∷◌, ◌++◌, length, map, get_or, Some, Result, Ok, Err, IfOk, slice_get, refl, ap, sym, ◌∙◌, subst, arith}
use Rattle.std.proofs.lemmas.Bool.{cases_eq}
use Rattle.std.proofs.lemmas.Option.{slice_get-get_or, slice_get_within}
use Rattle.low_core.specs.declared.sel.Home.{Home}
use Rattle.low_core.specs.declared.sel.Home.TheVariants.{Frame}
use Rattle.low_core.specs.declared.sel.SelFun.{SelFun}
use Rattle.low_core.specs.Liveness.{InRange}
use Rattle.regalloc.specs.declared.range.Range.{Range}
use Rattle.regalloc.specs.Allocated.{Each, HasAll, AreApartIn, AreColorsOf, AreFramesOf}
use Rattle.regalloc.specs.Occurs.{TellsOccurring}
use Rattle.regalloc.specs.Ranges.{HasRange, IsRanged, Covers, AreRanges, AreSeparate, AreOwnFrames, AreGapless, IsOrder}
use Rattle.regalloc.specs.Whole.{range_where, AreListed}
use Rattle.regalloc.proofs.Lists.{get_pushed, get_front, get_last, length_pushed}
use Rattle.regalloc.proofs.Members.{occurs_one, one_occurs, touched_occurs}

-- one more register that is marked, or that isn't
pub listed_more : (seen : List Bool) (r : ℕ) (order : List ℕ) → AreListed seen r order → r < length seen → get_or seen r false ≡ true → AreListed seen (r + 1) (order ++ r ∷ [])
listed_more seen r order l lt is = record { marked = marked; once = once; whole = whole }
  where
    marked : (j x : ℕ) → slice_get (order ++ r ∷ []) j ≡ Some x → (x < r + 1) × (slice_get seen x ≡ Some true)
    marked j x h = elim (get_pushed order r j x h) [
      | inl last ↦ let same : r ≡ x = last.1 in (omega arith, subst (λ n. slice_get seen n ≡ Some true) same (slice_get-get_or seen r false lt ∙ ap Some is))
      | inr old ↦ let m = l.marked j x old.1 in let less : x < r = m.0 in (omega arith, m.1)
    ]

    once : (j k x : ℕ) → slice_get (order ++ r ∷ []) j ≡ Some x → slice_get (order ++ r ∷ []) k ≡ Some x → j ≡ k
    once j k x h g = elim (get_pushed order r j x h) [
      | inl a ↦ elim (get_pushed order r k x g) [
        | inl b ↦ a.0 ∙ sym b.0
        | inr b ↦ let less : x < r = (l.marked k x b.1).0 in let same : r ≡ x = a.1 in absurd (omega arith)
      ]
      | inr a ↦ elim (get_pushed order r k x g) [
        | inl b ↦ let less : x < r = (l.marked j x a.1).0 in let same : r ≡ x = b.1 in absurd (omega arith)
        | inr b ↦ l.once j k x a.1 b.1
      ]
    ]

    whole : (x : ℕ) → x < r + 1 → slice_get seen x ≡ Some true → (j : ℕ) × (slice_get (order ++ r ∷ []) j ≡ Some x)
    whole x less h = elim (cases_eq r x) [
      | inl e ↦ (length order, get_last order r ∙ ap Some e)
      | inr ne ↦ let w = l.whole x (omega arith) h in (w.0, get_front order (r ∷ []) w.0 (slice_get_within order w.0 x w.1) ∙ w.1)
    ]

pub listed_same : (seen : List Bool) (r : ℕ) (order : List ℕ) → AreListed seen r order → r < length seen → get_or seen r false ≡ false → AreListed seen (r + 1) order
listed_same seen r order l lt is = record {
  marked = λ j x h. let m = l.marked j x h in let less : x < r = m.0 in (omega arith, m.1);
  once = l.once;
  whole = whole;
}
  where
    whole : (x : ℕ) → x < r + 1 → slice_get seen x ≡ Some true → (j : ℕ) × (slice_get order j ≡ Some x)
    whole x less h = elim (cases_eq r x) [
      | inl e ↦ let no : slice_get seen x ≡ Some false = subst (λ n. slice_get seen n ≡ Some false) e (slice_get-get_or seen r false lt ∙ ap Some is) in absurd (cc)
      | inr ne ↦ l.whole x (omega arith) h
    ]

-- the range of a register that is marked
ranged_marked : (seen : List Bool) (x : ℕ) (a : Range) → HasRange (map range_where seen) x a → (slice_get seen x ≡ Some true) × ((a.low ≡ 0) × (a.high ≡ 0))
ranged_marked [] x a h = absurd (cc)
ranged_marked (true ∷ bs) zero a h = let z : Range = record { low = 0; high = 0 } in let same : a ≡ z = cc in (refl, (ap (λ (q : Range). q.low) same, ap (λ (q : Range). q.high) same))
ranged_marked (false ∷ bs) zero a h = absurd (cc)
ranged_marked (b ∷ bs) (suc x) a h = ranged_marked bs x a h

marked_ranged : (seen : List Bool) (x : ℕ) → slice_get seen x ≡ Some true → HasRange (map range_where seen) x (record { low = 0; high = 0 })
marked_ranged [] x h = absurd (cc)
marked_ranged (true ∷ bs) zero h = refl
marked_ranged (false ∷ bs) zero h = absurd (cc)
marked_ranged (b ∷ bs) (suc x) h = marked_ranged bs x h

pub whole_ranges : (seen : List Bool) → AreRanges (map range_where seen)
whole_ranges seen x a h =
    let m = ranged_marked seen x a h in
    let low : a.low ≡ 0 = m.1.0 in
    let high : a.high ≡ 0 = m.1.1 in
    (omega arith, omega arith)

long_map : (seen : List Bool) → length (map range_where seen) ≡ length seen
long_map [] = refl
long_map (b ∷ bs) = ap suc (long_map bs)

pub whole_long : (seen : List Bool) → length (map range_where seen) ≡ length seen
whole_long seen = long_map seen

pub whole_order : (seen : List Bool) (order : List ℕ) → AreListed seen (length seen) order → IsOrder (map range_where seen) order
whole_order seen order l = record {
  within = λ j x h. let less : x < length seen = (l.marked j x h).0 in let long : length (map range_where seen) ≡ length seen = long_map seen in omega arith;
  apart = l.once;
  sorted = λ j k x y a b le h g ha hb. let low : a.low ≡ 0 = (ranged_marked seen x a ha).1.0 in omega arith;
  ranged = λ j x h. (record { low = 0; high = 0 }, marked_ranged seen x (l.marked j x h).1);
  whole = λ x a h. let m = (ranged_marked seen x a h).0 in l.whole x (slice_get_within seen x true m) m;
}

-- registers that are in one range have one position in common
covered : (f : SelFun) (seen : List Bool) (x p : ℕ) → TellsOccurring f seen → x < f.registers → InRange f x p → Covers (map range_where seen) 0 x
covered f seen x p t lt i =
    let is = t.complete x lt (occurs_one f x (touched_occurs f x i.low i.touches_low)) in
    record { range = record { low = 0; high = 0 }; has = marked_ranged seen x is; from_low = omega arith; to_high = omega arith }

pub whole_apart : (f : SelFun) (seen : List Bool) (hs : List Home) → TellsOccurring f seen → length hs ≡ length (map range_where seen) → AreSeparate (map range_where seen) hs → AreApartIn f hs
whole_apart f seen hs t long s x y p h g ne ix iy hx hy e =
    let l1 : x < length hs = slice_get_within hs x h hx in
    let l2 : y < length hs = slice_get_within hs y g hy in
    let l3 : length seen ≡ f.registers = t.long in
    let l4 : length (map range_where seen) ≡ length seen = long_map seen in
    s x y 0 h ne hx (hy ∙ ap Some (sym e)) (covered f seen x p t (omega arith) ix) (covered f seen y p t (omega arith) iy)

pub whole_colors : (f : SelFun) (seen : List Bool) (hs : List Home) → TellsOccurring f seen → AreGapless (IsRanged (map range_where seen)) hs → AreColorsOf f hs
whole_colors f seen hs t g = record {
  number = g.number;
  few = g.few;
  below = g.below;
  used = λ c lt. let u = g.used c lt in (u.0, (one_occurs f u.0 (t.sound u.0 (ranged_marked seen u.0 u.1.0.0 u.1.0.1).0), u.1.1));
}

pub whole_frames : (f : SelFun) (seen : List Bool) (hs : List Home) → TellsOccurring f seen → length hs ≡ length (map range_where seen) → AreOwnFrames hs → AreFramesOf f hs
whole_frames f seen hs t long own x k h =
    let l1 : x < length hs = slice_get_within hs x (Frame k) h in
    let l3 : length seen ≡ f.registers = t.long in
    let l4 : length (map range_where seen) ≡ length seen = long_map seen in
    let same : k ≡ x = own x k h in
    omega arith

-- what the homes of a function's registers are
pub record IsAllocated (f : SelFun) (hs : List Home) : Type 0 where
  pub long : HasAll f hs
  pub apart : AreApartIn f hs
  pub colors : AreColorsOf f hs
  pub frames : AreFramesOf f hs

pub each_more : (fs : List SelFun) (homes : List (List Home)) (i : ℕ) (f : SelFun) (hs : List Home) → length homes ≡ i → i < length fs → f ≡ get_or fs i f →
    Each IsAllocated fs homes → IsAllocated f hs → Each IsAllocated fs (homes ++ hs ∷ [])
each_more fs homes i f hs long lt is each a k g gs at h = elim (get_pushed homes hs k gs h) [
  | inl last ↦
      let here : slice_get fs i ≡ Some f = slice_get-get_or fs i f lt ∙ ap Some (sym is) in
      let place : k ≡ i = last.0 ∙ long in
      let there : slice_get fs i ≡ Some g = subst (λ n. slice_get fs n ≡ Some g) place at in
      let same : f ≡ g = cc in
      subst (λ q. IsAllocated q gs) same (subst (λ q. IsAllocated f q) last.1 a)
  | inr old ↦ each k g gs at old.1
]

pub each_none : (fs : List SelFun) → Each IsAllocated fs []
each_none fs k f hs at h = absurd (cc)

pub pushed_long : (homes : List (List Home)) (hs : List Home) (i : ℕ) → length homes ≡ i → length (homes ++ hs ∷ []) ≡ i + 1
pushed_long homes hs i long = let e = length_pushed homes hs in omega (arith, e)

-- what follows from two facts of a value, where there is one
pub both_ok : {A E : Type 0} (P Q R : A → Type 0) (r : Result A E) → ((a : A) → P a → Q a → R a) → IfOk r P → IfOk r Q → IfOk r R
both_ok P Q R (Ok a) f p q = f a p q
both_ok P Q R (Err e) f p q = tt
