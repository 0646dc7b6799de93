-- What holds while registers get their homes in turn.
use Rattle.std.proofs.Common.{◌≡◌, ℕ, zero, suc, ◌+◌, ◌<◌, ◌≤◌, List, [], ◌∷◌, length, Option, Some, None, slice_get, slice_set, get_or, refl, ap, sym, ◌∙◌, subst, arith, add-one}
use Rattle.std.proofs.lemmas.List.{get_or-set_same, get_or-set_other}
use Rattle.std.proofs.lemmas.Option.{slice_get-get_or, slice_get_within}
use Rattle.low_core.specs.declared.sel.Home.{Home}
use Rattle.low_core.specs.declared.sel.Home.TheVariants.{Color, Frame}
use Rattle.regalloc.specs.declared.range.Range.{Range}
use Rattle.regalloc.specs.Ranges.{HasRange, AreRanges, AreFrames, IsOrder, AreCrowded}
use Rattle.regalloc.proofs.Coloring.{Given, Colors, colored_next, none_given}
use Rattle.regalloc.proofs.Lists.{get_set_same, get_set_other, length_set}
use Rattle.regalloc.proofs.Fewest.{Passed, passed_color, passed_frame, passed_none, all_crowded}

-- where i of an order have got their homes, and colours are free from these positions on
pub record Stands (rs : List (Option Range)) (order : List ℕ) (i : ℕ) (hs : List Home) (free : List ℕ) : Type 0 where
  pub long : length hs ≡ length rs
  pub five : length free ≡ 5
  pub given : Given rs (slice_get hs) (λ c. get_or free c 0)
  pub passed : Passed rs order i (slice_get hs) (λ c. get_or free c 0)

at_place : (order : List ℕ) (i : ℕ) → i < length order → slice_get order i ≡ Some (get_or order i 0)
at_place order i lt = slice_get-get_or order i 0 lt

its_range : (rs : List (Option Range)) (r : ℕ) (a : Range) → r < length rs → get_or rs r None ≡ Some a → HasRange rs r a
its_range rs r a lt e = slice_get-get_or rs r None lt ∙ ap Some e

pub stands_color : (rs : List (Option Range)) (order : List ℕ) (i : ℕ) (hs : List Home) (free : List ℕ) (a : Range) (c : ℕ) → AreRanges rs → IsOrder rs order →
    Stands rs order i hs free → i < length order → get_or rs (get_or order i 0) None ≡ Some a → c < 5 → get_or free c 0 ≤ a.low → ((d : ℕ) → d < c → a.low < get_or free d 0) →
    Stands rs order (i + 1) (slice_set hs (get_or order i 0) (Color c)) (slice_set free c (a.high + 1))
stands_color rs order i hs free a c ranges o s lt is few is_free least =
    let r : ℕ = get_or order i 0 in
    let at = at_place order i lt in
    let within = o.within i r at in
    let has = its_range rs r a within is in
    let up = (ranges r a has).0 in
    let colors = it r within in
    record {
      long = length_set hs r (Color c) ∙ s.long;
      five = length_set free c (a.high + 1) ∙ s.five;
      given = colored_next rs (slice_get hs) _ (λ d. get_or free d 0) (λ d. get_or (slice_set free c (a.high + 1)) d 0) r c a s.given has up few is_free colors;
      passed = passed_color rs order i (slice_get hs) _ (λ d. get_or free d 0) (λ d. get_or (slice_set free c (a.high + 1)) d 0) r c a o s.passed at has few least colors;
    }
  where
    it : (r : ℕ) → r < length rs → Colors (slice_get hs) (slice_get (slice_set hs r (Color c))) (λ d. get_or free d 0) (λ d. get_or (slice_set free c (a.high + 1)) d 0) r c a
    it r within =
        let long : length hs ≡ length rs = s.long in
        let five : length free ≡ 5 = s.five in
        record {
          here = get_set_same hs r (Color c) (omega arith);
          others = λ x ne. get_set_other hs r x (Color c) ne;
          taken = get_or-set_same free c (a.high + 1) 0 (omega arith) ∙ add-one a.high;
          rest = λ d ne. get_or-set_other free c d (a.high + 1) 0 (λ e. ne (sym e));
        }

pub stands_frame : (rs : List (Option Range)) (order : List ℕ) (i : ℕ) (hs : List Home) (free : List ℕ) (a : Range) → AreRanges rs → IsOrder rs order →
    Stands rs order i hs free → i < length order → get_or rs (get_or order i 0) None ≡ Some a → ((d : ℕ) → d < 5 → a.low < get_or free d 0) →
    Stands rs order (i + 1) hs free
stands_frame rs order i hs free a ranges o s lt is taken =
    let r : ℕ = get_or order i 0 in
    let at = at_place order i lt in
    let has = its_range rs r a (o.within i r at) is in
    record {
      long = s.long;
      five = s.five;
      given = s.given;
      passed = passed_frame rs order i (slice_get hs) (λ d. get_or free d 0) r a o s.passed at has (ranges r a has).0 taken;
    }

pub stands_first : (rs : List (Option Range)) (order : List ℕ) (hs : List Home) (free : List ℕ) → IsOrder rs order → length hs ≡ length rs → AreFrames hs → length free ≡ 5 → ((c : ℕ) → get_or free c 0 ≡ 0) → Stands rs order 0 hs free
stands_first rs order hs free o long frames five zeros = record {
  long = long;
  five = five;
  given = none_given rs hs (λ c. get_or free c 0) own no_color;
  passed = passed_none rs order (slice_get hs) (λ c. get_or free c 0) o (λ x lt. frames x (omega arith)) no_color zeros;
}
  where
    own : (x k : ℕ) → slice_get hs x ≡ Some (Frame k) → k ≡ x
    own x k h = let is = frames x (slice_get_within hs x (Frame k) h) in cc

    no_color : (x c : ℕ) → slice_get hs x ≡ Some (Color c) → ⊥
    no_color x c h = let is = frames x (slice_get_within hs x (Color c) h) in absurd (cc)

-- the same under other names
pub stands_as : (rs : List (Option Range)) (order : List ℕ) (i : ℕ) {hs mid new : List Home} {free later : List ℕ} → new ≡ mid → mid ≡ hs → later ≡ free → Stands rs order i hs free → Stands rs order i new later
stands_as rs order i {hs = hs} {free = free} {later = later} e e2 f s = subst (λ l. Stands rs order i l later) (sym (e ∙ e2)) (subst (λ l. Stands rs order i hs l) (sym f) s)

-- behind the last
pub stands_end : (rs : List (Option Range)) (order : List ℕ) (i : ℕ) (hs : List Home) (free : List ℕ) → i ≡ length order → IsOrder rs order → Stands rs order i hs free → AreCrowded rs hs
stands_end rs order i hs free e o s = all_crowded rs order hs (λ c. get_or free c 0) o (subst (λ n. Passed rs order n (slice_get hs) (λ c. get_or free c 0)) e s.passed)

pub all_zeros : (c : ℕ) → get_or {A = ℕ} (0 ∷ 0 ∷ 0 ∷ 0 ∷ 0 ∷ []) c 0 ≡ zero
all_zeros zero = refl
all_zeros (suc zero) = refl
all_zeros (suc (suc zero)) = refl
all_zeros (suc (suc (suc zero))) = refl
all_zeros (suc (suc (suc (suc zero)))) = refl
all_zeros (suc (suc (suc (suc (suc c))))) = refl
