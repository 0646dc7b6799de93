-- Each slot of the routines that comes back is linked once in them, and no other slot is.
use Rattle.std.proofs.Common.{◌≡◌, ◌≢◌, ℕ, zero, suc, ◌+◌, ◌-◌, ◌<◌, ◌≤◌, ◌^◌, inl, inr, Bool, true, false, ◌&&◌, nat_eq, nat_le, nat_lt, if◌then◌else◌, List, [], ◌∷◌, ◌++◌, length, Option, Some, slice_get, refl, ap, sym, ◌∙◌, arith, lit≤}
use Rattle.std.proofs.lemmas.Bool.{eq-eqb, ne_eqb, le-leb, lt-ltb, lt-leb}
use Rattle.low_core.specs.declared.sel.Sel.{Sel}
use Rattle.obj_core.specs.declared.object.CodeAt.{CodeAt}
use Rattle.obj_core.specs.declared.object.Func.{Func}
use Rattle.obj_core.specs.declared.object.Link.{Link}
use Rattle.obj_core.specs.declared.plan.Site.{Site}
use Rattle.obj_core.specs.declared.plan.Slot0.{Slot0}
use Rattle.obj_core.specs.Object.{Each}
use Rattle.obj_rows.specs.Assembled.{ends_from, site_of, LinkOnce}
use Rattle.slot_plan.specs.Slots.{routine_slots, slots_of}
use Rattle.rt_routines.specs.Code.{routine_functions}
use Rattle.rt_routines.proofs.Sites.{own_or_before}

-- the end of a jump
abbrev ending : ℕ → ℕ → CodeAt
ending n offset = record { function = n; offset = offset }

abbrev if_so : Bool → CodeAt → List CodeAt → List CodeAt
if_so b c cs = if b then c ∷ cs else cs

-- the ends of jumps to a slot, by five tests
abbrev ends_by : Bool → Bool → Bool → Bool → Bool → ℕ → List CodeAt
ends_by a b c d e n =
    if_so a (ending n 21) (if_so b (ending n 34) []) ++
    (if_so c (ending (suc n) 36) [] ++ (if_so d (ending (suc (suc n)) 28) [] ++ (if_so e (ending (suc (suc (suc n))) 10) [] ++ [])))

ends_are : (k n s : ℕ) → ends_from k n (routine_functions s) ≡ ends_by (nat_eq s k) (nat_eq (s + 1) k) (nat_eq (s + 2) k) (nat_eq (s + 3) k) (nat_eq (s + 4) k) n
ends_are k n s = refl

ends_same : (n : ℕ) (a b c d e a2 b2 c2 d2 e2 : Bool) → a ≡ a2 → b ≡ b2 → c ≡ c2 → d ≡ d2 → e ≡ e2 → ends_by a b c d e n ≡ ends_by a2 b2 c2 d2 e2 n
ends_same n a b c d e a2 b2 c2 d2 e2 p q r s t =
    ap (λ x. ends_by x b c d e n) p ∙ ap (λ x. ends_by a2 x c d e n) q ∙ ap (λ x. ends_by a2 b2 x d e n) r ∙ ap (λ x. ends_by a2 b2 c2 x e n) s ∙ ap (λ x. ends_by a2 b2 c2 d2 x n) t

module _ (k n s : ℕ) where
  by_tests : (a b c d e : Bool) → nat_eq s k ≡ a → nat_eq (s + 1) k ≡ b → nat_eq (s + 2) k ≡ c → nat_eq (s + 3) k ≡ d → nat_eq (s + 4) k ≡ e → ends_from k n (routine_functions s) ≡ ends_by a b c d e n
  by_tests a b c d e p q r t u = ends_are k n s ∙ ends_same n (nat_eq s k) (nat_eq (s + 1) k) (nat_eq (s + 2) k) (nat_eq (s + 3) k) (nat_eq (s + 4) k) a b c d e p q r t u

  -- the tests, where the slot is this one
  is : (i : ℕ) → k ≡ s + i → nat_eq (s + i) k ≡ true
  is i e = eq-eqb (s + i) k (sym e)

  other : (i j : ℕ) → k ≡ s + j → i ≢ j → nat_eq (s + i) k ≡ false
  other i j e differ = ne_eqb (s + i) k (λ same. differ (omega (arith, same, e)))

  same_first : (b : Bool) → nat_eq (s + 0) k ≡ b → nat_eq s k ≡ b
  same_first b e = let zero_more : s ≡ s + 0 = omega arith in ap (λ m. nat_eq m k) zero_more ∙ e

  pub call_end : k ≡ s → ends_from k n (routine_functions s) ≡ ending n 21 ∷ []
  call_end e =
      let at : k ≡ s + 0 = omega (arith, e) in
      by_tests true false false false false (same_first true (is 0 at)) (other 1 0 at (λ x. omega (arith, x))) (other 2 0 at (λ x. omega (arith, x))) (other 3 0 at (λ x. omega (arith, x))) (other 4 0 at (λ x. omega (arith, x)))

  pub last_end : k ≡ s + 1 → ends_from k n (routine_functions s) ≡ ending n 34 ∷ []
  last_end at =
      by_tests false true false false false (same_first false (other 0 1 at (λ x. omega (arith, x)))) (is 1 at) (other 2 1 at (λ x. omega (arith, x))) (other 3 1 at (λ x. omega (arith, x))) (other 4 1 at (λ x. omega (arith, x)))

  pub putchar_end : k ≡ s + 2 → ends_from k n (routine_functions s) ≡ ending (suc n) 36 ∷ []
  putchar_end at =
      by_tests false false true false false (same_first false (other 0 2 at (λ x. omega (arith, x)))) (other 1 2 at (λ x. omega (arith, x))) (is 2 at) (other 3 2 at (λ x. omega (arith, x))) (other 4 2 at (λ x. omega (arith, x)))

  pub getchar_end : k ≡ s + 3 → ends_from k n (routine_functions s) ≡ ending (suc (suc n)) 28 ∷ []
  getchar_end at =
      by_tests false false false true false (same_first false (other 0 3 at (λ x. omega (arith, x)))) (other 1 3 at (λ x. omega (arith, x))) (other 2 3 at (λ x. omega (arith, x))) (is 3 at) (other 4 3 at (λ x. omega (arith, x)))

  pub exit_end : k ≡ s + 4 → ends_from k n (routine_functions s) ≡ ending (suc (suc (suc n))) 10 ∷ []
  exit_end at =
      by_tests false false false false true (same_first false (other 0 4 at (λ x. omega (arith, x)))) (other 1 4 at (λ x. omega (arith, x))) (other 2 4 at (λ x. omega (arith, x))) (other 3 4 at (λ x. omega (arith, x))) (is 4 at)

  none_end : k < s → ends_from k n (routine_functions s) ≡ []
  none_end less =
      by_tests false false false false false (ne_eqb s k (λ e. omega (arith, e, less))) (ne_eqb (s + 1) k (λ e. omega (arith, e, less))) (ne_eqb (s + 2) k (λ e. omega (arith, e, less)))
      (ne_eqb (s + 3) k (λ e. omega (arith, e, less))) (ne_eqb (s + 4) k (λ e. omega (arith, e, less)))

-- links are in range
pub links_low : (s : ℕ) → Each (λ (f : Func). Each (λ (l : Link). l.at + 4 < 2 ^ 32) f.links) (routine_functions s)
links_low s = ((lit≤ tt, (lit≤ tt, tt)), ((lit≤ tt, tt), ((lit≤ tt, tt), ((lit≤ tt, tt), (tt, (tt, tt))))))

-- a slot of the routines has its site in one of them, and its link there
module _ (count main : ℕ) (slot : Slot0) (site : Site) (has : site_of slot ≡ Some site) where
  some_same : (a b : Site) → let o : Option Site = Some a in o ≡ Some b → a ≡ b
  some_same a b e = cc

  in_routines : (s : Slot0) (own : Site) → site_of s ≡ Some own → count ≤ own.function → own.function < count + 6 → s ≡ slot → (nat_le count site.function && nat_lt site.function (count + 6)) ≡ true
  in_routines s own its low high same =
      let both : Some own ≡ Some site = sym its ∙ ap site_of same ∙ has in
      let at = ap (λ (x : Site). x.function) (some_same own site both) in
      ap (λ b. b && nat_lt site.function (count + 6)) (le-leb count site.function (omega (arith, low, at))) ∙ lt-ltb site.function (count + 6) (omega (arith, high, at))

  one : (k s : ℕ) (e : CodeAt) → ends_from k count (routine_functions s) ≡ e ∷ [] → (nat_le count site.function && nat_lt site.function (count + 6)) ≡ true →
      length (ends_from k count (routine_functions s)) ≡ (if nat_le count site.function && nat_lt site.function (count + 6) then 1 else 0)
  one k s e ends inside = ap (λ (l : List CodeAt). length l) ends ∙ sym (ap (λ b. if b then 1 else 0) inside)

  own_once : (s j k : ℕ) → k ≡ s + j → slice_get (routine_slots count main) j ≡ Some slot → length (ends_from k count (routine_functions s)) ≡ (if nat_le count site.function && nat_lt site.function (count + 6) then 1 else 0)
  own_once s zero k at there =
      one k s _ (call_end k count s (omega (arith, at)))
      (in_routines (Slot0.Call main (record { function = count; number = 0 })) (record { function = count; number = 0 }) refl (omega arith) (omega arith) cc)
  own_once s (suc zero) k at there =
      one k s _ (last_end k count s at) (in_routines (Slot0.System (record { function = count; number = 1 })) (record { function = count; number = 1 }) refl (omega arith) (omega arith) cc)
  own_once s (suc (suc zero)) k at there =
      one k s _ (putchar_end k count s at) (in_routines (Slot0.System (record { function = count + 1; number = 0 })) (record { function = count + 1; number = 0 }) refl (omega arith) (omega arith) cc)
  own_once s (suc (suc (suc zero))) k at there =
      one k s _ (getchar_end k count s at) (in_routines (Slot0.System (record { function = count + 2; number = 0 })) (record { function = count + 2; number = 0 }) refl (omega arith) (omega arith) cc)
  own_once s (suc (suc (suc (suc zero)))) k at there =
      one k s _ (exit_end k count s at) (in_routines (Slot0.System (record { function = count + 3; number = 0 })) (record { function = count + 3; number = 0 }) refl (omega arith) (omega arith) cc)
  own_once s (suc (suc (suc (suc (suc j))))) k at there = absurd cc

-- each planned slot
pub linked_once : (sel : Sel) → LinkOnce (length sel.functions) (routine_functions (length (slots_of sel) - 5)) (slots_of sel)
linked_once sel k slot site there has =
    let count = length sel.functions in
    let s : ℕ = length (slots_of sel) - 5 in
    elim (own_or_before sel k slot site there has) [
      | inl before ↦
          let less = before.1 in
          let outside : (nat_le count site.function && nat_lt site.function (count + 6)) ≡ false = ap (λ b. b && nat_lt site.function (count + 6)) (lt-leb count site.function less) in
          ap (λ (l : List CodeAt). length l) (none_end k count s before.0) ∙ sym (ap (λ b. if b then 1 else 0) outside)
      | inr own ↦ own_once count sel.main slot site has s own.0 k own.1 own.2
    ]
