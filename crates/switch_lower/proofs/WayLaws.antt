-- Ways are in the order of their numbers, and a number leads where the switch leads it.
use Rattle.std.proofs.Common.{◌≡◌, ℕ, zero, suc, ◌+◌, ◌-◌, ◌%◌, ◌^◌, ◌<◌, ◌≤◌, Bool, true, false, List, [], ◌∷◌, ◌++◌, take, drop, length, None, Ok, refl, ap, sym, ◌∙◌, subst, inl, inr, ◌⊎◌, arith, Ordering, Less, Equal, Greater}
use Rattle.std.specs.Prelude.{ℤ, pos, negsuc, nat_eq, nat_lt, if◌then◌else◌}
use Rattle.std.specs.List.{list_all}
use Rattle.std.specs.Ordering.{nat_cmp, match_ordering}
use Rattle.std.specs.Cmp.{nat_cmp_is}
use Rattle.std.specs.BTreeMap.{insert_entry}
use Rattle.std.proofs.lemmas.Bool.{and_parts, eqb-true, eqb-false, ltb-true, ltb-false}
use Rattle.std.proofs.lemmas.List.{take-append-drop}
use Rattle.rd_num.specs.declared.width.Width.{Width}
use Rattle.rd_num.specs.declared.width.Width.TheVariants.{W1, W8, W16, W32, W64}
use Rattle.rd_num.specs.Number.{bits}
use Rattle.ir_core.specs.declared.ty.Ty.{Ty}
use Rattle.ir_core.specs.declared.kind.Kind.{Kind}
use Rattle.ir_core.specs.declared.kind.Kind.TheVariants.{NoValue, Number, Pointer}
use Rattle.ir_core.specs.declared.operand.Operand.{Operand}
use Rattle.ir_core.specs.declared.operand.Operand.TheVariants.{Int, Bool as Truth, Null as NullWord, Undef, Poison, Local as LocalName, Global, Const}
use Rattle.ir_core.specs.declared.instruction.Case.{Case}
use Rattle.ir_core.specs.declared.module.Module.{Module}
use Rattle.ir_core.specs.declared.memory.Value.TheVariants.{Num}
use Rattle.ir_core.specs.Stops.{Answer, and_then}
use Rattle.ir_core.specs.Kinds.{kind_of, same_kind, literal}
use Rattle.ir_core.specs.Operands.{value_of}
use Rattle.ir_core.specs.Step.{to_if_equal, switched}
use Rattle.ir_core.specs.Typing.{operand_fits, case_fits}
use Rattle.ir_core.specs.Valid.{case_number}
use Rattle.switch_lower.specs.Ways.{Way, ways}
use Rattle.switch_lower.specs.Tree.{least}
use Rattle.switch_lower.proofs.Same.{not_true}

-- where a number leads among ways, and by default
abbrev pub way_at : ℕ → List ℕ → List Way → List ℕ
way_at a default [] = default
way_at a default (w ∷ ws) = if nat_eq a w.0 then w.1 else way_at a default ws

-- numbers from one on, and numbers below one
abbrev pub AreFrom : ℕ → List Way → Type 0
AreFrom n [] = Unit {0}
AreFrom n (w ∷ ws) = (n ≤ w.0) × AreFrom n ws

abbrev pub AreBelow : ℕ → List Way → Type 0
AreBelow n [] = Unit {0}
AreBelow n (w ∷ ws) = (w.0 < n) × AreBelow n ws

-- each number is below all that follow
abbrev pub Rises : List Way → Type 0
Rises [] = Unit {0}
Rises (w ∷ ws) = AreFrom (w.0 + 1) ws × Rises ws

from_lower : (n k : ℕ) (ws : List Way) → k ≤ n → AreFrom n ws → AreFrom k ws
from_lower n k [] low all = tt
from_lower n k (w ∷ ws) low all = (let h = all.0 in omega arith, from_lower n k ws low all.1)

-- one of three holds
abbrev Three : ℕ → ℕ → Type 0
Three k n = ((k < n) × (nat_cmp k n ≡ Less)) ⊎ (((k ≡ n) × (nat_cmp k n ≡ Equal)) ⊎ ((n < k) × (nat_cmp k n ≡ Greater)))

three : (k n : ℕ) → Three k n
three k n = by_lt (nat_lt k n) refl (nat_eq k n) refl
  where
    by_lt : (b : Bool) → nat_lt k n ≡ b → (c : Bool) → nat_eq k n ≡ c → Three k n
    by_lt true e c f = let h = ltb-true k n e in inl (h, sym (nat_cmp_is k n Less h))
    by_lt false e true f = let h = eqb-true k n f in inr (inl (h, sym (nat_cmp_is k n Equal h)))
    by_lt false e false f =
        let h = ltb-false k n e in
        let d : n < k = omega (arith, h, eqb-false k n f) in
        inr (inr (d, sym (nat_cmp_is k n Greater d)))

-- a way among others
abbrev put : List Way → ℕ → List ℕ → List Way
put ws k to = insert_entry nat_cmp ws k to

abbrev placed : Ordering → Way → List Way → ℕ → List ℕ → List Way
placed o w ws k to = match_ordering o ((k, to) ∷ w ∷ ws) ((w.0, to) ∷ ws) (w ∷ put ws k to)

put_from : (n : ℕ) (ws : List Way) (k : ℕ) (to : List ℕ) → n ≤ k → AreFrom n ws → AreFrom n (put ws k to)
put_from n [] k to low all = (low, tt)
put_from n (w ∷ ws) k to low all =
    let later = put_from n ws k to low all.1 in
    elim (three k w.0) [
      | inl x ↦ subst (λ o. AreFrom n (placed o w ws k to)) (sym x.1) (low, all)
      | inr y ↦ elim y [
        | inl x ↦ subst (λ o. AreFrom n (placed o w ws k to)) (sym x.1) all
        | inr x ↦ subst (λ o. AreFrom n (placed o w ws k to)) (sym x.1) (all.0, later)
      ]
    ]

put_below : (n : ℕ) (ws : List Way) (k : ℕ) (to : List ℕ) → k < n → AreBelow n ws → AreBelow n (put ws k to)
put_below n [] k to low all = (low, tt)
put_below n (w ∷ ws) k to low all =
    let later = put_below n ws k to low all.1 in
    elim (three k w.0) [
      | inl x ↦ subst (λ o. AreBelow n (placed o w ws k to)) (sym x.1) (low, all)
      | inr y ↦ elim y [
        | inl x ↦ subst (λ o. AreBelow n (placed o w ws k to)) (sym x.1) all
        | inr x ↦ subst (λ o. AreBelow n (placed o w ws k to)) (sym x.1) (all.0, later)
      ]
    ]

put_rises : (ws : List Way) (k : ℕ) (to : List ℕ) → Rises ws → Rises (put ws k to)
put_rises [] k to up = (tt, tt)
put_rises (w ∷ ws) k to up =
    let later = put_rises ws k to up.1 in
    elim (three k w.0) [
      | inl x ↦ let h = x.0 in subst (λ o. Rises (placed o w ws k to)) (sym x.1) ((omega arith, from_lower (w.0 + 1) (k + 1) ws (omega arith) up.0), up)
      | inr y ↦ elim y [
        | inl x ↦ subst (λ o. Rises (placed o w ws k to)) (sym x.1) up
        | inr x ↦ let h = x.0 in subst (λ o. Rises (placed o w ws k to)) (sym x.1) (put_from (w.0 + 1) ws k to (omega arith) up.0, later)
      ]
    ]

put_length : (ws : List Way) (k : ℕ) (to : List ℕ) → length (put ws k to) ≤ length ws + 1
put_length [] k to = omega arith
put_length (w ∷ ws) k to =
    let later = put_length ws k to in
    elim (three k w.0) [
      | inl x ↦ subst (λ o. length (placed o w ws k to) ≤ length (w ∷ ws) + 1) (sym x.1) (omega arith)
      | inr y ↦ elim y [
        | inl x ↦ subst (λ o. length (placed o w ws k to) ≤ length (w ∷ ws) + 1) (sym x.1) (omega arith)
        | inr x ↦ subst (λ o. length (placed o w ws k to) ≤ length (w ∷ ws) + 1) (sym x.1) (omega arith)
      ]
    ]

put_some : (ws : List Way) (k : ℕ) (to : List ℕ) → 0 < length (put ws k to)
put_some [] k to = omega arith
put_some (w ∷ ws) k to =
    elim (three k w.0) [
      | inl x ↦ subst (λ o. 0 < length (placed o w ws k to)) (sym x.1) (omega arith)
      | inr y ↦ elim y [
        | inl x ↦ subst (λ o. 0 < length (placed o w ws k to)) (sym x.1) (omega arith)
        | inr x ↦ subst (λ o. 0 < length (placed o w ws k to)) (sym x.1) (omega arith)
      ]
    ]

-- and the number leads there
put_leads : (a : ℕ) (default : List ℕ) (ws : List Way) (k : ℕ) (to : List ℕ) → way_at a default (put ws k to) ≡ (if nat_eq a k then to else way_at a default ws)
put_leads a default [] k to = refl
put_leads a default (w ∷ ws) k to =
    let later = put_leads a default ws k to in
    elim (three k w.0) [
      | inl x ↦ ap (λ o. way_at a default (placed o w ws k to)) x.1
      | inr y ↦ elim y [
        | inl x ↦ ap (λ o. way_at a default (placed o w ws k to)) x.1 ∙ equal (nat_eq a w.0) (nat_eq a k) (ap (nat_eq a) x.0)
        | inr x ↦ ap (λ o. way_at a default (placed o w ws k to)) x.1 ∙ ap (λ l. if nat_eq a w.0 then w.1 else l) later ∙ above (nat_eq a w.0) (nat_eq a k) refl refl x.0
      ]
    ]
  where
    equal : (b c : Bool) → c ≡ b → (if b then to else way_at a default ws) ≡ (if c then to else (if b then w.1 else way_at a default ws))
    equal true true e = refl
    equal false false e = refl
    equal true false e = not_true e
    equal false true e = not_true (sym e)

    above : (b c : Bool) → nat_eq a w.0 ≡ b → nat_eq a k ≡ c → w.0 < k → (if b then w.1 else (if c then to else way_at a default ws)) ≡ (if c then to else (if b then w.1 else way_at a default ws))
    above true true e f lower = absurd (let p = eqb-true a w.0 e in let q = eqb-true a k f in omega arith)
    above true false e f lower = refl
    above false c e f lower = refl

-- a number of the width of its switch
literal_below : (w : Width) (n : ℤ) → literal w n < 2 ^ bits w
literal_below W1 (pos n) = omega arith
literal_below W8 (pos n) = omega arith
literal_below W16 (pos n) = omega arith
literal_below W32 (pos n) = omega arith
literal_below W64 (pos n) = omega arith
literal_below W1 (negsuc n) = omega arith
literal_below W8 (negsuc n) = omega arith
literal_below W16 (negsuc n) = omega arith
literal_below W32 (negsuc n) = omega arith
literal_below W64 (negsuc n) = omega arith

zero_below : (w : Width) → 1 < 2 ^ bits w
zero_below W1 = omega arith
zero_below W8 = omega arith
zero_below W16 = omega arith
zero_below W32 = omega arith
zero_below W64 = omega arith

number_below : (w : Width) (a : Operand) → case_number (Number w) a < 2 ^ bits w
number_below w (Int n) = literal_below w n
number_below w (Truth true) = zero_below w
number_below w (Truth false) = let z = zero_below w in omega arith
number_below w NullWord = let z = zero_below w in omega arith
number_below w Undef = let z = zero_below w in omega arith
number_below w Poison = let z = zero_below w in omega arith
number_below w (LocalName name) = let z = zero_below w in omega arith
number_below w (Global name) = let z = zero_below w in omega arith
number_below w (Const place) = let z = zero_below w in omega arith

-- the ways of cases
pub ways_rise : (ty : Ty) (cases : List Case) → Rises (ways ty cases)
ways_rise ty [] = tt
ways_rise ty (c ∷ cs) = put_rises (ways ty cs) (case_number (kind_of ty) c.value) c.to (ways_rise ty cs)

pub ways_below : (ty : Ty) (w : Width) (cases : List Case) → kind_of ty ≡ Number w → AreBelow (2 ^ bits w) (ways ty cases)
ways_below ty w [] kind = tt
ways_below ty w (c ∷ cs) kind = put_below (2 ^ bits w) (ways ty cs) (case_number (kind_of ty) c.value) c.to (subst (λ k. case_number k c.value < 2 ^ bits w) (sym kind) (number_below w c.value)) (ways_below ty w cs kind)

pub ways_length : (ty : Ty) (cases : List Case) → length (ways ty cases) ≤ length cases
ways_length ty [] = omega arith
ways_length ty (c ∷ cs) = let p = ways_length ty cs in let q = put_length (ways ty cs) (case_number (kind_of ty) c.value) c.to in omega arith

pub ways_some : (ty : Ty) (c : Case) (cs : List Case) → 0 < length (ways ty (c ∷ cs))
ways_some ty c cs = put_some (ways ty cs) (case_number (kind_of ty) c.value) c.to

-- a case that fits is a number
abbrev pub IsNumber : Module → Kind → Operand → ℕ → Type 0
IsNumber m kind a n = (u : Width) × (value_of m [] kind a ≡ Ok (Num u n))

pub case_is : (m : Module) (kind : Kind) (w : Width) (a : Operand) → same_kind kind (Number w) ≡ true → operand_fits m (λ name. None) (Number w) a ≡ true → IsNumber m kind a (case_number (Number w) a)
case_is m NoValue w a same fits = not_true same
case_is m Pointer w a same fits = not_true same
case_is m (Number v) w (Int (pos n)) same fits = (v, ap (λ b. Ok (Num v (n % 2 ^ b))) (eqb-true (bits v) (bits w) same))
case_is m (Number v) w (Int (negsuc n)) same fits = (v, ap (λ b. Ok (Num v (2 ^ b - 1 - n % 2 ^ b))) (eqb-true (bits v) (bits w) same))
case_is m (Number v) w (Truth true) same fits = (W1, refl)
case_is m (Number v) w (Truth false) same fits = (W1, refl)
case_is m (Number v) w NullWord same fits = not_true fits
case_is m (Number v) w Undef same fits = (v, refl)
case_is m (Number v) w Poison same fits = (v, refl)
case_is m (Number v) w (LocalName name) same fits = not_true fits
case_is m (Number v) w (Global name) same fits = not_true fits
case_is m (Number v) w (Const place) same fits = not_true fits

-- numbers are equal both ways
equal_both : (a b : ℕ) → nat_eq a b ≡ nat_eq b a
equal_both a b = of_both (nat_eq a b) (nat_eq b a) refl refl
  where
    of_both : (c d : Bool) → nat_eq a b ≡ c → nat_eq b a ≡ d → c ≡ d
    of_both true true e f = refl
    of_both false false e f = refl
    of_both true false e f = absurd (eqb-false b a f (sym (eqb-true a b e)))
    of_both false true e f = absurd (eqb-false a b e (sym (eqb-true b a f)))

-- a switch leads a number to its way
pub switched_is : (m : Module) (ty : Ty) (w v : Width) (a : ℕ) (default : List ℕ) (cases : List Case) → kind_of ty ≡ Number w → list_all (case_fits m (Number w)) cases ≡ true → switched m (Num v a) default cases ≡ Ok (way_at a default (ways ty cases))
switched_is m ty w v a default [] kind fits = refl
switched_is m ty w v a default (c ∷ cs) kind fits =
    let p = and_parts (case_fits m (Number w) c) (list_all (case_fits m (Number w)) cs) fits in
    let q = and_parts (same_kind (kind_of c.ty) (Number w)) (operand_fits m (λ name. None) (Number w) c.value) p.0 in
    let x = case_is m (kind_of c.ty) w c.value q.0 q.1 in
    let n = case_number (Number w) c.value in
    ap (λ r. and_then r (λ y. to_if_equal y (Num v a) c.to (switched m (Num v a) default cs))) x.1
    ∙ ap (λ r. if nat_eq n a then Ok c.to else r) (switched_is m ty w v a default cs kind p.1)
    ∙ into (nat_eq n a)
    ∙ ap (λ b. Ok (if b then c.to else way_at a default (ways ty cs))) (equal_both n a)
    ∙ ap (λ k. Ok (if nat_eq a (case_number k c.value) then c.to else way_at a default (ways ty cs))) (sym kind)
    ∙ ap Ok (sym (put_leads a default (ways ty cs) (case_number (kind_of ty) c.value) c.to))
  where
    into : (b : Bool) → (if b then Ok c.to else Ok (way_at a default (ways ty cs))) ≡ (let r : Answer (List ℕ) = Ok (if b then c.to else way_at a default (ways ty cs)) in r)
    into true = refl
    into false = refl

-- the ways of one half
take_from : (n k : ℕ) (ws : List Way) → AreFrom n ws → AreFrom n (take k ws)
take_from n zero ws all = tt
take_from n (suc k) [] all = tt
take_from n (suc k) (w ∷ ws) all = (all.0, take_from n k ws all.1)

pub take_rises : (k : ℕ) (ws : List Way) → Rises ws → Rises (take k ws)
take_rises zero ws up = tt
take_rises (suc k) [] up = tt
take_rises (suc k) (w ∷ ws) up = (take_from (w.0 + 1) k ws up.0, take_rises k ws up.1)

pub drop_rises : (k : ℕ) (ws : List Way) → Rises ws → Rises (drop k ws)
drop_rises zero ws up = up
drop_rises (suc k) [] up = tt
drop_rises (suc k) (w ∷ ws) up = drop_rises k ws up.1

pub take_below : (n k : ℕ) (ws : List Way) → AreBelow n ws → AreBelow n (take k ws)
take_below n zero ws all = tt
take_below n (suc k) [] all = tt
take_below n (suc k) (w ∷ ws) all = (all.0, take_below n k ws all.1)

pub drop_below : (n k : ℕ) (ws : List Way) → AreBelow n ws → AreBelow n (drop k ws)
drop_below n zero ws all = all
drop_below n (suc k) [] all = tt
drop_below n (suc k) (w ∷ ws) all = drop_below n k ws all.1

pub least_below : (n : ℕ) (ws : List Way) → 0 < length ws → AreBelow n ws → least ws < n
least_below n [] some all = absurd (omega (arith, some))
least_below n (w ∷ ws) some all = all.0

least_from : (n k : ℕ) (ws : List Way) → k < length ws → AreFrom n ws → n ≤ least (drop k ws)
least_from n k [] some all = absurd (omega (arith, some))
least_from n zero (w ∷ ws) some all = all.0
least_from n (suc k) (w ∷ ws) some all = least_from n k ws (omega (arith, some)) all.1

-- the first half is below the second
below_least : (k : ℕ) (ws : List Way) → k < length ws → Rises ws → AreBelow (least (drop k ws)) (take k ws)
below_least zero ws some up = tt
below_least (suc k) [] some up = absurd (omega (arith, some))
below_least (suc k) (w ∷ ws) some up =
    let l = least_from (w.0 + 1) k ws (omega (arith, some)) up.0 in
    (omega arith, below_least k ws (omega (arith, some)) up.1)

from_least : (ws : List Way) → Rises ws → AreFrom (least ws) ws
from_least [] up = tt
from_least (w ∷ ws) up = (omega arith, from_lower (w.0 + 1) w.0 ws (omega arith) up.0)

way_append : (a : ℕ) (default : List ℕ) (xs ys : List Way) → way_at a default (xs ++ ys) ≡ way_at a (way_at a default ys) xs
way_append a default [] ys = refl
way_append a default (x ∷ xs) ys = ap (λ l. if nat_eq a x.0 then x.1 else l) (way_append a default xs ys)

none_from : (a n : ℕ) (default : List ℕ) (ws : List Way) → a < n → AreFrom n ws → way_at a default ws ≡ default
none_from a n default [] low all = refl
none_from a n default (w ∷ ws) low all = by_test (nat_eq a w.0) refl (none_from a n default ws low all.1)
  where
    by_test : (b : Bool) → nat_eq a w.0 ≡ b → way_at a default ws ≡ default → (if b then w.1 else way_at a default ws) ≡ default
    by_test true e later = absurd (let p = eqb-true a w.0 e in let q = all.0 in omega arith)
    by_test false e later = later

none_below : (a n : ℕ) (default : List ℕ) (ws : List Way) → n ≤ a → AreBelow n ws → way_at a default ws ≡ default
none_below a n default [] low all = refl
none_below a n default (w ∷ ws) low all = by_test (nat_eq a w.0) refl (none_below a n default ws low all.1)
  where
    by_test : (b : Bool) → nat_eq a w.0 ≡ b → way_at a default ws ≡ default → (if b then w.1 else way_at a default ws) ≡ default
    by_test true e later = absurd (let p = eqb-true a w.0 e in let q = all.0 in omega arith)
    by_test false e later = later

-- a number below the second half leads where it leads in the first, and another one where it leads in the second
pub way_left : (a : ℕ) (default : List ℕ) (k : ℕ) (ws : List Way) → Rises ws → a < least (drop k ws) → way_at a default (take k ws) ≡ way_at a default ws
way_left a default k ws up low =
    ap (λ l. way_at a l (take k ws)) (sym (none_from a (least (drop k ws)) default (drop k ws) low (from_least (drop k ws) (drop_rises k ws up))))
    ∙ sym (way_append a default (take k ws) (drop k ws)) ∙ ap (way_at a default) (take-append-drop k ws)

pub way_right : (a : ℕ) (default : List ℕ) (k : ℕ) (ws : List Way) → Rises ws → k < length ws → least (drop k ws) ≤ a → way_at a default (drop k ws) ≡ way_at a default ws
way_right a default k ws up some low =
    sym (none_below a (least (drop k ws)) (way_at a default (drop k ws)) (take k ws) low (below_least k ws some up))
    ∙ sym (way_append a default (take k ws) (drop k ws)) ∙ ap (way_at a default) (take-append-drop k ws)
