-- What the bytes of a function have at its instructions once displacements are filled in.
use Rattle.std.proofs.Common.{◌≡◌, ℕ, ◌+◌, ◌-◌, ◌<◌, ◌≤◌, ◌⊎◌, inl, inr, Bool, true, false, List, [], ◌∷◌, ◌++◌, length, drop, Option, Some, None, if◌then◌else◌, refl, sym, ◌∙◌, ap, subst, arith}
use Rattle.std.specs.Prelude.{nat_eq, nat_lt, slice_set, ℤ, pos, negsuc, ◌%◌, ◌^◌}
use Rattle.std.proofs.lemmas.Bool.{eqb-true, eqb-false, ne_eqb, ltb-true, and_parts}
use Rattle.std.proofs.lemmas.List.{set-append_right, drop-set-lt, drop-set-add}
use Rattle.x86_core.specs.declared.instr.Instr.{Instr}
use Rattle.x86_core.specs.declared.instr.Cond.{Cond}
use Rattle.x86_core.specs.declared.instr.Instr.TheVariants.{Jcc, Jmp}
use Rattle.x86_core.specs.Encoding.{encoding, number32}
use Rattle.x86_core.specs.Arithmetic.{moved}
use Rattle.x86_core.proofs.Laws.{some_bytes}
use Rattle.obj_core.specs.declared.object.Func.{Func}
use Rattle.obj_core.specs.declared.object.Link.{Link}
use Rattle.obj_core.specs.declared.object.CodeAt.{CodeAt}
use Rattle.obj_core.specs.Object.{Each}
use Rattle.obj_core.specs.Disassembly.{Found, found, found_from, size_of}
use Rattle.obj_core.specs.SymbolicMachine.{link_before}
use Rattle.obj_core.specs.WellFormed.{displacement, bad_links}
use Rattle.obj_core.proofs.Kept.{good_parts, good_first}
use Rattle.obj_core.specs.Placement.{displacement_bytes, overlaid, slot_in}
use Rattle.obj_core.specs.Layout.{Way, way_of, ways_of, link_ways, led}
use Rattle.obj_lay.proofs.hidden.Instrs.{IsIn, Front, apart, FillsZero, which_fills, IsZeroBranch, zero_branch}

-- what is put before an offset is not seen from there
drop_past : (bs d : List ℕ) (at off : ℕ) → at + length d ≤ off → drop off (overlaid bs at d) ≡ drop off bs
drop_past bs [] at off le = refl
drop_past bs (x ∷ xs) at off le = drop_past (slice_set bs at x) xs (at + 1) off (omega arith) ∙ drop-set-lt off bs at x (omega arith)

-- what is put behind bytes leaves them
put_behind : (xs ys bs : List ℕ) (k j : ℕ) → j ≡ length xs + k → overlaid (xs ++ ys) j bs ≡ xs ++ overlaid ys k bs
put_behind xs ys [] k j e = refl
put_behind xs ys (b ∷ bs) k j e =
    let back : j - length xs ≡ k = omega arith in
    ap (λ all. overlaid all (j + 1) bs) (set-append_right xs ys (length xs) j b refl (omega arith) ∙ ap (λ n. xs ++ slice_set ys n b) back) ∙
    put_behind xs (slice_set ys k b) bs (k + 1) (j + 1) (omega arith)

-- what is put behind an offset is put into the rest
drop_within : (n : ℕ) (xs bs : List ℕ) (k j : ℕ) → j ≡ n + k → drop n (overlaid xs j bs) ≡ overlaid (drop n xs) k bs
drop_within n xs [] k j e = refl
drop_within n xs (b ∷ bs) k j e =
    drop_within n (slice_set xs j b) bs (k + 1) (j + 1) (omega arith) ∙
    ap (λ i. overlaid (drop n (slice_set xs i b)) (k + 1) bs) e ∙
    ap (λ ys. overlaid ys (k + 1) bs) (drop-set-add n xs k b)

-- an instruction stays if what is put lies before or behind it
stays : (bs d : List ℕ) (at off : ℕ) (i : Instr) → (at + length d ≤ off) ⊎ (off + size_of i ≤ at) → Front (drop off bs) i → Front (drop off (overlaid bs at d)) i
stays bs d at off i (inl le) h = record { more = h.more; begins = drop_past bs d at off le ∙ h.begins }
stays bs d at off i (inr le) h =
    let whole : at ≡ off + (at - off) = omega arith in
    let split : at - off ≡ length (encoding i) + (at - off - size_of i) = omega arith in
    record {
      more = overlaid h.more (at - off - size_of i) d;
      begins = drop_within off bs d (at - off) at whole ∙ ap (λ xs. overlaid xs (at - off) d) h.begins ∙ put_behind (encoding i) h.more d (at - off - size_of i) (at - off) split;
    }

-- a branch gets another displacement
abbrev pub IsFilled : (ℤ → Instr) → Type 0
IsFilled make = (bs d : List ℕ) (at off : ℕ) (x by : ℤ) → at + 4 ≡ off + size_of (make x) → d ≡ number32 by → Front (drop off bs) (make x) → Front (drop off (overlaid bs at d)) (make by)

-- a jump
pub jump_filled : IsFilled Jmp
jump_filled bs d at off (pos n) by e same h =
    let whole : at ≡ off + 1 = omega arith in
    record {
      more = h.more;
      begins = ap (λ x. drop off (overlaid bs at x)) same ∙ drop_within off bs (number32 by) 1 at whole ∙ ap (λ xs. overlaid xs 1 (number32 by)) h.begins ∙ jump_bytes by;
    }
  where
    jump_bytes : (by : ℤ) → overlaid (encoding (Jmp (pos n)) ++ h.more) 1 (number32 by) ≡ encoding (Jmp by) ++ h.more
    jump_bytes (pos m) = refl
    jump_bytes (negsuc m) = refl
jump_filled bs d at off (negsuc n) by e same h =
    let whole : at ≡ off + 1 = omega arith in
    record {
      more = h.more;
      begins = ap (λ x. drop off (overlaid bs at x)) same ∙ drop_within off bs (number32 by) 1 at whole ∙ ap (λ xs. overlaid xs 1 (number32 by)) h.begins ∙ jump_bytes by;
    }
  where
    jump_bytes : (by : ℤ) → overlaid (encoding (Jmp (negsuc n)) ++ h.more) 1 (number32 by) ≡ encoding (Jmp by) ++ h.more
    jump_bytes (pos m) = refl
    jump_bytes (negsuc m) = refl

-- a conditional branch
pub test_filled : (c : Cond) → IsFilled (Jcc c)
test_filled c bs d at off (pos n) by e same h =
    let whole : at ≡ off + 2 = omega arith in
    record {
      more = h.more;
      begins = ap (λ x. drop off (overlaid bs at x)) same ∙ drop_within off bs (number32 by) 2 at whole ∙ ap (λ xs. overlaid xs 2 (number32 by)) h.begins ∙ test_bytes by;
    }
  where
    test_bytes : (by : ℤ) → overlaid (encoding (Jcc c (pos n)) ++ h.more) 2 (number32 by) ≡ encoding (Jcc c by) ++ h.more
    test_bytes (pos m) = refl
    test_bytes (negsuc m) = refl
test_filled c bs d at off (negsuc n) by e same h =
    let whole : at ≡ off + 2 = omega arith in
    record {
      more = h.more;
      begins = ap (λ x. drop off (overlaid bs at x)) same ∙ drop_within off bs (number32 by) 2 at whole ∙ ap (λ xs. overlaid xs 2 (number32 by)) h.begins ∙ test_bytes by;
    }
  where
    test_bytes : (by : ℤ) → overlaid (encoding (Jcc c (negsuc n)) ++ h.more) 2 (number32 by) ≡ encoding (Jcc c by) ++ h.more
    test_bytes (pos m) = refl
    test_bytes (negsuc m) = refl

-- no later link has the place of an earlier one
pub no_later : (xs : List Found) (slots b b2 : ℕ) (ls : List Link) → b ≤ b2 → bad_links (Some b2) xs slots ls ≡ [] → link_before ls (b + 4) ≡ None
no_later xs slots b b2 [] le e = refl
no_later xs slots b b2 (l ∷ ls) le e =
    let x = good_first (Some b2) xs slots l ls e in
    let above = ltb-true b2 l.at (and_parts _ _ x.0).0 in
    let other : nat_eq (l.at + 4) (b + 4) ≡ false = ne_eqb (l.at + 4) (b + 4) (λ same. omega (arith, same, above, le)) in
    ap (λ t. if t then Some l.slot else link_before ls (b + 4)) other ∙ no_later xs slots b l.at ls (omega (arith, above, le)) x.1

-- the slot of a link exists, and the branch whose end it has
pub link_good : (before : Option ℕ) (is : List Instr) (slots k end : ℕ) (ls : List Link) → bad_links before (found is) slots ls ≡ [] → link_before ls end ≡ Some k → (k < slots) × ((a : ℕ) × (a + 4 ≡ end) × FillsZero 0 is a)
link_good before is slots k end [] e f = absurd (cc)
link_good before is slots k end (l ∷ ls) e f = by_test (link_good (Some l.at) is slots k end ls (good_first before (found is) slots l ls e).1) (nat_eq (l.at + 4) end) refl f
  where
    by_test : (link_before ls end ≡ Some k → (k < slots) × ((a : ℕ) × (a + 4 ≡ end) × FillsZero 0 is a)) → (t : Bool) → nat_eq (l.at + 4) end ≡ t → (if t then Some l.slot else link_before ls end) ≡ Some k → (k < slots) × ((a : ℕ) × (a + 4 ≡ end) × FillsZero 0 is a)
    by_test later true same f =
        let good = good_parts before (found is) slots l (good_first before (found is) slots l ls e).0 in
        let this : l.slot ≡ k = cc in
        (omega (arith, good.1, this), (l.at, eqb-true (l.at + 4) end same, which_fills 0 is l.at good.0))
    by_test later false same f = later f

-- a branch has its four bytes
zero_size : (i : Instr) → IsZeroBranch i → 4 ≤ size_of i
zero_size i (inl e) = let size : size_of i ≡ 5 = ap size_of e in omega (arith, size)
zero_size i (inr x) = let size : size_of i ≡ 6 = ap size_of x.1 in omega (arith, size)

branch_size : (i : Instr) (by : ℤ) → displacement i ≡ Some by → 4 ≤ size_of i
branch_size (Jcc c by) x e = omega arith
branch_size (Jmp by) x e = omega arith
branch_size i x e = absurd (cc)

-- four bytes end with an instruction of a row
pub record IsWay (is : List Instr) (w : Way) : Type 0 where
  pub off : ℕ
  pub instr : Instr
  pub is_in : IsIn 0 is off instr
  pub ends : off + size_of instr ≡ w.at + 4
  pub long : 4 ≤ size_of instr

-- each link does
pub link_ways_end : (before : Option ℕ) (is : List Instr) (slots : ℕ) (positions : List ℕ) (ls : List Link) → bad_links before (found is) slots ls ≡ [] → Each (IsWay is) (link_ways positions ls)
link_ways_end before is slots positions [] e = tt
link_ways_end before is slots positions (l ∷ ls) e =
    let x = good_first before (found is) slots l ls e in
    let y = which_fills 0 is l.at (good_parts before (found is) slots l x.0).0 in
    (record { off = y.off; instr = y.instr; is_in = y.is_in; ends = y.ends; long = zero_size y.instr (zero_branch y.instr y.zero_by) }, link_ways_end (Some l.at) is slots positions ls x.1)

-- no way ends at an offset
abbrev pub NoneEnds : ℕ → List Way → Type 0
NoneEnds end ws = Each (λ (w : Way). w.at + 4 ≡ end → ⊥) ws

-- all that do lead to an address, and one does
abbrev pub AllLead : ℕ → ℕ → List Way → Type 0
AllLead end to ws = Each (λ (w : Way). w.at + 4 ≡ end → w.to ≡ to) ws

abbrev pub OneEnds : ℕ → List Way → Type 0
OneEnds end [] = ⊥
OneEnds end (w ∷ ws) = (w.at + 4 ≡ end) ⊎ OneEnds end ws

-- links where there is none
pub no_link_ends : (positions : List ℕ) (end : ℕ) (ls : List Link) → link_before ls end ≡ None → NoneEnds end (link_ways positions ls)
no_link_ends positions end [] e = tt
no_link_ends positions end (l ∷ ls) e = by_test (nat_eq (l.at + 4) end) refl e (λ x. no_link_ends positions end ls x)
  where
    by_test : (t : Bool) → nat_eq (l.at + 4) end ≡ t → (if t then Some l.slot else link_before ls end) ≡ None → (link_before ls end ≡ None → NoneEnds end (link_ways positions ls)) → NoneEnds end (link_ways positions (l ∷ ls))
    by_test true same none next = absurd (cc)
    by_test false other none next = (eqb-false (l.at + 4) end other, next none)

none_lead : (end to : ℕ) (ws : List Way) → NoneEnds end ws → AllLead end to ws
none_lead end to [] h = tt
none_lead end to (w ∷ ws) h = (λ e. absurd (h.0 e), none_lead end to ws h.1)

-- links where there is one lead to its slot
pub links_lead : (before : Option ℕ) (xs : List Found) (slots : ℕ) (positions : List ℕ) (end k : ℕ) (ls : List Link) → bad_links before xs slots ls ≡ [] → link_before ls end ≡ Some k → AllLead end (slot_in positions k) (link_ways positions ls) × OneEnds end (link_ways positions ls)
links_lead before xs slots positions end k [] e f = absurd (cc)
links_lead before xs slots positions end k (l ∷ ls) e f = by_test (nat_eq (l.at + 4) end) refl f (λ g. links_lead (Some l.at) xs slots positions end k ls (good_first before xs slots l ls e).1 g)
  where
    by_test : (t : Bool) → nat_eq (l.at + 4) end ≡ t → (if t then Some l.slot else link_before ls end) ≡ Some k → (link_before ls end ≡ Some k → AllLead end (slot_in positions k) (link_ways positions ls) × OneEnds end (link_ways positions ls)) → AllLead end (slot_in positions k) (link_ways positions (l ∷ ls)) × OneEnds end (link_ways positions (l ∷ ls))
    by_test true same g next =
        let this : l.slot ≡ k = cc in
        let ends : l.at + 4 ≡ end = eqb-true (l.at + 4) end same in
        let none : link_before ls end ≡ None = ap (link_before ls) (sym ends) ∙ no_later xs slots l.at l.at ls (omega arith) (good_first before xs slots l ls e).1 in
        ((λ h. ap (slot_in positions) this, none_lead end (slot_in positions k) (link_ways positions ls) (no_link_ends positions end ls none)), inl ends)
    by_test false other g next =
        let x = next g in
        let no = eqb-false (l.at + 4) end other in
        ((λ h. absurd (no h), x.0), inr x.1)

-- the ways of the branches of a row
module _ (code : CodeAt → ℕ) (n : ℕ) (f : Func) where
  -- an instruction's
  abbrev way : ℕ → Instr → ℤ → Way
  way off i by = record { at = off + size_of i - 4; to = code (record { function = n; offset = moved (off + size_of i) by }) }

  pub each_both : (P : Way → Type 0) (vs ws : List Way) → Each P vs → Each P ws → Each P (vs ++ ws)
  each_both P [] ws h k = k
  each_both P (v ∷ vs) ws h k = (h.0, each_both P vs ws h.1 k)

  way_each : (P : Way → Type 0) (off : ℕ) (i : Instr) (by : Option ℤ) → displacement i ≡ by → ((x : ℤ) → displacement i ≡ Some x → P (way off i x)) → Each P (way_of code n f (record { at = off; instr = i }) by)
  way_each P off i None e h = tt
  way_each P off i (Some x) e h = by_test (nat_lt (moved (off + size_of i) x) (length f.bytes))
    where
      by_test : (t : Bool) → Each P (if t then way off i x ∷ [] else [])
      by_test true = (h x e, tt)
      by_test false = tt

  -- what holds of each branch's
  pub ways_each : (P : Way → Type 0) (at : ℕ) (is : List Instr) → ((off : ℕ) (i : Instr) (by : ℤ) → IsIn at is off i → displacement i ≡ Some by → P (way off i by)) → Each P (ways_of code n f (found_from at is))
  ways_each P at [] h = tt
  ways_each P at (j ∷ js) h =
      each_both P (way_of code n f (record { at = at; instr = j }) (displacement j)) (ways_of code n f (found_from (at + size_of j) js))
      (way_each P at j (displacement j) refl (λ x e. h at j x (inl (refl, refl)) e))
      (ways_each P (at + size_of j) js (λ off i by k e. h off i by (inr k) e))

  one_left : (end : ℕ) (vs ws : List Way) → OneEnds end vs → OneEnds end (vs ++ ws)
  one_left end [] ws h = absurd h
  one_left end (v ∷ vs) ws (inl h) = inl h
  one_left end (v ∷ vs) ws (inr h) = inr (one_left end vs ws h)

  one_right : (end : ℕ) (vs ws : List Way) → OneEnds end ws → OneEnds end (vs ++ ws)
  one_right end [] ws h = h
  one_right end (v ∷ vs) ws h = inr (one_right end vs ws h)

  way_ends : (off : ℕ) (i : Instr) (by : ℤ) (y : Option ℤ) → displacement i ≡ Some by → displacement i ≡ y → nat_lt (moved (off + size_of i) by) (length f.bytes) ≡ true → OneEnds (off + size_of i) (way_of code n f (record { at = off; instr = i }) y)
  way_ends off i by None e g lt = absurd (let no : None ≡ Some by = sym g ∙ e in cc)
  way_ends off i by (Some x) e g lt =
      let same : x ≡ by = some_same (sym g ∙ e) in
      let size = branch_size i by e in
      subst (λ z. OneEnds (off + size_of i) (way_of code n f (record { at = off; instr = i }) (Some z))) (sym same)
      (subst (λ t. OneEnds (off + size_of i) (if t then way off i by ∷ [] else [])) (sym lt) (inl (omega (arith, size))))
    where
      some_same : Some x ≡ Some by → x ≡ by
      some_same h = cc

  -- the branch's own is one of them
  pub branch_ends : (at : ℕ) (is : List Instr) (off : ℕ) (i : Instr) (by : ℤ) → IsIn at is off i → displacement i ≡ Some by → nat_lt (moved (off + size_of i) by) (length f.bytes) ≡ true → OneEnds (off + size_of i) (ways_of code n f (found_from at is))
  branch_ends at [] off i by h e lt = absurd h
  branch_ends at (j ∷ js) off i by (inl h) e lt =
      one_left (off + size_of i) (way_of code n f (record { at = at; instr = j }) (displacement j)) (ways_of code n f (found_from (at + size_of j) js))
      (subst (λ a. OneEnds (off + size_of i) (way_of code n f (record { at = a; instr = j }) (displacement j))) h.0
      (subst (λ q. OneEnds (off + size_of i) (way_of code n f (record { at = off; instr = q }) (displacement q))) h.1 (way_ends off i by (displacement i) e refl lt)))
  branch_ends at (j ∷ js) off i by (inr h) e lt =
      one_right (off + size_of i) (way_of code n f (record { at = at; instr = j }) (displacement j)) (ways_of code n f (found_from (at + size_of j) js)) (branch_ends (at + size_of j) js off i by h e lt)

-- the ways of branches end with instructions
pub branch_ways_end : (code : CodeAt → ℕ) (n : ℕ) (f : Func) (is : List Instr) → Each (IsWay is) (ways_of code n f (found is))
branch_ways_end code n f is =
    ways_each code n f (IsWay is) 0 is (λ off i by h e. let size = branch_size i by e in record { off = off; instr = i; is_in = h; ends = omega (arith, size); long = size })

module _ (is : List Instr) (off : ℕ) (i : Instr) (there : IsIn 0 is off i) where
  -- a way that ends where an instruction does is that of the instruction
  pub same_end : (off2 : ℕ) (j : Instr) → IsIn 0 is off2 j → off2 + size_of j ≡ off + size_of i → (off ≡ off2) × (i ≡ j)
  same_end off2 j h e =
      let some = some_bytes i in
      let some2 = some_bytes j in
      elim (apart 0 is off i off2 j there h) [
        | inl same ↦ same
        | inr x ↦ elim x [
          | inl le ↦ absurd (omega (arith, le, e, some2))
          | inr le ↦ absurd (omega (arith, le, e, some))
        ]
      ]

  -- the bytes of a way lie before or behind an instruction that does not end with them
  aside : (w : Way) → IsWay is w → (w.at + 4 ≡ off + size_of i → ⊥) → (w.at + 4 ≤ off) ⊎ (off + size_of i ≤ w.at)
  aside w y other =
      let ends : y.off + size_of y.instr ≡ w.at + 4 = y.ends in
      let large : 4 ≤ size_of y.instr = y.long in
      elim (apart 0 is off i y.off y.instr there y.is_in) [
        | inl same ↦ absurd (other (let size : size_of i ≡ size_of y.instr = ap size_of same.1 in let at : off ≡ y.off = same.0 in omega (arith, ends, size, at)))
        | inr h ↦ elim h [
          | inl le ↦ inr (omega (arith, le, ends, large))
          | inr le ↦ inl (omega (arith, le, ends))
        ]
      ]

  -- so it leaves the instruction, and one of its size that stands there
  one_aside : (j : Instr) → size_of j ≡ size_of i → (w : Way) (to from : ℕ) (bs : List ℕ) → IsWay is w → (w.at + 4 ≡ off + size_of i → ⊥) → Front (drop off bs) j → Front (drop off (overlaid bs w.at (displacement_bytes to from))) j
  one_aside j size w to from bs good other h =
      stays bs (displacement_bytes to from) w.at off j (elim (aside w good other) [
        | inl le ↦ inl le
        | inr le ↦ inr (omega (arith, le, size))
      ]) h

  -- an instruction where no way ends stays
  pub led_stays : (j : Instr) → size_of j ≡ size_of i → (behind : ℕ → ℕ) (ws : List Way) (bs : List ℕ) → Each (IsWay is) ws → NoneEnds (off + size_of i) ws → Front (drop off bs) j → Front (drop off (led behind ws bs)) j
  led_stays j size behind [] bs good none h = h
  led_stays j size behind (w ∷ ws) bs good none h = led_stays j size behind ws _ good.1 none.1 (one_aside j size w w.to (behind w.at) bs good.0 none.0 h)

-- a branch where ways end
module _ (is : List Instr) (off : ℕ) (make : ℤ → Instr) (filled : IsFilled make) (x : ℤ) (there : IsIn 0 is off (make x)) (sized : (by : ℤ) → size_of (make by) ≡ size_of (make x)) (behind : ℕ → ℕ) where
  -- it is a branch of the kind still
  pub led_some : (ws : List Way) (bs : List ℕ) (y : ℤ) → Each (IsWay is) ws → Front (drop off bs) (make y) → (z : ℤ) × Front (drop off (led behind ws bs)) (make z)
  led_some [] bs y good h = (y, h)
  led_some (w ∷ ws) bs y good h = by_test (nat_eq (w.at + 4) (off + size_of (make x))) refl (λ cs z k. led_some ws cs z good.1 k)
    where
      by_test : (t : Bool) → nat_eq (w.at + 4) (off + size_of (make x)) ≡ t → ((cs : List ℕ) (z : ℤ) → Front (drop off cs) (make z) → (v : ℤ) × Front (drop off (led behind ws cs)) (make v)) → (z : ℤ) × Front (drop off (led behind (w ∷ ws) bs)) (make z)
      by_test true same next =
          let ends : w.at + 4 ≡ off + size_of (make y) = eqb-true (w.at + 4) (off + size_of (make x)) same ∙ ap (λ s. off + s) (sym (sized y)) in
          next (overlaid bs w.at (displacement_bytes w.to (behind w.at))) (pos ((w.to + 2 ^ 64 - behind w.at) % 2 ^ 64)) (filled bs (displacement_bytes w.to (behind w.at)) w.at off y (pos ((w.to + 2 ^ 64 - behind w.at) % 2 ^ 64)) ends refl h)
      by_test false other next =
          next (overlaid bs w.at (displacement_bytes w.to (behind w.at))) y (one_aside is off (make x) there (make y) (sized y) w w.to (behind w.at) bs good.0 (eqb-false (w.at + 4) (off + size_of (make x)) other) h)

  -- and leads where all of them lead
  module _ (to : ℕ) (by : ℤ) (way : (at : ℕ) → at + 4 ≡ off + size_of (make x) → displacement_bytes to (behind at) ≡ number32 by) where
    one_led : (w : Way) (bs : List ℕ) (y : ℤ) → w.at + 4 ≡ off + size_of (make x) → w.to ≡ to → Front (drop off bs) (make y) → Front (drop off (overlaid bs w.at (displacement_bytes w.to (behind w.at)))) (make by)
    one_led w bs y ends same h =
        filled bs (displacement_bytes w.to (behind w.at)) w.at off y by (ends ∙ ap (λ s. off + s) (sym (sized y))) (ap (λ t. displacement_bytes t (behind w.at)) same ∙ way w.at ends) h

    led_on : (ws : List Way) (bs : List ℕ) → Each (IsWay is) ws → AllLead (off + size_of (make x)) to ws → Front (drop off bs) (make by) → Front (drop off (led behind ws bs)) (make by)
    led_on [] bs good all h = h
    led_on (w ∷ ws) bs good all h = led_on ws (overlaid bs w.at (displacement_bytes w.to (behind w.at))) good.1 all.1 (by_test (nat_eq (w.at + 4) (off + size_of (make x))) refl)
      where
        by_test : (t : Bool) → nat_eq (w.at + 4) (off + size_of (make x)) ≡ t → Front (drop off (overlaid bs w.at (displacement_bytes w.to (behind w.at)))) (make by)
        by_test true same = let ends = eqb-true (w.at + 4) (off + size_of (make x)) same in one_led w bs by ends (all.0 ends) h
        by_test false other = one_aside is off (make x) there (make by) (sized by) w w.to (behind w.at) bs good.0 (eqb-false (w.at + 4) (off + size_of (make x)) other) h

    pub led_leads : (ws : List Way) (bs : List ℕ) (y : ℤ) → Each (IsWay is) ws → AllLead (off + size_of (make x)) to ws → OneEnds (off + size_of (make x)) ws → Front (drop off bs) (make y) → Front (drop off (led behind ws bs)) (make by)
    led_leads [] bs y good all one h = absurd one
    led_leads (w ∷ ws) bs y good all (inl ends) h = led_on ws (overlaid bs w.at (displacement_bytes w.to (behind w.at))) good.1 all.1 (one_led w bs y ends (all.0 ends) h)
    led_leads (w ∷ ws) bs y good all (inr more) h = by_test (nat_eq (w.at + 4) (off + size_of (make x))) refl (λ cs z k. led_leads ws cs z good.1 all.1 more k)
      where
        by_test : (t : Bool) → nat_eq (w.at + 4) (off + size_of (make x)) ≡ t → ((cs : List ℕ) (z : ℤ) → Front (drop off cs) (make z) → Front (drop off (led behind ws cs)) (make by)) → Front (drop off (led behind (w ∷ ws) bs)) (make by)
        by_test true same next = let ends = eqb-true (w.at + 4) (off + size_of (make x)) same in next (overlaid bs w.at (displacement_bytes w.to (behind w.at))) by (one_led w bs y ends (all.0 ends) h)
        by_test false other next = next (overlaid bs w.at (displacement_bytes w.to (behind w.at))) y (one_aside is off (make x) there (make y) (sized y) w w.to (behind w.at) bs good.0 (eqb-false (w.at + 4) (off + size_of (make x)) other) h)

-- some ways, and then others
pub led_both : (behind : ℕ → ℕ) (vs ws : List Way) (bs : List ℕ) → led behind (vs ++ ws) bs ≡ led behind ws (led behind vs bs)
led_both behind [] ws bs = refl
led_both behind (v ∷ vs) ws bs = led_both behind vs ws _

-- the ways of branches at an instruction all lead where it goes
pub branches_lead : (code : CodeAt → ℕ) (n : ℕ) (f : Func) (is : List Instr) (off : ℕ) (i : Instr) (by : ℤ) → IsIn 0 is off i → displacement i ≡ Some by → AllLead (off + size_of i) (code (record { function = n; offset = moved (off + size_of i) by })) (ways_of code n f (found is))
branches_lead code n f is off i by there e =
    ways_each code n f (λ w. w.at + 4 ≡ off + size_of i → w.to ≡ code (record { function = n; offset = moved (off + size_of i) by })) 0 is
    (λ off2 j y h g ends.
    let size = branch_size j y g in
    let same = same_end is off i there off2 j h (omega (arith, ends, size)) in
    let end : off2 + size_of j ≡ off + size_of i = omega (arith, ends, size) in
    let one : y ≡ by = some_same j y same.1 g in
    ap (λ k. code (record { function = n; offset = moved k y })) end ∙ ap (λ z. code (record { function = n; offset = moved (off + size_of i) z })) one)
  where
    some_same : (j : Instr) (y : ℤ) → i ≡ j → displacement j ≡ Some y → y ≡ by
    some_same j y same g = let both : Some y ≡ Some by = sym g ∙ ap displacement (sym same) ∙ e in cc

-- and at one that is none there is none
pub no_branch_ends : (code : CodeAt → ℕ) (n : ℕ) (f : Func) (is : List Instr) (off : ℕ) (i : Instr) → IsIn 0 is off i → displacement i ≡ None → NoneEnds (off + size_of i) (ways_of code n f (found is))
no_branch_ends code n f is off i there e =
    ways_each code n f (λ w. w.at + 4 ≡ off + size_of i → ⊥) 0 is
    (λ off2 j y h g ends.
    let size = branch_size j y g in
    let same = same_end is off i there off2 j h (omega (arith, ends, size)) in
    let both : Some y ≡ None = sym g ∙ ap displacement (sym same.1) ∙ e in
    absurd (cc))
