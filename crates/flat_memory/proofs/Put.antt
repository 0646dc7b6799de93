-- Other cells in a range of a live object, and other bytes in its place.
use Rattle.std.proofs.Common.{◌≡◌, ◌≢◌, ℕ, ◌+◌, ◌-◌, ◌<◌, ◌≤◌, ◌⊎◌, inl, inr, List, ◌++◌, length, take, drop, Option, Some, slice_get, slice_set, refl, ap, sym, ◌∙◌, subst, arith}
use Rattle.std.proofs.lemmas.Bool.{cases_eq, cases_lt}
use Rattle.std.proofs.lemmas.Option.{slice_get_within}
use Rattle.ir_core.specs.declared.memory.Cell.{Cell}
use Rattle.ir_core.specs.declared.memory.Object0.{Object0}
use Rattle.ir_core.specs.Memory.{Memory, Range, written}
use Rattle.low_core.specs.Flat.{Bytes, with_bytes}
use Rattle.low_core.specs.Plan.{Content, Lies}
use Rattle.low_core.specs.Contents.{Addresses}
use Rattle.low_core.specs.Bridge.{Setting, CallMemory, Lives, address_of, FitsCell, IsInCall, IsGlobal, Bridges}
use Rattle.flat_memory.specs.Accesses.{SameObjects}
use Rattle.flat_memory.proofs.Lists.{get_set_same, get_set_other, length_set, Beside, Within, splits, length_spliced}
use Rattle.flat_memory.proofs.Points.{put_outside, put_inside}
use Rattle.flat_memory.proofs.Fits.{AllFit, fit_length, fit_at}
use Rattle.flat_memory.proofs.Spans.{same_object}

-- before a range, behind it, or at a number of bytes in it
pub data Where (start count p : ℕ) : Type 0 where
  Before : p < start → Where start count p
  Behind : start + count ≤ p → Where start count p
  Inside : (e : ℕ) → e < count → p ≡ start + e → Where start count p

pub where_is : (start count p : ℕ) → Where start count p
where_is start count p =
    elim (cases_lt p start) [
      | inl lt ↦ Before lt
      | inr le ↦ elim (cases_lt p (start + count)) [
        | inl lt2 ↦ Inside (p - start) (omega arith) (omega arith)
        | inr le2 ↦ Behind le2
      ]
    ]

module _ (g : Setting) (calls : List CallMemory) (m : Memory) (at : Addresses) (bytes : Bytes) (b : Bridges g calls m at bytes) (r : Range) (cs : List Cell) (bs : List (Option ℕ))
    (lives : Lives m r.object r.held) (inside : r.offset + length cs ≤ r.held.size) (fit : AllFit (length m) g.taken at bs cs) where
  abbrev new_cells : List Cell
  new_cells = take r.offset r.held.cells ++ cs ++ drop (r.offset + length cs) r.held.cells

  abbrev new_object : Object0
  new_object = record r.held { cells = new_cells }

  abbrev after : Memory
  after = slice_set m r.object new_object

  abbrev start : ℕ
  start = address_of at r.object + r.offset

  abbrev new_bytes : Bytes
  new_bytes = with_bytes bytes start bs

  room : r.offset + length cs ≤ length r.held.cells
  room = let full = b.full r.object r.held lives in omega (arith, inside, full)

  new_length : length new_cells ≡ r.held.size
  new_length = length_spliced r.held.cells cs r.offset room ∙ b.full r.object r.held lives

  -- what stands at a number afterwards
  data Was (i : ℕ) (y : Object0) : Type 0 where
    Same : i ≢ r.object → slice_get m i ≡ Some y → Was i y
    Changed : i ≡ r.object → new_object ≡ y → Was i y

  was : (i : ℕ) (y : Object0) → slice_get after i ≡ Some y → Was i y
  was i y h =
      elim (cases_eq i r.object) [
        | inl e ↦
            let there : slice_get after r.object ≡ Some new_object = get_set_same m r.object new_object (slice_get_within m r.object r.held lives.stands) in
            let h2 : slice_get after r.object ≡ Some y = subst (λ k. slice_get after k ≡ Some y) e h in
            Changed e (some_same (sym there ∙ h2))
        | inr ne ↦ Same ne (sym (get_set_other m r.object i new_object (λ e. ne (sym e))) ∙ h)
      ]
    where
      some_same : {x y : Object0} → Some x ≡ Some y → x ≡ y
      some_same e = cc

  -- the object that was there before, which has the same size and constancy
  record Old (i : ℕ) (y : Object0) : Type 0 where
    object : Object0
    stands : slice_get m i ≡ Some object
    size : object.size ≡ y.size
    live : object.live ≡ y.live
    constant : object.constant ≡ y.constant

  old : (i : ℕ) (y : Object0) → Was i y → Old i y
  old i y (Same ne h) = record { object = y; stands = h; size = refl; live = refl; constant = refl }
  old i y (Changed e n) = record {
    object = r.held;
    stands = subst (λ k. slice_get m k ≡ Some r.held) (sym e) lives.stands;
    size = ap (λ (z : Object0). z.size) n;
    live = ap (λ (z : Object0). z.live) n;
    constant = ap (λ (z : Object0). z.constant) n;
  }

  old_of : (i : ℕ) (y : Object0) → Lives after i y → Old i y
  old_of i y l = old i y (was i y l.stands)

  old_lives : (i : ℕ) (y : Object0) → (l : Lives after i y) → Lives m i (old_of i y l).object
  old_lives i y l = record { stands = (old_of i y l).stands; live = (old_of i y l).live ∙ l.live }

  full_after : (i : ℕ) (y : Object0) → Lives after i y → Was i y → length y.cells ≡ y.size
  full_after i y l (Same ne h) = b.full i y (record { stands = h; live = l.live })
  full_after i y l (Changed e n) = subst (λ (z : Object0). length z.cells ≡ z.size) n new_length

  global_after : (n a : ℕ) (c : Content) → Lies g.plan g.contents n a c → IsGlobal after at n a c
  global_after n a c lies =
      let was_global = b.global n a c lies in
      elim (cases_eq n r.object) [
        | inl e ↦
            let same : was_global.object ≡ r.held = same_object m n was_global.object r.held was_global.lives (subst (λ k. Lives m k r.held) (sym e) lives) in
            record {
              object = new_object;
              lives = record {
                stands = subst (λ k. slice_get after k ≡ Some new_object) (sym e) (get_set_same m r.object new_object (slice_get_within m r.object r.held lives.stands));
                live = lives.live;
              };
              address_is = was_global.address_is;
              size = ap (λ (z : Object0). z.size) (sym same) ∙ was_global.size;
              constant = ap (λ (z : Object0). z.constant) (sym same) ∙ was_global.constant;
            }
        | inr ne ↦ record {
          object = was_global.object;
          lives = record { stands = get_set_other m r.object n new_object (λ e. ne (sym e)) ∙ was_global.lives.stands; live = was_global.lives.live };
          address_is = was_global.address_is;
          size = was_global.size;
          constant = was_global.constant;
        }
      ]

  -- outside of the range the byte is as it was
  beside : (p : ℕ) → (p < start) ⊎ (start + length cs ≤ p) → new_bytes p ≡ bytes p
  beside p h = put_outside bytes start bs p (elim h [
    | inl lt ↦ inl lt
    | inr le ↦ let same = fit_length (length m) g.taken at bs cs fit in inr (omega (arith, le, same))
  ])

  cell_after : (i k : ℕ) (y : Object0) (c : Cell) → Lives after i y → slice_get y.cells k ≡ Some c → Was i y → FitsCell (length m) g.taken at (new_bytes (address_of at i + k)) c
  cell_after i k y c l e (Same ne h) =
      let lives_before : Lives m i y = record { stands = h; live = l.live } in
      let full = b.full i y lives_before in
      let within = slice_get_within y.cells k c e in
      let before = b.cells i k y c lives_before e in
      elim (where_is start (length cs) (address_of at i + k)) [
        | Before lt ↦ subst (λ x. FitsCell (length m) g.taken at x c) (sym (beside (address_of at i + k) (inl lt))) before
        | Behind le ↦ subst (λ x. FitsCell (length m) g.taken at x c) (sym (beside (address_of at i + k) (inr le))) before
        | Inside d lt is ↦ absurd (b.apart i r.object k (r.offset + d) y r.held lives_before lives ne (omega (arith, within, full)) (omega (arith, lt, inside)) (omega (arith, is)))
      ]
  cell_after i k y c l e (Changed is n) =
      let e2 : slice_get new_cells k ≡ Some c = subst (λ (z : Object0). slice_get z.cells k ≡ Some c) (sym n) e in
      subst (λ o. FitsCell (length m) g.taken at (new_bytes (address_of at o + k)) c) (sym is)
      (elim (splits r.held.cells cs r.offset k c room e2) [
        | Beside side there ↦
            let same : new_bytes (address_of at r.object + k) ≡ bytes (address_of at r.object + k) = beside (address_of at r.object + k) (elim side [
              | inl lt ↦ inl (omega arith)
              | inr le ↦ inr (omega arith)
            ]) in
            subst (λ x. FitsCell (length m) g.taken at x c) (sym same) (b.cells r.object k r.held c lives there)
        | Within j k_is lt there ↦
            let x = fit_at (length m) g.taken at bs cs fit j c there in
            let here : address_of at r.object + k ≡ start + j = omega (arith, k_is) in
            subst (λ y2. FitsCell (length m) g.taken at y2 c) (sym (ap new_bytes here ∙ put_inside bytes start bs j x.byte x.is)) x.fits
      ])

  -- the two memories stay tied
  pub put_law : Bridges g calls (written m r cs) at (with_bytes bytes (address_of at r.object + r.offset) bs)
  put_law = record {
    numbered = b.numbered ∙ sym (length_set m r.object new_object);
    functions = b.functions;
    full = λ i y l. full_after i y l (was i y l.stands);
    below = λ i y h. let o = old i y (was i y h) in let low = b.below i o.object o.stands in let size = o.size in omega (arith, low, size);
    global = global_after;
    in_call = λ i y l past.
        let o = old_of i y l in
        let before = b.in_call i o.object (old_lives i y l) past in
        (sym o.constant ∙ before.0, subst (IsInCall calls i (address_of at i)) o.size before.1);
    apart = λ i j d e x y lx ly ne dx ey.
        let ox = old_of i x lx in
        let oy = old_of j y ly in
        let sx = ox.size in
        let sy = oy.size in
        b.apart i j d e ox.object oy.object (old_lives i x lx) (old_lives j y ly) ne (omega (arith, dx, sx)) (omega (arith, ey, sy));
    not_null = λ i d x l lt. let o = old_of i x l in let s = o.size in b.not_null i d o.object (old_lives i x l) (omega (arith, lt, s));
    no_function = λ i d f a x l lt. let o = old_of i x l in let s = o.size in b.no_function i d f a o.object (old_lives i x l) (omega (arith, lt, s));
    cells = λ i k y c l e. subst (λ n. FitsCell n g.taken at (new_bytes (address_of at i + k)) c) (sym (length_set m r.object new_object)) (cell_after i k y c l e (was i y l.stands));
  }

  -- and the objects are the same
  pub put_same : SameObjects m (written m r cs)
  put_same = record { count = length_set m r.object new_object; before = λ i y l. let o = old_of i y l in (o.object, (old_lives i y l, o.size)) }
