-- Memory of calls that come and go: allocas, the own memory of a new frame, and the objects of a call that returns.
use Rattle.std.proofs.Common.{◌≡◌, ◌≢◌, ℕ, zero, suc, ◌+◌, ◌<◌, ◌≤◌, ◌%◌, ◌^◌, inl, inr, List, [], ◌∷◌, ◌++◌, length, replicate, Option, Some, None, slice_get, slice_set, Bool, true, false, nat_le, nat_lt, if◌then◌else◌, refl, ap, sym, ◌∙◌, subst, arith}
use Rattle.std.specs.Prelude.{All, get_or}
use Rattle.std.proofs.lemmas.Bool.{and_left, and_right, lt-leb, le-ltb, cases_eq}
use Rattle.std.proofs.lemmas.List.{get_or_append_left}
use Rattle.std.proofs.Math.Seq.{get_or-append_seam}
use Rattle.std.proofs.lemmas.Option.{slice_get_within}
use Rattle.ir_core.specs.declared.memory.Value.{Value}
use Rattle.ir_core.specs.declared.memory.Value.TheVariants.{Num, Null, At, Fun}
use Rattle.ir_core.specs.declared.memory.Cell.{Cell}
use Rattle.ir_core.specs.declared.memory.Cell.TheVariants.{Unset, Byte, Piece}
use Rattle.ir_core.specs.declared.memory.Object0.{Object0}
use Rattle.ir_core.specs.Memory.{Memory, with_alloca, dead, dead_at, without}
use Rattle.low_core.specs.Flat.{Span, Bytes, covers, forgotten}
use Rattle.low_core.specs.SelParts.{IsOneOf}
use Rattle.low_core.specs.Plan.{Content, Lies}
use Rattle.low_core.specs.Contents.{Addresses, word_of, byte_of}
use Rattle.low_core.specs.Bridge.{Setting, CallMemory, Lives, address_of, IsAddress, FitsCell, IsInCall, IsGlobal, Bridges}
use Rattle.flat_memory.specs.Accesses.{AreFree, with_address}
use Rattle.flat_memory.proofs.Lists.{get_set_same, get_set_other, length_set, get_pushed, get_front, length_pushed}
use Rattle.flat_memory.proofs.Put.{Before, Behind, Inside, where_is}

-- words of before mean the same with one more object
pub address_kept : (n : ℕ) (taken : List Bool) (at : Addresses) (p : ℕ) (v : Value) → length at.objects ≡ n → IsAddress n taken v → (word_of (with_address at p) v ≡ word_of at v) × IsAddress (suc n) taken v
address_kept n taken at p (Num w k) long known = absurd known
address_kept n taken at p Null long known = absurd known
address_kept n taken at p (At o d) long known =
    let lt : o < n = known.0 in
    (ap (λ a. (a + d) % 2 ^ 64) (get_or_append_left at.objects (p ∷ []) 0 o (omega (arith, long, lt))), (omega arith, known.1))
address_kept n taken at p (Fun f) long known = (refl, known)

cell_kept : (n : ℕ) (taken : List Bool) (at : Addresses) (p : ℕ) (b : Option ℕ) (c : Cell) → length at.objects ≡ n → FitsCell n taken at b c → FitsCell (suc n) taken (with_address at p) b c
cell_kept n taken at p b Unset long h = tt
cell_kept n taken at p b (Byte k) long h = h
cell_kept n taken at p b (Piece v k) long h =
    let x = address_kept n taken at p v long h.1 in
    (h.0 ∙ ap (λ w. Some (byte_of k w)) (sym x.0), x.1)

unset_only : (n k : ℕ) (c : Cell) → slice_get (replicate n Unset) k ≡ Some c → c ≡ Unset
unset_only zero k c h = absurd (cc)
unset_only (suc n) zero c h = cc
unset_only (suc n) (suc k) c h = unset_only n k c h

length_unset : (n : ℕ) → length (replicate n Unset) ≡ n
length_unset zero = refl
length_unset (suc n) = ap suc (length_unset n)

-- an alloca of a call is one still, once the call has one more
alloca_kept : (c : CallMemory) (cs : List CallMemory) (new i at size : ℕ) → IsInCall (c ∷ cs) i at size → IsInCall (record c { objects = new ∷ c.objects } ∷ cs) i at size
alloca_kept c cs new i at size (inl x) = inl (record { made = inr x.made; inside = x.inside; writable = x.writable })
alloca_kept c cs new i at size (inr x) = inr x

module _ (g : Setting) (c : CallMemory) (cs : List CallMemory) (m : Memory) (at : Addresses) (bytes : Bytes) (b : Bridges g (c ∷ cs) m at bytes) (p size : ℕ)
    (free : AreFree g m at p size) (inside : covers p size c.own ≡ true) (writable : c.own.writable ≡ true) where
  abbrev addresses_after : Addresses
  addresses_after = with_address at p

  -- the new object, or one of before
  pub data Stands (i : ℕ) (y : Object0) : Type 0 where
    New : i ≡ length m → address_of addresses_after i ≡ p → y.size ≡ size → y.constant ≡ false → y.cells ≡ replicate size Unset → Stands i y
    Old : address_of addresses_after i ≡ address_of at i → slice_get m i ≡ Some y → Stands i y

  pub stands : (i : ℕ) (y : Object0) → slice_get (with_alloca m size) i ≡ Some y → Stands i y
  stands i y h =
      let long = b.numbered in
      elim (get_pushed m (record { live = true; constant = false; size = size; cells = replicate size Unset }) i y h) [
        | inl r ↦
            let e : i ≡ length at.objects = r.0 ∙ sym long in
            New r.0 (ap (λ k. get_or (at.objects ++ p ∷ []) k 0) e ∙ get_or-append_seam at.objects p [] 0)
            (ap (λ (z : Object0). z.size) (sym r.1)) (ap (λ (z : Object0). z.constant) (sym r.1)) (ap (λ (z : Object0). z.cells) (sym r.1))
        | inr r ↦
            let lt : i < length m = r.0 in
            Old (get_or_append_left at.objects (p ∷ []) 0 i (omega (arith, lt, long))) r.1
      ]

  full : (i : ℕ) (y : Object0) → y.live ≡ true → Stands i y → length y.cells ≡ y.size
  full i y l (New is a s k u) = ap length u ∙ length_unset size ∙ sym s
  full i y l (Old a h) = b.full i y (record { stands = h; live = l })

  below : (i : ℕ) (y : Object0) → Stands i y → address_of addresses_after i + y.size < 2 ^ 64
  below i y (New is a s k u) = let z = free.below in omega (arith, a, s, z)
  below i y (Old a h) = let z = b.below i y h in omega (arith, a, z)

  apart : (i j d e : ℕ) (x y : Object0) → x.live ≡ true → y.live ≡ true → i ≢ j → d < x.size → e < y.size → Stands i x → Stands j y → address_of addresses_after i + d ≢ address_of addresses_after j + e
  apart i j d e x y lx ly ne dx ey (New is a s k u) (New js a2 s2 k2 u2) = absurd (ne (is ∙ sym js))
  apart i j d e x y lx ly ne dx ey (New is a s k u) (Old a2 h2) =
      let z = free.apart j e d y (record { stands = h2; live = ly }) ey (omega (arith, dx, s)) in λ r. z (omega (arith, a, a2, r))
  apart i j d e x y lx ly ne dx ey (Old a h) (New js a2 s2 k2 u2) =
      let z = free.apart i d e x (record { stands = h; live = lx }) dx (omega (arith, ey, s2)) in λ r. z (omega (arith, a, a2, r))
  apart i j d e x y lx ly ne dx ey (Old a h) (Old a2 h2) =
      let z = b.apart i j d e x y (record { stands = h; live = lx }) (record { stands = h2; live = ly }) ne dx ey in λ r. z (omega (arith, a, a2, r))

  not_null : (i d : ℕ) (x : Object0) → x.live ≡ true → d < x.size → Stands i x → address_of addresses_after i + d ≢ 0
  not_null i d x l lt (New is a s k u) = let z = free.not_null d (omega (arith, lt, s)) in λ r. z (omega (arith, a, r))
  not_null i d x l lt (Old a h) = let z = b.not_null i d x (record { stands = h; live = l }) lt in λ r. z (omega (arith, a, r))

  no_function : (i d f q : ℕ) (x : Object0) → x.live ≡ true → d < x.size → slice_get g.taken f ≡ Some true → slice_get at.functions f ≡ Some q → Stands i x → address_of addresses_after i + d ≢ q
  no_function i d f q x l lt known is_at (New is a s k u) = let z = free.no_function d f q (omega (arith, lt, s)) known is_at in λ r. z (omega (arith, a, r))
  no_function i d f q x l lt known is_at (Old a h) = let z = b.no_function i d f q x (record { stands = h; live = l }) lt known is_at in λ r. z (omega (arith, a, r))

  in_call : (i : ℕ) (x : Object0) → x.live ≡ true → length g.contents ≤ i → Stands i x → (x.constant ≡ false) × IsInCall (record c { objects = length m ∷ c.objects } ∷ cs) i (address_of addresses_after i) x.size
  in_call i x l past (New is a s k u) = (
    k,
    inl (record {
      made = inl is;
      inside = subst (λ q. covers q x.size c.own ≡ true) (sym a) (subst (λ n. covers p n c.own ≡ true) (sym s) inside);
      writable = writable;
    }),
  )
  in_call i x l past (Old a h) =
      let before = b.in_call i x (record { stands = h; live = l }) past in
      (before.0, subst (λ q. IsInCall (record c { objects = length m ∷ c.objects } ∷ cs) i q x.size) (sym a) (alloca_kept c cs (length m) i (address_of at i) x.size before.1))

  cells : (i k : ℕ) (x : Object0) (e : Cell) → x.live ≡ true → slice_get x.cells k ≡ Some e → Stands i x → FitsCell (suc (length m)) g.taken addresses_after (bytes (address_of addresses_after i + k)) e
  cells i k x e l h (New is a s v u) =
      subst (λ d. FitsCell (suc (length m)) g.taken addresses_after (bytes (address_of addresses_after i + k)) d) (sym (unset_only size k e (subst (λ ds. slice_get ds k ≡ Some e) u h))) tt
  cells i k x e l h (Old a t) =
      subst (λ q. FitsCell (suc (length m)) g.taken addresses_after (bytes (q + k)) e) (sym a)
      (cell_kept (length m) g.taken at p (bytes (address_of at i + k)) e b.numbered (b.cells i k x e (record { stands = t; live = l }) h))

  global : (n q : ℕ) (d : Content) → Lies g.plan g.contents n q d → IsGlobal (with_alloca m size) addresses_after n q d
  global n q d lies =
      let was = b.global n q d lies in
      let within = slice_get_within m n was.object was.lives.stands in
      let long = b.numbered in
      record {
        object = was.object;
        lives = record { stands = get_front m (record { live = true; constant = false; size = size; cells = replicate size Unset } ∷ []) n within ∙ was.lives.stands; live = was.lives.live };
        address_is = get_or_append_left at.objects (p ∷ []) 0 n (omega (arith, within, long)) ∙ was.address_is;
        size = was.size;
        constant = was.constant;
      }

  -- the law of allocas: the bytes are there already, whatever they are
  pub alloca_law : Bridges g (record c { objects = length m ∷ c.objects } ∷ cs) (with_alloca m size) addresses_after bytes
  alloca_law = record {
    numbered = length_pushed at.objects p ∙ ap suc b.numbered ∙ sym (length_pushed m (record { live = true; constant = false; size = size; cells = replicate size Unset }));
    functions = b.functions;
    full = λ i y l. full i y l.live (stands i y l.stands);
    below = λ i y h. below i y (stands i y h);
    global = global;
    in_call = λ i x l past. in_call i x l.live past (stands i x l.stands);
    apart = λ i j d e x y lx ly ne dx ey. apart i j d e x y lx.live ly.live ne dx ey (stands i x lx.stands) (stands j y ly.stands);
    not_null = λ i d x l lt. not_null i d x l.live lt (stands i x l.stands);
    no_function = λ i d f q x l lt known is_at. no_function i d f q x l.live lt known is_at (stands i x l.stands);
    cells = λ i k x e l h. subst (λ n. FitsCell n g.taken addresses_after (bytes (address_of addresses_after i + k)) e) (sym (length_pushed m (record { live = true; constant = false; size = size; cells = replicate size Unset }))) (cells i k x e l.live h (stands i x l.stands));
  }

-- a frame is made where no live object is: its bytes are forgotten
module _ (g : Setting) (cs : List CallMemory) (m : Memory) (at : Addresses) (bytes : Bytes) (b : Bridges g cs m at bytes) (own : Span)
    (off : (i d e : ℕ) (x : Object0) → Lives m i x → d < x.size → e < own.size → address_of at i + d ≢ own.start + e) where
  kept_byte : (p : ℕ) → ((e : ℕ) → e < own.size → p ≢ own.start + e) → forgotten bytes own.start own.size p ≡ bytes p
  kept_byte p apart_from =
      elim (where_is own.start own.size p) [
        | Before lt ↦ ap (λ t. if t then None else bytes p) (and_left (nat_le own.start p) (nat_lt p (own.start + own.size)) (lt-leb own.start p lt))
        | Behind le ↦ ap (λ t. if t then None else bytes p) (and_right (nat_le own.start p) (nat_lt p (own.start + own.size)) (le-ltb p (own.start + own.size) le))
        | Inside e lt is ↦ absurd (apart_from e lt is)
      ]

  pub made_law : Bridges g (record { own = own; objects = [] } ∷ cs) m at (forgotten bytes own.start own.size)
  made_law = record {
    numbered = b.numbered;
    functions = b.functions;
    full = b.full;
    below = b.below;
    global = b.global;
    in_call = λ i x l past. let before = b.in_call i x l past in (before.0, inr before.1);
    apart = b.apart;
    not_null = b.not_null;
    no_function = b.no_function;
    cells = λ i k x c l h.
        let within = slice_get_within x.cells k c h in
        let full = b.full i x l in
        subst (λ y. FitsCell (length m) g.taken at y c) (sym (kept_byte (address_of at i + k) (λ e lt. off i k e x l (omega (arith, within, full)) lt))) (b.cells i k x c l h);
  }

some_same : {x y : Object0} → Some x ≡ Some y → x ≡ y
some_same e = cc

abbrev the_none : Option Object0
the_none = None

not_live : {t : Bool} → t ≡ false → t ≡ true → ⊥
not_live e h = absurd (cc)

-- what becomes of a memory whose objects of some numbers die
record Died (m m2 : Memory) (os : List ℕ) : Type 0 where
  long : length m2 ≡ length m
  lives : (i : ℕ) (y : Object0) → Lives m2 i y → Lives m i y
  gone : (i : ℕ) (y : Object0) → Lives m2 i y → IsOneOf i os → ⊥
  stays : (i : ℕ) → (IsOneOf i os → ⊥) → slice_get m2 i ≡ slice_get m i
  sizes : (i : ℕ) (y : Object0) → slice_get m2 i ≡ Some y → (x : Object0) × ((slice_get m i ≡ Some x) × (x.size ≡ y.size))

-- one of them
record DiedOne (m m2 : Memory) (o : ℕ) : Type 0 where
  long : length m2 ≡ length m
  other : (i : ℕ) → i ≢ o → slice_get m2 i ≡ slice_get m i
  dead_there : (y : Object0) → slice_get m2 o ≡ Some y → y.live ≡ false
  size_there : (y : Object0) → slice_get m2 o ≡ Some y → (x : Object0) × ((slice_get m o ≡ Some x) × (x.size ≡ y.size))

died_one : (m : Memory) (o : ℕ) (q : Option Object0) → slice_get m o ≡ q → DiedOne m (dead_at m o q) o
died_one m o None is = record { long = refl; other = λ i ne. refl; dead_there = λ y h. absurd (none_some (sym is ∙ h)); size_there = λ y h. absurd (none_some (sym is ∙ h)) }
  where
    none_some : {y : Object0} → the_none ≡ Some y → ⊥
    none_some e = absurd (cc)
died_one m o (Some x) is =
    let there : slice_get (slice_set m o (dead x)) o ≡ Some (dead x) = get_set_same m o (dead x) (slice_get_within m o x is) in
    record {
      long = length_set m o (dead x);
      other = λ i ne. get_set_other m o i (dead x) (λ e. ne (sym e));
      dead_there = λ y h. ap (λ (z : Object0). z.live) (sym (some_same (sym there ∙ h)));
      size_there = λ y h. (x, (is, ap (λ (z : Object0). z.size) (some_same (sym there ∙ h))));
    }

first_lives : (m m1 : Memory) (o : ℕ) → DiedOne m m1 o → (i : ℕ) (y : Object0) → Lives m1 i y → Lives m i y
first_lives m m1 o one i y l =
    elim (cases_eq i o) [
      | inl e ↦ absurd (not_live (one.dead_there y (subst (λ k. slice_get m1 k ≡ Some y) e l.stands)) l.live)
      | inr ne ↦ record { stands = sym (one.other i ne) ∙ l.stands; live = l.live }
    ]

first_size : (m m1 : Memory) (o : ℕ) → DiedOne m m1 o → (i : ℕ) (x y : Object0) → slice_get m1 i ≡ Some x → x.size ≡ y.size → (z : Object0) × ((slice_get m i ≡ Some z) × (z.size ≡ y.size))
first_size m m1 o one i x y h s =
    elim (cases_eq i o) [
      | inl e ↦
          let z = one.size_there x (subst (λ k. slice_get m1 k ≡ Some x) e h) in
          (z.0, (subst (λ k. slice_get m k ≡ Some z.0) (sym e) z.1.0, z.1.1 ∙ s))
      | inr ne ↦ (x, (sym (one.other i ne) ∙ h, s))
    ]

died : (m : Memory) (os : List ℕ) → Died m (without m os) os
died m [] = record { long = refl; lives = λ i y l. l; gone = λ i y l h. h; stays = λ i h. refl; sizes = λ i y h. (y, (h, refl)) }
died m (o ∷ os) =
    let one = died_one m o (slice_get m o) refl in
    let m1 = dead_at m o (slice_get m o) in
    let rest = died m1 os in
    record {
      long = rest.long ∙ one.long;
      lives = λ i y l. first_lives m m1 o one i y (rest.lives i y l);
      gone = λ i y l h. elim h [
        | inl e ↦ not_live (one.dead_there y (subst (λ k. slice_get m1 k ≡ Some y) e (rest.lives i y l).stands)) (rest.lives i y l).live
        | inr more ↦ rest.gone i y l more
      ];
      stays = λ i h. rest.stays i (λ more. h (inr more)) ∙ one.other i (λ e. h (inl e));
      sizes = λ i y h. let x = rest.sizes i y h in first_size m m1 o one i x.0 y x.1.0 x.1.1;
    }

not_among : (low : ℕ) (os : List ℕ) → All (λ o. low ≤ o) os → (i : ℕ) → i < low → IsOneOf i os → ⊥
not_among low [] all i lt h = h
not_among low (o ∷ os) all i lt (inl e) = let le : low ≤ o = all 0 o (omega arith) in absurd (omega (arith, e, le, lt))
not_among low (o ∷ os) all i lt (inr h) = not_among low os (λ k d few. all (suc k) d (omega arith)) i lt h

-- a call returns: its objects are dead
module _ (g : Setting) (c : CallMemory) (cs : List CallMemory) (m : Memory) (at : Addresses) (bytes : Bytes) (b : Bridges g (c ∷ cs) m at bytes)
    (own : All (λ o. length g.contents ≤ o) c.objects) where
  pub gone_law : Bridges g cs (without m c.objects) at bytes
  gone_law =
      let d = died m c.objects in
      record {
        numbered = b.numbered ∙ sym d.long;
        functions = b.functions;
        full = λ i x l. b.full i x (d.lives i x l);
        below = λ i y h. let x = d.sizes i y h in let low = b.below i x.0 x.1.0 in let s = x.1.1 in omega (arith, low, s);
        global = λ n a e lies.
            let was = b.global n a e lies in
            let lt = slice_get_within g.contents n e lies.content in
            record {
              object = was.object;
              lives = record { stands = d.stays n (not_among (length g.contents) c.objects own n lt) ∙ was.lives.stands; live = was.lives.live };
              address_is = was.address_is;
              size = was.size;
              constant = was.constant;
            };
        in_call = λ i x l past.
            let before = b.in_call i x (d.lives i x l) past in
            (before.0, in_rest i x.size (d.gone i x l) before.1);
        apart = λ i j e f x y lx ly ne. b.apart i j e f x y (d.lives i x lx) (d.lives j y ly) ne;
        not_null = λ i e x l. b.not_null i e x (d.lives i x l);
        no_function = λ i e f q x l. b.no_function i e f q x (d.lives i x l);
        cells = λ i k x e l h. subst (λ n. FitsCell n g.taken at (bytes (address_of at i + k)) e) (sym d.long) (b.cells i k x e (d.lives i x l) h);
      }
    where
      in_rest : (i size : ℕ) → (IsOneOf i c.objects → ⊥) → IsInCall (c ∷ cs) i (address_of at i) size → IsInCall cs i (address_of at i) size
      in_rest i size none (inl x) = absurd (none x.made)
      in_rest i size none (inr x) = x
