-- The law of the start of a run.
use Rattle.std.proofs.Common.{◌≡◌, ◌≢◌, ℕ, zero, suc, ◌+◌, ◌-◌, ◌<◌, List, [], ◌∷◌, length, map, Some, slice_get, true, nat_le, nat_lt, ◌&&◌, if◌then◌else◌, refl, ap, sym, ◌∙◌, subst, arith}
use Rattle.std.specs.Prelude.{option_map}
use Rattle.std.proofs.lemmas.Bool.{and_left, and_right, and_from, lt-leb, le-ltb, le-leb, lt-ltb}
use Rattle.std.proofs.lemmas.Option.{slice_get_within, slice_get-map, get_or_from_slice_get}
use Rattle.ir_core.specs.declared.memory.Cell.{Cell}
use Rattle.ir_core.specs.declared.memory.Cell.TheVariants.{Unset, Byte, Piece}
use Rattle.ir_core.specs.declared.memory.Object0.{Object0}
use Rattle.ir_core.specs.Memory.{Memory}
use Rattle.low_core.specs.declared.sel.Sel.{Sel}
use Rattle.low_core.specs.Plan.{Plan, Content, Lies, PlanFits, first_bytes}
use Rattle.low_core.specs.Contents.{Addresses, cell_byte, content_of}
use Rattle.low_core.specs.Bridge.{Setting, address_of, FitsCell, Bridges}
use Rattle.flat_memory.specs.Accesses.{SettingFits, AreFirst, IsSet}
use Rattle.flat_memory.proofs.Put.{Before, Behind, Inside, where_is}

length_map : {A B : Type 0} (f : A → B) (xs : List A) → length (map f xs) ≡ length xs
length_map f [] = refl
length_map f (x ∷ xs) = ap suc (length_map f xs)

-- the byte of a global, where no other one has its address
first_at : (ats : List ℕ) (cs : List Content) (n a k : ℕ) (c : Content) (b : ℕ) → slice_get ats n ≡ Some a → slice_get cs n ≡ Some c → slice_get c.bytes k ≡ Some b →
    ((h a2 i : ℕ) (d : Content) → slice_get ats h ≡ Some a2 → slice_get cs h ≡ Some d → h ≢ n → i < length d.bytes → a2 + i ≢ a + k) → first_bytes ats cs (a + k) ≡ Some b
first_at [] cs n a k c b x y z apart = absurd (cc)
first_at (q ∷ ats) [] n a k c b x y z apart = absurd (cc)
first_at (q ∷ ats) (d ∷ cs) zero a k c b x y z apart =
    let same : q ≡ a = cc in
    let same2 : d ≡ c = cc in
    let lt = slice_get_within c.bytes k b z in
    let inside : (nat_le a (a + k) && nat_lt (a + k) (a + length c.bytes)) ≡ true = and_from (nat_le a (a + k)) (nat_lt (a + k) (a + length c.bytes)) (le-leb a (a + k) (omega arith)) (lt-ltb (a + k) (a + length c.bytes) (omega (arith, lt))) in
    let k_is : a + k - a ≡ k = omega arith in
    subst (λ p. first_bytes (p ∷ ats) (d ∷ cs) (a + k) ≡ Some b) (sym same)
    (subst (λ e. first_bytes (a ∷ ats) (e ∷ cs) (a + k) ≡ Some b) (sym same2)
    (ap (λ t. if t then slice_get c.bytes (a + k - a) else first_bytes ats cs (a + k)) inside ∙ ap (slice_get c.bytes) k_is ∙ z))
first_at (q ∷ ats) (d ∷ cs) (suc n) a k c b x y z apart =
    let rest = first_at ats cs n a k c b x y z (λ h a2 i e g1 g2 ne. apart (suc h) a2 i e g1 g2 (λ r. ne (pred_same r))) in
    elim (where_is q (length d.bytes) (a + k)) [
      | Before lt ↦ ap (λ t. if t then slice_get d.bytes (a + k - q) else first_bytes ats cs (a + k)) (and_left (nat_le q (a + k)) (nat_lt (a + k) (q + length d.bytes)) (lt-leb q (a + k) lt)) ∙ rest
      | Behind le ↦ ap (λ t. if t then slice_get d.bytes (a + k - q) else first_bytes ats cs (a + k)) (and_right (nat_le q (a + k)) (nat_lt (a + k) (q + length d.bytes)) (le-ltb (a + k) (q + length d.bytes) le)) ∙ rest
      | Inside e lt is ↦ absurd (apart 0 q e d refl refl (λ r. zero_not r) lt (sym is))
    ]
  where
    pred_same : {h n2 : ℕ} → suc h ≡ suc n2 → h ≡ n2
    pred_same e = omega (arith, e)

    zero_not : {n2 : ℕ} → 0 ≡ suc n2 → ⊥
    zero_not e = absurd (omega (arith, e))

module _ (sel : Sel) (plan : Plan) (objects : Memory) where
  abbrev at : Addresses
  at = record { objects = plan.globals; functions = plan.functions }

  abbrev contents : List Content
  contents = map (content_of at) objects

  abbrev setting : Setting
  setting = record { plan = plan; contents = contents; taken = sel.taken }

  module _ (fits : PlanFits sel contents plan) (first : AreFirst sel.taken objects) where
    -- an object as a global of the plan
    record Planned (i : ℕ) (x : Object0) : Type 0 where
      address : ℕ
      lies : Lies plan contents i address (content_of at x)
      address_is : address_of at i ≡ address
      size : length (content_of at x).bytes ≡ x.size

    planned : (i : ℕ) (x : Object0) → slice_get objects i ≡ Some x → Planned i x
    planned i x h =
        let content : slice_get contents i ≡ Some (content_of at x) = slice_get-map (content_of at) objects i ∙ ap (option_map (content_of at)) h in
        let a = there plan.globals i (in_list i) in
        record {
          address = a.0;
          lies = record { address = a.1; content = content };
          address_is = get_or_from_slice_get plan.globals i a.0 0 a.1;
          size = length_map (cell_byte at) x.cells ∙ first.full i x h;
        }
      where
        in_list : (i2 : ℕ) → i < length plan.globals
        in_list i2 = let lt = slice_get_within objects i x h in let e = fits.globals in let f = length_map (content_of at) objects in omega (arith, lt, e, f)

        there : (xs : List ℕ) (j : ℕ) → j < length xs → (a : ℕ) × (slice_get xs j ≡ Some a)
        there [] j lt = absurd (omega arith)
        there (y ∷ ys) zero lt = (y, refl)
        there (y ∷ ys) (suc j) lt = there ys j (omega arith)

    -- the content of a number is that of an object
    object_of : (xs : Memory) (n : ℕ) (c : Content) → slice_get (map (content_of at) xs) n ≡ Some c → (x : Object0) × ((slice_get xs n ≡ Some x) × (content_of at x ≡ c))
    object_of [] n c h = absurd (cc)
    object_of (x ∷ xs) zero c h = (x, (refl, content_same h))
      where
        content_same : {d e : Content} → Some d ≡ Some e → d ≡ e
        content_same r = cc
    object_of (x ∷ xs) (suc n) c h = object_of xs n c h

    start_cell : (i k : ℕ) (x : Object0) (c : Cell) → slice_get objects i ≡ Some x → slice_get x.cells k ≡ Some c → IsSet (length objects) sel.taken c → FitsCell (length objects) sel.taken at (first_bytes plan.globals contents (address_of at i + k)) c
    start_cell i k x c h e set =
        let p = planned i x h in
        let byte : slice_get (content_of at x).bytes k ≡ Some (cell_byte at c) = slice_get-map (cell_byte at) x.cells k ∙ ap (option_map (cell_byte at)) e in
        let lt = slice_get_within (content_of at x).bytes k (cell_byte at c) byte in
        let there = first_at plan.globals contents i p.address k (content_of at x) (cell_byte at c) p.lies.address p.lies.content byte
        (λ n a2 j d g1 g2 ne lt2. fits.globals_apart n i a2 p.address j k d (content_of at x) (record { address = g1; content = g2 }) p.lies ne lt2 lt) in
        by_cell c set (ap (λ a. first_bytes plan.globals contents (a + k)) p.address_is ∙ there)
      where
        by_cell : (c : Cell) → IsSet (length objects) sel.taken c → first_bytes plan.globals contents (address_of at i + k) ≡ Some (cell_byte at c) → FitsCell (length objects) sel.taken at (first_bytes plan.globals contents (address_of at i + k)) c
        by_cell Unset s is = tt
        by_cell (Byte n) s is = is
        by_cell (Piece v j) s is = (is, s)

    -- the law: globals are where a plan has them, and no call is active
    pub start_law : Bridges setting [] objects at (first_bytes plan.globals contents)
    start_law = record {
      numbered = fits.globals ∙ length_map (content_of at) objects;
      functions = refl;
      full = λ i x l. first.full i x l.stands;
      below = λ i x h.
          let p = planned i x h in
          let low = fits.globals_below i p.address (content_of at x) p.lies in
          let s = p.size in
          let a = p.address_is in
          omega (arith, low, s, a);
      global = λ n a c lies.
          let x = object_of objects n c lies.content in
          record {
            object = x.0;
            lives = record { stands = x.1.0; live = first.live n x.0 x.1.0 };
            address_is = get_or_from_slice_get plan.globals n a 0 lies.address;
            size = sym (first.full n x.0 x.1.0) ∙ sym (length_map (cell_byte at) x.0.cells) ∙ ap (λ (d : Content). length d.bytes) x.1.1;
            constant = ap (λ (d : Content). d.constant) x.1.1;
          };
      in_call = λ i x l past.
          let lt = slice_get_within objects i x l.stands in
          let same = length_map (content_of at) objects in
          absurd (omega (arith, lt, past, same));
      apart = λ i j d e x y lx ly ne dx ey.
          let p = planned i x lx.stands in
          let q = planned j y ly.stands in
          let sp = p.size in
          let sq = q.size in
          let ap2 = p.address_is in
          let aq = q.address_is in
          λ r. fits.globals_apart i j p.address q.address d e (content_of at x) (content_of at y) p.lies q.lies ne (omega (arith, dx, sp)) (omega (arith, ey, sq)) (omega (arith, r, ap2, aq));
      not_null = λ i d x l lt.
          let p = planned i x l.stands in
          let s = p.size in
          let a = p.address_is in
          λ r. (fits.globals_off i p.address d (content_of at x) p.lies (omega (arith, lt, s))).0 (omega (arith, r, a));
      no_function = λ i d f q x l lt known is_at.
          let p = planned i x l.stands in
          let s = p.size in
          let a = p.address_is in
          λ r. fits.functions_beside f i q p.address d (content_of at x) (record { taken = known; address = is_at }) p.lies (omega (arith, lt, s)) (omega (arith, r, a));
      cells = λ i k x c l h. start_cell i k x c l.stands h (first.set i k x c l.stands h);
    }

    -- what the laws ask of a setting
    pub setting_fits : length sel.taken ≡ length sel.functions → SettingFits setting
    setting_fits told = record {
      globals = fits.globals;
      known = λ f known. let lt = slice_get_within sel.taken f true known in let e = fits.functions in omega (arith, lt, e, told);
      below = λ f a known is. fits.functions_below f a (record { taken = known; address = is });
      not_null = λ f a known is. (fits.functions_off f a (record { taken = known; address = is })).0;
      apart = λ e f a ke kf ie jf. fits.functions_apart e f a (record { taken = ke; address = ie }) (record { taken = kf; address = jf });
    }
