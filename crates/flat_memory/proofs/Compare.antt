-- The laws of comparisons and of pointers that move.
use Rattle.std.proofs.Common.{◌≡◌, ◌≢◌, ℕ, zero, suc, ◌+◌, ◌<◌, ◌%◌, ◌^◌, inl, inr, List, [], ◌∷◌, length, Option, Some, None, Ok, slice_get, Bool, true, false, nat_le, nat_lt, nat_eq, ◌&&◌, not, if◌then◌else◌, refl, ap, sym, ◌∙◌, subst, arith}
use Rattle.std.proofs.lemmas.Bool.{leb-true, eqb-true, eqb-false, ne_eqb, eq-eqb, and_parts, cases_eq, cases_lt, ltb-true, lt-ltb, le-ltb, le-leb, lt-leb}
use Rattle.std.proofs.lemmas.Option.{get_or_from_slice_get}
use Rattle.rd_num.specs.declared.width.Width.TheVariants.{W64}
use Rattle.ir_core.specs.declared.instruction.Pred.{Pred}
use Rattle.ir_core.specs.declared.instruction.Pred.TheVariants.{Eq, Ne, Ult, Ule, Ugt, Uge, Slt, Sle, Sgt, Sge}
use Rattle.ir_core.specs.declared.memory.Value.{Value}
use Rattle.ir_core.specs.declared.memory.Value.TheVariants.{Num, Null, At, Fun}
use Rattle.ir_core.specs.declared.memory.Object0.{Object0}
use Rattle.ir_core.specs.declared.memory.Reason.TheVariants.{Order, Equal, Gep}
use Rattle.ir_core.specs.Stops.{Answer, Left}
use Rattle.ir_core.specs.Arithmetic.{compared}
use Rattle.ir_core.specs.Memory.{Memory}
use Rattle.ir_core.specs.Pointers.{holds_place, is_inside, apart_if, pointers_equal, reaches, pointers_ordered, pointers_compared, unmoved_pointer, moved_pointer}
use Rattle.low_core.specs.Flat.{Bytes}
use Rattle.low_core.specs.Contents.{Addresses, word_of}
use Rattle.low_core.specs.Bridge.{Setting, CallMemory, Lives, address_of, Bridges}
use Rattle.flat_memory.specs.Accesses.{SettingFits, IsPointer, Moves}
use Rattle.flat_memory.proofs.Tests.{then_ok, first_ok}
use Rattle.flat_memory.proofs.Load.{inside_word}

-- two tests of sameness that agree
same_test : (a b c d : ℕ) → (a ≡ b → c ≡ d) → (c ≡ d → a ≡ b) → nat_eq a b ≡ nat_eq c d
same_test a b c d to back =
    elim (cases_eq a b) [
      | inl e ↦ eq-eqb a b e ∙ sym (eq-eqb c d (to e))
      | inr ne ↦ ne_eqb a b ne ∙ sym (ne_eqb c d (λ e. ne (back e)))
    ]

-- an answer that is a truth value
abbrev truth_answer : Bool → Answer Bool
truth_answer t = Ok t

truth_same : {x y : Bool} → truth_answer x ≡ truth_answer y → x ≡ y
truth_same e = cc

-- and one that is a value
abbrev value_answer : Value → Answer Value
value_answer z = Ok z

value_same : {y z : Value} → value_answer y ≡ value_answer z → y ≡ z
value_same e = cc

-- sums in the order of what was added
lt_shifted : (a d e : ℕ) → nat_lt (a + d) (a + e) ≡ nat_lt d e
lt_shifted a d e =
    elim (cases_lt d e) [
      | inl lt ↦ lt-ltb (a + d) (a + e) (omega arith) ∙ sym (lt-ltb d e lt)
      | inr le ↦ le-ltb (a + d) (a + e) (omega arith) ∙ sym (le-ltb d e le)
    ]

le_shifted : (a d e : ℕ) → nat_le (a + d) (a + e) ≡ nat_le d e
le_shifted a d e =
    elim (cases_lt e d) [
      | inl lt ↦ lt-leb (a + d) (a + e) (omega arith) ∙ sym (lt-leb d e lt)
      | inr le ↦ le-leb (a + d) (a + e) (omega arith) ∙ sym (le-leb d e le)
    ]

module _ (g : Setting) (calls : List CallMemory) (m : Memory) (at : Addresses) (bytes : Bytes) (fits : SettingFits g) (b : Bridges g calls m at bytes) where
  -- the live object in which an offset is
  record Found (o d : ℕ) : Type 0 where
    object : Object0
    lives : Lives m o object
    lt : d < object.size

  found : (o d : ℕ) → is_inside m o d ≡ true → Found o d
  found o d h = go (slice_get m o) refl h
    where
      go : (q : Option Object0) → slice_get m o ≡ q → holds_place q d ≡ true → Found o d
      go None is h2 = absurd (cc)
      go (Some x) is h2 =
          let both = and_parts x.live (nat_lt d x.size) h2 in
          record { object = x; lives = record { stands = is; live = both.0 }; lt = ltb-true d x.size both.1 }

  -- where a place is inside, its word is its address
  plain : (o d : ℕ) (x : Found o d) → word_of at (At o d) ≡ address_of at o + d
  plain o d x = let lt = x.lt in inside_word g calls m at bytes fits b o d x.object x.lives.stands (omega (arith, lt))

  -- the word of a function, and what is told of it
  record FunctionAt (f : ℕ) : Type 0 where
    address : ℕ
    planned : slice_get g.plan.functions f ≡ Some address
    stands : slice_get at.functions f ≡ Some address
    word : word_of at (Fun f) ≡ address

  function_at : (f : ℕ) → slice_get g.taken f ≡ Some true → FunctionAt f
  function_at f known =
      let a = there g.plan.functions f (fits.known f known) in
      let stands : slice_get at.functions f ≡ Some a.0 = ap (λ fs. slice_get fs f) b.functions ∙ a.1 in
      record { address = a.0; planned = a.1; stands = stands; word = get_or_from_slice_get at.functions f a.0 0 stands }
    where
      there : (fs : List ℕ) (f : ℕ) → f < length fs → (a : ℕ) × (slice_get fs f ≡ Some a)
      there [] f lt = absurd (omega arith)
      there (a ∷ fs) zero lt = (a, refl)
      there (a ∷ fs) (suc f) lt = there fs f (omega arith)

  apart_is : (t r : Bool) → apart_if t ≡ truth_answer r → (t ≡ true) × (false ≡ r)
  apart_is t r h = let x = then_ok t (truth_answer false) (Left Equal) r h in (x.0, truth_same x.1)

  not_null : (o d : ℕ) → Found o d → word_of at (At o d) ≢ 0
  not_null o d x e = b.not_null o d x.object x.lives x.lt (sym (plain o d x) ∙ e)

  not_function : (o d f : ℕ) → Found o d → slice_get g.taken f ≡ Some true → word_of at (At o d) ≢ word_of at (Fun f)
  not_function o d f x known e =
      let a = function_at f known in
      b.no_function o d f a.address x.object x.lives x.lt known a.stands (sym (plain o d x) ∙ e ∙ a.word)

  function_not_null : (f : ℕ) → slice_get g.taken f ≡ Some true → word_of at (Fun f) ≢ 0
  function_not_null f known e = let a = function_at f known in fits.not_null f a.address known a.planned (sym a.word ∙ e)

  functions_same : (f h : ℕ) → slice_get g.taken f ≡ Some true → slice_get g.taken h ≡ Some true → nat_eq (word_of at (Fun f)) (word_of at (Fun h)) ≡ nat_eq f h
  functions_same f h kf kh =
      let a = function_at f kf in
      let c = function_at h kh in
      same_test (word_of at (Fun f)) (word_of at (Fun h)) f h
      (λ e. fits.apart f h a.address kf kh a.planned (c.planned ∙ ap Some (sym c.word ∙ sym e ∙ a.word)))
      (λ e. ap (λ k. word_of at (Fun k)) e)

  one_object : (o d e : ℕ) → d < 2 ^ 64 → e < 2 ^ 64 → nat_eq (word_of at (At o d)) (word_of at (At o e)) ≡ nat_eq d e
  one_object o d e ld le =
      let a : ℕ = address_of at o in
      same_test (word_of at (At o d)) (word_of at (At o e)) d e (λ h. omega arith) (λ h. ap (λ i. (a + i) % 2 ^ 64) h)

  two_objects : (o d p e : ℕ) → o ≢ p → Found o d → Found p e → word_of at (At o d) ≢ word_of at (At p e)
  two_objects o d p e ne x y h = b.apart o p d e x.object y.object x.lives y.lives ne x.lt y.lt (sym (plain o d x) ∙ h ∙ plain p e y)

  places_equal : (o d p e : ℕ) (r : Bool) → d < 2 ^ 64 → e < 2 ^ 64 → (if nat_eq o p then Ok (nat_eq d e) else apart_if (is_inside m o d && is_inside m p e)) ≡ truth_answer r →
      nat_eq (word_of at (At o d)) (word_of at (At p e)) ≡ r
  places_equal o d p e r ld le h = go (nat_eq o p) refl h
    where
      go : (t : Bool) → nat_eq o p ≡ t → (if t then Ok (nat_eq d e) else apart_if (is_inside m o d && is_inside m p e)) ≡ truth_answer r → nat_eq (word_of at (At o d)) (word_of at (At p e)) ≡ r
      go true same h2 = subst (λ q. nat_eq (word_of at (At o d)) (word_of at (At q e)) ≡ r) (eqb-true o p same) (one_object o d e ld le ∙ truth_same h2)
      go false other h2 =
          let x = apart_is (is_inside m o d && is_inside m p e) r h2 in
          let both = and_parts (is_inside m o d) (is_inside m p e) x.0 in
          ne_eqb (word_of at (At o d)) (word_of at (At p e)) (two_objects o d p e (eqb-false o p other) (found o d both.0) (found p e both.1)) ∙ x.1

  -- where two pointers may be compared for sameness, their words are the same or not alike
  equal_law : (u v : Value) (r : Bool) → IsPointer (length m) g.taken u → IsPointer (length m) g.taken v → pointers_equal m u v ≡ Ok r → nat_eq (word_of at u) (word_of at v) ≡ r
  equal_law (Num w n) v r ku kv h = absurd ku
  equal_law Null (Num w n) r ku kv h = absurd kv
  equal_law Null Null r ku kv h = truth_same h
  equal_law Null (Fun f) r ku kv h = ne_eqb 0 (word_of at (Fun f)) (λ e. function_not_null f kv (sym e)) ∙ truth_same h
  equal_law Null (At p e) r ku kv h = let x = apart_is (is_inside m p e) r h in ne_eqb 0 (word_of at (At p e)) (λ z. not_null p e (found p e x.0) (sym z)) ∙ x.1
  equal_law (Fun f) (Num w n) r ku kv h = absurd kv
  equal_law (Fun f) Null r ku kv h = ne_eqb (word_of at (Fun f)) 0 (function_not_null f ku) ∙ truth_same h
  equal_law (Fun f) (Fun k) r ku kv h = functions_same f k ku kv ∙ truth_same h
  equal_law (Fun f) (At p e) r ku kv h =
      let x = apart_is (is_inside m p e) r h in ne_eqb (word_of at (Fun f)) (word_of at (At p e)) (λ z. not_function p e f (found p e x.0) ku (sym z)) ∙ x.1
  equal_law (At o d) (Num w n) r ku kv h = absurd kv
  equal_law (At o d) Null r ku kv h = let x = apart_is (is_inside m o d) r h in ne_eqb (word_of at (At o d)) 0 (not_null o d (found o d x.0)) ∙ x.1
  equal_law (At o d) (Fun f) r ku kv h =
      let x = apart_is (is_inside m o d) r h in ne_eqb (word_of at (At o d)) (word_of at (Fun f)) (not_function o d f (found o d x.0) kv) ∙ x.1
  equal_law (At o d) (At p e) r ku kv h = places_equal o d p e r ku.1 kv.1 h

  -- a place that is at most at its object's end, dead or alive
  reached : (o d : ℕ) → reaches (slice_get m o) d ≡ true → word_of at (At o d) ≡ address_of at o + d
  reached o d h = go (slice_get m o) refl h
    where
      go : (q : Option Object0) → slice_get m o ≡ q → reaches q d ≡ true → word_of at (At o d) ≡ address_of at o + d
      go None is h2 = absurd (cc)
      go (Some x) is h2 = inside_word g calls m at bytes fits b o d x is (leb-true d x.size h2)

  -- two places of one object that may be ordered
  record Ordered (pred : Pred) (u v : Value) (r : Bool) : Type 0 where
    first : ℕ
    second : ℕ
    start : ℕ
    first_word : word_of at u ≡ start + first
    second_word : word_of at v ≡ start + second
    says : compared pred W64 first second ≡ r

  ordered : (pred : Pred) (u v : Value) (r : Bool) → pointers_ordered pred m u v ≡ truth_answer r → Ordered pred u v r
  ordered pred (Num w n) v r h = absurd (cc)
  ordered pred Null v r h = absurd (cc)
  ordered pred (Fun f) v r h = absurd (cc)
  ordered pred (At o d) (Num w n) r h = absurd (cc)
  ordered pred (At o d) Null r h = absurd (cc)
  ordered pred (At o d) (Fun f) r h = absurd (cc)
  ordered pred (At o d) (At p e) r h =
      let x = then_ok (nat_eq o p && (reaches (slice_get m o) d && reaches (slice_get m o) e)) (truth_answer (compared pred W64 d e)) (Left Order) r h in
      let same = and_parts (nat_eq o p) (reaches (slice_get m o) d && reaches (slice_get m o) e) x.0 in
      let both = and_parts (reaches (slice_get m o) d) (reaches (slice_get m o) e) same.1 in
      record {
        first = d;
        second = e;
        start = address_of at o;
        first_word = reached o d both.0;
        second_word = subst (λ q. word_of at (At q e) ≡ address_of at o + e) (eqb-true o p same.0) (reached o e both.1);
        says = truth_same x.1;
      }

  -- the law of comparisons
  pub compare_law : (pred : Pred) (u v : Value) (r : Bool) → IsPointer (length m) g.taken u → IsPointer (length m) g.taken v → pointers_compared pred m u v ≡ Ok r → compared pred W64 (word_of at u) (word_of at v) ≡ r
  compare_law Eq u v r ku kv h = equal_law u v r ku kv h
  compare_law Ne u v r ku kv h =
      let x = first_ok (pointers_equal m u v) (λ same. truth_answer (not same)) r h in
      ap not (equal_law u v x.first ku kv x.is) ∙ truth_same x.then_is
  compare_law Ult u v r ku kv h =
      let x = ordered Ult u v r h in
      ap (λ a. nat_lt a (word_of at v)) x.first_word ∙ ap (nat_lt (x.start + x.first)) x.second_word ∙ lt_shifted x.start x.first x.second ∙ x.says
  compare_law Ule u v r ku kv h =
      let x = ordered Ule u v r h in
      ap (λ a. nat_le a (word_of at v)) x.first_word ∙ ap (nat_le (x.start + x.first)) x.second_word ∙ le_shifted x.start x.first x.second ∙ x.says
  compare_law Ugt u v r ku kv h =
      let x = ordered Ugt u v r h in
      ap (λ a. nat_lt (word_of at v) a) x.first_word ∙ ap (λ a. nat_lt a (x.start + x.first)) x.second_word ∙ lt_shifted x.start x.second x.first ∙ x.says
  compare_law Uge u v r ku kv h =
      let x = ordered Uge u v r h in
      ap (λ a. nat_le (word_of at v) a) x.first_word ∙ ap (λ a. nat_le a (x.start + x.first)) x.second_word ∙ le_shifted x.start x.second x.first ∙ x.says
  compare_law Slt u v r ku kv h = absurd (cc)
  compare_law Sle u v r ku kv h = absurd (cc)
  compare_law Sgt u v r ku kv h = absurd (cc)
  compare_law Sge u v r ku kv h = absurd (cc)

  unmoved : (by : ℕ) (v u : Value) → IsPointer (length m) g.taken v → word_of at v < 2 ^ 64 → unmoved_pointer by v ≡ Ok u → Moves g m at by v u
  unmoved by v u known small h =
      let x = then_ok (nat_eq (by % 2 ^ 64) 0) (value_answer v) (Left Gep) u h in
      let none : by % 2 ^ 64 ≡ 0 = eqb-true (by % 2 ^ 64) 0 x.0 in
      subst (Moves g m at by v) (value_same x.1) (record { word = omega (arith, none, small); pointer = known })

  -- the law of pointers that move
  pub moved_law : (by : ℕ) (v u : Value) → IsPointer (length m) g.taken v → moved_pointer by v ≡ Ok u → Moves g m at by v u
  moved_law by (Num w n) u known h = absurd known
  moved_law by Null u known h = unmoved by Null u known (omega arith) h
  moved_law by (Fun f) u known h =
      let a = function_at f known in
      let lt = fits.below f a.address known a.planned in
      let is = a.word in
      unmoved by (Fun f) u known (omega (arith, lt, is)) h
  moved_law by (At o d) u known h =
      let p : ℕ = address_of at o in
      subst (Moves g m at by (At o d)) (value_same h) (record { word = omega arith; pointer = (known.0, omega arith) })
