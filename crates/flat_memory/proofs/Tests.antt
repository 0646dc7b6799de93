-- Answers that passed tests, and the range that a load or a store goes to.
use Rattle.std.proofs.Common.{◌≡◌, ℕ, ◌+◌, ◌≤◌, Option, Some, None, Ok, Err, slice_get, Bool, true, false, nat_le, if◌then◌else◌, refl, subst}
use Rattle.std.proofs.lemmas.Bool.{leb-true}
use Rattle.ir_core.specs.declared.memory.Value.{Value}
use Rattle.ir_core.specs.declared.memory.Value.TheVariants.{Num, Null, At, Fun}
use Rattle.ir_core.specs.declared.memory.Object0.{Object0}
use Rattle.ir_core.specs.Stops.{Stop, Answer, and_then}
use Rattle.ir_core.specs.Memory.{Memory, Range, range_of, readable_range}
use Rattle.low_core.specs.Bridge.{Lives}

-- a test that was passed, and what came behind it
pub then_ok : {A : Type 0} (b : Bool) (r : Answer A) (e : Stop) (u : A) → (if b then r else Err e) ≡ Ok u → (b ≡ true) × (r ≡ Ok u)
then_ok true r e u h = (refl, h)
then_ok false r e u h = absurd (cc)

pub else_ok : {A : Type 0} (b : Bool) (r : Answer A) (e : Stop) (u : A) → (if b then Err e else r) ≡ Ok u → (b ≡ false) × (r ≡ Ok u)
else_ok true r e u h = absurd (cc)
else_ok false r e u h = (refl, h)

-- the first answer of two
pub record FirstOk {A B : Type 0} (a : Answer A) (rest : A → Answer B) (u : B) : Type 0 where
  pub first : A
  pub is : a ≡ Ok first
  pub then_is : rest first ≡ Ok u

pub first_ok : {A B : Type 0} (a : Answer A) (rest : A → Answer B) (u : B) → and_then a rest ≡ Ok u → FirstOk a rest u
first_ok (Ok x) rest u h = record { first = x; is = refl; then_is = h }
first_ok (Err e) rest u h = absurd (cc)

-- a range that passed the tests of a load
pub record InObject (m : Memory) (count : ℕ) (v : Value) (r : Range) : Type 0 where
  pub is_place : v ≡ At r.object r.offset
  pub lives : Lives m r.object r.held
  pub inside : r.offset + count ≤ r.held.size

in_found : (m : Memory) (count o d : ℕ) (q : Option Object0) (r : Range) → slice_get m o ≡ q → range_of o d count q ≡ Ok r → InObject m count (At o d) r
in_found m count o d None r is h = absurd (cc)
in_found m count o d (Some x) r is h =
    let l = then_ok x.live _ _ r h in
    let n = then_ok (nat_le (d + count) x.size) _ _ r l.1 in
    let same : record { object = o; offset = d; held = x } ≡ r = cc in
    subst (InObject m count (At o d)) same (record { is_place = refl; lives = record { stands = is; live = l.0 }; inside = leb-true _ _ n.0 })

pub in_object : (m : Memory) (count : ℕ) (v : Value) (r : Range) → readable_range m count v ≡ Ok r → InObject m count v r
in_object m count (At o d) r h = in_found m count o d (slice_get m o) r refl h
in_object m count (Num w n) r h = absurd (cc)
in_object m count Null r h = absurd (cc)
in_object m count (Fun f) r h = absurd (cc)
