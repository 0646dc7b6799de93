-- Globals lie outside of the stack.
use Rattle.std.proofs.Common.{◌≡◌, ℕ, suc, ◌+◌, ◌-◌, ◌<◌, ◌≤◌, true, not, nat_le, List, [], ◌∷◌, length, Some, refl, subst, inl, inr, arith}
use Rattle.std.specs.Prelude.{slice_get}
use Rattle.std.proofs.lemmas.Bool.{or_cases, and_parts, leb-true}
use Rattle.low_core.specs.declared.sel.Sel.{Sel}
use Rattle.low_core.specs.Flat.{covers, is_inside}
use Rattle.low_core.specs.Plan.{Plan, Content, IsOffStack, PlanFits, global_spans}

-- a byte of a global
record IsIn (ats : List ℕ) (cs : List Content) (p : ℕ) : Type 0 where
  number : ℕ
  start : ℕ
  content : Content
  address : slice_get ats number ≡ Some start
  there : slice_get cs number ≡ Some content
  low : start ≤ p
  high : p < start + length content.bytes

is_in : (ats : List ℕ) (cs : List Content) (p : ℕ) → is_inside p 1 (global_spans ats cs) ≡ true → IsIn ats cs p
is_in [] cs p e = absurd (cc)
is_in (at ∷ ats) [] p e = absurd (cc)
is_in (at ∷ ats) (c ∷ cs) p e = elim (or_cases (covers p 1 (record { start = at; size = length c.bytes; writable = not c.constant })) (is_inside p 1 (global_spans ats cs)) e) [
  | inl here ↦
      let x = and_parts (nat_le at p) (nat_le (p + 1) (at + length c.bytes)) here in
      let high = leb-true (p + 1) (at + length c.bytes) x.1 in
      record { number = 0; start = at; content = c; address = refl; there = refl; low = leb-true at p x.0; high = omega (arith, high) }
  | inr more ↦ let y = is_in ats cs p more in record { number = suc y.number; start = y.start; content = y.content; address = y.address; there = y.there; low = y.low; high = y.high }
]

pub globals_off : (sel : Sel) (plan : Plan) (contents : List Content) → PlanFits sel contents plan → (p : ℕ) → is_inside p 1 (global_spans plan.globals contents) ≡ true → IsOffStack p
globals_off sel plan contents fits p e =
    let x = is_in plan.globals contents p e in
    let low = x.low in
    let high = x.high in
    let same : x.start + (p - x.start) ≡ p = omega (arith, low) in
    let off = fits.globals_off x.number x.start (p - x.start) x.content (record { address = x.address; content = x.there }) (omega (arith, low, high)) in
    subst IsOffStack same off.1
