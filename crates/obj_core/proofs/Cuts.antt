-- What the ninth rule says of the cuts of a function.
use Rattle.std.proofs.Common.{◌≡◌, ℕ, zero, suc, ◌+◌, ◌<◌, ◌≤◌, ◌⊎◌, Bool, true, false, ◌&&◌, List, [], ◌∷◌, length, Some, None, if◌then◌else◌, refl, ap, subst, inl, inr, arith, length-append}
use Rattle.std.specs.Prelude.{nat_eq, nat_lt, slice_get}
use Rattle.std.proofs.lemmas.Bool.{eqb-true, ltb-true, and_parts, or_cases}
use Rattle.x86_core.specs.declared.instr.Instr.{Instr}
use Rattle.x86_core.specs.Encoding.{encoding}
use Rattle.x86_core.proofs.Laws.{some_bytes}
use Rattle.obj_core.specs.declared.object.Object.{Object}
use Rattle.obj_core.specs.declared.object.Func.{Func}
use Rattle.obj_core.specs.Disassembly.{Found, found, found_from, starts_at, spelled, size_of}
use Rattle.obj_core.specs.WellFormed.{is_good_cut, bad_cut, stops_at, IsWellFormed}
use Rattle.obj_core.proofs.Kept.{function_keeps}
use Rattle.obj_core.proofs.Inside.{disassembly_at}
use Rattle.obj_core.proofs.Pieces.{Rising, AllRising, IsEdge}

-- the first of some cuts, and the others
good_cut : (before : ℕ) (xs : List Found) (c : ℕ) (cs : List ℕ) → bad_cut before xs (c ∷ cs) ≡ [] → (is_good_cut before xs c ≡ true) × (bad_cut c xs cs ≡ [])
good_cut before xs c cs e = by_test (is_good_cut before xs c) e
  where
    by_test : (t : Bool) → (if t then bad_cut c xs cs else c ∷ []) ≡ [] → (t ≡ true) × (bad_cut c xs cs ≡ [])
    by_test true e = (refl, e)
    by_test false e = absurd (cc)

-- a start lies inside
start_inside : (at : ℕ) (is : List Instr) (off : ℕ) → starts_at (found_from at is) off ≡ true → off < at + length (spelled is)
start_inside at [] off h = absurd (cc)
start_inside at (i ∷ is) off h = elim (or_cases (nat_eq at off) _ h) [
  | inl e ↦ let same = eqb-true at off e in omega (arith, same, length-append (encoding i) (spelled is), some_bytes i)
  | inr k ↦ omega (arith, start_inside (at + size_of i) is off k, length-append (encoding i) (spelled is))
]

-- good cuts rise
pub cuts_rise : (before : ℕ) (is : List Instr) (cs : List ℕ) → before < length (spelled is) → bad_cut before (found is) cs ≡ [] → Rising before cs (length (spelled is))
cuts_rise before is [] lt e = lt
cuts_rise before is (c ∷ cs) lt e =
    let x = good_cut before (found is) c cs e in
    let y = and_parts (nat_lt before c) _ x.0 in
    let z = and_parts (starts_at (found is) c) _ y.1 in
    let inside = start_inside 0 is c z.0 in
    (ltb-true before c y.0, cuts_rise c is cs (omega (arith, inside)) x.1)

-- where a piece ends, a function ends, or an instruction starts behind one that nothing runs past
pub edge_is : (before : ℕ) (xs : List Found) (cs : List ℕ) (end to : ℕ) → bad_cut before xs cs ≡ [] → IsEdge cs end to → (to ≡ end) ⊎ ((starts_at xs to ≡ true) × (stops_at xs to ≡ true))
edge_is before xs [] end to e h = inl h
edge_is before xs (c ∷ cs) end to e (inl h) =
    let x = good_cut before xs c cs e in
    let y = and_parts (nat_lt before c) _ x.0 in
    let z = and_parts (starts_at xs c) _ y.1 in
    let same : c ≡ to = cc in
    inr (subst (λ t. (starts_at xs t ≡ true) × (stops_at xs t ≡ true)) same z)
edge_is before xs (c ∷ cs) end to e (inr h) = edge_is c xs cs end to (good_cut before xs c cs e).1 h

module _ (o : Object) (w : IsWellFormed o) where
  -- the cuts of each function do
  cuts_of : (n : ℕ) (f : Func) → slice_get o.functions n ≡ Some f → Rising 0 f.cuts (length f.bytes)
  cuts_of n f e =
      let x = disassembly_at o.functions w.disassemblies w.disassembled n f e in
      let long : length (spelled x.instrs) ≡ length f.bytes = ap length x.is_disassembly.whole in
      let keeps = function_keeps o w.disassemblies w.kept n f x.instrs e x.there in
      let some : 1 ≤ length f.bytes = x.some in
      subst (Rising 0 f.cuts) long (cuts_rise 0 x.instrs f.cuts (omega (arith, long, some)) keeps.cuts)

  each_rises : (fs : List Func) → ((n : ℕ) (f : Func) → slice_get fs n ≡ Some f → Rising 0 f.cuts (length f.bytes)) → AllRising fs
  each_rises [] h = tt
  each_rises (f ∷ fs) h = (h 0 f refl, each_rises fs (λ n g e. h (suc n) g e))

  pub all_rising : AllRising o.functions
  all_rising = each_rises o.functions cuts_of
