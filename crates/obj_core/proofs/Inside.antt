-- Functions of a well-formed object have bytes, and their links lie inside them.
use Rattle.std.proofs.Common.{◌≡◌, ℕ, zero, suc, ◌+◌, ◌<◌, ◌≤◌, true, ◌&&◌, List, [], ◌∷◌, length, get_or, Option, Some, None, refl, subst, inl, inr, arith, length-append, ap}
use Rattle.std.specs.Prelude.{nat_eq, nat_lt, slice_get}
use Rattle.std.proofs.Math.Logic.{∥∥₁_elim}
use Rattle.std.proofs.Math.Bridge.{le_prop}
use Rattle.std.proofs.lemmas.Bool.{eqb-true, ltb-true, and_parts, or_cases}
use Rattle.x86_core.specs.declared.instr.Instr.{Instr}
use Rattle.x86_core.specs.Encoding.{encoding}
use Rattle.x86_core.proofs.Laws.{some_bytes}
use Rattle.obj_core.specs.declared.object.Object.{Object}
use Rattle.obj_core.specs.declared.object.Func.{Func}
use Rattle.obj_core.specs.declared.object.Link.{Link}
use Rattle.obj_core.specs.Disassembly.{AreDisassemblies, IsDisassembly, found, found_from, spelled, size_of}
use Rattle.obj_core.specs.WellFormed.{IsWellFormed, fills_zero, is_zero, displacement, bad_links}
use Rattle.obj_core.proofs.Kept.{good_parts, good_first, function_keeps}

-- a function has a disassembly, and so some bytes
pub record HasDisassembly (disassemblies : List (List Instr)) (n : ℕ) (f : Func) : Type 0 where
  pub instrs : List Instr
  pub there : slice_get disassemblies n ≡ Some instrs
  pub is_disassembly : IsDisassembly f.bytes instrs
  pub some : 1 ≤ length f.bytes

pub disassembly_at : (fs : List Func) (disassemblies : List (List Instr)) → AreDisassemblies fs disassemblies → (n : ℕ) (f : Func) → slice_get fs n ≡ Some f → HasDisassembly disassemblies n f
disassembly_at [] [] h n f e = absurd (cc)
disassembly_at [] (c ∷ disassemblies) h n f e = absurd h
disassembly_at (g ∷ fs) [] h n f e = absurd h
disassembly_at (g ∷ fs) ([] ∷ disassemblies) h n f e = absurd h
disassembly_at (g ∷ fs) ((i ∷ is) ∷ disassemblies) h zero f e =
    let same : g ≡ f = cc in
    let first : IsDisassembly g.bytes (i ∷ is) = h.0 in
    let long : length (spelled (i ∷ is)) ≡ length g.bytes = ap length first.whole in
    let some : 1 ≤ length g.bytes = omega (arith, long, length-append (encoding i) (spelled is), some_bytes i) in
    record { instrs = i ∷ is; there = refl; is_disassembly = subst (λ (x : Func). IsDisassembly x.bytes (i ∷ is)) same first; some = subst (λ (x : Func). 1 ≤ length x.bytes) same some }
disassembly_at (g ∷ fs) ((i ∷ is) ∷ disassemblies) h (suc n) f e =
    let x = disassembly_at fs disassemblies h.1 n f e in
    record { instrs = x.instrs; there = x.there; is_disassembly = x.is_disassembly; some = x.some }

-- a place that is good for a link lies inside
fills_inside : (instrs : List Instr) (at x : ℕ) → fills_zero (found_from at instrs) x ≡ true → x + 4 ≤ at + length (spelled instrs)
fills_inside [] at x h = absurd (cc)
fills_inside (i ∷ is) at x h = elim (or_cases (nat_eq (at + size_of i) (x + 4) && is_zero (displacement i)) _ h) [
  | inl here ↦ let same = eqb-true (at + size_of i) (x + 4) (and_parts (nat_eq (at + size_of i) (x + 4)) _ here).0 in omega (arith, same, length-append (encoding i) (spelled is))
  | inr more ↦ omega (arith, fills_inside is (at + size_of i) x more, length-append (encoding i) (spelled is))
]

-- and so does each link of a good list
links_inside : (before : Option ℕ) (instrs : List Instr) (slots : ℕ) (ls : List Link) → bad_links before (found instrs) slots ls ≡ [] → (k : ℕ) (d : Link) → k < length ls → (get_or ls k d).at + 4 ≤ length (spelled instrs)
links_inside before instrs slots [] h k d lt = absurd (omega (arith, lt))
links_inside before instrs slots (l ∷ ls) h zero d lt = omega (arith, fills_inside instrs 0 l.at (good_parts before (found instrs) slots l (good_first before (found instrs) slots l ls h).0).0)
links_inside before instrs slots (l ∷ ls) h (suc k) d lt = links_inside (Some l.at) instrs slots ls (good_first before (found instrs) slots l ls h).1 k d (omega (arith, lt))

-- links lie one behind the other, so there are not many of them
links_few : (b : ℕ) (instrs : List Instr) (slots : ℕ) (ls : List Link) → b ≤ length (spelled instrs) → bad_links (Some b) (found instrs) slots ls ≡ [] → b + length ls ≤ length (spelled instrs)
links_few b instrs slots [] le h = omega (arith, le)
links_few b instrs slots (l ∷ ls) le h =
    let x = good_first (Some b) (found instrs) slots l ls h in
    let behind : b < l.at = ltb-true b l.at (and_parts (nat_lt b l.at) _ x.0).0 in
    let inside = fills_inside instrs 0 l.at (good_parts (Some b) (found instrs) slots l x.0).0 in
    omega (arith, behind, links_few l.at instrs slots ls (omega (arith, inside)) x.1)

-- at most one link more than bytes
pub few_links : (instrs : List Instr) (slots : ℕ) (ls : List Link) → bad_links None (found instrs) slots ls ≡ [] → length ls ≤ length (spelled instrs) + 1
few_links instrs slots [] h = omega arith
few_links instrs slots (l ∷ ls) h =
    let x = good_first None (found instrs) slots l ls h in
    let inside = fills_inside instrs 0 l.at (good_parts None (found instrs) slots l x.0).0 in
    omega (arith, links_few l.at instrs slots ls (omega (arith, inside)) x.1)

module _ (o : Object) (known : ∥ IsWellFormed o ∥₁) (n : ℕ) (f : Func) (e : slice_get o.functions n ≡ Some f) where
  pub some_byte : 1 ≤ length f.bytes
  some_byte = ∥∥₁_elim known le_prop (λ w. (disassembly_at o.functions w.disassemblies w.disassembled n f e).some)

  inside_of : IsWellFormed o → (k : ℕ) (d : Link) → k < length f.links → (get_or f.links k d).at + 4 ≤ length f.bytes
  inside_of w k d lt =
      let x = disassembly_at o.functions w.disassemblies w.disassembled n f e in
      let long : length (spelled x.instrs) ≡ length f.bytes = ap length x.is_disassembly.whole in
      let keeps = function_keeps o w.disassemblies w.kept n f x.instrs e x.there in
      omega (arith, long, links_inside None x.instrs (length o.slots) f.links keeps.links k d lt)

  pub all_inside : (k : ℕ) (d : Link) → k < length f.links → (get_or f.links k d).at + 4 ≤ length f.bytes
  all_inside k d lt = ∥∥₁_elim known le_prop (λ w. inside_of w k d lt)
