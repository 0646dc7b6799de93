-- Displacements that are put one after the other, as the instructions are found.
use Rattle.std.proofs.Common.{◌≡◌, ℕ, ◌+◌, ◌-◌, ◌≤◌, List, [], ◌∷◌, ◌++◌, length, take, drop, refl, sym, ◌∙◌, ap, subst, arith, length-append, length-drop}
use Rattle.std.proofs.lemmas.List.{drop-drop, take_rest}
use Rattle.x86_core.specs.declared.instr.Instr.{Instr}
use Rattle.x86_core.specs.declared.instr.Decoded.TheVariants.{One, Short, Unknown}
use Rattle.x86_core.specs.declared.instr.Decoded.{Decoded}
use Rattle.x86_core.specs.Encoding.{encoding, Begins}
use Rattle.x86_core.specs.Decoding.{decode}
use Rattle.x86_core.proofs.Laws.{some_bytes}
use Rattle.obj_core.specs.declared.object.Func.{Func}
use Rattle.obj_core.specs.declared.object.CodeAt.{CodeAt}
use Rattle.obj_core.specs.declared.code.CodeBuilder.{CodeBuilder}
use Rattle.obj_core.specs.declared.run.Run.{Run}
use Rattle.obj_core.specs.Disassembly.{size_of, and_others, instrs_from, instrs_in}
use Rattle.obj_core.specs.WellFormed.{displacement}
use Rattle.obj_core.specs.Layout.{Way, way_of, ways_of, branch_ways}
use Rattle.obj_lay.specs.declared.instr_at.InstrAt.{InstrAt}
use Rattle.obj_lay.specs.Putting.{put_ways, IsDecoded}
use Rattle.obj_lay.proofs.Instructions.{first_instr}

-- some ways, and then others
pub put_both : (runs : List Run) (start front : ℕ) (vs ws : List Way) (all : List ℕ) → put_ways runs start front (vs ++ ws) all ≡ put_ways runs start front ws (put_ways runs start front vs all)
put_both runs start front [] ws all = refl
put_both runs start front (v ∷ vs) ws all = put_both runs start front vs ws _

-- what was decoded at an offset
pub decoded_here : (bytes : List ℕ) (at : ℕ) (i : Instr) (size : ℕ) → at ≤ length bytes → One i size ≡ decode (take (length bytes - at) (drop at bytes)) → Begins (take (length bytes - at) (drop at bytes)) i → size ≡ size_of i → IsDecoded bytes at (record { at = at; end = at + size; instr = i })
decoded_here bytes at i size le e b same =
    let rest = take_rest bytes at in
    let begins : Begins (drop at bytes) i = subst (λ xs. Begins xs i) rest b in
    let long : length (drop at bytes) ≡ length (encoding i) + length (drop (length (encoding i)) (drop at bytes)) = ap length begins.begins ∙ length-append (encoding i) (drop (length (encoding i)) (drop at bytes)) in
    record {
      here = refl;
      some = let some = some_bytes i in omega (arith, some, same);
      inside = omega (arith, long, length-drop at bytes, same, le);
      whole = ap (λ k. at + k) same;
      decoded = ap decode (sym rest) ∙ sym e ∙ ap (One i) same;
    }

module _ (runs : List Run) (start front : ℕ) (code : CodeAt → ℕ) (n : ℕ) (f : Func) where
  -- the first of the instructions that are left, and the others
  pub branch_put : (at : ℕ) (x : InstrAt) (all : List ℕ) → IsDecoded f.bytes at x →
      put_ways runs start front (ways_of code n f (instrs_from 0 at (drop at f.bytes))) all ≡
      put_ways runs start front (ways_of code n f (instrs_from 0 x.end (drop x.end f.bytes))) (put_ways runs start front (way_of code n f (record { at = x.at; instr = x.instr }) (displacement x.instr)) all)
  branch_put at x all d =
      let some = some_bytes x.instr in
      let inside : x.end ≤ length f.bytes = d.inside in
      let end : x.end ≡ at + size_of x.instr = d.whole ∙ ap (λ a. a + size_of x.instr) d.here in
      let first = first_instr at (size_of x.instr) x.instr (drop at f.bytes) d.decoded (omega (arith, some)) (omega (arith, inside, end, length-drop at f.bytes)) in
      let here : at ≡ x.at = sym d.here in
      ap (λ xs. put_ways runs start front (ways_of code n f xs) all) (first ∙
      ap (λ ys. record { at = at; instr = x.instr } ∷ instrs_from 0 (at + size_of x.instr) ys) (drop-drop (size_of x.instr) at f.bytes) ∙
      ap (λ a. record { at = at; instr = x.instr } ∷ instrs_from 0 a (drop a f.bytes)) (sym end) ∙
      ap (λ a. record { at = a; instr = x.instr } ∷ instrs_from 0 x.end (drop x.end f.bytes)) here) ∙
      put_both runs start front (way_of code n f (record { at = x.at; instr = x.instr }) (displacement x.instr)) (ways_of code n f (instrs_from 0 x.end (drop x.end f.bytes))) all

  -- where none is decoded, none is left
  no_more : (at : ℕ) (bytes : List ℕ) → ((i : Instr) (size : ℕ) → decode bytes ≡ One i size → ⊥) → instrs_from 0 at bytes ≡ []
  no_more at [] h = refl
  no_more at (b ∷ bs) h = by_decoded (decode (b ∷ bs)) h
    where
      by_decoded : (d : Decoded) → ((i : Instr) (size : ℕ) → d ≡ One i size → ⊥) → and_others at (λ size. instrs_from (size - 1) (at + 1) bs) d ≡ []
      by_decoded (One i size) k = absurd (k i size refl)
      by_decoded Short k = refl
      by_decoded Unknown k = refl

  pub none_put : (at : ℕ) (all : List ℕ) → ((i : Instr) (size : ℕ) → decode (drop at f.bytes) ≡ One i size → ⊥) → put_ways runs start front (ways_of code n f (instrs_from 0 at (drop at f.bytes))) all ≡ all
  none_put at all h = ap (λ xs. put_ways runs start front (ways_of code n f xs) all) (no_more at (drop at f.bytes) h)

-- the branches of a function that is cut
pub cut_ways : (code : CodeAt → ℕ) (n : ℕ) (f : Func) (cuts : List ℕ) → (cuts ≡ [] → ⊥) → ways_of code n f (instrs_in f.bytes) ≡ branch_ways code n f cuts
cut_ways code n f [] h = absurd (h refl)
cut_ways code n f (c ∷ cs) h = refl

pub no_cut_ways : (code : CodeAt → ℕ) (n : ℕ) (f : Func) (cuts : List ℕ) → cuts ≡ [] → branch_ways code n f cuts ≡ []
no_cut_ways code n f [] h = refl
no_cut_ways code n f (c ∷ cs) h = absurd (cc)

-- a builder with other bytes
pub builder_is : (b d : CodeBuilder) (bytes : List ℕ) → b.start ≡ d.start → b.runs ≡ d.runs → b.bytes ≡ bytes → b ≡ record { start = d.start; runs = d.runs; bytes = bytes }
builder_is b d bytes e f g =
    ap (λ s. record { start = s; runs = b.runs; bytes = b.bytes }) e ∙ ap (λ (rs : List Run). record { start = d.start; runs = rs; bytes = b.bytes }) f ∙ ap (λ bs. record { start = d.start; runs = d.runs; bytes = bs }) g
