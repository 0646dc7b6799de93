-- What the machine of an object fetches and does where an instruction of a row stands.
use Rattle.std.proofs.Common.{◌≡◌, ℕ, ◌+◌, List, [], ◌∷◌, ◌++◌, sym, ◌∙◌, ap, subst, arith}
use Rattle.x86_core.specs.Encoding.{IsInstr}
use Rattle.x86_core.specs.Step.{Fetched, sorted, act}
use Rattle.x86_rows.specs.Straight.{Core}
use Rattle.obj_core.specs.declared.object.Object.{Object}
use Rattle.obj_core.specs.declared.object.Place.{Place}
use Rattle.obj_core.specs.Disassembly.{size_of, spelled}
use Rattle.obj_core.specs.SymbolicMachine.{target, link_before, symbolic_fetch, symbolic_land, symbolic_step}
use Rattle.obj_core.proofs.Spelling.{spelled-append, each_right}
use Rattle.obj_core.proofs.Stands.{Stand, fetched}
use Rattle.obj_rows.specs.Marked.{Marked, instrs_of, row_size, links_from, IsLinkable, IsRow, Stands, IsFunction}
use Rattle.obj_rows.specs.Standing.{Outside, standing}
use Rattle.obj_rows.proofs.Rows.{instrs_of-append, spelled_size}
use Rattle.obj_rows.proofs.Links.{own_link}

abbrev IsGood : Marked → Type 0
IsGood x = IsInstr x.instr × IsLinkable x.instr x.slot

module _ (o : Object) (n : ℕ) (row : List Marked) (is : IsFunction o n row) (off : ℕ) (x : Marked) (s : Stands row off (x ∷ [])) where
  -- the row falls into three
  split : row ≡ s.before ++ x ∷ s.behind
  split = s.split

  good : IsRow (s.before ++ x ∷ s.behind)
  good = subst IsRow split is.is_row

  -- the instruction's bytes stand in the function
  bytes_stand : Stand is.function.bytes off (x.instr ∷ [])
  bytes_stand = record {
    front = spelled (instrs_of s.before);
    rest = spelled (instrs_of s.behind);
    split =
        is.bytes ∙ ap (λ (r : List Marked). spelled (instrs_of r)) split ∙ ap spelled (instrs_of-append s.before (x ∷ s.behind)) ∙
        spelled-append (instrs_of s.before) (x.instr ∷ instrs_of s.behind) ∙
        ap (λ bs. spelled (instrs_of s.before) ++ bs) (spelled-append (x.instr ∷ []) (instrs_of s.behind));
    offset = s.offset ∙ sym (spelled_size s.before);
    instructions = ((each_right IsGood s.before (x ∷ s.behind) good).0.0, tt);
  }

  -- its link is found at its end
  link_found : link_before is.function.links (off + size_of x.instr) ≡ x.slot
  link_found =
      let end : off + size_of x.instr ≡ 0 + row_size s.before + size_of x.instr = let e = s.offset in omega (arith, e) in
      ap (λ ls. link_before ls (off + size_of x.instr)) (is.links ∙ ap (links_from 0) split) ∙
      ap (link_before (links_from 0 (s.before ++ x ∷ s.behind))) end ∙ own_link s.before x s.behind 0 good

  abbrev pub fetched_one : Fetched Place
  fetched_one = let end = off + size_of x.instr in sorted x.instr (Place.Code n end) (target n end x.slot) 0

  pub fetched_here : symbolic_fetch o (Place.Code n off) ≡ fetched_one
  fetched_here =
      let end = off + size_of x.instr in
      fetched o n off is.function x.instr [] is.there bytes_stand ∙ ap (λ k. sorted x.instr (Place.Code n end) (target n end k) 0) link_found

  -- so a step does the instruction
  pub step_here : (out : Outside) (c : Core) → symbolic_step o (standing out (Place.Code n off) c) ≡ act (symbolic_land o) fetched_one (standing out (Place.Code n off) c)
  step_here out c = ap (λ y. act (symbolic_land o) y (standing out (Place.Code n off) c)) fetched_here
