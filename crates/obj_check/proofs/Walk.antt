-- Walks over the instructions of bytes that are known to be instructions.
use Rattle.std.proofs.Common.{◌≡◌, ℕ, ◌+◌, ◌≤◌, Bool, true, false, ◌||◌, List, [], ◌∷◌, ◌++◌, length, drop, Option, refl, sym, ◌∙◌, ap, arith}
use Rattle.std.specs.Prelude.{None, if◌then◌else◌}
use Rattle.x86_core.specs.declared.instr.Instr.{Instr}
use Rattle.x86_core.specs.Encoding.{encoding, IsInstr}
use Rattle.obj_core.specs.declared.object.Link.{Link}
use Rattle.obj_core.specs.Object.{Each}
use Rattle.obj_core.specs.Disassembly.{Found, found, found_from, size_of, spelled, IsDisassembly, disassembly_of}
use Rattle.obj_core.specs.WellFormed.{displacement, is_linked, goes_well, bad_branches}
use Rattle.obj_check.specs.declared.instr_at.InstrAt.{InstrAt}
use Rattle.obj_check.specs.Instrs.{StandsAt, IsInstrAt}
use Rattle.obj_check.specs.Least.{lesser_of, least_with}
use Rattle.obj_check.proofs.Rows.{nothing_begins}
use Rattle.obj_check.proofs.Unique.{same_first, same_rest}

-- the branches that are left, and the least offset of those before
pub record Left (bytes : List ℕ) (links : List Link) (all : List Found) (before : Option ℕ) (at : ℕ) (least : Option ℕ) : Type 0 where
  pub within : at ≤ length bytes
  pub row : List Instr
  pub instructions : Each IsInstr row
  pub bytes_are : drop at bytes ≡ spelled row
  pub told : least_with least (bad_branches links all (found_from at row)) ≡ least_with before (bad_branches links all all)

pub left_all : (bytes shown : List ℕ) (links : List Link) (before : Option ℕ) → shown ≡ bytes → IsDisassembly bytes (disassembly_of bytes) → Left shown links (found (disassembly_of bytes)) before 0 before
left_all bytes shown links before e c = record { within = omega arith; row = disassembly_of bytes; instructions = c.instructions; bytes_are = e ∙ sym c.whole; told = refl }

by_goal : (b : Bool) (least : Option ℕ) (n : ℕ) (ms : List ℕ) → least_with least (if b then ms else n ∷ ms) ≡ least_with (if b then least else lesser_of least n) ms
by_goal true least n ms = refl
by_goal false least n ms = refl

-- the instruction that stands here is the first that is left
left_step : (bytes : List ℕ) (links : List Link) (all : List Found) (before : Option ℕ) (at : ℕ) (least next : Option ℕ) (p : InstrAt) (row : List Instr) → Each IsInstr row → drop at bytes ≡ spelled row →
    least_with least (bad_branches links all (found_from at row)) ≡ least_with before (bad_branches links all all) → StandsAt bytes at p →
    next ≡ (if is_linked links p.end || goes_well all p.end (displacement p.instr) then least else lesser_of least p.at) → Left bytes links all before p.end next
left_step bytes links all before at least next p [] h e t s n = absurd (nothing_begins p.instr (drop p.end bytes) (sym e ∙ s.bytes_are))
left_step bytes links all before at least next p (i ∷ row) h e t s n =
    let same : encoding p.instr ++ drop p.end bytes ≡ encoding i ++ spelled row = sym s.bytes_are ∙ e in
    let one : p.instr ≡ i = same_first p.instr i (drop p.end bytes) (spelled row) s.is_instr h.0 same in
    let ends : p.end ≡ at + size_of i = s.is_whole.end ∙ ap (λ (k : ℕ). k + size_of p.instr) s.here ∙ ap (λ (j : Instr). at + size_of j) one in
    let test : ℕ → Instr → Bool = λ end j. is_linked links end || goes_well all end (displacement j) in
    record {
      within = s.is_whole.inside;
      row = row;
      instructions = h.1;
      bytes_are = same_rest p.instr i (drop p.end bytes) (spelled row) one same;
      told =
          ap (λ (k : ℕ). least_with next (bad_branches links all (found_from k row))) ends ∙
          ap (λ (o : Option ℕ). least_with o (bad_branches links all (found_from (at + size_of i) row)))
          (n ∙ ap (λ (k : ℕ). if test k p.instr then least else lesser_of least p.at) ends ∙
          ap (λ (j : Instr). if test (at + size_of i) j then least else lesser_of least p.at) one ∙
          ap (λ (k : ℕ). if test (at + size_of i) i then least else lesser_of least k) s.here) ∙
          sym (by_goal (test (at + size_of i) i) least at (bad_branches links all (found_from (at + size_of i) row))) ∙ t;
    }

pub left_more : (bytes : List ℕ) (links : List Link) (all : List Found) (before : Option ℕ) (at : ℕ) (least next : Option ℕ) (p : InstrAt) → Left bytes links all before at least → StandsAt bytes at p →
    next ≡ (if is_linked links p.end || goes_well all p.end (displacement p.instr) then least else lesser_of least p.at) → Left bytes links all before p.end next
left_more bytes links all before at least next p h s n = left_step bytes links all before at least next p h.row h.instructions h.bytes_are h.told s n

-- where no instruction stands, none is left
none_left : (bytes : List ℕ) (links : List Link) (all : List Found) (before : Option ℕ) (at : ℕ) (least : Option ℕ) (row : List Instr) → Each IsInstr row → drop at bytes ≡ spelled row →
    least_with least (bad_branches links all (found_from at row)) ≡ least_with before (bad_branches links all all) → IsInstrAt bytes at None → least ≡ least_with before (bad_branches links all all)
none_left bytes links all before at least [] h e t none = t
none_left bytes links all before at least (i ∷ row) h e t none = absurd (none i h.0 (spelled row) e)

pub left_none : (bytes : List ℕ) (links : List Link) (all : List Found) (before : Option ℕ) (at : ℕ) (least : Option ℕ) → Left bytes links all before at least → IsInstrAt bytes at None → least ≡ least_with before (bad_branches links all all)
left_none bytes links all before at least h none = none_left bytes links all before at least h.row h.instructions h.bytes_are h.told none
