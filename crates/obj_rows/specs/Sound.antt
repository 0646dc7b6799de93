-- Routines that keep the rules of objects by themselves, whatever stands before them.
use Rattle.std.specs.Prelude.{◌≡◌, ℕ, ◌+◌, ◌≤◌, true, List, [], ◌∷◌, length, sum, map, Some, None, slice_get}
use Rattle.x86_core.specs.declared.instr.Instr.{Instr}
use Rattle.obj_core.specs.declared.object.Func.{Func}
use Rattle.obj_core.specs.declared.object.FuncKind.{FuncKind}
use Rattle.obj_core.specs.declared.object.Link.{Link}
use Rattle.obj_core.specs.declared.plan.Slot0.{Slot0}
use Rattle.obj_core.specs.declared.plan.SlotPlan.{SlotPlan}
use Rattle.obj_core.specs.Object.{Each, IsFunc}
use Rattle.obj_core.specs.Disassembly.{IsDisassembly, found, starts_at}
use Rattle.obj_core.specs.WellFormed.{bad_branches, bad_links, forbidden_in, open_end}

-- a function that saves nothing and isn't cut, and keeps the rules of functions where there are so many slots; behind each of
-- its links an instruction starts
pub record IsSoundFunction (slots : ℕ) (f : Func) : Type 0 where
  pub plain : f.kind ≡ FuncKind.Plain
  pub uncut : f.cuts ≡ []
  pub fits : IsFunc f
  pub first : Instr
  pub others : List Instr
  pub disassembly : IsDisassembly f.bytes (first ∷ others)
  pub transfers : forbidden_in (found (first ∷ others)) ≡ []
  pub links : bad_links None (found (first ∷ others)) slots f.links ≡ []
  pub branches : bad_branches f.links (found (first ∷ others)) (found (first ∷ others)) ≡ []
  pub end : open_end (found (first ∷ others)) ≡ []
  pub ways_back : Each (λ (l : Link). starts_at (found (first ∷ others)) (l.at + 4) ≡ true) f.links

-- as many bytes are kept free for the routines
abbrev pub routine_bytes : ℕ
routine_bytes = 512

-- six such functions of few bytes, the first of which is the one where the run begins
pub record AreSound (routines : List Func) (plan : SlotPlan) : Type 0 where
  pub six : length routines ≡ 6
  pub each : Each (IsSoundFunction (length plan.slots)) routines
  pub few : sum (map (λ (f : Func). length f.bytes) routines) ≤ routine_bytes
  pub entry : slice_get plan.slots 0 ≡ Some (Slot0.Entry (length plan.pointers))
