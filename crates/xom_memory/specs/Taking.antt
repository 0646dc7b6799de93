-- What a byte that is taken from a source to an address does to the segments and to the source.
use Rattle.std.specs.Prelude.{◌≡◌, ℕ, true, false, List, [], ◌∷◌, Option, None, Some, Result, Ok, Err}
use Rattle.rd_io.specs.Causes.{Caused}
use Rattle.rd_io.specs.Outside.{Takes, Ends}
use Rattle.rd_io.specs.Told.{SourceTold}
use Rattle.x86_core.specs.declared.image.Segment.{Segment}
use Rattle.x86_core.specs.Memory.{writes, is_allowed, write_at}
use Rattle.xom_memory.specs.declared.memory.TakeFault.{TakeFault}
use Rattle.xom_memory.specs.declared.memory.TakeFault.TheVariants.{Refused, NoMemory, Failed}
use Rattle.xom_memory.specs.Pages.{put_at}

-- a source was asked once for a byte, and gave this
pub record Asked {E : Type 0} (before now : SourceTold) (answer : Result (Option ℕ) E) : Type 0 where
  pub bytes : Takes before.left now.left answer
  pub ended : Ends before.ended now.ended answer
  pub cause : Caused before.faults now.faults answer

-- the byte stands at the address; where none came, or the source wasn't asked, the segments are as they were
abbrev pub TakesTo : Result (Option ℕ) TakeFault → ℕ → List Segment → List Segment → SourceTold → SourceTold → Type 0
TakesTo (Ok (Some b)) at old new before now = (write_at old at (b ∷ []) ≡ Some new) × Asked {E = TakeFault} before now (Ok (Some b))
TakesTo (Ok None) at old new before now = (is_allowed writes old at 1 ≡ true) × ((new ≡ old) × Asked {E = TakeFault} before now (Ok None))
TakesTo (Err Failed) at old new before now = (is_allowed writes old at 1 ≡ true) × ((new ≡ old) × Asked before now (Err Failed))
TakesTo (Err Refused) at old new before now = (is_allowed writes old at 1 ≡ false) × ((new ≡ old) × (now ≡ before))
TakesTo (Err NoMemory) at old new before now = (is_allowed writes old at 1 ≡ true) × ((new ≡ old) × (now ≡ before))

-- the same within bytes that may be written: it is not refused
abbrev pub TakesInto : Result (Option ℕ) TakeFault → ℕ → List ℕ → List ℕ → SourceTold → SourceTold → Type 0
TakesInto (Ok (Some b)) at old new before now = (new ≡ put_at old at (b ∷ [])) × Asked {E = TakeFault} before now (Ok (Some b))
TakesInto (Ok None) at old new before now = (new ≡ old) × Asked {E = TakeFault} before now (Ok None)
TakesInto (Err Failed) at old new before now = (new ≡ old) × Asked before now (Err Failed)
TakesInto (Err Refused) at old new before now = ⊥
TakesInto (Err NoMemory) at old new before now = (new ≡ old) × (now ≡ before)
