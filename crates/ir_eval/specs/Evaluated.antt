-- When an answer tells how the run of a module stands after so many steps, between a source and a sink.
use Rattle.std.specs.Prelude.{ℕ, ◌≡◌, ◌<◌, List, Some, Result, Ok, Err, ◌⊎◌}
use Rattle.behavior.specs.Moment.{AreBytes}
use Rattle.rd_io.specs.Told.{SourceTold, SinkTold}
use Rattle.rd_io.specs.declared.RunFault.{RunFault}
use Rattle.rd_io.specs.declared.RunFault.TheVariants as fault
use Rattle.ir_core.specs.declared.module.Module.{Module}
use Rattle.ir_run.specs.Runs.{state_after, Exchanges, IsCut}
use Rattle.ir_eval.specs.declared.outcome.IrOutcome.{IrOutcome}
use Rattle.ir_eval.specs.Outcomes.{outcome_ending}

-- the run stands so after n steps, and all that it printed and took was exchanged
pub record Stands (m : Module) (input : List ℕ) (n : ℕ) (outcome : IrOutcome) (a : SourceTold) (b b2 : SinkTold) : Type 0 where
  pub ending : (state_after m input n).ending ≡ outcome_ending outcome
  pub outside : Exchanges (state_after m input n) input a b b2

-- the outside did not let one of the n steps happen, or memory was wanting for it
abbrev pub IsCutOff : Module → List ℕ → ℕ → SourceTold → SinkTold → SinkTold → RunFault → Type 0
IsCutOff m input n a b b2 e = (k : ℕ) × ((k < n) × IsCut m input (state_after m input k) a b b2 e)

-- what holds of the bytes that a source has left, where it tells them
abbrev pub WhereBytes : SourceTold → (List ℕ → Type 0) → Type 0
WhereBytes a Holds = (input : List ℕ) → AreBytes input → a.left ≡ Some input → Holds input

-- how a run stands after n steps, or why it isn't known; memory may be wanting before anything is touched
unfoldable pub Evaluated : Module → ℕ → SourceTold → SourceTold → SinkTold → SinkTold → Result IrOutcome RunFault → Type 0
Evaluated m n a a2 b b2 (Ok outcome) = WhereBytes a (λ input. Stands m input n outcome a2 b b2)
Evaluated m n a a2 b b2 (Err fault.Input) = WhereBytes a (λ input. IsCutOff m input n a2 b b2 fault.Input)
Evaluated m n a a2 b b2 (Err fault.Output) = WhereBytes a (λ input. IsCutOff m input n a2 b b2 fault.Output)
Evaluated m n a a2 b b2 (Err fault.NoMemory) = ((a2 ≡ a) × (b2 ≡ b)) ⊎ WhereBytes a (λ input. IsCutOff m input n a2 b b2 fault.NoMemory)
