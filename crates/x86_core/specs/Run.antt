-- Runs: where they start, and a list of acts on them.
use Rattle.std.specs.Prelude.{ℕ, List, [], ◌∷◌, Option, Some, None, replicate}
use Rattle.behavior.specs.Ending.{Going}
use Rattle.x86_core.specs.declared.reg.Reg.TheVariants.{Rax, Rsp}
use Rattle.x86_core.specs.declared.flags.Flag.TheVariants.{Zero}
use Rattle.x86_core.specs.declared.image.Segment.{Segment}
use Rattle.x86_core.specs.Registers.{with_word}
use Rattle.x86_core.specs.Memory.{write_at}
use Rattle.x86_core.specs.Step.{State}

-- what is done to a run: one step of it, or a write by somebody who looks on
pub data Act : Type 0 where
  Step : Act
  Write : (at : ℕ) → (bytes : List ℕ) → Act

-- a write that is not allowed changes nothing
abbrev pub wrote : {P : Type 0} → Option (List Segment) → State P → State P
wrote None s = s
wrote (Some segments) s = record s { segments = segments }

abbrev pub acted : {P : Type 0} → (State P → State P) → Act → State P → State P
acted step Step s = step s
acted step (Write at []) s = s
acted step (Write at (b ∷ bs)) s = wrote (write_at s.segments at (b ∷ bs)) s

abbrev pub run_over : {P : Type 0} → (State P → State P) → List Act → State P → State P
run_over step [] s = s
run_over step (a ∷ acts) s = run_over step acts (acted step a s)

-- all registers are 0 but rsp and rax, and all flags are 0
abbrev pub started : {P : Type 0} → P → List Segment → List ℕ → ℕ → ℕ → State P
started place segments input rsp rax = record {
  regs = with_word (with_word (replicate 16 0) Rax rax) Rsp rsp;
  flags = record { c = Zero; z = Zero; s = Zero; o = Zero };
  place = place;
  segments = segments;
  left = input;
  printed = [];
  taken = 0;
  ending = Going;
}
