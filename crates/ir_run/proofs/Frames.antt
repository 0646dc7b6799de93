-- Calls whose registers stand for locals, when they go on and when they are given a value.
use Rattle.std.proofs.Common.{◌≡◌, ◌<◌, ℕ, zero, suc, ◌+◌, Bool, true, false, List, [], ◌∷◌, Option, Some, None, length, refl, ap, ◌∙◌, arith}
use Rattle.std.specs.Prelude.{option_map, if◌then◌else◌}
use Rattle.std.proofs.Math.ListN.{length-set}
use Rattle.ir_core.specs.declared.module.Module.{Module}
use Rattle.ir_core.specs.declared.memory.Value.{Value}
use Rattle.ir_core.specs.Names.{same_name}
use Rattle.ir_core.specs.State as model
use Rattle.ir_core.specs.Step.{past}
use Rattle.ir_context.specs.Registers.{StandFor, number_of, with_register}
use Rattle.ir_context.proofs.RegisterLaws.{stands_given}
use Rattle.ir_run.specs.declared.state.Frame.{Frame}
use Rattle.ir_run.specs.Turns.{with_given}
use Rattle.ir_run.specs.Standing.{names_at, FrameStands, IntoStands}

-- a number that was found is one of a name
pub number_below : (names : List (List ℕ)) (q : List ℕ) (k : ℕ) → number_of names q ≡ Some k → k < length names
number_below [] q k e = absurd (cc)
number_below (n ∷ names) q k e = by (same_name n q) (number_of names q) k (λ i. number_below names q i) refl e
  where
    by : (b : Bool) (o : Option ℕ) (k : ℕ) → ((i : ℕ) → number_of names q ≡ Some i → i < length names) → number_of names q ≡ o → (if b then Some 0 else option_map (λ i. suc i) o) ≡ Some k → k < suc (length names)
    by true o zero go is e = omega arith
    by true o (suc k) go is e = absurd (cc)
    by false None k go is e = absurd (cc)
    by false (Some i) zero go is e = absurd (cc)
    by false (Some i) (suc k) go is e = let next : i ≡ k = cc in let below : i < length names = go i is in omega arith

-- registers of which one is given a value
pub registers_given : (names : List (List ℕ)) (registers : List (Option Value)) (locals : List model.Local) (into : Option ℕ) (name : Option (List ℕ)) (v : Value)
    → IntoStands names into name → length registers ≡ length names → StandFor names registers locals → StandFor names (with_register into v registers) (model.with_local name v locals)
registers_given names registers locals None None v is long stand = stand
registers_given names registers locals (Some k) (Some name) v is long stand =
    let below : k < length names = number_below names name k is in
    stands_given names registers locals name k v (omega arith) is stand
registers_given names registers locals None (Some name) v is long stand = absurd is
registers_given names registers locals (Some k) None v is long stand = absurd is

pub length-with_register : (into : Option ℕ) (v : Value) (registers : List (Option Value)) → length (with_register into v registers) ≡ length registers
length-with_register None v registers = refl
length-with_register (Some k) v registers = length-set registers k (Some v)

-- a call that is given a value
pub given_stands : (m : Module) (f : Frame) (g : model.Frame) (into : Option ℕ) (name : Option (List ℕ)) (v : Value) → IntoStands (names_at m g.function) into name
    → FrameStands m f g → FrameStands m (with_given into v f) (record g { locals = model.with_local name v g.locals })
given_stands m f g into name v is s = record {
  function = s.function;
  block = s.block;
  next = s.next;
  registers = registers_given (names_at m g.function) f.registers g.locals into name v is s.long s.registers;
  long = length-with_register into v f.registers ∙ s.long;
  objects = s.objects;
}

-- a call past its instruction
pub past_stands : (m : Module) (f : Frame) (g : model.Frame) → FrameStands m f g → FrameStands m (record f { next = f.next + 1 }) (past g)
past_stands m f g s = record {
  function = s.function;
  block = s.block;
  next = ap (λ n. n + 1) s.next;
  registers = s.registers;
  long = s.long;
  objects = s.objects;
}
