-- Edges over registers lead where the meaning leads over locals.
use Rattle.std.proofs.Common.{◌≡◌, ℕ, List, [], ◌∷◌, Option, Some, None, Ok, Err, length, map, slice_get, refl, ap, sym, ◌∙◌, subst, inl}
use Rattle.ir_core.specs.declared.module.Block.{Block}
use Rattle.ir_core.specs.declared.module.Function.{Function}
use Rattle.ir_core.specs.declared.module.Module.{Module}
use Rattle.ir_core.specs.declared.memory.Value.{Value}
use Rattle.ir_core.specs.Names.{same_name, number_where}
use Rattle.ir_core.specs.Stops.{Answer, and_then, found_or, Malformed}
use Rattle.ir_core.specs.State as model
use Rattle.ir_core.specs.Step.{Choice, choices_of, given_at_once, in_block, goes_to}
use Rattle.ir_context.specs.Registers.{StandFor}
use Rattle.ir_program.specs.declared.exit.Move.{Move}
use Rattle.ir_program.specs.Exits.{move_of, edge_with, edge_found, edge_at, edge_to}
use Rattle.ir_context.specs.Reads.{origin_value}
use Rattle.ir_run.specs.declared.state.State.{State}
use Rattle.ir_run.specs.declared.state.Asked.TheVariants.{Nothing}
use Rattle.ir_run.specs.Turns.{turned, move_values, with_moves, arrived, edge_turn}
use Rattle.ir_run.specs.Standing.{names_at, FrameStands, IntoStands, Waiting, Meets}
use Rattle.ir_run.specs.Agreement.{PhisAgree}
use Rattle.ir_run.proofs.Frames.{registers_given, length-with_register}

-- moves give what phis give, or both stop
abbrev pub MovesMeet : List (List ℕ) → List (Option Value) → List Move → Answer (List Value) → Answer (List model.Local) → Type 0
MovesMeet names registers moves (Ok vs) (Ok locals) = StandFor names (with_moves moves vs registers) locals × (length (with_moves moves vs registers) ≡ length registers)
MovesMeet names registers moves (Ok vs) (Err b) = ⊥
MovesMeet names registers moves (Err a) (Ok locals) = ⊥
MovesMeet names registers moves (Err a) (Err b) = a ≡ b

module _ (m : Module) (names : List (List ℕ)) (registers : List (Option Value)) (locals : List model.Local) (stand : StandFor names registers locals)
    (long : length registers ≡ length names) (from : List ℕ) where
  -- one phi in front of others
  one_phi : (c : Choice) (ms : List Move) (v : Value) (a : Answer (List Value)) (b : Answer (List model.Local)) → IntoStands names (move_of m names from c).into c.into
      → MovesMeet names registers ms a b
      → MovesMeet names registers (move_of m names from c ∷ ms) (and_then a (λ vs. Ok (v ∷ vs))) (and_then b (λ more. Ok (model.with_local c.into v more)))
  one_phi c ms v (Ok vs) (Ok more) is meet = (
    registers_given names (with_moves ms vs registers) more (move_of m names from c).into c.into v is (meet.1 ∙ long) meet.0,
    length-with_register (move_of m names from c).into v (with_moves ms vs registers) ∙ meet.1,
  )
  one_phi c ms v (Ok vs) (Err b) is meet = absurd meet
  one_phi c ms v (Err a) (Ok more) is meet = absurd meet
  one_phi c ms v (Err a) (Err b) is meet = meet

  pub moves_meet : (cs : List Choice) → PhisAgree m names from cs
      → MovesMeet names registers (map (move_of m names from) cs) (move_values registers (map (move_of m names from) cs)) (given_at_once m locals from cs)
  moves_meet [] agree = (stand, refl)
  moves_meet (c ∷ cs) agree =
      subst (λ a. MovesMeet names registers (map (move_of m names from) (c ∷ cs))
      (and_then (origin_value registers (move_of m names from c).origin) (λ v. and_then (move_values registers (map (move_of m names from) cs)) (λ vs. Ok (v ∷ vs))))
      (and_then a (λ v. and_then (given_at_once m locals from cs) (λ more. Ok (model.with_local c.into v more)))))
      (agree.0.taken registers locals stand) (by (origin_value registers (move_of m names from c).origin) (moves_meet cs agree.1))
    where
      by : (a : Answer Value) → MovesMeet names registers (map (move_of m names from) cs) (move_values registers (map (move_of m names from) cs)) (given_at_once m locals from cs)
          → MovesMeet names registers (map (move_of m names from) (c ∷ cs))
          (and_then a (λ v. and_then (move_values registers (map (move_of m names from) cs)) (λ vs. Ok (v ∷ vs))))
          (and_then a (λ v. and_then (given_at_once m locals from cs) (λ more. Ok (model.with_local c.into v more))))
      by (Ok v) go = one_phi c (map (move_of m names from) cs) v (move_values registers (map (move_of m names from) cs)) (given_at_once m locals from cs) agree.0.into go
      by (Err stop) go = refl

module _ (m : Module) (frames : List model.Frame) (next : Option ℕ) (s : model.State) (st : State) (g : model.Frame) (gs : List model.Frame)
    (inner : FrameStands m st.frame g) (waiting : Waiting m st.frame.into g.into st.callers gs) (objects : st.memory ≡ s.objects) where
  -- into a block past its phis
  arrives : (from : List ℕ) (number : ℕ) (cs : List Choice) (a : Answer (List Value)) (b : Answer (List model.Local))
      → MovesMeet (names_at m g.function) st.frame.registers (map (move_of m (names_at m g.function) from) cs) a b
      → Meets m frames next (and_then a (λ values. Ok (turned (arrived st (edge_with m (names_at m g.function) from number cs) values) Nothing)))
      (and_then b (λ locals. Ok (record { frames = record g { block = number; next = length cs; locals = locals } ∷ gs; objects = s.objects; exchange = model.Nothing })))
  arrives from number cs (Ok vs) (Ok locals) meet = record {
    turn = _;
    is = refl;
    exchanged = refl;
    stands = record {
      calls = (record { function = inner.function; block = refl; next = refl; registers = meet.0; long = meet.1 ∙ inner.long; objects = inner.objects }, waiting);
      memory = objects;
    };
  }
  arrives from number cs (Ok vs) (Err b) meet = absurd meet
  arrives from number cs (Err a) (Ok locals) meet = absurd meet
  arrives from number cs (Err a) (Err b) meet = inl (ap Err (sym meet))

  -- along the edge to a label
  pub edge_meets : (fn : Function) (from to : List ℕ) → ((k : ℕ) (b : Block) → slice_get fn.blocks k ≡ Some b → PhisAgree m (names_at m g.function) from (choices_of b.insts))
      → Meets m frames next (edge_turn st (edge_to m (names_at m g.function) from fn.blocks to)) (goes_to m s g gs fn from to)
  edge_meets fn from to agree = by (number_where (λ (b : Block). same_name b.label to) fn.blocks)
    where
      there : (number : ℕ) (o : Option Block) → slice_get fn.blocks number ≡ o
          → Meets m frames next (edge_turn st (edge_found m (names_at m g.function) from number o)) (and_then (found_or Malformed o) (λ b. in_block m s g gs from number b))
      there number (Some b) e =
          arrives from number (choices_of b.insts) (move_values st.frame.registers (map (move_of m (names_at m g.function) from) (choices_of b.insts))) (given_at_once m g.locals from (choices_of b.insts))
          (moves_meet m (names_at m g.function) st.frame.registers g.locals inner.registers inner.long from (choices_of b.insts) (agree number b e))
      there number None e = inl refl

      by : (o : Option ℕ) → Meets m frames next (edge_turn st (edge_at m (names_at m g.function) from fn.blocks o))
          (and_then (found_or Malformed o) (λ number. and_then (found_or Malformed (slice_get fn.blocks number)) (λ b. in_block m s g gs from number b)))
      by (Some number) = there number (slice_get fn.blocks number) refl
      by None = inl refl
