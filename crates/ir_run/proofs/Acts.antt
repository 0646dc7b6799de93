-- Instructions over registers do what the meaning says of those over locals.
use Rattle.std.proofs.Common.{◌≡◌, ℕ, ◌+◌, List, ◌∷◌, Option, Ok, Err, length, refl, ap, ◌∙◌, subst, inl}
use Rattle.ir_core.specs.declared.module.Module.{Module}
use Rattle.ir_core.specs.declared.memory.Value.{Value}
use Rattle.ir_core.specs.declared.memory.Value.TheVariants.{At}
use Rattle.ir_core.specs.Stops.{Answer, and_then}
use Rattle.ir_core.specs.Memory.{Memory, store_at, with_alloca}
use Rattle.ir_core.specs.State as model
use Rattle.ir_core.specs.Step as step
use Rattle.ir_context.specs.declared.origin.Origin.{Origin}
use Rattle.ir_context.specs.Reads.{origin_value}
use Rattle.ir_run.specs.declared.state.State.{State}
use Rattle.ir_run.specs.declared.state.Asked.TheVariants.{Nothing}
use Rattle.ir_run.specs.Turns.{turned, gives, allocates, store_turn, changes, passed}
use Rattle.ir_run.specs.Standing.{names_at, FrameStands, IntoStands, Waiting, Meets}
use Rattle.ir_run.proofs.Frames.{given_stands, past_stands}

module _ (m : Module) (frames : List model.Frame) (next : Option ℕ) (s : model.State) (st : State) (g : model.Frame) (gs : List model.Frame)
    (inner : FrameStands m st.frame g) (waiting : Waiting m st.frame.into g.into st.callers gs) (objects : st.memory ≡ s.objects) where
  -- a value that is given
  pub value_given : (into : Option ℕ) (name : Option (List ℕ)) (v : Value) → IntoStands (names_at m g.function) into name
      → Meets m frames next (Ok (turned (gives (passed st) into v) Nothing)) (step.gives s g gs name v)
  value_given into name v is = record {
    turn = _;
    is = refl;
    exchanged = refl;
    stands = record {
      calls = (given_stands m (passed st).frame (step.past g) into name v is (past_stands m st.frame g inner), waiting);
      memory = objects;
    };
  }

  pub value_meets : (into : Option ℕ) (name : Option (List ℕ)) (a b : Answer Value) → IntoStands (names_at m g.function) into name → a ≡ b
      → Meets m frames next (and_then a (λ v. Ok (turned (gives (passed st) into v) Nothing))) (and_then b (λ v. step.gives s g gs name v))
  value_meets into name a b is e = subst (λ c. Meets m frames next (and_then a (λ v. Ok (turned (gives (passed st) into v) Nothing))) (and_then c (λ v. step.gives s g gs name v))) e (by a)
    where
      by : (a : Answer Value) → Meets m frames next (and_then a (λ v. Ok (turned (gives (passed st) into v) Nothing))) (and_then a (λ v. step.gives s g gs name v))
      by (Ok v) = value_given into name v is
      by (Err stop) = inl refl

  -- memory that is changed
  pub memory_meets : (a b : Answer Memory) → a ≡ b → Meets m frames next (changes (passed st) a) (step.stores s g gs b)
  memory_meets a b e = subst (λ c. Meets m frames next (changes (passed st) a) (step.stores s g gs c)) e (by a)
    where
      by : (a : Answer Memory) → Meets m frames next (changes (passed st) a) (step.stores s g gs a)
      by (Ok changed) = record { turn = _; is = refl; exchanged = refl; stands = record { calls = (past_stands m st.frame g inner, waiting); memory = refl } }
      by (Err stop) = inl refl

  pub store_meets : (a b : Origin) (x y : Answer Value) → origin_value st.frame.registers a ≡ x → origin_value st.frame.registers b ≡ y
      → Meets m frames next (store_turn (passed st) a b) (and_then x (λ v. and_then y (λ p. step.stores s g gs (store_at s.objects v p))))
  store_meets a b x y e f =
      subst (λ c. Meets m frames next (store_turn (passed st) a b) (and_then c (λ v. and_then y (λ p. step.stores s g gs (store_at s.objects v p))))) e
      (subst (λ c. Meets m frames next (store_turn (passed st) a b) (and_then (origin_value st.frame.registers a) (λ v. and_then c (λ p. step.stores s g gs (store_at s.objects v p))))) f
      (by (origin_value st.frame.registers a) (origin_value st.frame.registers b)))
    where
      by : (x y : Answer Value) → Meets m frames next (and_then x (λ v. and_then y (λ p. changes (passed st) (store_at st.memory v p)))) (and_then x (λ v. and_then y (λ p. step.stores s g gs (store_at s.objects v p))))
      by (Ok v) (Ok p) = memory_meets (store_at st.memory v p) (store_at s.objects v p) (ap (λ o. store_at o v p) objects)
      by (Ok v) (Err stop) = inl refl
      by (Err stop) y = inl refl

  -- a new object
  pub alloca_meets : (into : Option ℕ) (name : Option (List ℕ)) (size size2 : ℕ) → IntoStands (names_at m g.function) into name → size ≡ size2
      → Meets m frames next (Ok (turned (allocates (passed st) into size) Nothing)) (step.gives_alloca s g gs name size2)
  alloca_meets into name size size2 is e = record {
    turn = _;
    is = refl;
    exchanged = refl;
    stands = record {
      calls = (subst (λ (o : ℕ). FrameStands m (allocates (passed st) into size).frame (record g { next = g.next + 1; locals = model.with_local name (At o 0) g.locals; objects = o ∷ g.objects })) (ap length objects) made, waiting);
      memory = ap (λ o. with_alloca o size) objects ∙ ap (with_alloca s.objects) e;
    };
  }
    where
      given : FrameStands m (gives (passed st) into (At (length st.memory) 0)).frame (record (step.past g) { locals = model.with_local name (At (length st.memory) 0) g.locals })
      given = given_stands m (passed st).frame (step.past g) into name (At (length st.memory) 0) is (past_stands m st.frame g inner)

      made : FrameStands m (allocates (passed st) into size).frame (record g { next = g.next + 1; locals = model.with_local name (At (length st.memory) 0) g.locals; objects = length st.memory ∷ g.objects })
      made = record {
        function = given.function;
        block = given.block;
        next = given.next;
        registers = given.registers;
        long = given.long;
        objects = ap (λ os. length st.memory ∷ os) given.objects;
      }
