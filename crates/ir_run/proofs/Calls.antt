-- Calls and returns over registers do what the meaning says of those over locals.
use Rattle.std.proofs.Common.{◌≡◌, ◌≤◌, ℕ, zero, suc, ◌+◌, ◌-◌, ◌%◌, ◌^◌, Bool, true, false, List, [], ◌∷◌, Option, Some, None, Ok, Err, length, map, nat_le, slice_get, refl, ap, sym, ◌∙◌, subst, inl, inr, arith}
use Rattle.std.specs.Prelude.{option_map, if◌then◌else◌}
use Rattle.std.proofs.lemmas.Bool.{leb-true}
use Rattle.rd_num.specs.declared.width.Width.{Width}
use Rattle.rd_num.specs.declared.width.Width.TheVariants.{W32}
use Rattle.ir_core.specs.declared.TheConstants.{MAX_CALLS}
use Rattle.ir_core.specs.declared.module.Function.{Function}
use Rattle.ir_core.specs.declared.module.Module.{Module}
use Rattle.ir_core.specs.declared.memory.Value.{Value}
use Rattle.ir_core.specs.declared.memory.Value.TheVariants.{Num, Null, At, Fun}
use Rattle.ir_core.specs.declared.memory.Reason.TheVariants.{Callee as CalleeReason}
use Rattle.ir_core.specs.Stops.{Depth, Left, and_then, found_or, Malformed}
use Rattle.ir_core.specs.declared.kind.Kind.{Kind}
use Rattle.ir_core.specs.Memory.{copied, filled, without}
use Rattle.ir_core.specs.State as model
use Rattle.ir_core.specs.Step.{past}
use Rattle.ir_core.specs.declared.outer.Outer.{Outer}
use Rattle.ir_core.specs.declared.outer.Outer.TheVariants.{Putchar, Getchar, Exit, Memcpy, Memset, TrapNow, Lifetime}
use Rattle.ir_core.specs.Calls.{is_called_as, bound, first_frame}
use Rattle.ir_core.specs.Calls as call
use Rattle.ir_program.specs.Programs.{register_names, body_of, program_of}
use Rattle.ir_context.specs.Registers.{StandFor}
use Rattle.ir_run.specs.declared.state.Frame.{Frame}
use Rattle.ir_run.specs.declared.state.State.{State}
use Rattle.ir_run.specs.declared.state.Asked.TheVariants.{Nothing}
use Rattle.ir_run.specs.Turns.{turned, gives, passed, changes, outer_turn, entered, body_turn, enter_turn, return_turn}
use Rattle.ir_run.specs.Standing.{names_of, names_at, FrameStands, IntoStands, Waiting, StandsFor, FillsWide, Meets, Came}
use Rattle.ir_run.proofs.Frames.{given_stands, past_stands}
use Rattle.ir_run.proofs.Acts.{memory_meets}
use Rattle.ir_run.proofs.Entering.{first_registers, parameters_are, entered_stands, entered_long}

-- an item of a list that was made item by item
pub got_mapped : {A B : Type 0} (f : A → B) (xs : List A) (i : ℕ) → slice_get (map f xs) i ≡ option_map f (slice_get xs i)
got_mapped f [] i = refl
got_mapped f (x ∷ xs) zero = refl
got_mapped f (x ∷ xs) (suc i) = got_mapped f xs i

-- as many callers wait as stand for them
pub as_many_wait : (m : Module) (into : Option ℕ) (name : Option (List ℕ)) (fs : List Frame) (gs : List model.Frame) → Waiting m into name fs gs → length fs ≡ length gs
as_many_wait m into name [] [] w = refl
as_many_wait m into name [] (g ∷ gs) w = absurd w
as_many_wait m into name (f ∷ fs) [] w = absurd w
as_many_wait m into name (f ∷ fs) (g ∷ gs) w = ap (λ n. suc n) (as_many_wait m f.into g.into fs gs w.2)

module _ (m : Module) (frames : List model.Frame) (input : List ℕ) (s : model.State) (st : State) (g : model.Frame) (gs : List model.Frame)
    (inner : FrameStands m st.frame g) (waiting : Waiting m st.frame.into g.into st.callers gs) (objects : st.memory ≡ s.objects) where
  -- the caller goes on with a value
  on_with : (into : Option ℕ) (name : Option (List ℕ)) (v : Value) → IntoStands (names_at m g.function) into name
      → StandsFor m (gives (passed st) into v) (record (past g) { locals = model.with_local name v g.locals } ∷ gs) s.objects
  on_with into name v is = record {
    calls = (given_stands m (passed st).frame (past g) into name v is (past_stands m st.frame g inner), waiting);
    memory = objects;
  }

  came_back : (into : Option ℕ) (name : Option (List ℕ)) (v : Value) (exchange : model.Exchange) → IntoStands (names_at m g.function) into name
      → Came m (gives (passed st) into v) (call.goes_on s (past g ∷ gs) name exchange (Some v)) exchange
  came_back into name v exchange is = record { turn = _; is = refl; exchanged = refl; stands = on_with into name v is }

  pub outer_meets : (into : Option ℕ) (name : Option (List ℕ)) (outer : Outer) (values : List Value) → IntoStands (names_at m g.function) into name
      → ((to : Value) (v w : Width) (byte count : ℕ) (volatile : Value) → outer ≡ Memset → values ≡ to ∷ Num v byte ∷ Num w count ∷ volatile ∷ [] → 256 ≤ byte → FillsWide m frames)
      → Meets m frames (slice_get input s.taken) (outer_turn (passed st) into outer values) (call.outer_turn input s (past g ∷ gs) name outer values)
  outer_meets into name Putchar (Num w n ∷ []) is wide = came_back into name (Num W32 (n % 256)) (model.Print (n % 256)) is
  outer_meets into name Getchar [] is wide = record {
    byte = λ b e. let P : Option ℕ → Type 0 = λ o. Came m (gives (passed st) into (Num W32 b)) (call.read_byte s (past g ∷ gs) name o) model.Take in
        subst P (sym e) (came_back into name (Num W32 b) model.Take is);
    end = λ e. let P : Option ℕ → Type 0 = λ o. Came m (gives (passed st) into (Num W32 (2 ^ 32 - 1))) (call.read_byte s (past g ∷ gs) name o) model.Nothing in
        subst P (sym e) (came_back into name (Num W32 (2 ^ 32 - 1)) model.Nothing is);
  }
  outer_meets into name Exit (Num w n ∷ []) is wide = inl refl
  outer_meets into name Memcpy (to ∷ from ∷ Num w count ∷ volatile ∷ []) is wide =
      memory_meets m frames (slice_get input s.taken) s st g gs inner waiting objects (copied st.memory to from count) (copied s.objects to from count) (ap (λ o. copied o to from count) objects)
  outer_meets into name Memset (to ∷ Num v byte ∷ Num w count ∷ volatile ∷ []) is wide = by (nat_le 256 byte) refl
    where
      by : (b : Bool) → nat_le 256 byte ≡ b
          → Meets m frames (slice_get input s.taken) (if b then Err Malformed else changes (passed st) (filled st.memory to byte count)) (call.with_memory (past g ∷ gs) (filled s.objects to byte count))
      by true e = inr (refl, wide to v w byte count volatile refl refl (leb-true 256 byte e))
      by false e = memory_meets m frames (slice_get input s.taken) s st g gs inner waiting objects (filled st.memory to byte count) (filled s.objects to byte count) (ap (λ o. filled o to byte count) objects)
  outer_meets into name TrapNow values is wide = inl refl
  outer_meets into name Lifetime values is wide = record { turn = _; is = refl; exchanged = refl; stands = record { calls = (past_stands m st.frame g inner, waiting); memory = objects } }
  outer_meets into name outer values is wide = inl refl

  -- a call of a function that is there
  body_meets : (into : Option ℕ) (name : Option (List ℕ)) (f : Function) (number : ℕ) (ret : Kind) (kinds : List Kind) (values : List Value) → IntoStands (names_at m g.function) into name
      → slice_get m.functions number ≡ Some f → length values ≡ length kinds → s.frames ≡ g ∷ gs
      → Meets m frames (slice_get input s.taken) (body_turn (body_of m f) number (passed st) ret kinds values into)
      (if is_called_as f ret kinds
      then (if nat_le MAX_CALLS (length s.frames) then Err Depth else Ok (record { frames = first_frame number f values name ∷ (past g ∷ gs); objects = s.objects; exchange = model.Nothing }))
      else Err (Left CalleeReason))
  body_meets into name f number ret kinds values is there many are = by (is_called_as f ret kinds) refl
    where
      same_depth : length st.callers + 1 ≡ length s.frames
      same_depth =
          let waits : length st.callers ≡ length gs = as_many_wait m st.frame.into g.into st.callers gs waiting in
          let all : length s.frames ≡ suc (length gs) = ap length are in
          omega arith

      callee : length values ≤ length f.params → FrameStands m (entered (body_of m f) number (passed st) into values).frame (first_frame number f values name)
      callee few = record {
        function = refl;
        block = refl;
        next = refl;
        registers = subst (λ names. StandFor names (first_registers (length (register_names f)) values) (bound f.params values)) (sym (ap names_of there)) (entered_stands f values few);
        long = entered_long f values few ∙ sym (ap length (ap names_of there));
        objects = refl;
      }

      room : (b : Bool) → length values ≡ length f.params
          → Meets m frames (slice_get input s.taken) (if b then Err Depth else Ok (turned (entered (body_of m f) number (passed st) into values) Nothing))
          (if b then Err Depth else Ok (record { frames = first_frame number f values name ∷ (past g ∷ gs); objects = s.objects; exchange = model.Nothing }))
      room true same = inl refl
      room false same = record {
        turn = _;
        is = refl;
        exchanged = refl;
        stands = record { calls = (callee (let few : length values ≤ length f.params = omega arith in few), (is, past_stands m st.frame g inner, waiting)); memory = objects };
      }

      by : (b : Bool) → is_called_as f ret kinds ≡ b
          → Meets m frames (slice_get input s.taken)
          (if b then (if nat_le MAX_CALLS (length st.callers + 1) then Err Depth else Ok (turned (entered (body_of m f) number (passed st) into values) Nothing)) else Err (Left CalleeReason))
          (if b
          then (if nat_le MAX_CALLS (length s.frames) then Err Depth else Ok (record { frames = first_frame number f values name ∷ (past g ∷ gs); objects = s.objects; exchange = model.Nothing }))
          else Err (Left CalleeReason))
      by true e =
          let same : length values ≡ length f.params = many ∙ sym (parameters_are f ret kinds e) in
          subst (λ n. Meets m frames (slice_get input s.taken)
          (if nat_le MAX_CALLS (length st.callers + 1) then Err Depth else Ok (turned (entered (body_of m f) number (passed st) into values) Nothing))
          (if nat_le MAX_CALLS n then Err Depth else Ok (record { frames = first_frame number f values name ∷ (past g ∷ gs); objects = s.objects; exchange = model.Nothing })))
          same_depth (room (nat_le MAX_CALLS (length st.callers + 1)) same)
      by false e = inl refl

  pub enter_meets : (into : Option ℕ) (name : Option (List ℕ)) (ret : Kind) (kinds : List Kind) (values : List Value) (callee : Value) → IntoStands (names_at m g.function) into name
      → length values ≡ length kinds → s.frames ≡ g ∷ gs
      → Meets m frames (slice_get input s.taken) (enter_turn (program_of m) (passed st) ret kinds values into callee) (call.entry_turn m s (past g ∷ gs) ret kinds values name callee)
  enter_meets into name ret kinds values (Fun number) is many are =
      subst (λ o. Meets m frames (slice_get input s.taken)
      (and_then (found_or Malformed o) (λ body. body_turn body number (passed st) ret kinds values into))
      (call.entry_turn m s (past g ∷ gs) ret kinds values name (Fun number)))
      (sym (got_mapped (body_of m) m.functions number)) (by (slice_get m.functions number) refl)
    where
      by : (o : Option Function) → slice_get m.functions number ≡ o
          → Meets m frames (slice_get input s.taken) (and_then (found_or Malformed (option_map (body_of m) o)) (λ body. body_turn body number (passed st) ret kinds values into))
          (and_then (found_or Malformed o) (λ f.
          if is_called_as f ret kinds
          then (if nat_le MAX_CALLS (length s.frames) then Err Depth else Ok (record { frames = first_frame number f values name ∷ (past g ∷ gs); objects = s.objects; exchange = model.Nothing }))
          else Err (Left CalleeReason)))
      by (Some f) e = body_meets into name f number ret kinds values is e many are
      by None e = inl refl
  enter_meets into name ret kinds values Null is many are = inl refl
  enter_meets into name ret kinds values (Num w n) is many are = inl refl
  enter_meets into name ret kinds values (At o d) is many are = inl refl

  -- a return
  pub return_meets : (result : Option Value) → Meets m frames (slice_get input s.taken) (return_turn st st.callers result) (call.return_turn s g gs result)
  return_meets result = by st.callers gs waiting result
    where
      by : (fs : List Frame) (hs : List model.Frame) → Waiting m st.frame.into g.into fs hs → (result : Option Value)
          → Meets m frames (slice_get input s.taken) (return_turn st fs result) (call.return_turn s g hs result)
      by [] [] w result = inl refl
      by [] (h ∷ hs) w result = absurd w
      by (f ∷ fs) [] w result = absurd w
      by (f ∷ fs) (h ∷ hs) w None = record {
        turn = _;
        is = refl;
        exchanged = refl;
        stands = record { calls = (w.1, w.2); memory = ap (λ o. without o st.frame.objects) objects ∙ ap (without s.objects) inner.objects };
      }
      by (f ∷ fs) (h ∷ hs) w (Some v) = record {
        turn = _;
        is = refl;
        exchanged = refl;
        stands = record {
          calls = (given_stands m f h st.frame.into g.into v w.0 w.1, w.2);
          memory = ap (λ o. without o st.frame.objects) objects ∙ ap (without s.objects) inner.objects;
        };
      }
