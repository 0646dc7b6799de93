-- Calls over memory, and how single changes keep them.
use Rattle.std.proofs.Common.{◌≡◌, ℕ, ◌+◌, ◌<◌, true, false, List, [], ◌∷◌, ◌++◌, length, Option, Some, None, Ok, refl, sym, subst, arith, length-append}
use Rattle.std.proofs.lemmas.List.{length-replicate}
use Rattle.std.specs.Prelude.{replicate}
use Rattle.std.proofs.lemmas.Bool.{and_parts}
use Rattle.ir_core.specs.declared.module.Module.{Module}
use Rattle.ir_core.specs.declared.memory.Value.{Value}
use Rattle.ir_core.specs.declared.memory.Value.TheVariants.{At}
use Rattle.ir_core.specs.declared.memory.Cell.TheVariants.{Unset}
use Rattle.ir_core.specs.declared.memory.Object0.{Object0}
use Rattle.ir_core.specs.Stops.{Answer}
use Rattle.ir_core.specs.declared.kind.Kind.{Kind}
use Rattle.ir_core.specs.declared.kind.Kind.TheVariants.{Pointer}
use Rattle.ir_core.specs.Kinds.{kind_of}
use Rattle.ir_core.specs.Memory.{Memory, with_alloca}
use Rattle.ir_core.specs.State.{Local, Frame, State, Nothing, with_local}
use Rattle.ir_core.specs.Calls.{resumed, with_memory}
use Rattle.ir_core.specs.Step.{past, gives, gives_alloca, stores}
use Rattle.ir_core.specs.Typing.{Env, is_value, has_kind, into_fits}
use Rattle.ir_core.specs.Valid.{env_of}
use Rattle.ir_sound.specs.WellTyped.{Each, Properly, Present, IsOfKind, IsCell, IsObject, IsLocal, IsOwn, AreGlobals, IsInBlock, Awaits, AreWaiting, AreCalls, present, AreOver, IsTypedTurn}
use Rattle.ir_sound.proofs.AnswerLaws.{then_gives}
use Rattle.ir_sound.proofs.Objects.{globals_before, globals_within, IsMemory, Wider, kind_wider, objects_wider}
use Rattle.ir_sound.proofs.RowLaws.{Each_both, Each_more, Each_replicate}
use Rattle.ir_sound.proofs.SameLaws.{has_kind_is}

-- locals once one was given a value of its kind
pub given_are : (x : Present) (env : Env) (into : Option (List ℕ)) (kind : Kind) (v : Value) (locals : List Local) → Awaits env into kind → IsOfKind x kind v → Each (IsLocal x env) locals → Each (IsLocal x env) (with_local into v locals)
given_are x env (Some name) kind v locals waits is all = ((kind, waits, is), all)
given_are x env None kind v locals waits is all = all

-- what fits waits
pub fits_awaits : (env : Env) (into : Option (List ℕ)) (kind : Kind) → into_fits env into kind ≡ true → Awaits env into kind
fits_awaits env (Some name) kind fits = has_kind_is (env name) kind (and_parts (is_value kind) (has_kind (env name) kind) fits).1
fits_awaits env None kind fits = tt

-- a call one instruction further, with other locals
abbrev pub further : {m : Module} {x : Present} {f : Frame} (s : IsInBlock m x f) (locals : List Local) → f.next < length s.block.insts → Each (IsLocal x (env_of s.fn)) locals → IsInBlock m x (record f { next = f.next + 1; locals = locals })
further s locals below all = record {
  fn = s.fn;
  block = s.block;
  in_module = s.in_module;
  in_function = s.in_function;
  past_phis = let h = s.past_phis in omega arith;
  within = omega arith;
  locals = all;
  objects = s.objects;
}

-- the innermost of the callers goes on with a result of the kind for which it waits
pub resumed_are : (m : Module) (x : Present) (kind : Kind) (into : Option (List ℕ)) (g : Frame) (gs : List Frame) (result : Option Value) → ((v : Value) → result ≡ Some v → IsOfKind x kind v) → AreWaiting m x kind into (g ∷ gs) → AreCalls m x (resumed (g ∷ gs) into result)
resumed_are m x kind into g gs None is waiting = (waiting.0.stands, waiting.1)
resumed_are m x kind into g gs (Some v) is waiting =
    let s = waiting.0.stands in (
      record {
        fn = s.fn;
        block = s.block;
        in_module = s.in_module;
        in_function = s.in_function;
        past_phis = s.past_phis;
        within = s.within;
        objects = s.objects;
        locals = given_are x (env_of s.fn) into kind v g.locals waiting.0.awaits (is v refl) s.locals;
      },
      waiting.1,
    )

-- memory of as many objects
pub over_changed : (m : Module) (old new : Memory) (frames : List Frame) → IsMemory (present m old) old new → AreCalls m (present m old) frames → AreGlobals m m.globals old → AreOver m frames new
over_changed m old new frames kept calls globals =
    let X : ℕ → Present = λ n. record { globals = length m.globals; objects = n; functions = length m.functions } in
    record {
      calls = subst (λ n. AreCalls m (X n) frames) (sym kept.many) calls;
      cells = subst (λ n. Each (IsObject (X n)) new) (sym kept.many) kept.cells;
      globals = kept.globals m m.globals (omega arith) globals;
    }

-- a step that changes memory alone
pub memory_turn : (m : Module) (old : Memory) (frames : List Frame) (new : Answer Memory) → Properly (IsMemory (present m old) old) new → AreCalls m (present m old) frames → AreGlobals m m.globals old → Properly (IsTypedTurn m) (with_memory frames new)
memory_turn m old frames new kept calls globals =
    then_gives (IsMemory (present m old) old) (IsTypedTurn m) new (λ objects. Ok (record { frames = frames; objects = objects; exchange = Nothing })) kept
    (λ objects k. over_changed m old objects frames k calls globals)

-- among more objects locals are what they are
pub locals_wider : (x y : Present) → Wider x y → (env : Env) (locals : List Local) → Each (IsLocal x env) locals → Each (IsLocal y env) locals
locals_wider x y w env locals all = Each_more (IsLocal x env) (IsLocal y env) locals (λ l p. (p.0, p.1, kind_wider x y w p.0 l.value p.2)) all

-- so are calls
abbrev pub standing_wider : {m : Module} {f : Frame} (x y : Present) → Wider x y → (s : IsInBlock m x f) → IsInBlock m y f
standing_wider {m = m} {f = f} x y w s = record {
  fn = s.fn;
  block = s.block;
  in_module = s.in_module;
  in_function = s.in_function;
  past_phis = s.past_phis;
  within = s.within;
  locals = locals_wider x y w (env_of s.fn) f.locals s.locals;
  objects = Each_more (IsOwn x) (IsOwn y) f.objects (λ o p. let r = p.0 in let q = p.1 in let h = w.objects in let g = w.globals in (omega arith, omega arith)) s.objects;
}

-- and those that wait
pub waiting_wider : (m : Module) (x y : Present) → Wider x y → (kind : Kind) (into : Option (List ℕ)) (gs : List Frame) → AreWaiting m x kind into gs → AreWaiting m y kind into gs
waiting_wider m x y w kind into [] waiting = waiting
waiting_wider m x y w kind into (g ∷ gs) waiting =
    let one = waiting.0 in
    (record { stands = standing_wider x y w one.stands; past = one.past; awaits = one.awaits }, waiting_wider m x y w (kind_of one.stands.fn.ret) g.into gs waiting.1)

-- a call that stands, the calls that wait for it, and memory
pub record Here (m : Module) (objects : Memory) (f : Frame) (callers : List Frame) : Type 0 where
  pub stands : IsInBlock m (present m objects) f
  pub waiting : AreWaiting m (present m objects) (kind_of stands.fn.ret) f.into callers
  pub cells : Each (IsObject (present m objects)) objects
  pub globals : AreGlobals m m.globals objects

-- calls that wait for a result of a kind, and memory
pub record Calling (m : Module) (s : State) (kind : Kind) (into : Option (List ℕ)) (callers : List Frame) : Type 0 where
  pub waiting : AreWaiting m (present m s.objects) kind into callers
  pub cells : Each (IsObject (present m s.objects)) s.objects
  pub globals : AreGlobals m m.globals s.objects

-- those of a call that stands
pub callers_of : (m : Module) (s : State) (f : Frame) (callers : List Frame) (h : Here m s.objects f callers) → Calling m s (kind_of h.stands.fn.ret) f.into callers
callers_of m s f callers h = record { waiting = h.waiting; cells = h.cells; globals = h.globals }

-- an instruction that gives a value
pub gives_turn : (m : Module) (s : State) (f : Frame) (callers : List Frame) (h : Here m s.objects f callers) (into : Option (List ℕ)) (kind : Kind) (v : Value) → f.next < length h.stands.block.insts → into_fits (env_of h.stands.fn) into kind ≡ true → IsOfKind (present m s.objects) kind v → Properly (IsTypedTurn m) (gives s f callers into v)
gives_turn m s f callers h into kind v below fits is = record {
  calls = (further h.stands (with_local into v f.locals) below (given_are (present m s.objects) (env_of h.stands.fn) into kind v f.locals (fits_awaits (env_of h.stands.fn) into kind fits) is h.stands.locals), h.waiting);
  cells = h.cells;
  globals = h.globals;
}

-- an instruction that changes memory
pub stores_turn : (m : Module) (s : State) (f : Frame) (callers : List Frame) (h : Here m s.objects f callers) (new : Answer Memory) → f.next < length h.stands.block.insts → Properly (IsMemory (present m s.objects) s.objects) new → Properly (IsTypedTurn m) (stores s f callers new)
stores_turn m s f callers h new below kept = memory_turn m s.objects (past f ∷ callers) new kept (further h.stands f.locals below h.stands.locals, h.waiting) h.globals

-- a new object
pub alloca_turn : (m : Module) (s : State) (f : Frame) (callers : List Frame) (h : Here m s.objects f callers) (into : Option (List ℕ)) (size : ℕ) → f.next < length h.stands.block.insts → into_fits (env_of h.stands.fn) into Pointer ≡ true → Properly (IsTypedTurn m) (gives_alloca s f callers into size)
alloca_turn m s f callers h into size below fits =
    let old = present m s.objects in
    let new = present m (with_alloca s.objects size) in
    let object : Object0 = record { live = true; constant = false; size = size; cells = replicate size Unset } in
    let longer : length (s.objects ++ object ∷ []) ≡ length s.objects + 1 = length-append s.objects (object ∷ []) in
    let few = globals_within m m.globals s.objects h.globals in
    let w : Wider old new = record { objects = omega arith; functions = refl; globals = refl } in
    let env = env_of h.stands.fn in
    let at : IsOfKind new Pointer (At (length s.objects) 0) = (omega arith, omega arith) in
    let stands : IsInBlock m new f = standing_wider old new w h.stands in
    record {
      calls = (
        record {
          fn = h.stands.fn;
          block = h.stands.block;
          in_module = h.stands.in_module;
          in_function = h.stands.in_function;
          past_phis = let p = h.stands.past_phis in omega arith;
          within = omega arith;
          locals = given_are new env into Pointer (At (length s.objects) 0) f.locals (fits_awaits env into Pointer fits) at stands.locals;
          objects = ((few, omega arith), stands.objects);
        },
        waiting_wider m old new w (kind_of h.stands.fn.ret) f.into callers h.waiting,
      );
      cells = Each_both (IsObject new) s.objects (object ∷ []) (objects_wider old new w s.objects h.cells) (record { count = length-replicate size Unset; cells = Each_replicate (IsCell new) size Unset tt }, tt);
      globals = globals_before m m.globals s.objects (object ∷ []) h.globals;
    }
