-- Calls of a program beside calls of the program without switches, and what instructions make of both.
use Rattle.std.proofs.Common.{◌≡◌, ℕ, zero, suc, ◌+◌, Bool, true, false, List, [], ◌∷◌, map, length, Option, Some, None, Ok, Err, refl, ap, sym, subst, inl, inr, ◌⊎◌}
use Rattle.std.specs.Prelude.{◌&&◌, slice_get, nat_le, if◌then◌else◌}
use Rattle.std.specs.List.{list_all}
use Rattle.std.proofs.lemmas.Bool.{and_parts}
use Rattle.behavior.specs.Ending.{is_left}
use Rattle.ir_core.specs.declared.TheConstants.{MAX_CALLS}
use Rattle.ir_core.specs.declared.instruction.Arg.{Arg}
use Rattle.ir_core.specs.declared.instruction.Op.{Op}
use Rattle.ir_core.specs.declared.instruction.Op.TheVariants.{Alloca, Store, Call}
use Rattle.ir_core.specs.declared.module.Function.{Function}
use Rattle.ir_core.specs.declared.module.Module.{Module}
use Rattle.ir_core.specs.declared.memory.Value.{Value}
use Rattle.ir_core.specs.declared.memory.Value.TheVariants.{Num, At, Fun}
use Rattle.ir_core.specs.declared.memory.Reason.TheVariants.{Callee}
use Rattle.ir_core.specs.declared.outer.Outer.{Outer}
use Rattle.ir_core.specs.declared.outer.Outer.TheVariants.{Putchar, Getchar, Exit, Memcpy, Memset, TrapNow, Lifetime}
use Rattle.ir_core.specs.declared.kind.Kind.{Kind}
use Rattle.ir_core.specs.declared.kind.Kind.TheVariants.{Pointer}
use Rattle.ir_core.specs.Stops.{Left, Depth, Malformed, Answer, and_then, found_or, ending_of}
use Rattle.ir_core.specs.Kinds.{kind_of}
use Rattle.ir_core.specs.Memory.{Memory, store_at, without, copied, filled}
use Rattle.ir_core.specs.State.{Local, Frame, State, Exchange, Nothing, Take, Print, Turn, with_local}
use Rattle.ir_core.specs.Operands.{value_of, values_of}
use Rattle.ir_core.specs.Calls.{Target, Outside, Inside, target_of, is_called_as, first_frame, entry_turn, resumed, return_turn, goes_on, read_byte, with_memory, outer_turn, call_turn}
use Rattle.ir_core.specs.Step.{past, gives, stores, result_of, instruction_turn}
use Rattle.ir_core.specs.Typing.{Env, is_value, is_result, operand_fits, arg_fits, op_fits}
use Rattle.ir_core.specs.Valid.{op_rules, callee_rules, types_of}
use Rattle.low_core.specs.declared.moves.Chunk.{Chunk}
use Rattle.low_core.specs.declared.moves.Body.{Body}
use Rattle.low_core.specs.Plain.{with_blocks, block_of, with_bodies, plain}
use Rattle.switch_lower.specs.Bodies.{chunks_for, padding_in, body_of, bodies_of, bodies_without_switches}
use Rattle.switch_lower.proofs.Same.{NamesAgree, Same, IsUnder, with_same, value_same, arguments_same, target_same, result_same}

-- a function with its body, and without switches
abbrev pub with_body : Function → Body → Function
with_body f b = with_blocks f (map block_of b.chunks)

abbrev pub lowered : Function → Body → Function
lowered f b = with_body f (body_of f b)

-- the functions of the program without switches
abbrev pub lowered_all : Module → List Body → List Function
lowered_all base bodies = with_bodies base.functions (bodies_without_switches base bodies)

-- a function of that number, with its body
pub record IsFound (fs : List Function) (bodies : List Body) (number : ℕ) : Type 0 where
  pub fn : Function
  pub body : Body
  pub body_at : slice_get bodies number ≡ Some body
  pub in_first : slice_get (with_bodies fs bodies) number ≡ Some (with_body fn body)
  pub in_second : slice_get (with_bodies fs (bodies_of fs bodies)) number ≡ Some (lowered fn body)

-- there is one, or there is none
pub find : (fs : List Function) (bodies : List Body) (number : ℕ) → ((slice_get (with_bodies fs bodies) number ≡ None) × (slice_get (with_bodies fs (bodies_of fs bodies)) number ≡ None)) ⊎ IsFound fs bodies number
find [] bodies number = inl (refl, refl)
find (f ∷ fs) [] number = inl (refl, refl)
find (f ∷ fs) (b ∷ bs) zero = inr (record { fn = f; body = b; body_at = refl; in_first = refl; in_second = refl })
find (f ∷ fs) (b ∷ bs) (suc number) = elim (find fs bs number) [
  | inl e ↦ inl e
  | inr x ↦ inr (record { fn = x.fn; body = x.body; body_at = x.body_at; in_first = x.in_first; in_second = x.in_second })
]

-- a call in a function, and the same call without switches: it stands in a chunk behind which the tree stands
pub record IsBeside (base : Module) (bodies : List Body) (f g : Frame) : Type 0 where
  pub found : IsFound base.functions bodies f.function
  pub chunk : Chunk
  pub chunk_at : slice_get found.body.chunks f.block ≡ Some chunk
  pub part : (k : ℕ) (x : Chunk) → slice_get (chunks_for (padding_in found.fn found.body) g.block chunk) k ≡ Some x → slice_get (body_of found.fn found.body).chunks (g.block + k) ≡ Some x
  pub function : g.function ≡ f.function
  pub next : g.next ≡ f.next
  pub locals : Same (padding_in found.fn found.body) f.locals g.locals
  pub objects : g.objects ≡ f.objects
  pub into : g.into ≡ f.into

-- calls beside calls
abbrev pub AreBeside : Module → List Body → List Frame → List Frame → Type 0
AreBeside base bodies [] [] = Unit {0}
AreBeside base bodies (f ∷ fs) (g ∷ gs) = IsBeside base bodies f g × AreBeside base bodies fs gs
AreBeside base bodies [] (g ∷ gs) = ⊥
AreBeside base bodies (f ∷ fs) [] = ⊥

-- the state of the program without switches: other calls, everything else the same
abbrev pub with_frames : State → List Frame → State
with_frames s gs = record s { frames = gs }

module _ (base : Module) (bodies : List Body) where
  abbrev pub m : Module
  m = plain base bodies

  abbrev pub w : Module
  w = plain base (bodies_without_switches base bodies)

  -- as many
  pub as_many : (fs gs : List Frame) → AreBeside base bodies fs gs → length fs ≡ length gs
  as_many [] [] all = refl
  as_many (f ∷ fs) (g ∷ gs) all = ap (λ n. suc n) (as_many fs gs all.1)
  as_many [] (g ∷ gs) all = absurd all
  as_many (f ∷ fs) [] all = absurd all

  -- what a step makes of both
  pub record IsTurnBeside (t u : Turn) : Type 0 where
    pub frames : AreBeside base bodies t.frames u.frames
    pub objects : u.objects ≡ t.objects
    pub exchange : u.exchange ≡ t.exchange

  -- the first step leaves the meaning, or both stop alike, or they go on side by side
  abbrev pub TurnsBeside : Answer Turn → Answer Turn → Type 0
  TurnsBeside (Ok t) (Ok u) = IsTurnBeside t u
  TurnsBeside (Ok t) (Err stop) = ⊥
  TurnsBeside (Err stop) b = (is_left (ending_of stop) ≡ true) ⊎ (b ≡ Err stop)

  -- the second part of two steps whose first parts are the same
  pub then_beside : {A : Type 0} (a b : Answer A) (rest rest2 : A → Answer Turn) → a ≡ b → ((x : A) → TurnsBeside (rest x) (rest2 x)) → TurnsBeside (and_then a rest) (and_then b rest2)
  then_beside {A = A} a b rest rest2 same go = subst (λ c. TurnsBeside (and_then a rest) (and_then c rest2)) same (both a)
    where
      both : (c : Answer A) → TurnsBeside (and_then c rest) (and_then c rest2)
      both (Ok x) = go x
      both (Err stop) = inr refl

  -- one instruction further on both sides, with other locals
  pub moved_on : (f g : Frame) (x : IsBeside base bodies f g) (locals locals2 : List Local) → Same (padding_in x.found.fn x.found.body) locals locals2 → (objects objects2 : List ℕ) → objects2 ≡ objects → IsBeside base bodies (record f { next = f.next + 1; locals = locals; objects = objects }) (record g { next = g.next + 1; locals = locals2; objects = objects2 })
  moved_on f g x locals locals2 same objects objects2 owned = record {
    found = x.found;
    chunk = x.chunk;
    chunk_at = x.chunk_at;
    part = x.part;
    function = x.function;
    next = ap (λ n. n + 1) x.next;
    locals = same;
    objects = owned;
    into = x.into;
  }

  -- the callers go on
  pub resumed_beside : (fs gs : List Frame) (into into2 : Option (List ℕ)) (result : Option Value) → into2 ≡ into → AreBeside base bodies fs gs → AreBeside base bodies (resumed fs into result) (resumed gs into2 result)
  resumed_beside [] [] into into2 result e all = all
  resumed_beside (f ∷ fs) (g ∷ gs) into into2 None e all = all
  resumed_beside (f ∷ fs) (g ∷ gs) into into2 (Some v) e all = (given, all.1)
    where
      x : IsBeside base bodies f g
      x = all.0

      given : IsBeside base bodies (record f { locals = with_local into v f.locals }) (record g { locals = with_local into2 v g.locals })
      given = record {
        found = x.found;
        chunk = x.chunk;
        chunk_at = x.chunk_at;
        part = x.part;
        function = x.function;
        next = x.next;
        locals = subst (λ i. Same (padding_in x.found.fn x.found.body) (with_local into v f.locals) (with_local i v g.locals)) (sym e) (with_same (padding_in x.found.fn x.found.body) into v f.locals g.locals x.locals);
        objects = x.objects;
        into = x.into;
      }
  resumed_beside [] (g ∷ gs) into into2 result e all = absurd all
  resumed_beside (f ∷ fs) [] into into2 result e all = absurd all

  -- the callers go on with a result
  goes_on_beside : (s : State) (fs gs frames2 : List Frame) (into : Option (List ℕ)) (exchange : Exchange) (result : Option Value) → AreBeside base bodies fs gs → TurnsBeside (goes_on s fs into exchange result) (goes_on (with_frames s frames2) gs into exchange result)
  goes_on_beside s fs gs frames2 into exchange result all = record { frames = resumed_beside fs gs into into result refl all; objects = refl; exchange = refl }

  -- with a byte that was taken
  read_beside : (s : State) (fs gs frames2 : List Frame) (into : Option (List ℕ)) (byte : Option ℕ) → AreBeside base bodies fs gs → TurnsBeside (read_byte s fs into byte) (read_byte (with_frames s frames2) gs into byte)
  read_beside s fs gs frames2 into (Some byte) all = goes_on_beside s fs gs frames2 into Take _ all
  read_beside s fs gs frames2 into None all = goes_on_beside s fs gs frames2 into Nothing _ all

  -- with other memory
  memory_beside : (fs gs : List Frame) (objects : Answer Memory) → AreBeside base bodies fs gs → TurnsBeside (with_memory fs objects) (with_memory gs objects)
  memory_beside fs gs (Ok objects) all = record { frames = all; objects = refl; exchange = refl }
  memory_beside fs gs (Err stop) all = inr refl

  -- calls of outside functions
  outer_beside : (input : List ℕ) (s : State) (fs gs frames2 : List Frame) (into : Option (List ℕ)) (outer : Outer) (values : List Value) → AreBeside base bodies fs gs → TurnsBeside (outer_turn input s fs into outer values) (outer_turn input (with_frames s frames2) gs into outer values)
  outer_beside input s fs gs frames2 into Putchar (Num w n ∷ []) all = goes_on_beside s fs gs frames2 into (Print _) _ all
  outer_beside input s fs gs frames2 into Getchar [] all = read_beside s fs gs frames2 into (slice_get input s.taken) all
  outer_beside input s fs gs frames2 into Exit (Num w n ∷ []) all = inr refl
  outer_beside input s fs gs frames2 into Memcpy (to ∷ from ∷ Num w count ∷ volatile ∷ []) all = memory_beside fs gs (copied s.objects to from count) all
  outer_beside input s fs gs frames2 into Memset (to ∷ Num v byte ∷ Num w count ∷ volatile ∷ []) all = memory_beside fs gs (filled s.objects to byte count) all
  outer_beside input s fs gs frames2 into TrapNow values all = inr refl
  outer_beside input s fs gs frames2 into Lifetime values all = goes_on_beside s fs gs frames2 into Nothing None all
  outer_beside input s fs gs frames2 into outer values all = inr refl

  -- a return
  pub return_beside : (s : State) (f g : Frame) (fs gs frames2 : List Frame) (result : Option Value) → g.into ≡ f.into → g.objects ≡ f.objects → AreBeside base bodies fs gs → TurnsBeside (return_turn s f fs result) (return_turn (with_frames s frames2) g gs result)
  return_beside s f g [] [] frames2 result into objects all = inr refl
  return_beside s f g (h ∷ hs) (k ∷ ks) frames2 result into objects all = record {
    frames = resumed_beside (h ∷ hs) (k ∷ ks) f.into g.into result into all;
    objects = ap (without s.objects) objects;
    exchange = refl;
  }
  return_beside s f g [] (k ∷ ks) frames2 result into objects all = absurd all
  return_beside s f g (h ∷ hs) [] frames2 result into objects all = absurd all

  -- a function at its start
  abbrev pub EntersBeside : Type 0
  EntersBeside = (number : ℕ) (x : IsFound base.functions bodies number) (values : List Value) (into : Option (List ℕ)) → IsBeside base bodies (first_frame number (with_body x.fn x.body) values into) (first_frame number (lowered x.fn x.body) values into)

  -- what a call of a function comes to, once the function is found
  abbrev entered : State → ℕ → ℕ → List Frame → Kind → List Kind → List Value → Option (List ℕ) → Function → Answer Turn
  entered s number depth fs ret kinds values into h = if is_called_as h ret kinds then (if nat_le MAX_CALLS depth then Err Depth else Ok (record { frames = first_frame number h values into ∷ fs; objects = s.objects; exchange = Nothing })) else Err (Left Callee)

  module _ (enters : EntersBeside) where
    by_tests : (s : State) (fs gs : List Frame) (values : List Value) (into : Option (List ℕ)) (number : ℕ) (x : IsFound base.functions bodies number) (called deep : Bool) → AreBeside base bodies fs gs →
        TurnsBeside (if called then (if deep then Err Depth else Ok (record { frames = first_frame number (with_body x.fn x.body) values into ∷ fs; objects = s.objects; exchange = Nothing })) else Err (Left Callee))
        (if called then (if deep then Err Depth else Ok (record { frames = first_frame number (lowered x.fn x.body) values into ∷ gs; objects = s.objects; exchange = Nothing })) else Err (Left Callee))
    by_tests s fs gs values into number x true true all = inr refl
    by_tests s fs gs values into number x true false all = record { frames = (enters number x values into, all); objects = refl; exchange = refl }
    by_tests s fs gs values into number x false deep all = inr refl

    -- a call of a function of the module
    entry_beside : (s : State) (fs gs frames2 : List Frame) (ret : Kind) (kinds : List Kind) (values : List Value) (into : Option (List ℕ)) (callee : Value) → length frames2 ≡ length s.frames → AreBeside base bodies fs gs → TurnsBeside (entry_turn m s fs ret kinds values into callee) (entry_turn w (with_frames s frames2) gs ret kinds values into callee)
    entry_beside s fs gs frames2 ret kinds values into (Fun number) many all = elim (find base.functions bodies number) [
      | inl none ↦ subst (λ o. TurnsBeside (and_then (found_or Malformed o) (entered s number (length s.frames) fs ret kinds values into)) (entry_turn w (with_frames s frames2) gs ret kinds values into (Fun number))) (sym none.0) (inl refl)
      | inr x ↦
          subst (λ o. TurnsBeside (and_then (found_or Malformed o) (entered s number (length s.frames) fs ret kinds values into)) (entry_turn w (with_frames s frames2) gs ret kinds values into (Fun number))) (sym x.in_first)
          (subst (λ o. TurnsBeside (entered s number (length s.frames) fs ret kinds values into (with_body x.fn x.body)) (and_then (found_or Malformed o) (entered s number (length frames2) gs ret kinds values into))) (sym x.in_second)
          (subst (λ n. TurnsBeside (entered s number (length s.frames) fs ret kinds values into (with_body x.fn x.body)) (entered s number n gs ret kinds values into (lowered x.fn x.body))) (sym many)
          (by_tests s fs gs values into number x (is_called_as (with_body x.fn x.body) ret kinds) (nat_le MAX_CALLS (length s.frames)) all)))
    ]
    entry_beside s fs gs frames2 ret kinds values into callee many all = inr refl

    -- a call of either
    call_beside : (input : List ℕ) (s : State) (fs gs frames2 : List Frame) (ret : Kind) (kinds : List Kind) (values : List Value) (into : Option (List ℕ)) (target : Target) → length frames2 ≡ length s.frames → AreBeside base bodies fs gs → TurnsBeside (call_turn m input s fs ret kinds values into target) (call_turn w input (with_frames s frames2) gs ret kinds values into target)
    call_beside input s fs gs frames2 ret kinds values into (Outside outer) many all = outer_beside input s fs gs frames2 into outer values all
    call_beside input s fs gs frames2 ret kinds values into (Inside callee) many all = entry_beside s fs gs frames2 ret kinds values into callee many all

    module _ (agree : NamesAgree m (lowered_all base bodies)) (f g : Frame) (x : IsBeside base bodies f g) (env : Env) (under : IsUnder (padding_in x.found.fn x.found.body) env) where
      abbrev padding : ℕ
      padding = padding_in x.found.fn x.found.body

      -- a result is given
      given_beside : (s : State) (fs gs frames2 : List Frame) (into : Option (List ℕ)) (v : Value) → AreBeside base bodies fs gs → TurnsBeside (gives s f fs into v) (gives (with_frames s frames2) g gs into v)
      given_beside s fs gs frames2 into v all = record {
        frames = (moved_on f g x (with_local into v f.locals) (with_local into v g.locals) (with_same padding into v f.locals g.locals x.locals) f.objects g.objects x.objects, all);
        objects = refl;
        exchange = refl;
      }

      -- an operation that gives a value and changes nothing else
      plain_beside : (s : State) (fs gs frames2 : List Frame) (into : Option (List ℕ)) (op : Op) → AreBeside base bodies fs gs → op_fits m env op ≡ true →
          TurnsBeside (and_then (result_of m s.objects f.locals op) (λ v. gives s f fs into v)) (and_then (result_of w s.objects g.locals op) (λ v. gives (with_frames s frames2) g gs into v))
      plain_beside s fs gs frames2 into op all fits =
          then_beside (result_of m s.objects f.locals op) (result_of w s.objects g.locals op) _ _ (result_same m (lowered_all base bodies) agree padding env under f.locals g.locals x.locals s.objects op fits) (λ v. given_beside s fs gs frames2 into v all)

      -- memory is changed
      stored_beside : (s : State) (fs gs frames2 : List Frame) (objects : Answer Memory) → AreBeside base bodies fs gs → TurnsBeside (stores s f fs objects) (stores (with_frames s frames2) g gs objects)
      stored_beside s fs gs frames2 (Ok objects) all = record { frames = (moved_on f g x f.locals g.locals x.locals f.objects g.objects x.objects, all); objects = refl; exchange = refl }
      stored_beside s fs gs frames2 (Err stop) all = inr refl

      -- an instruction
      pub instruction_beside : (input : List ℕ) (s : State) (fs gs frames2 : List Frame) (into : Option (List ℕ)) (op : Op) → AreBeside base bodies fs gs → length frames2 ≡ length s.frames → op_rules m env op ≡ true →
          TurnsBeside (instruction_turn m input s f fs into op) (instruction_turn w input (with_frames s frames2) g gs into op)
      instruction_beside input s fs gs frames2 into (Alloca ty count) all many fits =
          let v : Value = At (length s.objects) 0 in
          record {
            frames = (moved_on f g x (with_local into v f.locals) (with_local into v g.locals) (with_same padding into v f.locals g.locals x.locals) (length s.objects ∷ f.objects) (length s.objects ∷ g.objects) (ap (λ os. length s.objects ∷ os) x.objects), all);
            objects = refl;
            exchange = refl;
          }
      instruction_beside input s fs gs frames2 into (Store ty a p) all many fits =
          let q = and_parts (is_value (kind_of ty)) (operand_fits m env (kind_of ty) a && operand_fits m env Pointer p) fits in
          let r = and_parts (operand_fits m env (kind_of ty) a) (operand_fits m env Pointer p) q.1 in
          then_beside (value_of m f.locals (kind_of ty) a) (value_of w g.locals (kind_of ty) a) _ _ (value_same m (lowered_all base bodies) agree padding env under f.locals g.locals x.locals (kind_of ty) a r.0)
          (λ u. then_beside (value_of m f.locals Pointer p) (value_of w g.locals Pointer p) _ _ (value_same m (lowered_all base bodies) agree padding env under f.locals g.locals x.locals Pointer p r.1)
          (λ v. stored_beside s fs gs frames2 (store_at s.objects u v) all))
      instruction_beside input s fs gs frames2 into (Call ret callee args) all many fits =
          let q = and_parts (is_result ret) (callee_rules m env ret (types_of args) callee && list_all (arg_fits m env) args) fits in
          let r = and_parts (callee_rules m env ret (types_of args) callee) (list_all (arg_fits m env) args) q.1 in
          then_beside (target_of m f.locals callee) (target_of w g.locals callee) _ _ (target_same m (lowered_all base bodies) agree padding env under f.locals g.locals x.locals ret (types_of args) callee r.0)
          (λ target. then_beside (values_of m f.locals args) (values_of w g.locals args) _ _ (arguments_same m (lowered_all base bodies) agree padding env under f.locals g.locals x.locals args r.1)
          (λ values. call_beside input s (past f ∷ fs) (past g ∷ gs) frames2 (kind_of ret) (map (λ (a : Arg). kind_of a.ty) args) values into target many (moved_on f g x f.locals g.locals x.locals f.objects g.objects x.objects, all)))
      instruction_beside input s fs gs frames2 into op all many fits = plain_beside s fs gs frames2 into op all fits
