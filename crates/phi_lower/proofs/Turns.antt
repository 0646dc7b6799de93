-- Calls of a module beside calls of the module without phis, and what instructions make of both.
use Rattle.std.proofs.Common.{◌≡◌, ℕ, zero, suc, ◌+◌, Bool, true, false, List, [], ◌∷◌, map, length, Option, Some, None, Ok, Err, refl, ap, sym, subst, arith}
use Rattle.std.specs.Prelude.{◌&&◌, slice_get, nat_le, option_map, if◌then◌else◌}
use Rattle.std.proofs.lemmas.Bool.{and_parts}
use Rattle.ir_core.specs.declared.TheConstants.{MAX_CALLS}
use Rattle.ir_core.specs.declared.instruction.Arg.{Arg}
use Rattle.ir_core.specs.declared.instruction.Op.{Op}
use Rattle.ir_core.specs.declared.instruction.Op.TheVariants.{Alloca, Store, Call}
use Rattle.ir_core.specs.declared.module.Block.{Block}
use Rattle.ir_core.specs.declared.module.Function.{Function}
use Rattle.ir_core.specs.declared.module.Module.{Module}
use Rattle.ir_core.specs.declared.memory.Value.{Value}
use Rattle.ir_core.specs.declared.memory.Value.TheVariants.{Num, At, Fun}
use Rattle.ir_core.specs.declared.memory.Reason.TheVariants.{Callee}
use Rattle.ir_core.specs.declared.outer.Outer.{Outer}
use Rattle.ir_core.specs.declared.outer.Outer.TheVariants.{Putchar, Getchar, Exit, Memcpy, Memset, TrapNow, Lifetime}
use Rattle.ir_core.specs.Stops.{Left, Depth, Malformed, Answer, and_then, found_or}
use Rattle.ir_core.specs.declared.kind.Kind.{Kind}
use Rattle.ir_core.specs.declared.kind.Kind.TheVariants.{Pointer}
use Rattle.ir_core.specs.Kinds.{kind_of}
use Rattle.ir_core.specs.Memory.{Memory, store_at, without, copied, filled}
use Rattle.ir_core.specs.State.{Local, Frame, State, Exchange, Nothing, Take, Print, Turn, with_local}
use Rattle.ir_core.specs.Operands.{value_of, values_of}
use Rattle.ir_core.specs.Calls.{Target, Outside, Inside, target_of, is_called_as, first_frame, entry_turn, resumed, return_turn, goes_on, read_byte, with_memory, outer_turn, call_turn}
use Rattle.ir_core.specs.Step.{past, gives, stores, result_of, instruction_turn}
use Rattle.ir_core.specs.Built.{op_built, arg_built, typed_built, operand_built, callee_built, result_built, built_all}
use Rattle.low_core.specs.Plain.{with_blocks, block_of}
use Rattle.phi_lower.specs.Lowered.{phis_of, body_of, chunk_of_block}
use Rattle.phi_lower.proofs.Same.{all_built, with_functions, NamesAgree, Same, with_same, value_same, typed_same, values_same, target_same, result_same}

-- a function without phis, as a function
abbrev pub lowered : Function → Function
lowered f = with_blocks f (map block_of (body_of f).chunks)

-- the module without phis
abbrev pub without_phis : Module → Module
without_phis m = with_functions m (map lowered m.functions)

-- a call in a function, and the same call in the function without phis: it stands as far behind the phis
pub record IsBeside (m : Module) (f g : Frame) : Type 0 where
  pub fn : Function
  pub block : Block
  pub in_module : slice_get m.functions f.function ≡ Some fn
  pub in_function : slice_get fn.blocks f.block ≡ Some block
  pub in_lowered : slice_get (lowered fn).blocks g.block ≡ Some (block_of (chunk_of_block fn.blocks block))
  pub function : g.function ≡ f.function
  pub next : f.next ≡ length (phis_of block.insts) + g.next
  pub locals : Same f.locals g.locals
  pub objects : g.objects ≡ f.objects
  pub into : g.into ≡ f.into

-- calls beside calls
abbrev pub AreBeside : Module → List Frame → List Frame → Type 0
AreBeside m [] [] = Unit {0}
AreBeside m (f ∷ fs) (g ∷ gs) = IsBeside m f g × AreBeside m fs gs
AreBeside m [] (g ∷ gs) = ⊥
AreBeside m (f ∷ fs) [] = ⊥

-- as many
pub as_many : (m : Module) (fs gs : List Frame) → AreBeside m fs gs → length fs ≡ length gs
as_many m [] [] all = refl
as_many m (f ∷ fs) (g ∷ gs) all = ap (λ n. suc n) (as_many m fs gs all.1)
as_many m [] (g ∷ gs) all = absurd all
as_many m (f ∷ fs) [] all = absurd all

-- what a step makes of both
pub record IsTurnBeside (m : Module) (t u : Turn) : Type 0 where
  pub frames : AreBeside m t.frames u.frames
  pub objects : u.objects ≡ t.objects
  pub exchange : u.exchange ≡ t.exchange

-- both steps stop alike, or go on side by side
abbrev pub TurnsBeside : Module → Answer Turn → Answer Turn → Type 0
TurnsBeside m (Ok t) (Ok u) = IsTurnBeside m t u
TurnsBeside m (Err stop) (Err stop2) = stop2 ≡ stop
TurnsBeside m (Ok t) (Err stop) = ⊥
TurnsBeside m (Err stop) (Ok u) = ⊥

-- the second part of two steps whose first parts are the same
pub then_beside : {A : Type 0} (m : Module) (a b : Answer A) (rest rest2 : A → Answer Turn) → a ≡ b → ((x : A) → TurnsBeside m (rest x) (rest2 x)) → TurnsBeside m (and_then a rest) (and_then b rest2)
then_beside {A = A} m a b rest rest2 same go = subst (λ c. TurnsBeside m (and_then a rest) (and_then c rest2)) same (both a)
  where
    both : (c : Answer A) → TurnsBeside m (and_then c rest) (and_then c rest2)
    both (Ok x) = go x
    both (Err stop) = refl

-- the state of the module without phis: other calls, everything else the same
abbrev pub with_frames : State → List Frame → State
with_frames s gs = record s { frames = gs }

module _ (m : Module) where
  -- one instruction further on both sides, with other locals
  pub moved_on : (f g : Frame) → IsBeside m f g → (locals locals2 : List Local) → Same locals locals2 → (objects objects2 : List ℕ) → objects2 ≡ objects → IsBeside m (record f { next = f.next + 1; locals = locals; objects = objects }) (record g { next = g.next + 1; locals = locals2; objects = objects2 })
  moved_on f g x locals locals2 same objects objects2 owned = record {
    fn = x.fn;
    block = x.block;
    in_module = x.in_module;
    in_function = x.in_function;
    in_lowered = x.in_lowered;
    function = x.function;
    next = let n = x.next in omega arith;
    locals = same;
    objects = owned;
    into = x.into;
  }

  -- the callers go on
  pub resumed_beside : (fs gs : List Frame) (into into2 : Option (List ℕ)) (result : Option Value) → into2 ≡ into → AreBeside m fs gs → AreBeside m (resumed fs into result) (resumed gs into2 result)
  resumed_beside [] [] into into2 result e all = all
  resumed_beside (f ∷ fs) (g ∷ gs) into into2 None e all = all
  resumed_beside (f ∷ fs) (g ∷ gs) into into2 (Some v) e all = (given, all.1)
    where
      x : IsBeside m f g
      x = all.0

      given : IsBeside m (record f { locals = with_local into v f.locals }) (record g { locals = with_local into2 v g.locals })
      given = record {
        fn = x.fn;
        block = x.block;
        in_module = x.in_module;
        in_function = x.in_function;
        in_lowered = x.in_lowered;
        function = x.function;
        next = x.next;
        locals = subst (λ i. Same (with_local into v f.locals) (with_local i v g.locals)) (sym e) (with_same into v f.locals g.locals x.locals);
        objects = x.objects;
        into = x.into;
      }
  resumed_beside [] (g ∷ gs) into into2 result e all = absurd all
  resumed_beside (f ∷ fs) [] into into2 result e all = absurd all

  -- the callers go on with a result
  goes_on_beside : (s : State) (fs gs frames2 : List Frame) (into : Option (List ℕ)) (exchange : Exchange) (result : Option Value) → AreBeside m fs gs → TurnsBeside m (goes_on s fs into exchange result) (goes_on (with_frames s frames2) gs into exchange result)
  goes_on_beside s fs gs frames2 into exchange result all = record { frames = resumed_beside fs gs into into result refl all; objects = refl; exchange = refl }

  -- with a byte that was taken
  read_beside : (s : State) (fs gs frames2 : List Frame) (into : Option (List ℕ)) (byte : Option ℕ) → AreBeside m fs gs → TurnsBeside m (read_byte s fs into byte) (read_byte (with_frames s frames2) gs into byte)
  read_beside s fs gs frames2 into (Some byte) all = goes_on_beside s fs gs frames2 into Take _ all
  read_beside s fs gs frames2 into None all = goes_on_beside s fs gs frames2 into Nothing _ all

  -- with other memory
  memory_beside : (fs gs : List Frame) (objects : Answer Memory) → AreBeside m fs gs → TurnsBeside m (with_memory fs objects) (with_memory gs objects)
  memory_beside fs gs (Ok objects) all = record { frames = all; objects = refl; exchange = refl }
  memory_beside fs gs (Err stop) all = refl

  -- calls of outside functions
  outer_beside : (input : List ℕ) (s : State) (fs gs frames2 : List Frame) (into : Option (List ℕ)) (outer : Outer) (values : List Value) → AreBeside m fs gs → TurnsBeside m (outer_turn input s fs into outer values) (outer_turn input (with_frames s frames2) gs into outer values)
  outer_beside input s fs gs frames2 into Putchar (Num w n ∷ []) all = goes_on_beside s fs gs frames2 into (Print _) _ all
  outer_beside input s fs gs frames2 into Getchar [] all = read_beside s fs gs frames2 into (slice_get input s.taken) all
  outer_beside input s fs gs frames2 into Exit (Num w n ∷ []) all = refl
  outer_beside input s fs gs frames2 into Memcpy (to ∷ from ∷ Num w count ∷ volatile ∷ []) all = memory_beside fs gs (copied s.objects to from count) all
  outer_beside input s fs gs frames2 into Memset (to ∷ Num v byte ∷ Num w count ∷ volatile ∷ []) all = memory_beside fs gs (filled s.objects to byte count) all
  outer_beside input s fs gs frames2 into TrapNow values all = refl
  outer_beside input s fs gs frames2 into Lifetime values all = goes_on_beside s fs gs frames2 into Nothing None all
  outer_beside input s fs gs frames2 into outer values all = refl

  -- a return
  pub return_beside : (s : State) (f g : Frame) (fs gs frames2 : List Frame) (result : Option Value) → g.into ≡ f.into → g.objects ≡ f.objects → AreBeside m fs gs → TurnsBeside m (return_turn s f fs result) (return_turn (with_frames s frames2) g gs result)
  return_beside s f g [] [] frames2 result into objects all = refl
  return_beside s f g (h ∷ hs) (k ∷ ks) frames2 result into objects all = record {
    frames = resumed_beside (h ∷ hs) (k ∷ ks) f.into g.into result into all;
    objects = ap (without s.objects) objects;
    exchange = refl;
  }
  return_beside s f g [] (k ∷ ks) frames2 result into objects all = absurd all
  return_beside s f g (h ∷ hs) [] frames2 result into objects all = absurd all

  -- a function at its start
  abbrev pub EntersBeside : Type 0
  EntersBeside = (number : ℕ) (fn : Function) (values : List Value) (into : Option (List ℕ)) → slice_get m.functions number ≡ Some fn → IsBeside m (first_frame number fn values into) (first_frame number (lowered fn) values into)

  -- functions of the same number
  pub lowered_at : (fs : List Function) (number : ℕ) → slice_get (map lowered fs) number ≡ option_map lowered (slice_get fs number)
  lowered_at [] number = refl
  lowered_at (f ∷ fs) zero = refl
  lowered_at (f ∷ fs) (suc number) = lowered_at fs number

  module _ (enters : EntersBeside) where
    -- a function that is found, by the tests of a call
    by_depth : (s : State) (fs gs : List Frame) (values : List Value) (into : Option (List ℕ)) (number : ℕ) (b : Bool) (f : Function) → slice_get m.functions number ≡ Some f → AreBeside m fs gs → TurnsBeside m (if b then Err Depth else Ok (record { frames = first_frame number f values into ∷ fs; objects = s.objects; exchange = Nothing })) (if b then Err Depth else Ok (record { frames = first_frame number (lowered f) values into ∷ gs; objects = s.objects; exchange = Nothing }))
    by_depth s fs gs values into number true f at all = refl
    by_depth s fs gs values into number false f at all = record { frames = (enters number f values into at, all); objects = refl; exchange = refl }

    by_types : (s : State) (fs gs : List Frame) (values : List Value) (into : Option (List ℕ)) (number : ℕ) (deep b : Bool) (f : Function) → slice_get m.functions number ≡ Some f → AreBeside m fs gs → TurnsBeside m (if b then (if deep then Err Depth else Ok (record { frames = first_frame number f values into ∷ fs; objects = s.objects; exchange = Nothing })) else Err (Left Callee)) (if b then (if deep then Err Depth else Ok (record { frames = first_frame number (lowered f) values into ∷ gs; objects = s.objects; exchange = Nothing })) else Err (Left Callee))
    by_types s fs gs values into number deep true f at all = by_depth s fs gs values into number deep f at all
    by_types s fs gs values into number deep false f at all = refl

    by_function : (s : State) (fs gs frames2 : List Frame) (ret : Kind) (kinds : List Kind) (values : List Value) (into : Option (List ℕ)) (number : ℕ) (o : Option Function) → slice_get m.functions number ≡ o → length frames2 ≡ length s.frames → AreBeside m fs gs →
        TurnsBeside m
        (and_then (found_or Malformed o) (λ f. if is_called_as f ret kinds then (if nat_le MAX_CALLS (length s.frames) then Err Depth else Ok (record { frames = first_frame number f values into ∷ fs; objects = s.objects; exchange = Nothing })) else Err (Left Callee)))
        (and_then (found_or Malformed (option_map lowered o)) (λ f. if is_called_as f ret kinds then (if nat_le MAX_CALLS (length frames2) then Err Depth else Ok (record { frames = first_frame number f values into ∷ gs; objects = s.objects; exchange = Nothing })) else Err (Left Callee)))
    by_function s fs gs frames2 ret kinds values into number (Some f) at many all =
        subst (λ n. TurnsBeside m (if is_called_as f ret kinds then (if nat_le MAX_CALLS (length s.frames) then Err Depth else Ok (record { frames = first_frame number f values into ∷ fs; objects = s.objects; exchange = Nothing })) else Err (Left Callee))
        (if is_called_as f ret kinds then (if nat_le MAX_CALLS n then Err Depth else Ok (record { frames = first_frame number (lowered f) values into ∷ gs; objects = s.objects; exchange = Nothing })) else Err (Left Callee))) (sym many)
        (by_types s fs gs values into number (nat_le MAX_CALLS (length s.frames)) (is_called_as f ret kinds) f at all)
    by_function s fs gs frames2 ret kinds values into number None at many all = refl

    -- a call of a function of the module
    entry_beside : (s : State) (fs gs frames2 : List Frame) (ret : Kind) (kinds : List Kind) (values : List Value) (into : Option (List ℕ)) (callee : Value) → length frames2 ≡ length s.frames → AreBeside m fs gs → TurnsBeside m (entry_turn m s fs ret kinds values into callee) (entry_turn (without_phis m) (with_frames s frames2) gs ret kinds values into callee)
    entry_beside s fs gs frames2 ret kinds values into (Fun number) many all =
        subst (λ o. TurnsBeside m (entry_turn m s fs ret kinds values into (Fun number)) (and_then (found_or Malformed o) (λ f. if is_called_as f ret kinds then (if nat_le MAX_CALLS (length frames2) then Err Depth else Ok (record { frames = first_frame number f values into ∷ gs; objects = s.objects; exchange = Nothing })) else Err (Left Callee)))) (sym (lowered_at m.functions number))
        (by_function s fs gs frames2 ret kinds values into number (slice_get m.functions number) refl many all)
    entry_beside s fs gs frames2 ret kinds values into callee many all = refl

    -- a call of either
    call_beside : (input : List ℕ) (s : State) (fs gs frames2 : List Frame) (ret : Kind) (kinds : List Kind) (values : List Value) (into : Option (List ℕ)) (target : Target) → length frames2 ≡ length s.frames → AreBeside m fs gs → TurnsBeside m (call_turn m input s fs ret kinds values into target) (call_turn (without_phis m) input (with_frames s frames2) gs ret kinds values into target)
    call_beside input s fs gs frames2 ret kinds values into (Outside outer) many all = outer_beside input s fs gs frames2 into outer values all
    call_beside input s fs gs frames2 ret kinds values into (Inside callee) many all = entry_beside s fs gs frames2 ret kinds values into callee many all

    module _ (agree : NamesAgree m (map lowered m.functions)) where
      -- a result is given
      given_beside : (s : State) (f g : Frame) (fs gs frames2 : List Frame) (into : Option (List ℕ)) (v : Value) → IsBeside m f g → AreBeside m fs gs → TurnsBeside m (gives s f fs into v) (gives (with_frames s frames2) g gs into v)
      given_beside s f g fs gs frames2 into v x all = record {
        frames = (moved_on f g x (with_local into v f.locals) (with_local into v g.locals) (with_same into v f.locals g.locals x.locals) f.objects g.objects x.objects, all);
        objects = refl;
        exchange = refl;
      }

      -- an operation that gives a value and changes nothing else
      plain_beside : (s : State) (f g : Frame) (fs gs frames2 : List Frame) (into : Option (List ℕ)) (op : Op) → IsBeside m f g → AreBeside m fs gs → op_built op ≡ true →
          TurnsBeside m (and_then (result_of m s.objects f.locals op) (λ v. gives s f fs into v)) (and_then (result_of (without_phis m) s.objects g.locals op) (λ v. gives (with_frames s frames2) g gs into v))
      plain_beside s f g fs gs frames2 into op x all built =
          then_beside m (result_of m s.objects f.locals op) (result_of (without_phis m) s.objects g.locals op) _ _ (result_same m (map lowered m.functions) agree s.objects f.locals g.locals op x.locals built) (λ v. given_beside s f g fs gs frames2 into v x all)

      -- memory is changed
      stored_beside : (s : State) (f g : Frame) (fs gs frames2 : List Frame) (objects : Answer Memory) → IsBeside m f g → AreBeside m fs gs → TurnsBeside m (stores s f fs objects) (stores (with_frames s frames2) g gs objects)
      stored_beside s f g fs gs frames2 (Ok objects) x all = record { frames = (moved_on f g x f.locals g.locals x.locals f.objects g.objects x.objects, all); objects = refl; exchange = refl }
      stored_beside s f g fs gs frames2 (Err stop) x all = refl

      -- an instruction
      pub instruction_beside : (input : List ℕ) (s : State) (f g : Frame) (fs gs frames2 : List Frame) (into : Option (List ℕ)) (op : Op) → IsBeside m f g → AreBeside m fs gs → length frames2 ≡ length s.frames → op_built op ≡ true →
          TurnsBeside m (instruction_turn m input s f fs into op) (instruction_turn (without_phis m) input (with_frames s frames2) g gs into op)
      instruction_beside input s f g fs gs frames2 into (Alloca ty count) x all many built =
          let v : Value = At (length s.objects) 0 in
          record {
            frames = (moved_on f g x (with_local into v f.locals) (with_local into v g.locals) (with_same into v f.locals g.locals x.locals) (length s.objects ∷ f.objects) (length s.objects ∷ g.objects) (ap (λ os. length s.objects ∷ os) x.objects), all);
            objects = refl;
            exchange = refl;
          }
      instruction_beside input s f g fs gs frames2 into (Store ty a p) x all many built =
          let q = and_parts (typed_built ty a) (operand_built p) built in
          then_beside m (value_of m f.locals (kind_of ty) a) (value_of (without_phis m) g.locals (kind_of ty) a) _ _ (typed_same m (map lowered m.functions) agree f.locals g.locals ty a x.locals q.0)
          (λ u. then_beside m (value_of m f.locals Pointer p) (value_of (without_phis m) g.locals Pointer p) _ _ (value_same m (map lowered m.functions) agree f.locals g.locals Pointer p x.locals q.1)
          (λ v. stored_beside s f g fs gs frames2 (store_at s.objects u v) x all))
      instruction_beside input s f g fs gs frames2 into (Call ret callee args) x all many built =
          let q = and_parts (result_built ret) (callee_built callee && built_all arg_built args) built in
          let r = and_parts (callee_built callee) (built_all arg_built args) q.1 in
          then_beside m (target_of m f.locals callee) (target_of (without_phis m) g.locals callee) _ _ (target_same m (map lowered m.functions) agree f.locals g.locals callee x.locals r.0)
          (λ target. then_beside m (values_of m f.locals args) (values_of (without_phis m) g.locals args) _ _ (values_same m (map lowered m.functions) agree f.locals g.locals args x.locals (all_built arg_built args r.1))
          (λ values. call_beside input s (past f ∷ fs) (past g ∷ gs) frames2 (kind_of ret) (map (λ (a : Arg). kind_of a.ty) args) values into target many (moved_on f g x f.locals g.locals x.locals f.objects g.objects x.objects, all)))
      instruction_beside input s f g fs gs frames2 into op x all many built = plain_beside s f g fs gs frames2 into op x all built
