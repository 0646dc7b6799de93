-- Calls and returns keep calls over memory.
use Rattle.std.proofs.Common.{◌≡◌, ℕ, ◌<◌, Bool, true, false, List, [], ◌∷◌, length, map, Option, Some, None, Ok, Err, refl, ap, sym, ◌∙◌, subst, arith}
use Rattle.std.specs.Prelude.{not, nat_le, slice_get, if◌then◌else◌}
use Rattle.std.proofs.lemmas.Bool.{and_parts}
use Rattle.rd_num.specs.declared.width.Width.TheVariants.{W32}
use Rattle.ir_core.specs.declared.TheConstants.{MAX_CALLS}
use Rattle.ir_core.specs.declared.operand.Operand.{Operand}
use Rattle.ir_core.specs.declared.operand.Operand.TheVariants.{Int, Bool as Truth, Null as NullWord, Undef, Poison, Local as LocalName, Global, Const}
use Rattle.ir_core.specs.declared.instruction.Op.{Op}
use Rattle.ir_core.specs.declared.instruction.Op.TheVariants.{Phi}
use Rattle.ir_core.specs.declared.instruction.Inst.{Inst}
use Rattle.ir_core.specs.declared.module.Block.{Block}
use Rattle.ir_core.specs.declared.module.Param.{Param}
use Rattle.ir_core.specs.declared.module.Function.{Function}
use Rattle.ir_core.specs.declared.module.Module.{Module}
use Rattle.ir_core.specs.declared.memory.Value.{Value}
use Rattle.ir_core.specs.declared.memory.Value.TheVariants.{Num, Null, At, Fun}
use Rattle.ir_core.specs.declared.memory.Reason.TheVariants.{Callee}
use Rattle.ir_core.specs.Names.{same_name, first_where}
use Rattle.ir_core.specs.Stops.{Depth, Left, Answer, and_then, found_or, Malformed}
use Rattle.ir_core.specs.declared.kind.Kind.{Kind}
use Rattle.ir_core.specs.declared.kind.Kind.TheVariants.{NoValue, Number, Pointer}
use Rattle.ir_core.specs.Kinds.{kind_of, same_kind}
use Rattle.ir_core.specs.Memory.{without}
use Rattle.ir_core.specs.State.{Local, Frame, State, Nothing, Turn}
use Rattle.ir_core.specs.Operands.{local_value, function_number}
use Rattle.ir_core.specs.Calls.{Target, Outside, Inside, target_named, target_of, same_kinds, is_called_as, bound, first_frame, entry_turn, resumed, return_turn, call_turn}
use Rattle.ir_core.specs.Step.{choices_with, choices_of}
use Rattle.ir_core.specs.Typing.{Env, has_kind, is_value, outer_fits, named_fits, callee_fits}
use Rattle.std.specs.List.{list_all}
use Rattle.ir_core.specs.Valid.{env_of, is_phi, leads_to}
use Rattle.ir_sound.specs.Typed.{no_phi, param_typed, entry_typed, functions_typed}
use Rattle.ir_sound.specs.WellTyped.{IsOwn, Each, Properly, Present, IsOfKind, IsLocal, IsInBlock, AreWaiting, AreCalls, present, IsTypedTurn}
use Rattle.ir_sound.proofs.AnswerLaws.{if_gives, then_gives}
use Rattle.ir_sound.proofs.Frames.{Calling, over_changed, resumed_are}
use Rattle.ir_sound.proofs.Objects.{without_is}
use Rattle.ir_sound.proofs.Operands.{AreOfKinds, Covers, function_below, local_gives}
use Rattle.ir_sound.proofs.Parts.{FunctionParts, function_at}
use Rattle.ir_sound.proofs.RowLaws.{first_passes, found_any, item_at}
use Rattle.ir_sound.proofs.SameLaws.{has_kind_is, kind_is, kinds_are, none_is, not_true}
use Rattle.ir_sound.proofs.Outside.{outer_gives}

-- parameters are locals of their kinds
pub bound_are : (x : Present) (env : Env) (ps : List Param) (vs : List Value) → list_all (param_typed env) ps ≡ true → AreOfKinds x (map (λ (p : Param). kind_of p.ty) ps) vs → Each (IsLocal x env) (bound ps vs)
bound_are x env [] [] fits are = tt
bound_are x env [] (v ∷ vs) fits are = tt
bound_are x env (p ∷ ps) [] fits are = tt
bound_are x env (p ∷ ps) (v ∷ vs) fits are =
    let parts = and_parts (param_typed env p) (list_all (param_typed env) ps) fits in
    ((kind_of p.ty, has_kind_is (env p.name) (kind_of p.ty) (and_parts (is_value (kind_of p.ty)) (has_kind (env p.name) (kind_of p.ty)) parts.0).1, are.0), bound_are x env ps vs parts.1 are.1)

-- no phi is at the head
no_choice : (i : Inst) (is : List Inst) → not (is_phi i.op) ≡ true → choices_of (i ∷ is) ≡ []
no_choice i is e = by_op i.op e
  where
    by_op : (op : Op) → not (is_phi op) ≡ true → choices_with i.result op (choices_of is) ≡ []
    by_op (Phi ty entries) f = not_true f
    by_op op f = refl

-- without phis there is nothing to choose
pub no_choices : (is : List Inst) → no_phi is ≡ true → length (choices_of is) ≡ 0
no_choices [] e = refl
no_choices (i ∷ is) e = ap length (no_choice i is (and_parts (not (is_phi i.op)) (no_phi is) e).0)

-- is there, and has no phi
first_block : (blocks : List Block) → entry_typed blocks ≡ true → (b : Block) × (slice_get blocks 0 ≡ Some b) × (length (choices_of b.insts) ≡ 0)
first_block [] fits = not_true fits
first_block (b ∷ bs) fits = (b, refl, no_choices b.insts (and_parts (list_all (λ (p : Block). not (leads_to b.label p)) (b ∷ bs)) (no_phi b.insts) fits).1)

-- a call at its start stands
pub first_stands : (m : Module) (x : Present) (number : ℕ) (fn : Function) (values : List Value) (into : Option (List ℕ)) → slice_get m.functions number ≡ Some fn → FunctionParts m (env_of fn) fn → Each (IsLocal x (env_of fn)) (bound fn.params values) → (s : IsInBlock m x (first_frame number fn values into)) × (s.fn ≡ fn)
first_stands m x number fn values into here parts are =
    let b = first_block fn.blocks parts.entry in
    (record { fn = fn; block = b.0; in_module = here; in_function = b.1; past_phis = let e = b.2 in omega arith; within = omega arith; locals = are; objects = tt }, refl)

-- the calls of a run once one more is entered
entered_calls : (m : Module) (x : Present) (number : ℕ) (fn : Function) (values : List Value) (into : Option (List ℕ)) (callers : List Frame) → slice_get m.functions number ≡ Some fn → FunctionParts m (env_of fn) fn → AreOfKinds x (map (λ (p : Param). kind_of p.ty) fn.params) values → AreWaiting m x (kind_of fn.ret) into callers → AreCalls m x (first_frame number fn values into ∷ callers)
entered_calls m x number fn values into callers here parts are waiting =
    let s = first_stands m x number fn values into here parts (bound_are x (env_of fn) fn.params values parts.params are) in
    (s.0, subst (λ f. AreWaiting m x (kind_of f.ret) into callers) (sym s.1) waiting)

-- a call of a function, if it has the call's types and there are not too many
function_entered : (m : Module) (s : State) (callers : List Frame) (ret : Kind) (kinds : List Kind) (values : List Value) (into : Option (List ℕ)) (number : ℕ) (f : Function) → slice_get m.functions number ≡ Some f → functions_typed m m.functions ≡ true → AreOfKinds (present m s.objects) kinds values → Calling m s ret into callers → (b : Bool) → is_called_as f ret kinds ≡ b
    → Properly (IsTypedTurn m) (if b then (if nat_le MAX_CALLS (length s.frames) then Err Depth else Ok (record { frames = first_frame number f values into ∷ callers; objects = s.objects; exchange = Nothing })) else Err (Left Callee))
function_entered m s callers ret kinds values into number f here typed are c false e = tt
function_entered m s callers ret kinds values into number f here typed are c true e =
    let x = present m s.objects in
    let parts = and_parts (same_kind (kind_of f.ret) ret) (same_kinds (map (λ (p : Param). kind_of p.ty) f.params) kinds) e in
    let t : Turn = record { frames = first_frame number f values into ∷ callers; objects = s.objects; exchange = Nothing } in
    if_gives (IsTypedTurn m) (nat_le MAX_CALLS (length s.frames)) (Err Depth) (Ok t) tt (record {
      calls = entered_calls m x number f values into callers here (function_at m number f typed here)
          (subst (λ ks. AreOfKinds x ks values) (sym (kinds_are (map (λ (p : Param). kind_of p.ty) f.params) kinds parts.1)) are)
          (subst (λ k. AreWaiting m x k into callers) (sym (kind_is (kind_of f.ret) ret parts.0)) c.waiting);
      cells = c.cells;
      globals = c.globals;
    })

-- a call of a value
pub entered_gives : (m : Module) (s : State) (callers : List Frame) (ret : Kind) (kinds : List Kind) (values : List Value) (into : Option (List ℕ)) → functions_typed m m.functions ≡ true → AreOfKinds (present m s.objects) kinds values → Calling m s ret into callers → (v : Value) → IsOfKind (present m s.objects) Pointer v → Properly (IsTypedTurn m) (entry_turn m s callers ret kinds values into v)
entered_gives m s callers ret kinds values into typed are c (Num w n) is = tt
entered_gives m s callers ret kinds values into typed are c Null is = tt
entered_gives m s callers ret kinds values into typed are c (At o d) is = tt
entered_gives m s callers ret kinds values into typed are c (Fun number) is =
    let there = item_at m.functions number is in
    let one : Function → Answer Turn = λ g. if is_called_as g ret kinds
    then (if nat_le MAX_CALLS (length s.frames) then Err Depth else Ok (record { frames = first_frame number g values into ∷ callers; objects = s.objects; exchange = Nothing }))
    else Err (Left Callee) in
    subst (λ o. Properly (IsTypedTurn m) (and_then (found_or Malformed o) one)) (sym there.1)
    (function_entered m s callers ret kinds values into number there.0 there.1 typed are c (is_called_as there.0 ret kinds) refl)

-- nothing isn't a number
no_number : {X : Type 0} → NoValue ≡ Number W32 → X
no_number e = absurd (cc)

-- a return
pub returned_gives : (m : Module) (s : State) (f : Frame) (callers : List Frame) (kind : Kind) (result : Option Value) → ((v : Value) → result ≡ Some v → IsOfKind (present m s.objects) kind v) → ((result ≡ None) → kind ≡ NoValue) → Each (IsOwn (present m s.objects)) f.objects → Calling m s kind f.into callers → Properly (IsTypedTurn m) (return_turn s f callers result)
returned_gives m s f (g ∷ gs) kind result is void own c =
    over_changed m s.objects (without s.objects f.objects) (resumed (g ∷ gs) f.into result) (without_is (present m s.objects) f.objects s.objects own c.cells)
    (resumed_are m (present m s.objects) kind f.into g gs result is c.waiting) c.globals
returned_gives m s f [] kind (Some (Num w n)) is void own c = tt
returned_gives m s f [] kind (Some Null) is void own c = absurd (subst (λ k. IsOfKind (present m s.objects) k Null) c.waiting (is Null refl))
returned_gives m s f [] kind (Some (At o d)) is void own c = absurd (subst (λ k. IsOfKind (present m s.objects) k (At o d)) c.waiting (is (At o d) refl))
returned_gives m s f [] kind (Some (Fun g)) is void own c = absurd (subst (λ k. IsOfKind (present m s.objects) k (Fun g)) c.waiting (is (Fun g) refl))
returned_gives m s f [] kind None is void own c = no_number (sym (void refl) ∙ c.waiting)

-- where a call may go
abbrev pub IsTarget : Present → Kind → List Kind → Target → Type 0
IsTarget x ret kinds (Outside outer) = outer_fits outer ret kinds ≡ true
IsTarget x ret kinds (Inside v) = IsOfKind x Pointer v

-- a callee by its name
named_gives : (m : Module) (x : Present) → Covers m x → (name : List ℕ) (ret : Kind) (kinds : List Kind) (found : Option Function) → first_where (λ (f : Function). same_name f.name name) m.functions ≡ found → (number : Option ℕ) → function_number m name ≡ number → named_fits m name ret kinds found ≡ true → ((n : ℕ) → number ≡ Some n → n < x.functions) → IsTarget x ret kinds (target_named name number)
named_gives m x c name ret kinds found f (Some n) e fits below = below n refl
named_gives m x c name ret kinds None f None e fits below = fits
named_gives m x c name ret kinds (Some g) f None e fits below =
    let there = found_any (λ (h : Function). same_name h.name name) m.functions (first_passes (λ (h : Function). same_name h.name name) m.functions g f) in
    none_is there.number (sym e ∙ there.numbered)

-- a call of a target
pub called_gives : (m : Module) (input : List ℕ) (s : State) (ret : Kind) (kinds : List Kind) (into : Option (List ℕ)) (g : Frame) (gs : List Frame) (vs : List Value) → ((k b : ℕ) → slice_get input k ≡ Some b → b < 256) → functions_typed m m.functions ≡ true → Calling m s ret into (g ∷ gs) → AreOfKinds (present m s.objects) kinds vs → (t : Target) → IsTarget (present m s.objects) ret kinds t → Properly (IsTypedTurn m) (call_turn m input s (g ∷ gs) ret kinds vs into t)
called_gives m input s ret kinds into g gs vs bytes fits c are (Outside outer) is = outer_gives m input s ret kinds into g gs vs bytes c are outer is
called_gives m input s ret kinds into g gs vs bytes fits c are (Inside v) is = entered_gives m s (g ∷ gs) ret kinds vs into fits are c v is

-- the callee of a call that fits
pub target_gives : (m : Module) (x : Present) (env : Env) (locals : List Local) → Covers m x → Each (IsLocal x env) locals → (ret : Kind) (kinds : List Kind) (callee : Operand) → callee_fits m env ret kinds callee ≡ true → Properly (IsTarget x ret kinds) (target_of m locals callee)
target_gives m x env locals c all ret kinds (LocalName name) fits =
    then_gives (IsOfKind x Pointer) (IsTarget x ret kinds) (local_value locals name) (λ v. Ok (Inside v)) (local_gives x env Pointer locals name (has_kind_is (env name) Pointer fits) all) (λ v p. p)
target_gives m x env locals c all ret kinds (Global name) fits =
    named_gives m x c name ret kinds (first_where (λ (f : Function). same_name f.name name) m.functions) refl (function_number m name) refl fits (function_below m x c name)
target_gives m x env locals c all ret kinds (Int n) fits = not_true fits
target_gives m x env locals c all ret kinds (Truth b) fits = not_true fits
target_gives m x env locals c all ret kinds NullWord fits = not_true fits
target_gives m x env locals c all ret kinds Undef fits = not_true fits
target_gives m x env locals c all ret kinds Poison fits = not_true fits
target_gives m x env locals c all ret kinds (Const p) fits = not_true fits
