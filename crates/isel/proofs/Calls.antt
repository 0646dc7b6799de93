-- Calls: of functions by their numbers or by their addresses, and of functions outside of the module.
use Rattle.std.proofs.Common.{◌≡◌, ℕ, zero, suc, Bool, true, false, List, [], ◌∷◌, map, length, Option, Some, None, Ok, Err, slice_get, refl, ap, sym, ◌∙◌, subst, inl}
use Rattle.std.specs.Prelude.{◌&&◌, nat_eq, option_map, if◌then◌else◌}
use Rattle.std.proofs.lemmas.Bool.{and_parts, and_from, eqb-true, eq-eqb}
use Rattle.behavior.specs.Moment.{AreBytes}
use Rattle.ir_core.specs.declared.instruction.Arg.{Arg}
use Rattle.ir_core.specs.declared.instruction.Op.TheVariants.{Call}
use Rattle.ir_core.specs.declared.kind.Kind.{Kind}
use Rattle.ir_core.specs.declared.kind.Kind.TheVariants.{Pointer}
use Rattle.ir_core.specs.declared.memory.Reason.TheVariants.{Bounds, Unset as UnsetReason}
use Rattle.ir_core.specs.declared.memory.Value.{Value}
use Rattle.ir_core.specs.declared.memory.Value.TheVariants.{Num, Null, At, Fun}
use Rattle.ir_core.specs.declared.module.Module.{Module}
use Rattle.ir_core.specs.declared.operand.Operand.{Operand}
use Rattle.ir_core.specs.declared.operand.Operand.TheVariants.{Local as LocalName, Global}
use Rattle.ir_core.specs.declared.ty.Ty.{Ty}
use Rattle.ir_core.specs.Calls.{outer_of, Inside, target_named, call_turn}
use Rattle.ir_core.specs.Kinds.{kind_of}
use Rattle.ir_core.specs.Mentions.{of_args, of_callee}
use Rattle.ir_core.specs.Operands.{local_value, function_number, values_of}
use Rattle.ir_core.specs.State.{Frame, State, turned}
use Rattle.ir_core.specs.Step.{past}
use Rattle.ir_core.specs.Stops.{Left, Malformed, Answer, and_then, found_or}
use Rattle.ir_core.specs.Valid.{LocalKind, named_locals}
use Rattle.ir_sound.proofs.RowLaws.{Each_parts, item_at}
use Rattle.ir_context.specs.Origins.{register_of}
use Rattle.ir_context.specs.Reads.{origin_value}
use Rattle.ir_context.specs.Registers.{register, number_of}
use Rattle.low_core.specs.declared.sel.SelOp.TheVariants as sel
use Rattle.low_core.specs.Flat.{Bytes, Flat}
use Rattle.low_core.specs.Plan.{Plan, Content}
use Rattle.low_core.specs.Contents.{word_of}
use Rattle.low_core.specs.Bridge.{Setting}
use Rattle.low_core.specs.SelState.{SelFrame, SelState, SelTurn, words_in}
use Rattle.low_core.specs.SelStep.{function_at, enters}
use Rattle.flat_memory.proofs.Named.{names_law}
use Rattle.isel_rows.specs.Brought.{args_brought, AllBrought}
use Rattle.isel_rows.specs.Calls.{register_into, named_ops}
use Rattle.isel_rows.specs.Selected.{module_selected}
use Rattle.isel_rows.specs.Variables.{variables_of, register_read}
use Rattle.isel.proofs.Accesses.{when_answered}
use Rattle.isel.proofs.Arguments.{Have, all_brought}
use Rattle.isel.proofs.Beside.{memories, setting_of, Meets}
use Rattle.isel.proofs.Callees.{call_fits, args_read}
use Rattle.isel.proofs.Enters.{enters_met}
use Rattle.isel.proofs.Here.{IsHere, memory, now, ops}
use Rattle.isel.proofs.Mentioned.{IsFine}
use Rattle.isel.proofs.Outside.{outer_met}
use Rattle.isel.proofs.Premises.{Premises}
use Rattle.isel.proofs.Results.{Stands, IsMet, fine}
use Rattle.isel.proofs.Straight.{moved}
use Rattle.isel.proofs.Tame.{IsTame, value_tame, values_tame}
use Rattle.isel.proofs.Turns.{later}
use Rattle.isel.proofs.Values.{operand_has}
use Rattle.isel.proofs.Words.{HasWord, word_read}

-- the function at an address is the one to which a pointer may arise and that stands there
function_found : (a : ℕ) (ts : List Bool) (places : List ℕ) (k : ℕ) → slice_get ts k ≡ Some true → slice_get places k ≡ Some a → ((j : ℕ) → slice_get ts j ≡ Some true → slice_get places j ≡ Some a → j ≡ k) → function_at a ts places ≡ Some k
function_found a [] places k taken there apart = absurd (cc)
function_found a (t ∷ ts) [] k taken there apart = absurd (cc)
function_found a (t ∷ ts) (q ∷ qs) k taken there apart = by (t && nat_eq q a) refl (λ j e f only. function_found a ts qs j e f only) k taken there apart
  where
    by : (b : Bool) → (t && nat_eq q a) ≡ b
        → ((j : ℕ) → slice_get ts j ≡ Some true → slice_get qs j ≡ Some a → ((i : ℕ) → slice_get ts i ≡ Some true → slice_get qs i ≡ Some a → i ≡ j) → function_at a ts qs ≡ Some j)
        → (k : ℕ) → slice_get (t ∷ ts) k ≡ Some true → slice_get (q ∷ qs) k ≡ Some a → ((j : ℕ) → slice_get (t ∷ ts) j ≡ Some true → slice_get (q ∷ qs) j ≡ Some a → j ≡ k)
        → (if b then Some 0 else option_map suc (function_at a ts qs)) ≡ Some k
    by true e go k taken there apart =
        let parts = and_parts t (nat_eq q a) e in
        ap Some (apart 0 (ap Some parts.0) (ap Some (eqb-true q a parts.1)))
    by false e go zero taken there apart =
        let first : t ≡ true = cc in
        let place : q ≡ a = cc in
        let both : (t && nat_eq q a) ≡ true = and_from t (nat_eq q a) first (eq-eqb q a place) in
        absurd (cc)
    by false e go (suc k) taken there apart = ap (option_map suc) (go k taken there (λ j is_taken stands. let same : suc j ≡ suc k = apart (suc j) is_taken stands in cc))

module _ (m : Module) (plan : Plan) (contents : List Content) (p : Premises m plan contents) (input : List ℕ) (s : State) (f : Frame) (fs : List Frame) (h : SelFrame) (hs : List SelFrame) (bytes : Bytes)
    (x : IsHere m (setting_of m plan contents) s f fs h hs bytes) where
  abbrev g : Setting
  g = setting_of m plan contents

  abbrev V : List LocalKind
  V = variables_of x.call.fn

  abbrev flat : Flat
  flat = memory m plan contents p input s f fs h hs bytes x

  abbrev spot : SelState
  spot = now m plan contents p input s f fs h hs bytes x

  abbrev kinds : List Arg → List Kind
  kinds args = map (λ (a : Arg). kind_of a.ty) args

  -- a function of the module by its number
  number_met : (into : Option (List ℕ)) (ret : Ty) (name : List ℕ) (args : List Arg) → (there : Stands m plan contents p input s f fs h hs bytes x into (Call ret (Global name) args)) → (k : ℕ) → function_number m name ≡ Some k
      → (us : List Value)
      → Have m plan contents p input s f fs h hs bytes x args us
      → Meets m g input (length (ops m plan contents p input s f fs h hs bytes x (record { result = into; op = Call ret (Global name) args }) there)) spot
      (turned s (call_turn m input s (past f ∷ fs) (kind_of ret) (kinds args) us into (target_named name (Some k))))
  number_met into ret name args there k is us have =
      let b = all_brought m plan contents p input s f fs h hs bytes x into ret (Global name) args there us have in
      let all : AllBrought = args_brought m V 0 args in
      let r : Option ℕ = register_into V into in
      let h2 : SelFrame = moved h b.after (length all.ops) in
      let t : SelState = later m plan contents p input s f fs h hs bytes x b.after (length all.ops) in
      enters_met m plan contents p input s f fs h hs bytes x into ret (Global name) args there k Malformed all.ops (sel.Call k r all.registers) b.after us (sym (ap (named_ops m V r args name) is)) b.runs b.ready b.count have
      (ap (λ q. and_then q (λ ns. enters Malformed (module_selected m) plan t h2 hs r ns k)) b.words)

  -- a function by its address
  address_met : (into : Option (List ℕ)) (ret : Ty) (name : List ℕ) (args : List Arg) → (there : Stands m plan contents p input s f fs h hs bytes x into (Call ret (LocalName name) args)) → (v : Value)
      → local_value f.locals name ≡ Ok v → (us : List Value)
      → Have m plan contents p input s f fs h hs bytes x args us
      → Meets m g input (length (ops m plan contents p input s f fs h hs bytes x (record { result = into; op = Call ret (LocalName name) args }) there)) spot
      (turned s (call_turn m input s (past f ∷ fs) (kind_of ret) (kinds args) us into (Inside v)))
  address_met into ret name args there (Num w n) is us have = inl refl
  address_met into ret name args there Null is us have = inl refl
  address_met into ret name args there (At o d) is us have = inl refl
  address_met into ret name args there (Fun k) is us have =
      let parts = Each_parts (IsFine m) (of_callee (LocalName name)) (of_args args) (fine m plan contents p input s f fs h hs bytes x into (Call ret (LocalName name) args) there).1 in
      let fits = (call_fits m plan contents p input s f fs h hs bytes x into ret (LocalName name) args there).0 in
      let v = operand_has m plan contents p (memories (f ∷ fs) (h ∷ hs)) s.objects x.at bytes x.tied f h x.call x.typed Pointer (LocalName name) (Fun k) fits parts.0 is in
      let b = all_brought m plan contents p input s f fs h hs bytes x into ret (LocalName name) args there us have in
      let all : AllBrought = args_brought m V 0 args in
      let r : Option ℕ = register_into V into in
      let a : ℕ = register_read V (register_of (number_of (named_locals V) name)) in
      let h2 : SelFrame = moved h b.after (length all.ops) in
      let t : SelState = later m plan contents p input s f fs h hs bytes x b.after (length all.ops) in
      let holds : HasWord b.after a (word_of x.at (Fun k)) = by_number (number_of (named_locals V) name) v.is b.after b.ready.have in
      let place = item_at plan.functions k (p.setting.known k v.known) in
      let named : word_of x.at (Fun k) ≡ place.0 = ((names_law g (memories (f ∷ fs) (h ∷ hs)) s.objects x.at bytes p.setting x.tied).function k place.0 v.known place.1).0 in
      let found : function_at (word_of x.at (Fun k)) (module_selected m).taken plan.functions ≡ Some k =
      ap (λ n. function_at n (module_selected m).taken plan.functions) named
      ∙ function_found place.0 (module_selected m).taken plan.functions k v.known place.1 (λ j is_taken stands. p.setting.apart j k place.0 is_taken v.known stands place.1) in
      let enter : List ℕ → ℕ → Answer SelTurn = (λ ns j. enters (Left Bounds) (module_selected m) plan t h2 hs r ns j) in
      let at_place : ℕ → Answer ℕ = (λ at. found_or (Left Bounds) (function_at at (module_selected m).taken plan.functions)) in
      enters_met m plan contents p input s f fs h hs bytes x into ret (LocalName name) args there k (Left Bounds) all.ops (sel.CallAt a r all.registers) b.after us refl b.runs b.ready b.count have
      (ap (λ q. and_then q (λ at. and_then (words_in b.after all.registers) (λ ns. and_then (at_place at) (λ j. enter ns j)))) (word_read b.after a (word_of x.at (Fun k)) holds)
      ∙ ap (λ q. and_then q (λ ns. and_then (at_place (word_of x.at (Fun k))) (λ j. enter ns j))) b.words
      ∙ ap (λ o. and_then (found_or (Left Bounds) o) (λ j. enter (map (word_of x.at) us) j)) found)
    where
      by_value : (j : ℕ) (o : Option Value) → register x.call.holds.values j ≡ o → found_or (Left UnsetReason) o ≡ Ok (Fun k) → (after : List (Option ℕ))
          → ((i : ℕ) (u : Value) → register x.call.holds.values i ≡ Some u → HasWord after i (word_of x.at u))
          → HasWord after j (word_of x.at (Fun k))
      by_value j (Some u) stands e after have = let same : u ≡ Fun k = cc in subst (λ w. HasWord after j (word_of x.at w)) same (have j u stands)
      by_value j None stands e after have = absurd (cc)

      by_number : (o : Option ℕ) → origin_value x.call.holds.values (register_of o) ≡ Ok (Fun k) → (after : List (Option ℕ)) → ((i : ℕ) (u : Value) → register x.call.holds.values i ≡ Some u → HasWord after i (word_of x.at u))
          → HasWord after (register_read V (register_of o)) (word_of x.at (Fun k))
      by_number (Some j) e after have = by_value j (register x.call.holds.values j) refl e after have
      by_number None e after have = absurd (cc)

  -- a function that is named
  named_met : AreBytes input → (into : Option (List ℕ)) (ret : Ty) (name : List ℕ) (args : List Arg) → (there : Stands m plan contents p input s f fs h hs bytes x into (Call ret (Global name) args)) → (q : Option ℕ)
      → function_number m name ≡ q → (us : List Value)
      → Have m plan contents p input s f fs h hs bytes x args us
      → Meets m g input (length (ops m plan contents p input s f fs h hs bytes x (record { result = into; op = Call ret (Global name) args }) there)) spot
      (turned s (call_turn m input s (past f ∷ fs) (kind_of ret) (kinds args) us into (target_named name q)))
  named_met are into ret name args there (Some k) is us have = number_met into ret name args there k is us have
  named_met are into ret name args there None is us have = outer_met m plan contents p input s f fs h hs bytes x into ret name args there is are us have (outer_of name) refl

  -- a call
  pub call_met : AreBytes input → (into : Option (List ℕ)) (ret : Ty) (callee : Operand) (args : List Arg) → Stands m plan contents p input s f fs h hs bytes x into (Call ret callee args)
      → IsMet m plan contents p input s f fs h hs bytes x into (Call ret callee args)
  call_met are into ret (Global name) args there =
      let n : ℕ = length (ops m plan contents p input s f fs h hs bytes x (record { result = into; op = Call ret (Global name) args }) there) in
      when_answered m plan contents p input s f fs h hs bytes x n spot (values_of m f.locals args)
      (λ us. call_turn m input s (past f ∷ fs) (kind_of ret) (kinds args) us into (target_named name (function_number m name))) (values_tame m f.locals args)
      (λ us is. named_met are into ret name args there (function_number m name) refl us (args_read m plan contents p input s f fs h hs bytes x into ret (Global name) args there us is))
  call_met are into ret (LocalName name) args there = by_value (local_value f.locals name) refl
    where
      by_value : (q : Answer Value) → local_value f.locals name ≡ q
          → Meets m g input (length (ops m plan contents p input s f fs h hs bytes x (record { result = into; op = Call ret (LocalName name) args }) there)) spot
          (turned s (and_then (and_then q (λ v. Ok (Inside v))) (λ target. and_then (values_of m f.locals args) (λ us. call_turn m input s (past f ∷ fs) (kind_of ret) (kinds args) us into target))))
      by_value (Err stop) e = inl (subst IsTame e (value_tame m f.locals Pointer (LocalName name)))
      by_value (Ok v) e =
          when_answered m plan contents p input s f fs h hs bytes x (length (ops m plan contents p input s f fs h hs bytes x (record { result = into; op = Call ret (LocalName name) args }) there)) spot
          (values_of m f.locals args) (λ us. call_turn m input s (past f ∷ fs) (kind_of ret) (kinds args) us into (Inside v)) (values_tame m f.locals args)
          (λ us is. address_met into ret name args there v e us (args_read m plan contents p input s f fs h hs bytes x into ret (LocalName name) args there us is))
  call_met are into ret callee args there = inl refl
