-- Returns: the caller goes on behind its call, or the run ends with the low 8 bits of the result.
use Rattle.std.proofs.Common.{◌≡◌, ℕ, ◌+◌, ◌%◌, true, List, [], ◌∷◌, length, Option, Some, None, Ok, Err, slice_get, refl, ap, sym, ◌∙◌, subst, inl, inr, arith}
use Rattle.std.specs.Prelude.{◌&&◌}
use Rattle.std.proofs.lemmas.Bool.{and_parts}
use Rattle.behavior.specs.Moment.{Agrees}
use Rattle.behavior.specs.System.{iter}
use Rattle.ir_core.specs.declared.instruction.Term.{Term}
use Rattle.ir_core.specs.declared.instruction.Term.TheVariants.{Ret, RetValue}
use Rattle.ir_core.specs.declared.kind.Kind.{Kind}
use Rattle.ir_core.specs.declared.memory.Value.{Value}
use Rattle.ir_core.specs.declared.memory.Value.TheVariants.{Num, Null, At, Fun}
use Rattle.ir_core.specs.declared.module.Module.{Module}
use Rattle.ir_core.specs.declared.operand.Operand.{Operand}
use Rattle.ir_core.specs.declared.ty.Ty.{Ty}
use Rattle.ir_core.specs.Definitions.{label_names}
use Rattle.ir_core.specs.Calls.{return_turn}
use Rattle.ir_core.specs.Kinds.{kind_of, same_kind}
use Rattle.ir_core.specs.Mentions.{of_end}
use Rattle.ir_core.specs.Operands.{value_of}
use Rattle.ir_core.specs.State.{Frame, State, turned, source_moment}
use Rattle.ir_core.specs.Step.{terminator_turn}
use Rattle.ir_core.specs.Stops.{Ended, Answer, and_then}
use Rattle.ir_core.specs.Typing.{is_value, operand_fits, returns_nothing, term_fits}
use Rattle.ir_core.specs.Valid.{LocalKind, named_locals, env_of}
use Rattle.ir_sound.specs.WellTyped.{Each}
use Rattle.ir_sound.proofs.SameLaws.{kind_is}
use Rattle.ir_context.specs.Origins.{origin_of}
use Rattle.low_core.specs.Flat.{Bytes, Flat}
use Rattle.low_core.specs.Plan.{Plan, Content}
use Rattle.low_core.specs.Contents.{word_of}
use Rattle.low_core.specs.SelState.{SelFrame, SelState, sel_moment, sel_turned}
use Rattle.low_core.specs.SelStep.{end_turn, returns_with, sel_step}
use Rattle.low_core.specs.Weights.{lean_own}
use Rattle.isel_rows.specs.Brought.{Brought, operand_brought}
use Rattle.isel_rows.specs.Rows.{closing_of}
use Rattle.isel_rows.specs.Selected.{module_selected}
use Rattle.isel_rows.specs.Variables.{variables_of}
use Rattle.isel.proofs.Beside.{memories, setting_of, Meets}
use Rattle.isel.proofs.Callers.{gives_back, gives_nothing}
use Rattle.isel.proofs.Here.{IsHere, memory, now, ready, closing, ends_here}
use Rattle.isel.proofs.Mentioned.{IsFine, end_fine}
use Rattle.isel.proofs.Operands.{operand_brings}
use Rattle.isel.proofs.Premises.{Premises, end_at}
use Rattle.isel.proofs.Straight.{going, moved, passed, StandsAt, straight_end}
use Rattle.isel.proofs.Tame.{IsTame, value_tame}
use Rattle.isel.proofs.Values.{HasValue, operand_has}
use Rattle.isel.proofs.Words.{word_read}

module _ (m : Module) (plan : Plan) (contents : List Content) (p : Premises m plan contents) (input : List ℕ) (s : State) (f : Frame) (fs : List Frame) (h : SelFrame) (hs : List SelFrame) (bytes : Bytes)
    (x : IsHere m (setting_of m plan contents) s f fs h hs bytes) where
  abbrev pub V : List LocalKind
  V = variables_of x.call.fn

  abbrev pub flat : Flat
  flat = memory m plan contents p input s f fs h hs bytes x

  abbrev pub spot : SelState
  spot = now m plan contents p input s f fs h hs bytes x

  -- the run beside at the end of the block
  abbrev pub at_end : List (Option ℕ) → ℕ → SelState
  at_end registers count = going (moved h registers count ∷ hs) bytes s.printed s.taken

  -- the operations of an end, and the end
  pub end_comes : slice_get x.call.block.insts f.next ≡ None → (t : Term) → x.call.block.end ≡ t → (registers : List (Option ℕ))
      → passed plan h.own flat h.registers (closing_of m V (label_names x.call.fn) t).ops ≡ Ok registers
      → let c = closing_of m V (label_names x.call.fn) t in
      iter (sel_step (module_selected m) plan contents input) (length c.ops + 1) spot ≡ sel_turned (at_end registers (length c.ops)) (end_turn (at_end registers (length c.ops)) (moved h registers (length c.ops)) hs c.end)
  end_comes none t is registers runs =
      let c = closing_of m V (label_names x.call.fn) t in
      let e = ends_here m plan contents p input s f fs h hs bytes x none in
      let ops : (closing m plan contents p input s f fs h hs bytes x).ops ≡ c.ops = ap (λ u. (closing_of m V (label_names x.call.fn) u).ops) is in
      let last : e.stands.block.end ≡ c.end = e.is ∙ ap (λ u. (closing_of m V (label_names x.call.fn) u).end) is in
      let stands : StandsAt (module_selected m) h c.ops = record { fn = e.stands.fn; in_program = e.stands.in_program; block = e.stands.block; in_function = e.stands.in_function; there = e.stands.there ∙ ops } in
      straight_end (module_selected m) plan contents input hs bytes s.printed s.taken c.ops h registers stands runs
      ∙ ap (λ u. sel_turned (at_end registers (length c.ops)) (end_turn (at_end registers (length c.ops)) (moved h registers (length c.ops)) hs u)) last

  -- a result, and the steps that lead to its return
  pub record HasResult (ty : Ty) (a : Operand) (v : Value) : Type 0 where
    pub has : HasValue m (setting_of m plan contents) s.objects x.at x.call.holds.values (kind_of ty) (origin_of m (named_locals V) (kind_of ty) a) v
    pub after : List (Option ℕ)
    pub comes : let n : ℕ = length (operand_brought m V 0 (kind_of ty) a).ops in
        iter (sel_step (module_selected m) plan contents input) (n + 1) spot ≡ sel_turned (at_end after n) (returns_with (at_end after n) (moved h after n) hs (Some (word_of x.at v)))

  -- it is there where the block ends so
  pub result_has : slice_get x.call.block.insts f.next ≡ None → (ty : Ty) (a : Operand) → x.call.block.end ≡ RetValue ty a → (v : Value) → value_of m f.locals (kind_of ty) a ≡ Ok v → HasResult ty a v
  result_has none ty a is v is_v =
      let rules = end_at m plan contents p f.function x.call.fn x.call.in_module f.block x.call.block x.call.in_function in
      let K : Kind = kind_of x.call.fn.ret in
      let fits : term_fits m (env_of x.call.fn) K (RetValue ty a) ≡ true = ap (term_fits m (env_of x.call.fn) K) (sym is) ∙ rules.fits in
      let q = and_parts (is_value K) (same_kind (kind_of ty) K && operand_fits m (env_of x.call.fn) K a) fits in
      let r = and_parts (same_kind (kind_of ty) K) (operand_fits m (env_of x.call.fn) K a) q.1 in
      let same : kind_of ty ≡ K = kind_is (kind_of ty) K r.0 in
      let fits_own : operand_fits m (env_of x.call.fn) (kind_of ty) a ≡ true = ap (λ k. operand_fits m (env_of x.call.fn) k a) same ∙ r.1 in
      let fine : Each (IsFine m) (of_end (RetValue ty a)) = subst (λ u. Each (IsFine m) (of_end u)) is (end_fine lean_own m p.shaped f.function x.call.fn x.call.in_module f.block x.call.block x.call.in_function) in
      let has = operand_has m plan contents p (memories (f ∷ fs) (h ∷ hs)) s.objects x.at bytes x.tied f h x.call x.typed (kind_of ty) a v fits_own fine.1 is_v in
      let b = operand_brings plan h.own flat x.at V x.call.holds.values h.registers 0 (origin_of m (named_locals V) (kind_of ty) a) v (omega arith) (ready m plan contents p input s f fs h hs bytes x) has.planned has.is in
      let B : Brought = operand_brought m V 0 (kind_of ty) a in
      let n : ℕ = length B.ops in
      record {
        has = has;
        after = b.left.after;
        comes = end_comes none (RetValue ty a) is b.left.after b.left.runs
            ∙ ap (λ q. sel_turned (at_end b.left.after n) (and_then q (λ w. returns_with (at_end b.left.after n) (moved h b.left.after n) hs (Some w)))) (word_read b.left.after B.register (word_of x.at v) b.holds);
      }

-- a return of a value
pub value_returned : (m : Module) (plan : Plan) (contents : List Content) (p : Premises m plan contents) (input : List ℕ) (s : State) (f : Frame) (fs : List Frame) (h : SelFrame) (hs : List SelFrame) (bytes : Bytes)
    (x : IsHere m (setting_of m plan contents) s f fs h hs bytes) (ty : Ty) (a : Operand) (v : Value) → HasResult m plan contents p input s f fs h hs bytes x ty a v
    → Meets m (setting_of m plan contents) input (length (operand_brought m (variables_of x.call.fn) 0 (kind_of ty) a).ops + 1) (now m plan contents p input s f fs h hs bytes x) (turned s (return_turn s f fs (Some v)))
value_returned m plan contents p input s f [] h [] bytes x ty a (Num w n) r =
    inr (inr (refl, subst (λ u. Agrees (source_moment (turned s (Err (Ended (n % 256))))) (sel_moment u)) (sym r.comes) (record { printed = refl; taken = refl; ending = refl })))
value_returned m plan contents p input s f [] h [] bytes x ty a Null r = inl refl
value_returned m plan contents p input s f [] h [] bytes x ty a (At o d) r = inl refl
value_returned m plan contents p input s f [] h [] bytes x ty a (Fun k) r = inl refl
value_returned m plan contents p input s f [] h (h1 ∷ hs) bytes x ty a v r = absurd x.callers
value_returned m plan contents p input s f (f1 ∷ fs) h [] bytes x ty a v r = absurd x.callers
value_returned m plan contents p input s f (f1 ∷ fs) h (h1 ∷ hs) bytes x ty a v r =
    let n : ℕ = length (operand_brought m (variables_of x.call.fn) 0 (kind_of ty) a).ops in
    gives_back m plan contents p input s f f1 fs h h1 hs bytes x (n + 1) (moved h r.after n) v refl r.has.known r.comes

-- a return of nothing
nothing_returned : (m : Module) (plan : Plan) (contents : List Content) (p : Premises m plan contents) (input : List ℕ) (s : State) (f : Frame) (fs : List Frame) (h : SelFrame) (hs : List SelFrame) (bytes : Bytes)
    (x : IsHere m (setting_of m plan contents) s f fs h hs bytes) → slice_get x.call.block.insts f.next ≡ None → x.call.block.end ≡ Ret
    → Meets m (setting_of m plan contents) input 1 (now m plan contents p input s f fs h hs bytes x) (turned s (return_turn s f fs None))
nothing_returned m plan contents p input s f [] h hs bytes x none is = inl refl
nothing_returned m plan contents p input s f (f1 ∷ fs) h [] bytes x none is = absurd x.callers
nothing_returned m plan contents p input s f (f1 ∷ fs) h (h1 ∷ hs) bytes x none is =
    let rules = end_at m plan contents p f.function x.call.fn x.call.in_module f.block x.call.block x.call.in_function in
    let nothing : returns_nothing (kind_of x.call.fn.ret) ≡ true = ap (term_fits m (env_of x.call.fn) (kind_of x.call.fn.ret)) (sym is) ∙ rules.fits in
    gives_nothing m plan contents p input s f f1 fs h h1 hs bytes x 1 (moved h h.registers 0) refl nothing (end_comes m plan contents p input s f (f1 ∷ fs) h (h1 ∷ hs) bytes x none Ret is h.registers refl)

module _ (m : Module) (plan : Plan) (contents : List Content) (p : Premises m plan contents) (input : List ℕ) (s : State) (f : Frame) (fs : List Frame) (h : SelFrame) (hs : List SelFrame) (bytes : Bytes)
    (x : IsHere m (setting_of m plan contents) s f fs h hs bytes) (none : slice_get x.call.block.insts f.next ≡ None) where
  -- an end of a block is met by its operations and one step more
  abbrev pub EndIsMet : Term → Type 0
  EndIsMet t =
      Meets m (setting_of m plan contents) input (length (closing_of m (variables_of x.call.fn) (label_names x.call.fn) t).ops + 1) (now m plan contents p input s f fs h hs bytes x)
      (turned s (terminator_turn m s f fs x.call.fn x.call.block.label t))

  -- a return without a value
  pub return_met : x.call.block.end ≡ Ret → EndIsMet Ret
  return_met is = nothing_returned m plan contents p input s f fs h hs bytes x none is

  -- a return with one
  pub return_value_met : (ty : Ty) (a : Operand) → x.call.block.end ≡ RetValue ty a → EndIsMet (RetValue ty a)
  return_value_met ty a is = by (value_of m f.locals (kind_of ty) a) refl
    where
      by : (q : Answer Value) → value_of m f.locals (kind_of ty) a ≡ q
          → Meets m (setting_of m plan contents) input (length (operand_brought m (variables_of x.call.fn) 0 (kind_of ty) a).ops + 1) (now m plan contents p input s f fs h hs bytes x)
          (turned s (and_then q (λ v. return_turn s f fs (Some v))))
      by (Err stop) e = inl (subst IsTame e (value_tame m f.locals (kind_of ty) a))
      by (Ok v) e = value_returned m plan contents p input s f fs h hs bytes x ty a v (result_has m plan contents p input s f fs h hs bytes x none ty a is v e)
