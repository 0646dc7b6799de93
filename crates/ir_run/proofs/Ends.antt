-- Ends of blocks over registers do what the meaning says of those over locals.
use Rattle.std.proofs.Common.{◌≡◌, ℕ, suc, Bool, true, false, List, [], ◌∷◌, Some, None, Ok, Err, map, slice_get, refl, ap, sym, ◌∙◌, subst, inl}
use Rattle.std.specs.Prelude.{option_map, if◌then◌else◌, nat_eq}
use Rattle.ir_core.specs.declared.module.Block.{Block}
use Rattle.ir_core.specs.declared.module.Function.{Function}
use Rattle.ir_core.specs.declared.module.Module.{Module}
use Rattle.ir_core.specs.declared.instruction.Case.{Case}
use Rattle.ir_core.specs.declared.instruction.Term.{Term}
use Rattle.ir_core.specs.declared.instruction.Term.TheVariants.{Ret, RetValue, Br, BrIf, Switch, Unreachable}
use Rattle.ir_core.specs.declared.memory.Value.{Value}
use Rattle.ir_core.specs.declared.memory.Value.TheVariants.{Num, Null, At, Fun}
use Rattle.rd_num.specs.declared.width.Width.TheVariants.{W1}
use Rattle.ir_core.specs.Stops.{Answer, and_then, found_or, Malformed}
use Rattle.ir_core.specs.declared.kind.Kind.TheVariants.{Number}
use Rattle.ir_core.specs.Kinds.{kind_of}
use Rattle.ir_core.specs.Calls as call
use Rattle.ir_core.specs.State as model
use Rattle.ir_core.specs.Typing.{labels_of}
use Rattle.ir_core.specs.Operands.{value_of}
use Rattle.ir_core.specs.Step.{choices_of, goes_to, if_true, to_if_equal, switched, terminator_turn}
use Rattle.ir_program.specs.declared.exit.Edge.{Edge}
use Rattle.ir_program.specs.Exits.{distinct, edge_to, edge_number, arm_of, exit_of}
use Rattle.ir_context.specs.Origins.{origin_of}
use Rattle.ir_context.specs.Reads.{origin_value}
use Rattle.ir_run.specs.declared.state.State.{State}
use Rattle.ir_run.specs.Turns.{goes_along, edge_turn, edge_if, same_number, arm_chosen, exit_turn, return_turn}
use Rattle.ir_run.specs.Standing.{names_at, FrameStands, Waiting, Meets}
use Rattle.ir_run.specs.Agreement.{PhisAgree, CasesAgree, EndAgrees}
use Rattle.ir_run.proofs.Calls.{got_mapped, return_meets}
use Rattle.ir_run.proofs.Edges.{edge_meets}
use Rattle.ir_run.proofs.Labels.{label_there}

-- a label and the number of its edge, or the same stop
abbrev pub Chosen : List (List ℕ) → Answer ℕ → Answer (List ℕ) → Type 0
Chosen labels (Ok k) (Ok to) = (k ≡ edge_number (distinct labels) to) × ((i : ℕ) × (slice_get labels i ≡ Some to))
Chosen labels (Ok k) (Err b) = ⊥
Chosen labels (Err a) (Ok to) = ⊥
Chosen labels (Err a) (Err b) = a ≡ b

-- by a truth value
branch_chosen : (v : Value) (taken other : List ℕ) → let labels = taken ∷ other ∷ [] in Chosen labels (edge_if v (edge_number (distinct labels) taken) (edge_number (distinct labels) other)) (if_true v taken other)
branch_chosen (Num w n) taken other = by (nat_eq n 0)
  where
    by : (b : Bool) → let labels = taken ∷ other ∷ [] in
        Chosen labels (Ok (if b then edge_number (distinct labels) other else edge_number (distinct labels) taken)) (Ok (if b then other else taken))
    by true = (refl, (1, refl))
    by false = (refl, (0, refl))
branch_chosen Null taken other = refl
branch_chosen (At o d) taken other = refl
branch_chosen (Fun f) taken other = refl

module _ (m : Module) (labels : List (List ℕ)) where
  -- a case in front of others
  case_chosen : (v : Value) (to : List ℕ) (a : Answer Value) (k : Answer ℕ) (others : Answer (List ℕ)) → ((i : ℕ) × (slice_get labels i ≡ Some to)) → Chosen labels k others
      → Chosen labels (and_then (and_then a (λ x. same_number x v)) (λ b. if b then Ok (edge_number (distinct labels) to) else k)) (and_then a (λ x. to_if_equal x v to others))
  case_chosen (Num w n) to (Ok (Num u j)) k others there rest = by (nat_eq j n)
    where
      by : (b : Bool) → Chosen labels (if b then Ok (edge_number (distinct labels) to) else k) (if b then Ok to else others)
      by true = (refl, there)
      by false = rest
  case_chosen Null to (Ok (Num u j)) k others there rest = refl
  case_chosen (At o d) to (Ok (Num u j)) k others there rest = refl
  case_chosen (Fun f) to (Ok (Num u j)) k others there rest = refl
  case_chosen v to (Ok Null) k others there rest = refl
  case_chosen v to (Ok (At o d)) k others there rest = refl
  case_chosen v to (Ok (Fun f)) k others there rest = refl
  case_chosen v to (Err stop) k others there rest = refl

  cases_chosen : (v : Value) (default : List ℕ) (cases : List Case) → ((i : ℕ) × (slice_get labels i ≡ Some default)) → ((j : ℕ) (to : List ℕ) → slice_get (map (λ (c : Case). c.to) cases) j ≡ Some to → (i : ℕ) × (slice_get labels i ≡ Some to))
      → CasesAgree m cases → Chosen labels (arm_chosen v (edge_number (distinct labels) default) (map (arm_of m (distinct labels)) cases)) (switched m v default cases)
  cases_chosen v default [] there each agree = (refl, there)
  cases_chosen v default (c ∷ cs) there each agree =
      subst (λ a. Chosen labels
      (and_then (and_then (origin_value [] (origin_of m [] (kind_of c.ty) c.value)) (λ x. same_number x v)) (λ b. if b then Ok (edge_number (distinct labels) c.to) else arm_chosen v (edge_number (distinct labels) default) (map (arm_of m (distinct labels)) cs)))
      (and_then a (λ x. to_if_equal x v c.to (switched m v default cs)))) agree.0
      (case_chosen v c.to (origin_value [] (origin_of m [] (kind_of c.ty) c.value)) (arm_chosen v (edge_number (distinct labels) default) (map (arm_of m (distinct labels)) cs)) (switched m v default cs)
      (each 0 c.to refl) (cases_chosen v default cs there (λ j to e. each (suc j) to e) agree.1))

module _ (m : Module) (frames : List model.Frame) (input : List ℕ) (s : model.State) (st : State) (g : model.Frame) (gs : List model.Frame)
    (inner : FrameStands m st.frame g) (waiting : Waiting m st.frame.into g.into st.callers gs) (objects : st.memory ≡ s.objects)
    (fn : Function) (from : List ℕ) (agree : (k : ℕ) (b : Block) → slice_get fn.blocks k ≡ Some b → PhisAgree m (names_at m g.function) from (choices_of b.insts)) where
  abbrev edges_of : List (List ℕ) → List Edge
  edges_of labels = map (edge_to m (names_at m g.function) from fn.blocks) (distinct labels)

  -- along the edge of a label that was chosen
  along_chosen : (labels : List (List ℕ)) (a : Answer ℕ) (b : Answer (List ℕ)) → Chosen labels a b
      → Meets m frames (slice_get input s.taken) (and_then a (goes_along st (edges_of labels))) (and_then b (λ to. goes_to m s g gs fn from to))
  along_chosen labels (Ok k) (Ok to) c =
      let found : slice_get (edges_of labels) k ≡ Some (edge_to m (names_at m g.function) from fn.blocks to) =
      ap (slice_get (edges_of labels)) c.0 ∙ got_mapped (edge_to m (names_at m g.function) from fn.blocks) (distinct labels) (edge_number (distinct labels) to)
      ∙ ap (option_map (edge_to m (names_at m g.function) from fn.blocks)) (label_there labels c.1.0 to c.1.1) in
      subst (λ o. Meets m frames (slice_get input s.taken) (and_then (found_or Malformed o) (edge_turn st)) (goes_to m s g gs fn from to)) (sym found)
      (edge_meets m frames (slice_get input s.taken) s st g gs inner waiting objects fn from to agree)
  along_chosen labels (Ok k) (Err b) c = absurd c
  along_chosen labels (Err a) (Ok to) c = absurd c
  along_chosen labels (Err a) (Err b) c = inl (ap Err (sym c))

  -- the end of a block
  pub end_meets : (end : Term) → EndAgrees m (names_at m g.function) end
      → Meets m frames (slice_get input s.taken) (exit_turn st (edges_of (labels_of end)) (exit_of m (names_at m g.function) (distinct (labels_of end)) end)) (terminator_turn m s g gs fn from end)
  end_meets Ret reads = return_meets m frames input s st g gs inner waiting objects None
  end_meets (RetValue ty a) reads = by (origin_value st.frame.registers (origin_of m (names_at m g.function) (kind_of ty) a)) (value_of m g.locals (kind_of ty) a) (reads st.frame.registers g.locals inner.registers)
    where
      by : (x y : Answer Value) → x ≡ y
          → Meets m frames (slice_get input s.taken) (and_then x (λ v. return_turn st st.callers (Some v))) (and_then y (λ v. call.return_turn s g gs (Some v)))
      by (Ok v) (Ok w) e =
          let same : v ≡ w = cc in
          subst (λ u. Meets m frames (slice_get input s.taken) (return_turn st st.callers (Some v)) (call.return_turn s g gs (Some u))) same (return_meets m frames input s st g gs inner waiting objects (Some v))
      by (Ok v) (Err b) e = absurd (cc)
      by (Err a) (Ok w) e = absurd (cc)
      by (Err a) (Err b) e = let same : a ≡ b = cc in inl (ap Err (sym same))
  end_meets (Br to) reads = along_chosen (to ∷ []) (Ok (edge_number (distinct (to ∷ [])) to)) (Ok to) (refl, (0, refl))
  end_meets (BrIf condition taken other) reads = by (origin_value st.frame.registers (origin_of m (names_at m g.function) (Number W1) condition)) (value_of m g.locals (Number W1) condition) (reads st.frame.registers g.locals inner.registers)
    where
      by : (x y : Answer Value) → x ≡ y
          → Meets m frames (slice_get input s.taken)
          (and_then x (λ c. and_then (edge_if c (edge_number (distinct (taken ∷ other ∷ [])) taken) (edge_number (distinct (taken ∷ other ∷ [])) other)) (goes_along st (edges_of (taken ∷ other ∷ [])))))
          (and_then y (λ c. and_then (if_true c taken other) (λ to. goes_to m s g gs fn from to)))
      by (Ok v) (Ok w) e =
          let same : v ≡ w = cc in
          subst (λ u. Meets m frames (slice_get input s.taken)
          (and_then (edge_if v (edge_number (distinct (taken ∷ other ∷ [])) taken) (edge_number (distinct (taken ∷ other ∷ [])) other)) (goes_along st (edges_of (taken ∷ other ∷ []))))
          (and_then (if_true u taken other) (λ to. goes_to m s g gs fn from to))) same
          (along_chosen (taken ∷ other ∷ []) (edge_if v (edge_number (distinct (taken ∷ other ∷ [])) taken) (edge_number (distinct (taken ∷ other ∷ [])) other)) (if_true v taken other) (branch_chosen v taken other))
      by (Ok v) (Err b) e = absurd (cc)
      by (Err a) (Ok w) e = absurd (cc)
      by (Err a) (Err b) e = let same : a ≡ b = cc in inl (ap Err (sym same))
  end_meets (Switch ty a default cases) reads = by (origin_value st.frame.registers (origin_of m (names_at m g.function) (kind_of ty) a)) (value_of m g.locals (kind_of ty) a) (reads.0 st.frame.registers g.locals inner.registers)
    where
      by : (x y : Answer Value) → x ≡ y
          → let labels = default ∷ map (λ (c : Case). c.to) cases in Meets m frames (slice_get input s.taken)
          (and_then x (λ v. and_then (arm_chosen v (edge_number (distinct labels) default) (map (arm_of m (distinct labels)) cases)) (goes_along st (edges_of labels))))
          (and_then y (λ v. and_then (switched m v default cases) (λ to. goes_to m s g gs fn from to)))
      by (Ok v) (Ok w) e =
          let labels : List (List ℕ) = default ∷ map (λ (c : Case). c.to) cases in
          let same : v ≡ w = cc in
          subst (λ u. Meets m frames (slice_get input s.taken)
          (and_then (arm_chosen v (edge_number (distinct labels) default) (map (arm_of m (distinct labels)) cases)) (goes_along st (edges_of labels)))
          (and_then (switched m u default cases) (λ to. goes_to m s g gs fn from to))) same
          (along_chosen labels (arm_chosen v (edge_number (distinct labels) default) (map (arm_of m (distinct labels)) cases)) (switched m v default cases)
          (cases_chosen m labels v default cases (0, refl) (λ j to f. (suc j, f)) reads.1))
      by (Ok v) (Err b) e = absurd (cc)
      by (Err a) (Ok w) e = absurd (cc)
      by (Err a) (Err b) e = let same : a ≡ b = cc in inl (ap Err (sym same))
  end_meets Unreachable reads = inl refl
