-- The end of a block of a module, and that of the block without phis.
use Rattle.std.proofs.Common.{◌≡◌, ℕ, zero, suc, ◌+◌, ◌*◌, Bool, true, false, List, [], ◌∷◌, map, Some, None, Ok, Err, refl, ap, sym, ◌∙◌, subst, inl, inr, ◌⊎◌, arith}
use Rattle.std.specs.Prelude.{◌&&◌, nat_eq, slice_get, if◌then◌else◌}
use Rattle.std.specs.List.{list_all}
use Rattle.std.proofs.lemmas.Bool.{and_parts}
use Rattle.rd_num.specs.declared.width.Width.TheVariants.{W1}
use Rattle.behavior.specs.Ending.{is_left}
use Rattle.behavior.specs.Simulation.{Comes}
use Rattle.behavior.proofs.Stretch.{comes_none, comes_wider}
use Rattle.ir_core.specs.declared.operand.Operand.{Operand}
use Rattle.ir_core.specs.declared.operand.Operand.TheVariants.{Local as LocalName, Global}
use Rattle.ir_core.specs.declared.instruction.Case.{Case}
use Rattle.ir_core.specs.declared.instruction.Term.{Term}
use Rattle.ir_core.specs.declared.instruction.Term.TheVariants.{Ret, RetValue, Br, BrIf, Switch, Unreachable}
use Rattle.ir_core.specs.declared.module.Block.{Block}
use Rattle.ir_core.specs.declared.module.Function.{Function}
use Rattle.ir_core.specs.declared.module.Module.{Module}
use Rattle.ir_core.specs.declared.memory.Value.{Value}
use Rattle.ir_core.specs.declared.memory.Value.TheVariants.{Num, Null, At, Fun}
use Rattle.ir_core.specs.Names.{same_name}
use Rattle.ir_core.specs.Definitions.{is_among}
use Rattle.ir_core.specs.Stops.{Trap, Answer, and_then}
use Rattle.ir_core.specs.declared.kind.Kind.TheVariants.{Number}
use Rattle.ir_core.specs.Kinds.{kind_of}
use Rattle.ir_core.specs.State.{Frame, State, Turn, turned}
use Rattle.ir_core.specs.Operands.{value_of, named_value, global_number}
use Rattle.ir_core.specs.Typing.{labels_of}
use Rattle.ir_core.specs.Step.{goes_to, if_true, to_if_equal, switched, terminator_turn, source_step}
use Rattle.ir_core.specs.Built.{name_built, inst_built, end_built, typed_built, type_built, operand_built, case_built, case_value_built, built_all}
use Rattle.ir_sound.proofs.SameLaws.{same_itself, some_is, none_is}
use Rattle.ir_sound.proofs.RowLaws.{all_at}
use Rattle.phi_lower.proofs.Moves.{both_ok}
use Rattle.phi_lower.specs.Lowered.{first_on_way, case_to, with_ways}
use Rattle.phi_lower.specs.Bound.{most_phis}
use Rattle.phi_lower.proofs.Same.{all_built, then_same, NamesAgree, value_same, typed_same}
use Rattle.phi_lower.proofs.Turns.{lowered, without_phis, IsBeside, AreBeside, with_frames, TurnsBeside, then_beside, return_beside}
use Rattle.phi_lower.proofs.Finds.{or_left, or_right, among_targets}
use Rattle.phi_lower.proofs.Lefts.{Lefts, then_lefts, value_lefts}
use Rattle.phi_lower.proofs.EdgeLaws.{edge_met}

-- the state after one step beside the other state after one step
pub record IsMet (m : Module) (input : List ℕ) (t : State) (b : State) : Type 0 where
  pub frames : List Frame
  pub comes : Comes (source_step (without_phis m) input) 0 (1 + 2 * most_phis m) b (with_frames t frames)
  pub beside : AreBeside m t.frames frames

-- turns beside each other
pub turned_met : (m : Module) (input : List ℕ) (s : State) (gs : List Frame) (a b : Answer Turn) → AreBeside m s.frames gs → TurnsBeside m a b → IsMet m input (turned s a) (turned (with_frames s gs) b)
turned_met m input s gs (Ok t) (Ok u) all x = record {
  frames = u.frames;
  comes = comes_wider (source_step (without_phis m) input) 0 0 0 (1 + 2 * most_phis m) _ _ (omega arith) (omega arith) (comes_none (source_step (without_phis m) input) _ _ same);
  beside = x.frames;
}
  where
    same : turned (with_frames s gs) (Ok u) ≡ with_frames (turned s (Ok t)) u.frames
    same =
        ap (λ o. turned (with_frames s gs) (Ok (record { frames = u.frames; objects = o; exchange = u.exchange }))) x.objects
        ∙ ap (λ e. turned (with_frames s gs) (Ok (record { frames = u.frames; objects = t.objects; exchange = e }))) x.exchange
turned_met m input s gs (Err stop) (Err stop2) all x = record {
  frames = gs;
  comes = comes_wider (source_step (without_phis m) input) 0 0 0 (1 + 2 * most_phis m) _ _ (omega arith) (omega arith) (comes_none (source_step (without_phis m) input) _ _ (ap (λ p. turned (with_frames s gs) (Err p)) x));
  beside = all;
}
turned_met m input s gs (Ok t) (Err stop) all x = absurd x
turned_met m input s gs (Err stop) (Ok u) all x = absurd x

-- a step leaves the meaning, or is met
abbrev pub Meets : (m : Module) (input : List ℕ) (s : State) (gs : List Frame) (a b : Answer Turn) → Type 0
Meets m input s gs a b = is_left (turned s a).ending ≡ true ⊎ IsMet m input (turned s a) (turned (with_frames s gs) b)

-- two parts in another order
then_then : {A B C : Type 0} (a : Answer A) (f : A → Answer B) (g : B → Answer C) → and_then (and_then a f) g ≡ and_then a (λ x. and_then (f x) g)
then_then (Ok x) f g = refl
then_then (Err stop) f g = refl

-- a truth value chooses a label
true_lefts : (c : Value) (taken other : List ℕ) → Lefts (if_true c taken other)
true_lefts (Num w n) taken other = tt
true_lefts Null taken other = refl
true_lefts (At o d) taken other = refl
true_lefts (Fun f) taken other = refl

-- and in the same way where edges go first
true_ways : (way : List ℕ → List ℕ) (c : Value) (taken other : List ℕ) → if_true c (way taken) (way other) ≡ and_then (if_true c taken other) (λ to. Ok (way to))
true_ways way (Num w n) taken other = by_test (nat_eq n 0)
  where
    by_test : (b : Bool) → let r : Answer (List ℕ) = Ok (if b then way other else way taken) in r ≡ Ok (way (if b then other else taken))
    by_test true = refl
    by_test false = refl
true_ways way v taken other = refl

-- which is one of the two
true_among : (P : List ℕ → Type 0) (c : Value) (taken other to : List ℕ) → P taken → P other → if_true c taken other ≡ Ok to → P to
true_among P (Num w n) taken other to p q e = by_test (nat_eq n 0) e
  where
    ok_is : (a b : List ℕ) → let r : Answer (List ℕ) = Ok a in r ≡ Ok b → a ≡ b
    ok_is a b e = cc

    by_test : (b : Bool) → (let r : Answer (List ℕ) = Ok (if b then other else taken) in r ≡ Ok to) → P to
    by_test true f = subst P (ok_is other to f) q
    by_test false f = subst P (ok_is taken to f) p
true_among P Null taken other to p q e = absurd (cc)
true_among P (At o d) taken other to p q e = absurd (cc)
true_among P (Fun f) taken other to p q e = absurd (cc)

-- a number chooses among cases
equal_lefts : (x v : Value) (to : List ℕ) (others : Answer (List ℕ)) → Lefts others → Lefts (to_if_equal x v to others)
equal_lefts (Num u a) (Num w b) to others l = by_test (nat_eq a b)
  where
    by_test : (t : Bool) → Lefts (if t then Ok to else others)
    by_test true = tt
    by_test false = l
equal_lefts x v to others l = refl

switched_lefts : (m : Module) (v : Value) (default : List ℕ) (cases : List Case) → Lefts (switched m v default cases)
switched_lefts m v default [] = tt
switched_lefts m v default (c ∷ cs) = then_lefts (value_of m [] (kind_of c.ty) c.value) _ (value_lefts m [] (kind_of c.ty) c.value) (λ x. equal_lefts x v c.to (switched m v default cs) (switched_lefts m v default cs))

equal_ways : (way : List ℕ → List ℕ) (x v : Value) (to : List ℕ) (others others2 : Answer (List ℕ)) → others2 ≡ and_then others (λ l. Ok (way l)) → to_if_equal x v (way to) others2 ≡ and_then (to_if_equal x v to others) (λ l. Ok (way l))
equal_ways way (Num u a) (Num w b) to others others2 e = by_test (nat_eq a b)
  where
    by_test : (t : Bool) → (if t then Ok (way to) else others2) ≡ and_then (if t then Ok to else others) (λ l. Ok (way l))
    by_test true = refl
    by_test false = e
equal_ways way x v to others others2 e = refl

-- a case's value is a literal
literal_same : (m : Module) (fs : List Function) (agree : NamesAgree m fs) (c : Case) → case_built c ≡ true → value_of (record m { functions = fs }) [] (kind_of c.ty) c.value ≡ value_of m [] (kind_of c.ty) c.value
literal_same m fs agree c built = of_value c.value
  where
    of_value : (a : Operand) → value_of (record m { functions = fs }) [] (kind_of c.ty) a ≡ value_of m [] (kind_of c.ty) a
    of_value (LocalName name) = refl
    of_value (Global name) = ap (named_value (global_number m name)) (agree name)
    of_value a = refl

switched_ways : (m : Module) (fs : List Function) (agree : NamesAgree m fs) (way : List ℕ → List ℕ) (v : Value) (default : List ℕ) (cases : List Case) → list_all case_built cases ≡ true → switched (record m { functions = fs }) v (way default) (map (λ (c : Case). case_to c (way c.to)) cases) ≡ and_then (switched m v default cases) (λ to. Ok (way to))
switched_ways m fs agree way v default [] built = refl
switched_ways m fs agree way v default (c ∷ cs) built =
    let p = and_parts (case_built c) (list_all case_built cs) built in
    then_same _ _ _ (λ x. and_then (to_if_equal x v c.to (switched m v default cs)) (λ to. Ok (way to))) (literal_same m fs agree c p.0) (λ x. equal_ways way x v c.to (switched m v default cs) (switched (record m { functions = fs }) v (way default) (map (λ (d : Case). case_to d (way d.to)) cs)) (switched_ways m fs agree way v default cs p.1))
    ∙ sym (then_then (value_of m [] (kind_of c.ty) c.value) (λ x. to_if_equal x v c.to (switched m v default cs)) (λ to. Ok (way to)))

-- which goes to one of the labels
equal_among : (P : List ℕ → Type 0) (x v : Value) (to l : List ℕ) (others : Answer (List ℕ)) → P to → (others ≡ Ok l → P l) → to_if_equal x v to others ≡ Ok l → P l
equal_among P (Num u a) (Num w b) to l others p go e = by_test (nat_eq a b) e
  where
    ok_is : (a b : List ℕ) → let r : Answer (List ℕ) = Ok a in r ≡ Ok b → a ≡ b
    ok_is a b e = cc

    by_test : (t : Bool) → (if t then Ok to else others) ≡ Ok l → P l
    by_test true f = subst P (ok_is to l f) p
    by_test false f = go f
equal_among P x v to l others p go e = absurd (cc)

switched_among : (P : List ℕ → Type 0) (m : Module) (v : Value) (default : List ℕ) (cases : List Case) (l : List ℕ) → P default → ((k : ℕ) (c : Case) → slice_get cases k ≡ Some c → P c.to) → switched m v default cases ≡ Ok l → P l
switched_among P m v default [] l p each e = subst P (ok_is default l e) p
  where
    ok_is : (a b : List ℕ) → let r : Answer (List ℕ) = Ok a in r ≡ Ok b → a ≡ b
    ok_is a b e = cc
switched_among P m v default (c ∷ cs) l p each e = of_value (value_of m [] (kind_of c.ty) c.value) e (λ g. switched_among P m v default cs l p (λ k d at. each (suc k) d at) g)
  where
    of_value : (a : Answer Value) → and_then a (λ x. to_if_equal x v c.to (switched m v default cs)) ≡ Ok l → (switched m v default cs ≡ Ok l → P l) → P l
    of_value (Ok x) f go = equal_among P x v c.to l (switched m v default cs) (each 0 c refl) go f
    of_value (Err stop) f go = absurd (cc)

-- a case's label among those of all
case_among : (cases : List Case) (k : ℕ) (c : Case) → slice_get cases k ≡ Some c → is_among (map (λ (d : Case). d.to) cases) c.to ≡ true
case_among [] k c at = none_is c at
case_among (d ∷ ds) zero c at = or_left _ _ (ap (λ (e : Case). same_name c.to e.to) (some_is d c at) ∙ same_itself c.to)
case_among (d ∷ ds) (suc k) c at = or_right _ _ (case_among ds k c at)

module _ (m : Module) (input : List ℕ) (agree : NamesAgree m (map lowered m.functions)) (s : State) (f g : Frame) (fs gs : List Frame) (x : IsBeside m f g) (callers : AreBeside m fs gs) (all : AreBeside m s.frames (g ∷ gs)) (insts_built : (k : ℕ) (b : Block) → slice_get x.fn.blocks k ≡ Some b → list_all inst_built b.insts ≡ true) (labels_built : list_all (λ (b : Block). name_built b.label) x.fn.blocks ≡ true) (in_lowered : slice_get (without_phis m).functions g.function ≡ Some (lowered x.fn)) where
  abbrev pub w : Module
  w = without_phis m

  abbrev pub t0 : State
  t0 = with_frames s (g ∷ gs)

  abbrev pub from : List ℕ
  from = x.block.label

  abbrev pub way : List ℕ → List ℕ
  way = first_on_way x.fn.blocks from

  -- a label to which the block leads
  abbrev pub IsTarget : List ℕ → Type 0
  IsTarget to = (name_built to ≡ true) × (is_among (labels_of x.block.end) to ≡ true)

  edge : (to : List ℕ) → IsTarget to → Meets m input s (g ∷ gs) (goes_to m s f fs x.fn from to) (goes_to w t0 g gs (lowered x.fn) from (way to))
  edge to target = elim (edge_met m input agree s f g fs gs x callers insts_built labels_built in_lowered to target.0 (among_targets (labels_of x.block.end) [] to target.1)) [
    | inl l ↦ inl l
    | inr e ↦ inr (record {
      frames = e.frames;
      comes = subst (λ a. Comes (source_step w input) 0 (1 + 2 * most_phis m) (turned t0 (goes_to w t0 g gs (lowered x.fn) from (way to))) (with_frames (turned s a) e.frames)) (sym e.is) e.comes;
      beside = subst (λ a. AreBeside m (turned s a).frames e.frames) (sym e.is) e.beside;
    })
  ]

  by_label : (a a2 : Answer (List ℕ)) → Lefts a → a2 ≡ and_then a (λ to. Ok (way to)) → ((to : List ℕ) → a ≡ Ok to → IsTarget to) → Meets m input s (g ∷ gs) (and_then a (λ to. goes_to m s f fs x.fn from to)) (and_then a2 (λ to. goes_to w t0 g gs (lowered x.fn) from to))
  by_label (Ok to) a2 l e target = subst (λ b. Meets m input s (g ∷ gs) (goes_to m s f fs x.fn from to) (and_then b (λ t. goes_to w t0 g gs (lowered x.fn) from t))) (sym e) (edge to (target to refl))
  by_label (Err stop) a2 l e target = inl l

  -- a value first, and then a label
  by_value : (v v2 : Answer Value) (to to2 : Value → Answer (List ℕ)) → v ≡ v2 → Lefts v → ((c : Value) → Lefts (to c)) → ((c : Value) → to2 c ≡ and_then (to c) (λ t. Ok (way t))) → ((c : Value) (t : List ℕ) → to c ≡ Ok t → IsTarget t) → Meets m input s (g ∷ gs) (and_then v (λ c. and_then (to c) (λ t. goes_to m s f fs x.fn from t))) (and_then v2 (λ c. and_then (to2 c) (λ t. goes_to w t0 g gs (lowered x.fn) from t)))
  by_value v v2 to to2 same lv lt ways target =
      subst (λ z. Meets m input s (g ∷ gs) z (and_then v2 (λ c. and_then (to2 c) (λ t. goes_to w t0 g gs (lowered x.fn) from t)))) (then_then v to (λ t. goes_to m s f fs x.fn from t))
      (subst (λ z. Meets m input s (g ∷ gs) (and_then (and_then v to) (λ t. goes_to m s f fs x.fn from t)) z) (then_then v2 to2 (λ t. goes_to w t0 g gs (lowered x.fn) from t))
      (by_label (and_then v to) (and_then v2 to2) (then_lefts v to lv lt)
      (then_same v2 v to2 (λ c. and_then (to c) (λ t. Ok (way t))) (sym same) ways ∙ sym (then_then v to (λ t. Ok (way t))))
      (λ t e. let b = both_ok v to t e in target b.first t b.then_is)))

  -- an end
  pub end_met : (end : Term) → x.block.end ≡ end → end_built end ≡ true → Meets m input s (g ∷ gs) (terminator_turn m s f fs x.fn from end) (terminator_turn w t0 g gs (lowered x.fn) from (with_ways x.fn.blocks from end))
  end_met Ret is built = inr (turned_met m input s (g ∷ gs) _ _ all (return_beside m s f g fs gs (g ∷ gs) None x.into x.objects callers))
  end_met (RetValue ty a) is built =
      inr (turned_met m input s (g ∷ gs) _ _ all (then_beside m (value_of m f.locals (kind_of ty) a) (value_of w g.locals (kind_of ty) a) _ _ (typed_same m (map lowered m.functions) agree f.locals g.locals ty a x.locals built)
      (λ v. return_beside m s f g fs gs (g ∷ gs) (Some v) x.into x.objects callers)))
  end_met (Br to) is built = edge to (built, ap (λ e. is_among (labels_of e) to) is ∙ or_left _ _ (same_itself to))
  end_met (BrIf condition taken other) is built =
      let p = and_parts (operand_built condition) (name_built taken && name_built other) built in
      let q = and_parts (name_built taken) (name_built other) p.1 in
      by_value (value_of m f.locals (Number W1) condition) (value_of w g.locals (Number W1) condition) (λ c. if_true c taken other) (λ c. if_true c (way taken) (way other)) (value_same m (map lowered m.functions) agree f.locals g.locals (Number W1) condition x.locals p.0)
      (value_lefts m f.locals (Number W1) condition) (λ c. true_lefts c taken other) (λ c. true_ways way c taken other)
      (λ c t e. true_among IsTarget c taken other t (q.0, ap (λ z. is_among (labels_of z) taken) is ∙ or_left _ _ (same_itself taken)) (q.1, ap (λ z. is_among (labels_of z) other) is ∙ or_right _ _ (or_left _ _ (same_itself other))) e)
  end_met (Switch ty a default cases) is built =
      let p = and_parts (typed_built ty a) (name_built default && built_all case_built cases) built in
      let q = and_parts (name_built default) (built_all case_built cases) p.1 in
      let cases_built = all_built case_built cases q.1 in
      by_value (value_of m f.locals (kind_of ty) a) (value_of w g.locals (kind_of ty) a) (λ v. switched m v default cases) (λ v. switched w v (way default) (map (λ (c : Case). case_to c (way c.to)) cases)) (typed_same m (map lowered m.functions) agree f.locals g.locals ty a x.locals p.0)
      (value_lefts m f.locals (kind_of ty) a) (λ v. switched_lefts m v default cases) (λ v. switched_ways m (map lowered m.functions) agree way v default cases cases_built)
      (λ v t e. switched_among IsTarget m v default cases t (q.0, ap (λ z. is_among (labels_of z) default) is ∙ or_left _ _ (same_itself default))
      (λ k c at. ((and_parts (case_value_built c.value) (name_built c.to) (and_parts (type_built c.ty) (case_value_built c.value && name_built c.to) (all_at case_built cases k c cases_built at)).1).1, ap (λ z. is_among (labels_of z) c.to) is ∙ or_right _ _ (case_among cases k c at))) e)
  end_met Unreachable is built = inr (turned_met m input s (g ∷ gs) (Err Trap) (Err Trap) all refl)
