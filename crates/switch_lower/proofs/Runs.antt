-- Runs of compare trees: from the first chunk of a tree to the chunk to which the switch leads.
use Rattle.std.proofs.Common.{◌≡◌, ℕ, zero, suc, ◌+◌, ◌*◌, ◌^◌, ◌<◌, ◌≤◌, Bool, true, false, List, [], ◌∷◌, ◌++◌, map, take, drop, length, Some, None, Ok, refl, ap, sym, ◌∙◌, subst, arith}
use Rattle.std.specs.Prelude.{pos, slice_get, option_map, nat_eq, nat_lt, nat_le, if◌then◌else◌}
use Rattle.std.proofs.lemmas.Bool.{leb-true, leb-false, ltb-true, ltb-false}
use Rattle.std.proofs.lemmas.List.{length-take-le, length-drop}
use Rattle.std.proofs.lemmas.Option.{slice_get-map, slice_get_within}
use Rattle.std.proofs.Math.Nat.{mod-eq_of_lt}
use Rattle.behavior.specs.Ending.{Going}
use Rattle.behavior.specs.Simulation.{Comes}
use Rattle.behavior.proofs.Stretch.{comes_none, comes_step, comes_join, comes_wider}
use Rattle.rd_num.specs.declared.width.Width.{Width}
use Rattle.rd_num.specs.Number.{bits}
use Rattle.ir_core.specs.declared.operand.Operand.TheVariants.{Int}
use Rattle.ir_core.specs.declared.instruction.Op.TheVariants.{Compare, Freeze}
use Rattle.ir_core.specs.declared.instruction.Pred.{Pred}
use Rattle.ir_core.specs.declared.instruction.Pred.TheVariants.{Eq, Ult}
use Rattle.ir_core.specs.declared.module.Function.{Function}
use Rattle.ir_core.specs.declared.module.Module.{Module}
use Rattle.ir_core.specs.declared.memory.Value.{Value}
use Rattle.ir_core.specs.declared.memory.Value.TheVariants.{Num}
use Rattle.ir_core.specs.declared.memory.Reason.TheVariants.{Unset}
use Rattle.ir_core.specs.declared.kind.Kind.TheVariants.{Number}
use Rattle.ir_core.specs.Names.{same_name, first_where}
use Rattle.ir_core.specs.Stops.{Left, Malformed, and_then, found_or}
use Rattle.ir_core.specs.Kinds.{kind_of, truth}
use Rattle.ir_core.specs.Arithmetic.{compared}
use Rattle.ir_core.specs.State.{Local, Frame, State, Nothing, turned}
use Rattle.ir_core.specs.Operands.{int_value, value_of, local_value}
use Rattle.ir_core.specs.Step.{compared_value, result_of, gives, choices_of, Choice as Phis, given_at_once, in_block, goes_to, if_true, source_step}
use Rattle.ir_core.proofs.Steps.{step_here}
use Rattle.low_core.specs.declared.moves.Chunk.{Chunk}
use Rattle.low_core.specs.Plain.{inst_of, block_of, with_blocks}
use Rattle.switch_lower.specs.Ways.{Way}
use Rattle.switch_lower.specs.Fresh.{test_name, chunk_name}
use Rattle.switch_lower.specs.Tree.{Choice, compare_chunk, read_chunk, onward, tests, row, least, ways_within, size_within, tree}
use Rattle.switch_lower.proofs.Same.{Same}
use Rattle.switch_lower.proofs.Names.{name_itself, apart, test_zeros}
use Rattle.switch_lower.proofs.TreeLaws.{tree_few, tree_many, tree_full, ways_some, twice}
use Rattle.switch_lower.proofs.Labels.{AreNumbered, place_of, new_found, in_front, behind}
use Rattle.switch_lower.proofs.WayLaws.{way_at, AreBelow, Rises, take_rises, drop_rises, take_below, drop_below, least_below, way_left, way_right}

-- where a label leads among chunks
pub record IsPlace (cs : List Chunk) (label : List ℕ) : Type 0 where
  pub number : ℕ
  pub chunk : Chunk
  pub finds : place_of label cs ≡ Some number
  pub there : slice_get cs number ≡ Some chunk
  pub no_phi : choices_of (map inst_of chunk.moves) ≡ []

-- a chunk as a block
pub block_at : (cs : List Chunk) (k : ℕ) (x : Chunk) → slice_get cs k ≡ Some x → slice_get (map block_of cs) k ≡ Some (block_of x)
block_at cs k x at = slice_get-map block_of cs k ∙ ap (option_map block_of) at

-- to a label
pub goes_there : (m : Module) (st : State) (fr : Frame) (callers : List Frame) (fn : Function) (cs : List Chunk) (from label : List ℕ) (p : IsPlace cs label) → goes_to m st fr callers (with_blocks fn (map block_of cs)) from label ≡ Ok (record { frames = record fr { block = p.number; next = 0 } ∷ callers; objects = st.objects; exchange = Nothing })
goes_there m st fr callers fn cs from label p =
    ap (λ o. and_then (found_or Malformed o) (λ number. and_then (found_or Malformed (slice_get (map block_of cs) number)) (λ b. in_block m st fr callers from number b))) p.finds
    ∙ ap (λ o. and_then (found_or Malformed o) (λ b. in_block m st fr callers from p.number b)) (block_at cs p.number p.chunk p.there)
    ∙ ap (λ (ps : List Phis). and_then (given_at_once m fr.locals from ps) (λ locals. Ok (record { frames = record fr { block = p.number; next = length ps; locals = locals } ∷ callers; objects = st.objects; exchange = Nothing }))) p.no_phi

-- the first chunk of a tree
pub record IsFirst (c : Choice) (q : ℕ) (all : List Chunk) : Type 0 where
  pub chunk : Chunk
  pub there : slice_get all 0 ≡ Some chunk
  pub label : chunk.label ≡ chunk_name c.padding q
  pub no_phi : choices_of (map inst_of chunk.moves) ≡ []

row_first : (c : Choice) (q : ℕ) (ws : List Way) → IsFirst c q (row c q ws)
row_first c q [] = record { chunk = read_chunk c q; there = refl; label = refl; no_phi = refl }
row_first c q (v ∷ vs) = record { chunk = compare_chunk c q Eq v.0 v.1 (onward c (q + 1) vs); there = refl; label = refl; no_phi = refl }

pub tree_first : (c : Choice) (d q : ℕ) (ws : List Way) → IsFirst c q (tree c d q ws)
tree_first c zero q ws = row_first c q ws
tree_first c (suc d) q ws = by_test (nat_le (length ws) (ways_within d)) refl (tree_first c d q ws)
  where
    by_test : (b : Bool) → nat_le (length ws) (ways_within d) ≡ b → IsFirst c q (tree c d q ws) → IsFirst c q (tree c (suc d) q ws)
    by_test true e few = subst (IsFirst c q) (sym (tree_few c d q ws (leb-true (length ws) (ways_within d) e))) few
    by_test false e few = subst (IsFirst c q) (sym (tree_many c d q ws (leb-false (length ws) (ways_within d) e))) (record {
      chunk = compare_chunk c q Ult (least (drop (ways_within d) ws)) (chunk_name c.padding (q + 1)) (chunk_name c.padding (q + size_within d));
      there = refl;
      label = refl;
      no_phi = refl;
    })

-- no ways
pub tree_none : (c : Choice) (d q : ℕ) → tree c d q [] ≡ read_chunk c q ∷ []
tree_none c zero q = refl
tree_none c (suc d) q = tree_few c d q [] (omega arith) ∙ tree_none c d q

module _ (w : Module) (input : List ℕ) (s : State) (g : Frame) (gs : List Frame) (fn : Function) (cs : List Chunk) (in_module : slice_get w.functions g.function ≡ Some (with_blocks fn (map block_of cs))) where
  -- in a chunk
  abbrev pub frame_at : ℕ → ℕ → List Local → Frame
  frame_at q next locals = record g { block = q; next = next; locals = locals }

  abbrev pub standing_at : ℕ → ℕ → List Local → State
  standing_at q next locals = record { frames = frame_at q next locals ∷ gs; objects = s.objects; printed = s.printed; taken = s.taken; ending = Going }

  -- a chunk leads on
  pub leads : (q next : ℕ) (locals : List Local) (from label : List ℕ) (p : IsPlace cs label) → turned (standing_at q next locals) (goes_to w (standing_at q next locals) (frame_at q next locals) gs (with_blocks fn (map block_of cs)) from label) ≡ standing_at p.number 0 locals
  leads q next locals from label p = ap (turned (standing_at q next locals)) (goes_there w (standing_at q next locals) (frame_at q next locals) gs fn cs from label p)

  -- a test's answer is read
  answer_is : (name : List ℕ) (v : Value) (locals : List Local) → local_value (record { name = name; value = v } ∷ locals) name ≡ Ok v
  answer_is name v locals = ap (λ b. found_or (Left Unset) (option_map (λ (l : Local). l.value) (if b then Some (record { name = name; value = v }) else first_where (λ (l : Local). same_name l.name name) locals))) (name_itself name)

  true_is : (b : Bool) (taken other : List ℕ) → if_true (truth b) taken other ≡ Ok (if b then taken else other)
  true_is true taken other = refl
  true_is false taken other = refl

  -- a value is read
  pub read_run : (c : Choice) (q : ℕ) (locals : List Local) (v : Value) (p : IsPlace cs c.default) → slice_get cs q ≡ Some (read_chunk c q) → value_of w locals (kind_of c.ty) c.value ≡ Ok v → Comes (source_step w input) 2 2 (standing_at q 0 locals) (standing_at p.number 0 locals)
  read_run c q locals v p there value =
      let b = block_at cs q (read_chunk c q) there in
      let h = with_blocks fn (map block_of cs) in
      let one = step_here w input (standing_at q 0 locals) (frame_at q 0 locals) gs h (block_of (read_chunk c q)) (Some (record { result = None; op = Freeze c.ty c.value })) refl refl (record { in_module = in_module; in_function = b; in_block = refl })
      ∙ ap (λ r. turned (standing_at q 0 locals) (and_then r (λ x. gives (standing_at q 0 locals) (frame_at q 0 locals) gs None x))) value in
      let two = step_here w input (standing_at q 1 locals) (frame_at q 1 locals) gs h (block_of (read_chunk c q)) None refl refl (record { in_module = in_module; in_function = b; in_block = refl })
      ∙ leads q 1 locals (chunk_name c.padding q) c.default p in
      comes_step (source_step w input) 1 1 (standing_at q 0 locals) (standing_at q 1 locals) (standing_at p.number 0 locals) one
      (comes_step (source_step w input) 0 0 (standing_at q 1 locals) (standing_at p.number 0 locals) (standing_at p.number 0 locals) two (comes_none (source_step w input) _ _ refl))

  module _ (c : Choice) (width u : Width) (a : ℕ) (kind : kind_of c.ty ≡ Number width) where
    abbrev answered : Bool → List Local → List Local
    answered b locals = record { name = test_name c.padding; value = truth b } ∷ locals

    -- a comparison
    compare_run : (q : ℕ) (pred : Pred) (n : ℕ) (taken other : List ℕ) (locals : List Local) (b : Bool) (p : IsPlace cs (if b then taken else other)) → slice_get cs q ≡ Some (compare_chunk c q pred n taken other) → value_of w locals (kind_of c.ty) c.value ≡ Ok (Num u a) → n < 2 ^ bits width → compared pred width a n ≡ b →
        Comes (source_step w input) 2 2 (standing_at q 0 locals) (standing_at p.number 0 (answered b locals))
    compare_run q pred n taken other locals b p there value low holds =
        let x = compare_chunk c q pred n taken other in
        let at = block_at cs q x there in
        let h = with_blocks fn (map block_of cs) in
        let t = test_name c.padding in
        let result : result_of w s.objects locals (Compare pred c.ty c.value (Int (pos n))) ≡ Ok (truth b) =
        ap (λ r. and_then r (λ y. and_then (int_value (kind_of c.ty) (pos n)) (λ z. compared_value s.objects pred (kind_of c.ty) y z))) value
        ∙ ap (λ k. and_then (int_value k (pos n)) (λ z. compared_value s.objects pred k (Num u a) z)) kind
        ∙ ap (λ k. Ok (truth (compared pred width a k))) (mod-eq_of_lt low)
        ∙ ap (λ d. Ok (truth d)) holds in
        let one = step_here w input (standing_at q 0 locals) (frame_at q 0 locals) gs h (block_of x) (Some (record { result = Some t; op = Compare pred c.ty c.value (Int (pos n)) })) refl refl (record { in_module = in_module; in_function = at; in_block = refl })
        ∙ ap (λ r. turned (standing_at q 0 locals) (and_then r (λ y. gives (standing_at q 0 locals) (frame_at q 0 locals) gs (Some t) y))) result in
        let two = step_here w input (standing_at q 1 (answered b locals)) (frame_at q 1 (answered b locals)) gs h (block_of x) None refl refl (record { in_module = in_module; in_function = at; in_block = refl })
        ∙ ap (λ r. turned (standing_at q 1 (answered b locals)) (and_then r (λ y. and_then (if_true y taken other) (λ to. goes_to w (standing_at q 1 (answered b locals)) (frame_at q 1 (answered b locals)) gs h x.label to)))) (answer_is t (truth b) locals)
        ∙ ap (λ r. turned (standing_at q 1 (answered b locals)) (and_then r (λ to. goes_to w (standing_at q 1 (answered b locals)) (frame_at q 1 (answered b locals)) gs h x.label to))) (true_is b taken other)
        ∙ leads q 1 (answered b locals) x.label (if b then taken else other) p in
        comes_step (source_step w input) 1 1 (standing_at q 0 locals) (standing_at q 1 (answered b locals)) (standing_at p.number 0 (answered b locals)) one
        (comes_step (source_step w input) 0 0 (standing_at q 1 (answered b locals)) (standing_at p.number 0 (answered b locals)) (standing_at p.number 0 (answered b locals)) two (comes_none (source_step w input) _ _ refl))

    -- the answer of a test changes no value under other names
    answered_same : (b : Bool) (locals : List Local) → Same c.padding locals (answered b locals)
    answered_same b locals name few =
        let z = test_zeros c.padding in
        sym (ap (λ t. found_or (Left Unset) (option_map (λ (l : Local). l.value) (if t then Some (record { name = test_name c.padding; value = truth b }) else first_where (λ (l : Local). same_name l.name name) locals))) (apart (test_name c.padding) name (λ e. omega (arith, few, z, e))))

    module _ (numbered : AreNumbered c.padding 0 cs) (short : length cs < 2 ^ 64) (steady : (locals locals2 : List Local) → Same c.padding locals locals2 → value_of w locals (kind_of c.ty) c.value ≡ value_of w locals2 (kind_of c.ty) c.value) where
      -- a new label leads to its number
      abbrev pub new_place : (q : ℕ) (x : Chunk) → slice_get cs q ≡ Some x → x.label ≡ chunk_name c.padding q → choices_of (map inst_of x.moves) ≡ [] → IsPlace cs (chunk_name c.padding q)
      new_place q x there label none = record {
        number = q;
        chunk = x;
        finds =
            let e : 0 + q ≡ q = omega arith in
            let within = slice_get_within cs q x there in
            ap (λ n. place_of (chunk_name c.padding n) cs) (sym e) ∙ new_found c.padding 0 cs q x numbered there (label ∙ ap (chunk_name c.padding) (sym e)) (omega arith);
        there = there;
        no_phi = none;
      }

      -- a run comes to where a label leads
      abbrev pub Reaches : ℕ → ℕ → List Local → List ℕ → Type 0
      Reaches most q locals label = (p : IsPlace cs label) → (locals2 : List Local) × (Comes (source_step w input) 2 most (standing_at q 0 locals) (standing_at p.number 0 locals2)) × (Same c.padding locals locals2)

      -- a comparison in front of a run
      after : (most q q2 n : ℕ) (pred : Pred) (taken other label : List ℕ) (locals : List Local) (b : Bool) (p : IsPlace cs (if b then taken else other)) → p.number ≡ q2 → slice_get cs q ≡ Some (compare_chunk c q pred n taken other) → value_of w locals (kind_of c.ty) c.value ≡ Ok (Num u a) → n < 2 ^ bits width → compared pred width a n ≡ b → Reaches most q2 (answered b locals) label → Reaches (2 + most) q locals label
      after most q q2 n pred taken other label locals b p is there value low holds later target =
          let r = later target in
          let first = compare_run q pred n taken other locals b p there value low holds in (
            r.0,
            comes_wider (source_step w input) (2 + 2) (2 + most) 2 (2 + most) _ _ (omega arith) (omega arith)
                (comes_join (source_step w input) 2 2 2 most (standing_at q 0 locals) (standing_at q2 0 (answered b locals)) (standing_at target.number 0 r.0)
                (subst (λ k. Comes (source_step w input) 2 2 (standing_at q 0 locals) (standing_at k 0 (answered b locals))) is first) r.1),
            λ name few. answered_same b locals name few ∙ r.2 name few,
          )

      -- a row of tests
      tests_run : (q : ℕ) (ws : List Way) (locals : List Local) → 0 < length ws → AreBelow (2 ^ bits width) ws → ((j : ℕ) (x : Chunk) → slice_get (tests c q ws) j ≡ Some x → slice_get cs (q + j) ≡ Some x) → value_of w locals (kind_of c.ty) c.value ≡ Ok (Num u a) → Reaches (2 * length ws) q locals (way_at a c.default ws)
      tests_run q [] locals some low part value = absurd (omega (arith, some))
      tests_run q (v ∷ []) locals some low part value = by_test (nat_eq a v.0) refl
        where
          there : slice_get cs q ≡ Some (compare_chunk c q Eq v.0 v.1 c.default)
          there = let e : q + 0 ≡ q = omega arith in ap (slice_get cs) (sym e) ∙ part 0 (compare_chunk c q Eq v.0 v.1 c.default) refl

          by_test : (b : Bool) → nat_eq a v.0 ≡ b → Reaches (2 * length (v ∷ [])) q locals (if b then v.1 else c.default)
          by_test b e p = (answered b locals, comes_wider (source_step w input) 2 2 2 (2 * length (v ∷ [])) _ _ (omega arith) (omega arith) (compare_run q Eq v.0 v.1 c.default locals b p there value low.0 e), answered_same b locals)
      tests_run q (v ∷ v2 ∷ vs) locals some low part value =
          by_test (nat_eq a v.0) refl
          (tests_run (q + 1) (v2 ∷ vs) (answered false locals) (omega arith) low.1 (λ j x at. let e : q + suc j ≡ q + 1 + j = omega arith in ap (slice_get cs) (sym e) ∙ part (suc j) x at) (sym (steady locals (answered false locals) (answered_same false locals)) ∙ value))
        where
          other : List ℕ
          other = chunk_name c.padding (q + 1)

          second : Chunk
          second = compare_chunk c (q + 1) Eq v2.0 v2.1 (onward c (q + 1 + 1) vs)

          there : slice_get cs q ≡ Some (compare_chunk c q Eq v.0 v.1 other)
          there = let e : q + 0 ≡ q = omega arith in ap (slice_get cs) (sym e) ∙ part 0 (compare_chunk c q Eq v.0 v.1 other) refl

          by_test : (b : Bool) → nat_eq a v.0 ≡ b → Reaches (2 * length (v2 ∷ vs)) (q + 1) (answered false locals) (way_at a c.default (v2 ∷ vs)) → Reaches (2 * length (v ∷ v2 ∷ vs)) q locals (if b then v.1 else way_at a c.default (v2 ∷ vs))
          by_test true e later p = (answered true locals, comes_wider (source_step w input) 2 2 2 (2 * length (v ∷ v2 ∷ vs)) _ _ (omega arith) (omega arith) (compare_run q Eq v.0 v.1 other locals true p there value low.0 e), answered_same true locals)
          by_test false e later p =
              let n : 2 + 2 * length (v2 ∷ vs) ≡ 2 * length (v ∷ v2 ∷ vs) = omega arith in
              subst (λ k. Reaches k q locals (way_at a c.default (v2 ∷ vs))) n
              (after (2 * length (v2 ∷ vs)) q (q + 1) v.0 Eq v.1 other (way_at a c.default (v2 ∷ vs)) locals false
              (new_place (q + 1) second (part 1 second refl) refl refl) refl there value low.0 e later) p

      -- a row of at most four
      row_run : (q : ℕ) (ws : List Way) (locals : List Local) → 0 < length ws → length ws ≤ 4 → AreBelow (2 ^ bits width) ws → ((j : ℕ) (x : Chunk) → slice_get (row c q ws) j ≡ Some x → slice_get cs (q + j) ≡ Some x) → value_of w locals (kind_of c.ty) c.value ≡ Ok (Num u a) → Reaches 8 q locals (way_at a c.default ws)
      row_run q [] locals some few low part value = absurd (omega (arith, some))
      row_run q (v ∷ vs) locals some few low part value = λ p.
          let r = tests_run q (v ∷ vs) locals some low part value p in
          (r.0, comes_wider (source_step w input) 2 (2 * length (v ∷ vs)) 2 8 _ _ (omega arith) (omega arith) r.1, r.2)

      -- a tree
      pub tree_run : (d q : ℕ) (ws : List Way) (locals : List Local) → 0 < length ws → length ws ≤ ways_within d → Rises ws → AreBelow (2 ^ bits width) ws → ((j : ℕ) (x : Chunk) → slice_get (tree c d q ws) j ≡ Some x → slice_get cs (q + j) ≡ Some x) → value_of w locals (kind_of c.ty) c.value ≡ Ok (Num u a) → Reaches (8 + 2 * d) q locals (way_at a c.default ws)
      tree_run zero q ws locals some few up low part value = row_run q ws locals some (omega (arith, few)) low part value
      tree_run (suc d) q ws locals some few up low part value =
          by_test (nat_le (length ws) (ways_within d)) refl
          (λ l most same. tree_run d q ws l some most up low (λ j x at. part j x (ap (λ t. slice_get t j) (tree_few c d q ws most) ∙ at)) same)
          (λ l many same parts. tree_run d (q + 1) (take (ways_within d) ws) l (omega (arith, length-take-le (ways_within d) ws (omega (arith, many)), ways_some d)) (omega (arith, length-take-le (ways_within d) ws (omega (arith, many)))) (take_rises (ways_within d) ws up) (take_below (2 ^ bits width) (ways_within d) ws low) parts same)
          (λ l many same parts. tree_run d (q + size_within d) (drop (ways_within d) ws) l (omega (arith, length-drop (ways_within d) ws, many)) (omega (arith, length-drop (ways_within d) ws, many, few, twice d)) (drop_rises (ways_within d) ws up) (drop_below (2 ^ bits width) (ways_within d) ws low) parts same)
        where
          n : ℕ
          n = ways_within d

          left : List Chunk
          left = tree c d (q + 1) (take n ws)

          right : List Chunk
          right = tree c d (q + size_within d) (drop n ws)

          Parts : ℕ → List Chunk → Type 0
          Parts k all = (j : ℕ) (x : Chunk) → slice_get all j ≡ Some x → slice_get cs (k + j) ≡ Some x

          Valued : List Local → Type 0
          Valued l = value_of w l (kind_of c.ty) c.value ≡ Ok (Num u a)

          by_test : (b : Bool) → nat_le (length ws) n ≡ b →
              ((l : List Local) → length ws ≤ n → Valued l → Reaches (8 + 2 * d) q l (way_at a c.default ws)) →
              ((l : List Local) → n < length ws → Valued l → Parts (q + 1) left → Reaches (8 + 2 * d) (q + 1) l (way_at a c.default (take n ws))) →
              ((l : List Local) → n < length ws → Valued l → Parts (q + size_within d) right → Reaches (8 + 2 * d) (q + size_within d) l (way_at a c.default (drop n ws))) →
              Reaches (8 + 2 * suc d) q locals (way_at a c.default ws)
          by_test true e whole first second = λ p.
              let r = whole locals (leb-true (length ws) n e) value p in
              (r.0, comes_wider (source_step w input) 2 (8 + 2 * d) 2 (8 + 2 * suc d) _ _ (omega arith) (omega arith) r.1, r.2)
          by_test false e whole first second = by_half (nat_lt a (least (drop n ws))) refl
            where
              many : n < length ws
              many = leb-false (length ws) n e

              node : Chunk
              node = compare_chunk c q Ult (least (drop n ws)) (chunk_name c.padding (q + 1)) (chunk_name c.padding (q + size_within d))

              parts : Parts q (node ∷ left ++ right)
              parts j x at = part j x (ap (λ t. slice_get t j) (tree_many c d q ws many) ∙ at)

              there : slice_get cs q ≡ Some node
              there = let z : q + 0 ≡ q = omega arith in ap (slice_get cs) (sym z) ∙ parts 0 node refl

              under : least (drop n ws) < 2 ^ bits width
              under = least_below (2 ^ bits width) (drop n ws) (omega (arith, length-drop n ws, many)) (drop_below (2 ^ bits width) n ws low)

              left_parts : Parts (q + 1) left
              left_parts j x at = let z : q + suc j ≡ q + 1 + j = omega arith in ap (slice_get cs) (sym z) ∙ parts (suc j) x (in_front left right j x at)

              right_parts : Parts (q + size_within d) right
              right_parts j x at =
                  let full = tree_full c d (q + 1) (take n ws) (length-take-le n ws (omega (arith, many))) in
                  let z : q + suc (length left + j) ≡ q + size_within d + j = omega arith in
                  ap (slice_get cs) (sym z) ∙ parts (suc (length left + j)) x (behind left right j ∙ at)

              start : (k : ℕ) (all : List Chunk) → Parts k all → IsFirst c k all → IsPlace cs (chunk_name c.padding k)
              start k all own x = let z : k + 0 ≡ k = omega arith in new_place k x.chunk (ap (slice_get cs) (sym z) ∙ own 0 x.chunk x.there) x.label x.no_phi

              valued : (b : Bool) → Valued (answered b locals)
              valued b = sym (steady locals (answered b locals) (answered_same b locals)) ∙ value

              by_half : (b : Bool) → nat_lt a (least (drop n ws)) ≡ b → Reaches (8 + 2 * suc d) q locals (way_at a c.default ws)
              by_half true f =
                  let z : 2 + (8 + 2 * d) ≡ 8 + 2 * suc d = omega arith in
                  subst (λ k. Reaches k q locals (way_at a c.default ws)) z
                  (after (8 + 2 * d) q (q + 1) (least (drop n ws)) Ult (chunk_name c.padding (q + 1)) (chunk_name c.padding (q + size_within d)) (way_at a c.default ws) locals true
                  (start (q + 1) left left_parts (tree_first c d (q + 1) (take n ws))) refl there value under f
                  (subst (Reaches (8 + 2 * d) (q + 1) (answered true locals)) (way_left a c.default n ws up (ltb-true a (least (drop n ws)) f)) (first (answered true locals) many (valued true) left_parts)))
              by_half false f =
                  let z : 2 + (8 + 2 * d) ≡ 8 + 2 * suc d = omega arith in
                  subst (λ k. Reaches k q locals (way_at a c.default ws)) z
                  (after (8 + 2 * d) q (q + size_within d) (least (drop n ws)) Ult (chunk_name c.padding (q + 1)) (chunk_name c.padding (q + size_within d)) (way_at a c.default ws) locals false
                  (start (q + size_within d) right right_parts (tree_first c d (q + size_within d) (drop n ws))) refl there value under f
                  (subst (Reaches (8 + 2 * d) (q + size_within d) (answered false locals)) (way_right a c.default n ws up many (ltb-false a (least (drop n ws)) f)) (second (answered false locals) many (valued false) right_parts)))
