-- Along an edge of a function that fits, each phi of the block has its entry.
use Rattle.std.proofs.Common.{◌≡◌, ℕ, zero, suc, ◌≤◌, Bool, true, false, List, [], ◌∷◌, length, map, Some, None, Ok, refl, ap, sym, ◌∙◌, subst, arith, ◌⊎◌, inl, inr}
use Rattle.std.specs.Prelude.{◌&&◌, ◌||◌, not, nat_eq, slice_get, if◌then◌else◌}
use Rattle.std.proofs.lemmas.Bool.{and_parts, and_from}
use Rattle.ir_core.specs.declared.instruction.Op.{Op}
use Rattle.ir_core.specs.declared.instruction.Op.TheVariants.{Phi}
use Rattle.ir_core.specs.declared.instruction.Entry.{Entry}
use Rattle.ir_core.specs.declared.instruction.Case.{Case}
use Rattle.ir_core.specs.declared.instruction.Inst.{Inst}
use Rattle.ir_core.specs.declared.module.Block.{Block}
use Rattle.ir_core.specs.declared.module.Function.{Function}
use Rattle.ir_core.specs.declared.module.Module.{Module}
use Rattle.ir_core.specs.declared.memory.Value.{Value}
use Rattle.ir_core.specs.declared.memory.Value.TheVariants.{Num, Null, At, Fun}
use Rattle.ir_core.specs.Names.{same_name}
use Rattle.ir_core.specs.Definitions.{is_among}
use Rattle.ir_core.specs.Stops.{Answer, and_then, found_or, Malformed}
use Rattle.ir_core.specs.declared.kind.Kind.{Kind}
use Rattle.ir_core.specs.declared.kind.Kind.TheVariants.{NoValue, Number, Pointer}
use Rattle.ir_core.specs.Kinds.{kind_of, same_kind}
use Rattle.ir_core.specs.State.{Local, Frame, State, Nothing, Turn, with_local}
use Rattle.ir_core.specs.Operands.{value_of}
use Rattle.ir_core.specs.Step.{Choice, choices_with, choices_of, chosen, given_at_once, in_block, goes_to, if_true, to_if_equal, switched}
use Rattle.ir_core.specs.Typing.{Env, is_value, is_number, operand_fits, op_fits, into_fits, inst_fits, case_fits, kind_given, labels_of}
use Rattle.std.specs.List.{list_all, list_any, filter}
use Rattle.ir_core.specs.Valid.{env_of, is_phi, leads_to, predecessors, entries_fit}
use Rattle.rd_num.specs.declared.width.Width.TheVariants.{W1}
use Rattle.ir_sound.specs.Typed.{no_phi, has_label, phi_typed, phis_typed, block_typed}
use Rattle.ir_sound.specs.WellTyped.{Each, Properly, Present, IsOfKind, IsLocal, present, IsTypedTurn}
use Rattle.ir_sound.proofs.AnswerLaws.{if_gives, then_gives}
use Rattle.ir_sound.proofs.Frames.{Here, fits_awaits, given_are}
use Rattle.ir_sound.proofs.Operands.{Covers, value_gives}
use Rattle.ir_sound.proofs.Parts.{block_at}
use Rattle.ir_sound.proofs.RowLaws.{all_at, found_any}
use Rattle.ir_sound.proofs.SameLaws.{kind_is, name_is, none_is, not_true, same_itself, some_is}

-- whether entries have one for a block of that label
abbrev pub has_entry : List Entry → List ℕ → Bool
has_entry entries from = list_any (λ (e : Entry). same_name e.from from) entries

-- operands of entries that are of a kind
abbrev pub entries_of : Module → Env → Kind → List Entry → Bool
entries_of m env kind entries = list_all (λ (e : Entry). operand_fits m env kind e.value) entries

-- a phi that an edge from a block of that label can take
abbrev pub choice_fits : Module → Env → List ℕ → Choice → Bool
choice_fits m env from c = has_entry c.entries from && (into_fits env c.into c.kind && entries_of m env c.kind c.entries)

-- the value of a phi
chosen_gives : (m : Module) (x : Present) (env : Env) (locals : List Local) → Covers m x → Each (IsLocal x env) locals → (from : List ℕ) (c : Choice) → choice_fits m env from c ≡ true → Properly (IsOfKind x c.kind) (chosen m locals from c)
chosen_gives m x env locals cov all from c fits =
    let parts = and_parts (has_entry c.entries from) (into_fits env c.into c.kind && entries_of m env c.kind c.entries) fits in
    let entries = (and_parts (into_fits env c.into c.kind) (entries_of m env c.kind c.entries) parts.1).1 in
    let f = found_any (λ (e : Entry). same_name e.from from) c.entries parts.0 in
    let fit = all_at (λ (e : Entry). operand_fits m env c.kind e.value) c.entries f.number f.item entries f.at_number in
    subst (λ o. Properly (IsOfKind x c.kind) (and_then (found_or Malformed o) (λ (e : Entry). value_of m locals c.kind e.value))) (sym f.first)
    (value_gives m x env locals cov all c.kind f.item.value fit)

-- all phis of a block
given_gives : (m : Module) (x : Present) (env : Env) (locals : List Local) → Covers m x → Each (IsLocal x env) locals → (from : List ℕ) (cs : List Choice) → list_all (choice_fits m env from) cs ≡ true → Properly (Each (IsLocal x env)) (given_at_once m locals from cs)
given_gives m x env locals cov all from [] fits = all
given_gives m x env locals cov all from (c ∷ cs) fits =
    let parts = and_parts (choice_fits m env from c) (list_all (choice_fits m env from) cs) fits in
    let more = and_parts (has_entry c.entries from) (into_fits env c.into c.kind && entries_of m env c.kind c.entries) parts.0 in
    let into = (and_parts (into_fits env c.into c.kind) (entries_of m env c.kind c.entries) more.1).0 in
    then_gives (IsOfKind x c.kind) (Each (IsLocal x env)) (chosen m locals from c) (λ v. and_then (given_at_once m locals from cs) (λ ls. Ok (with_local c.into v ls)))
    (chosen_gives m x env locals cov all from c parts.0)
    (λ v p. then_gives (Each (IsLocal x env)) (Each (IsLocal x env)) (given_at_once m locals from cs) (λ ls. Ok (with_local c.into v ls)) (given_gives m x env locals cov all from cs parts.1)
    (λ ls q. given_are x env c.into c.kind v ls (fits_awaits env c.into c.kind into) p q))

-- what holds of the labels of all blocks that lead to a label holds of a block's that does
predecessor_passes : (to : List ℕ) (test : List ℕ → Bool) (blocks : List Block) (number : ℕ) (p : Block) → slice_get blocks number ≡ Some p → leads_to to p ≡ true → list_all test (predecessors blocks to) ≡ true → test p.label ≡ true
predecessor_passes to test [] number p at leads all = none_is p at
predecessor_passes to test (b ∷ bs) zero p at leads all =
    let same = some_is b p at in
    subst (λ (q : Block). test q.label ≡ true) same
    (and_parts (test b.label) (list_all test (predecessors bs to))
    (sym (ap (λ c. list_all test (map (λ (q : Block). q.label) (if c then b ∷ filter (leads_to to) bs else filter (leads_to to) bs))) (ap (leads_to to) same ∙ leads)) ∙ all)).0
predecessor_passes to test (b ∷ bs) (suc n) p at leads all = predecessor_passes to test bs n p at leads (rest (leads_to to b) all)
  where
    rest : (c : Bool) → list_all test (map (λ (q : Block). q.label) (if c then b ∷ filter (leads_to to) bs else filter (leads_to to) bs)) ≡ true → list_all test (predecessors bs to) ≡ true
    rest true e = (and_parts (test b.label) (list_all test (predecessors bs to)) e).1
    rest false e = e

-- the phis of a block fit an edge from a label, of which all holds that holds of the blocks that lead here
choices_fit : (m : Module) (env : Env) (from : List (List ℕ)) (label : List ℕ) → ((test : List ℕ → Bool) → list_all test from ≡ true → test label ≡ true) → (is : List Inst) → phis_typed from is ≡ true → list_all (inst_fits m env) is ≡ true → list_all (choice_fits m env label) (choices_of is) ≡ true
choices_fit m env from label leads [] phis fits = refl
choices_fit m env from label leads (i ∷ is) phis fits =
    let parts = and_parts (inst_fits m env i) (list_all (inst_fits m env) is) fits in
    let both = and_parts (op_fits m env i.op) (into_fits env i.result (kind_given i.op)) parts.0 in
    let go = choices_fit m env from label leads is in
    by_op i.op both.0 both.1 phis (λ more. go more parts.1)
  where
    by_op : (op : Op) → op_fits m env op ≡ true → into_fits env i.result (kind_given op) ≡ true → (phi_typed from op && (if is_phi op then phis_typed from is else no_phi is)) ≡ true → (phis_typed from is ≡ true → list_all (choice_fits m env label) (choices_of is) ≡ true) → list_all (choice_fits m env label) (choices_with i.result op (choices_of is)) ≡ true
    by_op (Phi ty entries) fit into phi go =
        let parts = and_parts (entries_fit from entries) (phis_typed from is) phi in
        let each_of = and_parts (list_all (has_entry entries) from) (list_all (λ (e : Entry). is_among from e.from) entries) parts.0 in
        let has = leads (has_entry entries) each_of.0 in
        let operands = (and_parts (is_value (kind_of ty)) (entries_of m env (kind_of ty) entries) fit).1 in
        and_from _ _ (and_from _ _ has (and_from _ _ into operands)) (go parts.1)
    by_op op fit into phi go = refl

-- no more phis than instructions
pub choices_within : (is : List Inst) → length (choices_of is) ≤ length is
choices_within [] = omega arith
choices_within (i ∷ is) = by_op i.op (choices_within is)
  where
    by_op : (op : Op) → length (choices_of is) ≤ length is → length (choices_with i.result op (choices_of is)) ≤ suc (length is)
    by_op (Phi ty entries) h = omega arith
    by_op op h = omega arith

-- an instruction past the phis is none
pub past_is_none : (from : List (List ℕ)) (is : List Inst) (n : ℕ) (i : Inst) → phis_typed from is ≡ true → slice_get is n ≡ Some i → length (choices_of is) ≤ n → is_phi i.op ≡ false
past_is_none from [] n i fits at past = none_is i at
past_is_none from (j ∷ is) n i fits at past = by_op j.op refl (and_parts (phi_typed from j.op) (if is_phi j.op then phis_typed from is else no_phi is) fits).1 past (λ k. past_is_none from is k i) n refl
  where
    not_phi : (b : Bool) → not b ≡ true → b ≡ false
    not_phi true e = not_true e
    not_phi false e = refl

    by_op : (op : Op) → j.op ≡ op → (if is_phi op then phis_typed from is else no_phi is) ≡ true → length (choices_with j.result op (choices_of is)) ≤ n → ((k : ℕ) → phis_typed from is ≡ true → slice_get is k ≡ Some i → length (choices_of is) ≤ k → is_phi i.op ≡ false) → (k : ℕ) → n ≡ k → is_phi i.op ≡ false
    by_op (Phi ty entries) e rest h go zero same = absurd (omega arith)
    by_op (Phi ty entries) e rest h go (suc k) same = go k rest (sym (ap (λ n2. slice_get (j ∷ is) n2) same) ∙ at) (omega arith)
    by_op op e rest h go zero same = not_phi (is_phi i.op) (subst (λ o. not (is_phi o) ≡ true) (sym e ∙ ap (λ (k : Inst). k.op) (some_is j i (sym (ap (λ n2. slice_get (j ∷ is) n2) same) ∙ at))) refl)
    by_op op e rest h go (suc k) same = not_phi (is_phi i.op) (all_at (λ (q : Inst). not (is_phi q.op)) is k i rest (sym (ap (λ n2. slice_get (j ∷ is) n2) same) ∙ at))

-- along an edge each phi of the block to which it leads has an entry, which fits
pub edge_choices : (m : Module) (env : Env) (fn : Function) (k n : ℕ) (from to : Block) → list_all (block_typed m env fn) fn.blocks ≡ true → slice_get fn.blocks k ≡ Some from → slice_get fn.blocks n ≡ Some to → leads_to to.label from ≡ true → list_all (choice_fits m env from.label) (choices_of to.insts) ≡ true
edge_choices m env fn k n from to typed at there leads =
    let parts = block_at m env fn n to typed there in
    choices_fit m env (predecessors fn.blocks to.label) from.label (λ test. predecessor_passes to.label test fn.blocks k from at leads) to.insts parts.phis parts.insts

-- along an edge to a label
pub goes_gives : (m : Module) (s : State) (f : Frame) (callers : List Frame) → (h : Here m s.objects f callers) → Covers m (present m s.objects) → list_all (block_typed m (env_of h.stands.fn) h.stands.fn) h.stands.fn.blocks ≡ true → (label : List ℕ) → list_any (λ to. same_name to label) (labels_of h.stands.block.end) ≡ true → list_any (has_label label) h.stands.fn.blocks ≡ true → Properly (IsTypedTurn m) (goes_to m s f callers h.stands.fn h.stands.block.label label)
goes_gives m s f callers h cov fits label leads known =
    let x = present m s.objects in
    let fn = h.stands.fn in
    let env = env_of fn in
    let from = h.stands.block in
    let to = found_any (has_label label) fn.blocks known in
    let target = to.item in
    let here : leads_to target.label from ≡ true = ap (λ l. leads_to l from) (name_is target.label label to.passes) ∙ leads in
    let choices = edge_choices m env fn f.block to.number from target fits h.stands.in_function to.at_number here in
    let one : Answer Turn = in_block m s f callers from.label to.number target in
    let gives : Properly (IsTypedTurn m) one = then_gives (Each (IsLocal x env)) (IsTypedTurn m) (given_at_once m f.locals from.label (choices_of target.insts))
    (λ locals. Ok (record { frames = record f { block = to.number; next = length (choices_of target.insts); locals = locals } ∷ callers; objects = s.objects; exchange = Nothing }))
    (given_gives m x env f.locals cov h.stands.locals from.label (choices_of target.insts) choices)
    (λ locals q. record {
      calls = (record { fn = fn; block = target; in_module = h.stands.in_module; in_function = to.at_number; past_phis = omega arith; within = choices_within target.insts; locals = q; objects = h.stands.objects }, h.waiting);
      cells = h.cells;
      globals = h.globals;
    }) in
    subst (λ o. Properly (IsTypedTurn m) (and_then (found_or Malformed o) (λ number. and_then (found_or Malformed (slice_get fn.blocks number)) (λ b. in_block m s f callers from.label number b)))) (sym to.numbered)
    (subst (λ o. Properly (IsTypedTurn m) (and_then (found_or Malformed o) (λ b. in_block m s f callers from.label to.number b))) (sym to.at_number) gives)

-- of two labels one
pub one_of_two : (x : Present) (v : Value) (a b : List ℕ) → IsOfKind x (Number W1) v → Properly (λ to. (to ≡ a) ⊎ (to ≡ b)) (if_true v a b)
one_of_two x (Num w n) a b is = by_test (nat_eq n 0)
  where
    by_test : (t : Bool) → ((if t then b else a) ≡ a) ⊎ ((if t then b else a) ≡ b)
    by_test true = inr refl
    by_test false = inl refl
one_of_two x Null a b is = absurd is
one_of_two x (At o d) a b is = absurd is
one_of_two x (Fun f) a b is = absurd is

-- a label where the numbers are equal
equal_gives : (x : Present) (kind : Kind) (P : List ℕ → Type 0) (u v : Value) (to : List ℕ) (others : Answer (List ℕ)) → is_number kind ≡ true → IsOfKind x kind u → IsOfKind x kind v → P to → Properly P others → Properly P (to_if_equal u v to others)
equal_gives x (Number w) P (Num p a) (Num q b) to others number one two here more = if_gives P (nat_eq a b) (Ok to) others here more
equal_gives x (Number w) P (Num p a) Null to others number one two here more = absurd two
equal_gives x (Number w) P (Num p a) (At o d) to others number one two here more = absurd two
equal_gives x (Number w) P (Num p a) (Fun f) to others number one two here more = absurd two
equal_gives x (Number w) P Null v to others number one two here more = absurd one
equal_gives x (Number w) P (At o d) v to others number one two here more = absurd one
equal_gives x (Number w) P (Fun f) v to others number one two here more = absurd one
equal_gives x NoValue P u v to others number one two here more = not_true number
equal_gives x Pointer P u v to others number one two here more = not_true number

-- the label of a case, or the default
pub switched_gives : (m : Module) (x : Present) → Covers m x → (kind : Kind) (P : List ℕ → Type 0) (v : Value) (default : List ℕ) (cases : List Case) → is_number kind ≡ true → IsOfKind x kind v → list_all (case_fits m kind) cases ≡ true → P default → Each P (map (λ (c : Case). c.to) cases) → Properly P (switched m v default cases)
switched_gives m x cov kind P v default [] number is fits d all = d
switched_gives m x cov kind P v default (c ∷ cs) number is fits d all =
    let parts = and_parts (case_fits m kind c) (list_all (case_fits m kind) cs) fits in
    let both = and_parts (same_kind (kind_of c.ty) kind) (operand_fits m (λ name. None) kind c.value) parts.0 in
    let same = kind_is (kind_of c.ty) kind both.0 in
    then_gives (IsOfKind x kind) P (value_of m [] (kind_of c.ty) c.value) (λ u. to_if_equal u v c.to (switched m v default cs))
    (subst (λ k. Properly (IsOfKind x kind) (value_of m [] k c.value)) (sym same) (value_gives m x (λ name. None) [] cov tt kind c.value both.1))
    (λ u p. equal_gives x kind P u v c.to (switched m v default cs) number p is all.0 (switched_gives m x cov kind P v default cs number is parts.1 d all.1))

-- a label that a terminator has is one to which it leads
pub leads_each : (labels : List (List ℕ)) → Each (λ to. list_any (λ l. same_name l to) labels ≡ true) labels
leads_each labels = from_all labels (λ l h. h)
  where
    from_all : (ls : List (List ℕ)) → ((to : List ℕ) → list_any (λ l. same_name l to) ls ≡ true → list_any (λ l. same_name l to) labels ≡ true) → Each (λ to. list_any (λ l. same_name l to) labels ≡ true) ls
    from_all [] more = tt
    from_all (l ∷ ls) more = (more l (ap (λ b. b || list_any (λ k. same_name k l) ls) (same_itself l)), from_all ls (λ to h. more to (or_right (same_name l to) (list_any (λ k. same_name k to) ls) h)))
      where
        or_right : (a b : Bool) → b ≡ true → (a || b) ≡ true
        or_right true b e = refl
        or_right false b e = e
