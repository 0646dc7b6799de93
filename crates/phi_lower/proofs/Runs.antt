-- Runs of moves in a chunk, and how many moves an edge has.
use Rattle.std.proofs.Common.{◌≡◌, ℕ, zero, suc, ◌+◌, ◌*◌, ◌≤◌, Bool, true, false, List, [], ◌∷◌, ◌++◌, map, length, drop, Option, Some, None, Ok, refl, ap, ◌∙◌, subst, arith, length-append}
use Rattle.std.specs.Prelude.{slice_get}
use Rattle.std.specs.List.{list_all}
use Rattle.std.proofs.lemmas.Bool.{and_parts, and_from}
use Rattle.behavior.specs.Ending.{Going}
use Rattle.behavior.specs.Simulation.{Comes}
use Rattle.behavior.proofs.Stretch.{comes_none, comes_step}
use Rattle.ir_core.specs.declared.ty.Ty.{Ty}
use Rattle.ir_core.specs.declared.operand.Operand.{Operand}
use Rattle.ir_core.specs.declared.instruction.Entry.{Entry}
use Rattle.ir_core.specs.declared.instruction.Op.TheVariants.{Freeze}
use Rattle.ir_core.specs.declared.module.Block.{Block}
use Rattle.ir_core.specs.declared.module.Function.{Function}
use Rattle.ir_core.specs.declared.module.Module.{Module}
use Rattle.ir_core.specs.declared.memory.Value.{Value}
use Rattle.ir_core.specs.Names.{same_name, first_where}
use Rattle.ir_core.specs.Stops.{Answer, and_then}
use Rattle.ir_core.specs.Kinds.{kind_of}
use Rattle.ir_core.specs.State.{Local, Frame, State, with_local, turned}
use Rattle.ir_core.specs.Operands.{value_of}
use Rattle.ir_core.specs.Step.{gives, result_of, source_step}
use Rattle.ir_core.proofs.Steps.{step_here}
use Rattle.ir_sound.proofs.SameLaws.{not_true}
use Rattle.low_core.specs.declared.moves.Move.{Move}
use Rattle.low_core.specs.declared.moves.MoveOp.{MoveOp}
use Rattle.low_core.specs.declared.moves.MoveOp.TheVariants.{Keep, Copy}
use Rattle.low_core.specs.Plain.{op_of, inst_of}
use Rattle.phi_lower.specs.Lowered.{PhiPart, put_of, put_aside, take_of, taken_up, last_first, copies}
use Rattle.phi_lower.proofs.Moves.{moved, both_ok}

-- a copy
abbrev pub copies_value : MoveOp → Bool
copies_value (Keep op) = false
copies_value (Copy ty a) = true

abbrev pub is_copy : Move → Bool
is_copy x = copies_value x.op

-- what is left begins with the item at that place
pub drop_first : {X : Type 0} (n : ℕ) (xs : List X) (y : X) (ys : List X) → drop n xs ≡ y ∷ ys → (slice_get xs n ≡ Some y) × (drop (n + 1) xs ≡ ys)
drop_first {X = X} n xs y ys e =
    let next : n + 1 ≡ suc n = omega arith in
    let go = by_place n xs e in
    (go.0, ap (λ k. drop k xs) next ∙ go.1)
  where
    by_place : (n : ℕ) (xs : List X) → drop n xs ≡ y ∷ ys → (slice_get xs n ≡ Some y) × (drop (suc n) xs ≡ ys)
    by_place zero [] e = absurd (cc)
    by_place zero (x ∷ xs) e = (cc, cc)
    by_place (suc n) [] e = absurd (cc)
    by_place (suc n) (x ∷ xs) e = by_place n xs e

-- nothing is left at the end
pub drop_none : {X : Type 0} (n : ℕ) (xs : List X) → drop n xs ≡ [] → slice_get xs n ≡ None
drop_none zero [] e = refl
drop_none zero (x ∷ xs) e = absurd (cc)
drop_none (suc n) [] e = refl
drop_none (suc n) (x ∷ xs) e = drop_none n xs e

-- an item of what is left
pub slice_drop : {X : Type 0} (n k : ℕ) (xs : List X) → slice_get (drop n xs) k ≡ slice_get xs (n + k)
slice_drop zero k xs = let e : k ≡ 0 + k = omega arith in ap (slice_get xs) e
slice_drop (suc n) k [] = refl
slice_drop (suc n) k (x ∷ xs) = let e : suc (n + k) ≡ suc n + k = omega arith in slice_drop n k xs ∙ ap (slice_get (x ∷ xs)) e

module _ (m : Module) (input : List ℕ) (s : State) (g : Frame) (callers : List Frame) (number : ℕ) (fn : Function) (b : Block) (in_module : slice_get m.functions g.function ≡ Some fn) (in_function : slice_get fn.blocks number ≡ Some b) where
  -- the state before an instruction of the block
  abbrev pub before : ℕ → List Local → State
  before next locals = record {
    frames = record g { block = number; next = next; locals = locals } ∷ callers;
    objects = s.objects;
    printed = s.printed;
    taken = s.taken;
    ending = Going;
  }

  -- one copy
  one_move : (into : Option (List ℕ)) (ty : Ty) (a : Operand) (next : ℕ) (locals : List Local) (v : Value) → slice_get b.insts next ≡ Some (record { result = into; op = Freeze ty a }) → value_of m locals (kind_of ty) a ≡ Ok v → source_step m input (before next locals) ≡ before (next + 1) (with_local into v locals)
  one_move into ty a next locals v at value =
      step_here m input (before next locals) (record g { block = number; next = next; locals = locals }) callers fn b (Some (record { result = into; op = Freeze ty a })) refl refl (record { in_module = in_module; in_function = in_function; in_block = at })
      ∙ ap (λ o. turned (before next locals) (and_then o (λ x. gives (before next locals) (record g { block = number; next = next; locals = locals }) callers into x))) value

  -- copies one after another
  pub runs : (ms : List Move) (next : ℕ) (locals locals2 : List Local) → drop next b.insts ≡ map inst_of ms → list_all is_copy ms ≡ true → moved m ms locals ≡ Ok locals2 → Comes (source_step m input) (length ms) (length ms) (before next locals) (before (next + length ms) locals2)
  runs [] next locals locals2 left copy done =
      let e : next ≡ next + 0 = omega arith in
      comes_none (source_step m input) (before next locals) (before (next + 0) locals2) (ap (before next) (ok_is locals locals2 done) ∙ ap (λ n. before n locals2) e)
    where
      ok_is : (a b : List Local) → let r : Answer (List Local) = Ok a in r ≡ Ok b → a ≡ b
      ok_is a b e = cc
  runs (x ∷ xs) next locals locals2 left copy done =
      let d = drop_first next b.insts (inst_of x) (map inst_of xs) left in
      let c = and_parts (is_copy x) (list_all is_copy xs) copy in
      by_op x.to x.op c.0 d.0 done d.1 (λ l e. runs xs (next + 1) l locals2 d.1 c.1 e)
    where
      by_op : (to : Option (List ℕ)) (op : MoveOp) → is_copy (record { to = to; op = op }) ≡ true → slice_get b.insts next ≡ Some (record { result = to; op = op_of op }) → and_then (result_of m [] locals (op_of op)) (λ v. moved m xs (with_local to v locals)) ≡ Ok locals2 → drop (next + 1) b.insts ≡ map inst_of xs →
          ((l : List Local) → moved m xs l ≡ Ok locals2 → Comes (source_step m input) (length xs) (length xs) (before (next + 1) l) (before (next + 1 + length xs) locals2)) → Comes (source_step m input) (suc (length xs)) (suc (length xs)) (before next locals) (before (next + suc (length xs)) locals2)
      by_op to (Keep op) c at e later go = not_true c
      by_op to (Copy ty a) c at e later go =
          let v = both_ok (value_of m locals (kind_of ty) a) (λ y. moved m xs (with_local to y locals)) locals2 e in
          let one = one_move to ty a next locals v.first at v.is in
          let n : next + 1 + length xs ≡ next + suc (length xs) = omega arith in
          subst (λ k. Comes (source_step m input) (suc (length xs)) (suc (length xs)) (before next locals) (before k locals2)) n
          (comes_step (source_step m input) (length xs) (length xs) (before next locals) (before (next + 1) (with_local to v.first locals)) (before (next + 1 + length xs) locals2) one (go (with_local to v.first locals) v.then_is))

-- both rows of moves are copies
all_append : (xs ys : List Move) → list_all is_copy xs ≡ true → list_all is_copy ys ≡ true → list_all is_copy (xs ++ ys) ≡ true
all_append [] ys a b = b
all_append (x ∷ xs) ys a b = let p = and_parts (is_copy x) (list_all is_copy xs) a in and_from _ _ p.0 (all_append xs ys p.1 b)

last_first_copies : (f : PhiPart → List Move) (ps : List PhiPart) → ((p : PhiPart) → list_all is_copy (f p) ≡ true) → list_all is_copy (last_first f ps) ≡ true
last_first_copies f [] each = refl
last_first_copies f (p ∷ ps) each = all_append (last_first f ps) (f p) (last_first_copies f ps each) (each p)

put_copies : (into : Option (List ℕ)) (ty : Ty) (e : Option Entry) → list_all is_copy (put_of into ty e) ≡ true
put_copies (Some into) ty (Some e) = refl
put_copies (Some into) ty None = refl
put_copies None ty e = refl

take_copies : (into : Option (List ℕ)) (ty : Ty) → list_all is_copy (take_of into ty) ≡ true
take_copies (Some into) ty = refl
take_copies None ty = refl

pub all_copies : (from : List ℕ) (ps : List PhiPart) → list_all is_copy (copies from ps) ≡ true
all_copies from ps =
    all_append (last_first (put_aside from) ps) (last_first taken_up ps)
    (last_first_copies (put_aside from) ps (λ p. put_copies p.into p.ty (first_where (λ (e : Entry). same_name e.from from) p.entries)))
    (last_first_copies taken_up ps (λ p. take_copies p.into p.ty))

-- at most two for each phi
last_first_length : (f : PhiPart → List Move) (ps : List PhiPart) → ((p : PhiPart) → length (f p) ≤ 1) → length (last_first f ps) ≤ length ps
last_first_length f [] each = omega arith
last_first_length f (p ∷ ps) each = let a = last_first_length f ps each in let b = each p in let c = length-append (last_first f ps) (f p) in omega arith

put_length : (into : Option (List ℕ)) (ty : Ty) (e : Option Entry) → length (put_of into ty e) ≤ 1
put_length (Some into) ty (Some e) = omega arith
put_length (Some into) ty None = omega arith
put_length None ty e = omega arith

take_length : (into : Option (List ℕ)) (ty : Ty) → length (take_of into ty) ≤ 1
take_length (Some into) ty = omega arith
take_length None ty = omega arith

pub copies_length : (from : List ℕ) (ps : List PhiPart) → length (copies from ps) ≤ 2 * length ps
copies_length from ps =
    let a = last_first_length (put_aside from) ps (λ p. put_length p.into p.ty (first_where (λ (e : Entry). same_name e.from from) p.entries)) in
    let b = last_first_length taken_up ps (λ p. take_length p.into p.ty) in
    let c = length-append (last_first (put_aside from) ps) (last_first taken_up ps) in
    omega arith
