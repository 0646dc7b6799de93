-- What a well shaped program says of each of its functions.
use Rattle.std.proofs.Common.{◌≡◌, ℕ, zero, suc, ◌+◌, ◌*◌, ◌^◌, ◌<◌, ◌≤◌, Bool, true, false, List, [], ◌∷◌, ◌++◌, map, take, drop, length, Option, Some, None, refl, ap, sym, ◌∙◌, subst, arith, All, length-append}
use Rattle.std.specs.Prelude.{slice_get, option_map, nat_le, if◌then◌else◌}
use Rattle.std.specs.List.{list_all, flat_map, sum_by, enumerate_from}
use Rattle.std.proofs.lemmas.Bool.{and_parts, leb-true, leb-false}
use Rattle.std.proofs.lemmas.List.{length-take-le, length-drop}
use Rattle.std.proofs.lemmas.List.Sums.{sum_by-cons}
use Rattle.std.proofs.lemmas.Option.{slice_get_within, get_or_from_slice_get}
use Rattle.ir_core.specs.declared.instruction.Case.{Case}
use Rattle.ir_core.specs.declared.instruction.Inst.{Inst}
use Rattle.ir_core.specs.declared.instruction.Op.{Op}
use Rattle.ir_core.specs.declared.instruction.Op.TheVariants.{Phi}
use Rattle.ir_core.specs.declared.instruction.Term.{Term}
use Rattle.ir_core.specs.declared.instruction.Term.TheVariants.{Ret, RetValue, Br, BrIf, Switch, Unreachable}
use Rattle.ir_core.specs.declared.module.Block.{Block}
use Rattle.ir_core.specs.declared.module.Param.{Param}
use Rattle.ir_core.specs.declared.module.Function.{Function}
use Rattle.ir_core.specs.declared.module.Module.{Module}
use Rattle.ir_core.specs.declared.kind.Kind.{Kind}
use Rattle.ir_core.specs.Names.{same_name, first_where}
use Rattle.ir_core.specs.Counts.{greatest}
use Rattle.ir_core.specs.Definitions.{result_names, block_names, param_names, local_names}
use Rattle.ir_core.specs.Step.{choices_of, choices_with, Choice as Phis}
use Rattle.ir_core.specs.Typing.{has_kind, kind_given}
use Rattle.ir_core.specs.Valid.{LocalKind, result_local, inst_local, kinds_in, param_kind, results_of, locals_of, named_locals, kind_in, env_of}
use Rattle.low_core.specs.declared.moves.MoveOp.{MoveOp}
use Rattle.low_core.specs.declared.moves.MoveOp.TheVariants.{Keep, Copy}
use Rattle.low_core.specs.declared.moves.Move.{Move}
use Rattle.low_core.specs.declared.moves.Chunk.{Chunk}
use Rattle.low_core.specs.Plain.{op_of, inst_of, block_of, with_blocks}
use Rattle.low_core.specs.Shaped.{is_kept, keeps_moves}
use Rattle.low_core.specs.Weights.{cases_weight, end_weight, block_weight, function_weight, weight}
use Rattle.switch_lower.specs.Ways.{Way, ways}
use Rattle.switch_lower.specs.Fresh.{zeros_of}
use Rattle.switch_lower.specs.Tree.{Choice, row, tree, ways_within, size_within}
use Rattle.switch_lower.specs.Bodies.{chunks_by, chunks_for, chunks_from}
use Rattle.switch_lower.proofs.Same.{IsUnder, not_true}
use Rattle.switch_lower.proofs.Names.{name_is}
use Rattle.switch_lower.proofs.TreeLaws.{tree_few, tree_many, length_tests, ways_some}
use Rattle.switch_lower.proofs.Labels.{AreOld}
use Rattle.switch_lower.proofs.WayLaws.{ways_length}

-- an item of all
pub all_item : {X : Type 0} (P : X → Type 0) (xs : List X) (k : ℕ) (x : X) → All P xs → slice_get xs k ≡ Some x → P x
all_item P xs k x all at = subst P (get_or_from_slice_get xs k x x at) (all k x (slice_get_within xs k x at))

pub list_item : {X : Type 0} (p : X → Bool) (xs : List X) (k : ℕ) (x : X) → list_all p xs ≡ true → slice_get xs k ≡ Some x → p x ≡ true
list_item p [] k x all at = absurd (cc)
list_item p (y ∷ ys) zero x all at = let e : y ≡ x = cc in subst (λ z. p z ≡ true) e (and_parts (p y) (list_all p ys) all).0
list_item p (y ∷ ys) (suc k) x all at = list_item p ys k x (and_parts (p y) (list_all p ys) all).1 at

pub numbered_item : {X : Type 0} (p : ℕ × X → Bool) (n : ℕ) (xs : List X) (k : ℕ) (x : X) → list_all p (enumerate_from n xs) ≡ true → slice_get xs k ≡ Some x → (number : ℕ) × (p (number, x) ≡ true)
numbered_item p n [] k x all at = absurd (cc)
numbered_item p n (y ∷ ys) zero x all at = let e : y ≡ x = cc in (n, subst (λ z. p (n, z) ≡ true) e (and_parts (p (n, y)) (list_all p (enumerate_from (n + 1) ys)) all).0)
numbered_item p n (y ∷ ys) (suc k) x all at = numbered_item p (n + 1) ys k x (and_parts (p (n, y)) (list_all p (enumerate_from (n + 1) ys)) all).1 at

-- an item's part of a sum
pub sum_item : {X : Type 0} (f : X → ℕ) (xs : List X) (k : ℕ) (x : X) → slice_get xs k ≡ Some x → f x ≤ sum_by f xs
sum_item f [] k x at = absurd (cc)
sum_item f (y ∷ ys) zero x at = let e : y ≡ x = cc in let s = sum_by-cons f y ys in let v = ap f e in omega arith
sum_item f (y ∷ ys) (suc k) x at = let s = sum_by-cons f y ys in let r = sum_item f ys k x at in omega arith

-- moves are no phis
kept_none : (into : Option (List ℕ)) (op : Op) (others : List Phis) → is_kept op ≡ true → choices_with into op others ≡ []
kept_none into (Phi ty entries) others kept = not_true kept
kept_none into op others kept = refl

move_none : (into : Option (List ℕ)) (op : MoveOp) (others : List Phis) → keeps_moves op ≡ true → choices_with into (op_of op) others ≡ []
move_none into (Keep op) others keeps = kept_none into op others keeps
move_none into (Copy ty a) others keeps = refl

pub moves_none : (ms : List Move) → list_all (λ (x : Move). keeps_moves x.op) ms ≡ true → choices_of (map inst_of ms) ≡ []
moves_none [] all = refl
moves_none (x ∷ xs) all = move_none x.to x.op (choices_of (map inst_of xs)) (and_parts (keeps_moves x.op) (list_all (λ (y : Move). keeps_moves y.op) xs) all).0

-- names with fewer zero bytes in front
abbrev pub AreUnder : ℕ → List (List ℕ) → Type 0
AreUnder n [] = Unit {0}
AreUnder n (x ∷ xs) = (zeros_of x < n) × AreUnder n xs

under_greatest : (n : ℕ) (xs : List (List ℕ)) → greatest (map zeros_of xs) < n → AreUnder n xs
under_greatest n [] below = tt
under_greatest n (x ∷ xs) below = (omega arith, under_greatest n xs (omega arith))

under_parts : (n : ℕ) (xs ys : List (List ℕ)) → AreUnder n (xs ++ ys) → AreUnder n xs × AreUnder n ys
under_parts n [] ys all = (tt, all)
under_parts n (x ∷ xs) ys all = let p = under_parts n xs ys all.1 in ((all.0, p.0), p.1)

-- the locals of a function, by their names
abbrev LocalsUnder : ℕ → List LocalKind → Type 0
LocalsUnder n ls = AreUnder n (named_locals ls)

locals_append : (n : ℕ) (xs ys : List LocalKind) → LocalsUnder n xs → LocalsUnder n ys → LocalsUnder n (xs ++ ys)
locals_append n [] ys first second = second
locals_append n (x ∷ xs) ys first second = (first.0, locals_append n xs ys first.1 second)

result_under : (n : ℕ) (into : Option (List ℕ)) (kind : Kind) → AreUnder n (result_names into) → LocalsUnder n (result_local into kind)
result_under n (Some name) kind all = all
result_under n None kind all = tt

insts_under : (n : ℕ) (is : List Inst) → AreUnder n (flat_map (λ (i : Inst). result_names i.result) is) → LocalsUnder n (kinds_in is)
insts_under n [] all = tt
insts_under n (i ∷ is) all =
    let p = under_parts n (result_names i.result) (flat_map (λ (j : Inst). result_names j.result) is) all in
    locals_append n (inst_local i) (kinds_in is) (result_under n i.result (kind_given i.op) p.0) (insts_under n is p.1)

blocks_under : (n : ℕ) (bs : List Block) → AreUnder n (flat_map block_names bs) → LocalsUnder n (results_of bs)
blocks_under n [] all = tt
blocks_under n (b ∷ bs) all =
    let p = under_parts n (block_names b) (flat_map block_names bs) all in
    locals_append n (kinds_in b.insts) (results_of bs) (insts_under n b.insts p.0.1) (blocks_under n bs p.1)

params_under : (n : ℕ) (ps : List Param) → AreUnder n (map (λ (p : Param). p.name) ps) → LocalsUnder n (map param_kind ps)
params_under n [] all = tt
params_under n (p ∷ ps) all = (all.0, params_under n ps all.1)

names_under : (f : Function) → AreUnder (1 + greatest (map zeros_of (local_names f))) (local_names f)
names_under f = under_greatest (1 + greatest (map zeros_of (local_names f))) (local_names f) (omega arith)

known_under : (n : ℕ) (ls : List LocalKind) (name : List ℕ) (kind : Kind) → LocalsUnder n ls → has_kind (kind_in ls name) kind ≡ true → zeros_of name < n
known_under n [] name kind all known = not_true known
known_under n (l ∷ ls) name kind all known = by_test (same_name l.name name) refl (known_under n ls name kind all.1) known
  where
    by_test : (b : Bool) → same_name l.name name ≡ b → (has_kind (kind_in ls name) kind ≡ true → zeros_of name < n) → has_kind (option_map (λ (k : LocalKind). k.kind) (if b then Some l else first_where (λ (k : LocalKind). same_name k.name name) ls)) kind ≡ true → zeros_of name < n
    by_test true e later known = subst (λ x. zeros_of x < n) (name_is l.name name e) all.0
    by_test false e later known = later known

-- so a function's locals have fewer zero bytes in front than new names
pub env_under : (f : Function) → IsUnder (1 + greatest (map zeros_of (local_names f))) (env_of f)
env_under f name kind known =
    let n = 1 + greatest (map zeros_of (local_names f)) in
    let p = under_parts n (param_names f) (flat_map block_names f.blocks) (names_under f) in
    known_under n (locals_of f) name kind (locals_append n (map param_kind f.params) (results_of f.blocks) (params_under n f.params p.0) (blocks_under n f.blocks p.1)) known

-- and so have its labels
labels_old : (n : ℕ) (cs : List Chunk) → AreUnder n (flat_map block_names (map block_of cs)) → AreOld n cs
labels_old n [] all = tt
labels_old n (c ∷ cs) all = let p = under_parts n (block_names (block_of c)) (flat_map block_names (map block_of cs)) all in (p.0.0, labels_old n cs p.1)

pub chunks_old : (f : Function) (cs : List Chunk) → let g = with_blocks f (map block_of cs) in AreOld (1 + greatest (map zeros_of (local_names g))) cs
chunks_old f cs =
    let g = with_blocks f (map block_of cs) in
    let n = 1 + greatest (map zeros_of (local_names g)) in
    labels_old n cs (under_parts n (param_names g) (flat_map block_names (map block_of cs)) (names_under g)).1

pub old_item : (n : ℕ) (cs : List Chunk) (k : ℕ) (c : Chunk) → AreOld n cs → slice_get cs k ≡ Some c → zeros_of c.label < n
old_item n [] k c old at = absurd (cc)
old_item n (d ∷ ds) zero c old at = let e : d ≡ c = cc in subst (λ (x : Chunk). zeros_of x.label < n) e old.0
old_item n (d ∷ ds) (suc k) c old at = old_item n ds k c old.1 at

-- how many chunks a tree has at most
row_size : (c : Choice) (at : ℕ) (ws : List Way) → 0 < length ws → length (row c at ws) + 1 ≤ 2 * length ws
row_size c at [] some = absurd (omega (arith, some))
row_size c at (v ∷ vs) some = let e = length_tests c at (v ∷ vs) in omega arith

tree_size : (c : Choice) (d at : ℕ) (ws : List Way) → 0 < length ws → length (tree c d at ws) + 1 ≤ 2 * length ws
tree_size c zero at ws some = row_size c at ws some
tree_size c (suc d) at ws some =
    by_test (nat_le (length ws) n) refl (tree_size c d at ws some)
    (λ many. tree_size c d (at + 1) (take n ws) (omega (arith, length-take-le n ws (omega (arith, many)), ways_some d)))
    (λ many. tree_size c d (at + size_within d) (drop n ws) (omega (arith, length-drop n ws, many)))
  where
    n : ℕ
    n = ways_within d

    by_test : (b : Bool) → nat_le (length ws) n ≡ b → length (tree c d at ws) + 1 ≤ 2 * length ws → (n < length ws → length (tree c d (at + 1) (take n ws)) + 1 ≤ 2 * length (take n ws)) → (n < length ws → length (tree c d (at + size_within d) (drop n ws)) + 1 ≤ 2 * length (drop n ws)) → length (tree c (suc d) at ws) + 1 ≤ 2 * length ws
    by_test true e few first second = subst (λ t. length t + 1 ≤ 2 * length ws) (sym (tree_few c d at ws (leb-true (length ws) n e))) few
    by_test false e few first second =
        let many = leb-false (length ws) n e in
        let p = first many in
        let q = second many in
        let l = length-take-le n ws (omega arith) in
        let r = length-drop n ws in
        let both = length-append (tree c d (at + 1) (take n ws)) (tree c d (at + size_within d) (drop n ws)) in
        let whole = ap length (tree_many c d at ws many) in
        omega arith

empty_size : (c : Choice) (d at : ℕ) → length (tree c d at []) ≡ 1
empty_size c zero at = refl
empty_size c (suc d) at = ap length (tree_few c d at [] (omega arith)) ∙ empty_size c d at

pub trees_size : (c : Choice) (d at : ℕ) (ws : List Way) → length (tree c d at ws) ≤ 2 * length ws + 1
trees_size c d at [] = let e = empty_size c d at in omega arith
trees_size c d at (v ∷ vs) = let e = tree_size c d at (v ∷ vs) (omega arith) in omega arith

-- cases weigh more than the chunks of their tree
cases_size : (cases : List Case) → 2 * length cases ≤ cases_weight cases
cases_size [] = omega arith
cases_size (c ∷ cs) = let s = sum_by-cons (λ (x : Case). 144) c cs in let r = cases_size cs in omega arith

end_size : (padding at : ℕ) (c : Chunk) (end : Term) → length (chunks_by padding at c end) ≤ end_weight end
end_size padding at c Ret = omega arith
end_size padding at c (RetValue ty a) = omega arith
end_size padding at c (Br to) = omega arith
end_size padding at c (BrIf condition taken other) = omega arith
end_size padding at c (Switch ty a default cases) =
    let t = trees_size (record { ty = ty; value = a; default = default; padding = padding }) (length (ways ty cases)) (at + 1) (ways ty cases) in
    let l = ways_length ty cases in
    let s = cases_size cases in
    omega arith
end_size padding at c Unreachable = omega arith

pub chunks_size : (padding at : ℕ) (cs : List Chunk) → length (chunks_from padding at cs) ≤ sum_by block_weight (map block_of cs)
chunks_size padding at [] = omega arith
chunks_size padding at (c ∷ cs) =
    let own = chunks_for padding at c in
    let a = end_size padding at c c.end in
    let r = chunks_size padding (at + length own) cs in
    let s = sum_by-cons block_weight (block_of c) (map block_of cs) in
    let l = length-append own (chunks_from padding (at + length own) cs) in
    omega arith

-- no body of a light program has more chunks than words can number
pub body_short : (m : Module) (number : ℕ) (f : Function) (cs : List Chunk) (padding : ℕ) → slice_get m.functions number ≡ Some (with_blocks f (map block_of cs)) → weight m ≤ 2 ^ 32 → length (chunks_from padding 0 cs) < 2 ^ 64
body_short m number f cs padding at light =
    let s = sum_item function_weight m.functions number (with_blocks f (map block_of cs)) at in
    let c = chunks_size padding 0 cs in
    omega arith
