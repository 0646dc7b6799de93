-- What instructions of chunks name, and of what stands in their place: the same but for the variable of tests.
use Rattle.std.proofs.Common.{◌≡◌, ℕ, ◌+◌, Bool, true, List, [], ◌∷◌, ◌++◌, map, length, Option, Some, None, refl, ap, sym, ◌∙◌}
use Rattle.std.specs.Prelude.{not}
use Rattle.std.specs.List.{flat_map, filter}
use Rattle.std.proofs.lemmas.List.{map-append, append-nil}
use Rattle.ir_core.specs.declared.kind.Kind.{Kind}
use Rattle.ir_core.specs.declared.ty.Ty.{Ty}
use Rattle.ir_core.specs.declared.operand.Operand.{Operand}
use Rattle.ir_core.specs.declared.instruction.Inst.{Inst}
use Rattle.ir_core.specs.declared.instruction.Pred.{Pred}
use Rattle.ir_core.specs.declared.instruction.Term.{Term}
use Rattle.ir_core.specs.declared.instruction.Term.TheVariants.{Br, Switch}
use Rattle.ir_core.specs.declared.module.Block.{Block}
use Rattle.ir_core.specs.declared.module.Param.{Param}
use Rattle.ir_core.specs.declared.module.Function.{Function}
use Rattle.ir_core.specs.Names.{same_name}
use Rattle.ir_core.specs.Counts.{argument_counts, call_counts}
use Rattle.ir_core.specs.Definitions.{result_names}
use Rattle.ir_core.specs.Typing.{kind_given}
use Rattle.ir_core.specs.Valid.{LocalKind, param_kind, result_local, inst_local, kinds_in, results_of, locals_of}
use Rattle.ir_sound.specs.WellTyped.{Each}
use Rattle.ir_sound.proofs.RowLaws.{Each_more, each_mapped}
use Rattle.ir_sound.proofs.SameLaws.{same_itself}
use Rattle.low_core.specs.declared.moves.Body.{Body}
use Rattle.low_core.specs.declared.moves.Chunk.{Chunk}
use Rattle.low_core.specs.Plain.{block_of}
use Rattle.low_core.specs.Weights.{assigned}
use Rattle.switch_lower.specs.Ways.{ways}
use Rattle.switch_lower.specs.Fresh.{test_name, chunk_name, padding_for}
use Rattle.switch_lower.specs.Tree.{compare_chunk, read_chunk}
use Rattle.switch_lower.specs.Bodies.{with_end, chunks_by, chunks_for, chunks_from}
use Rattle.switch_lower.proofs.ShapeRows.{rows_both, rows_each, filter_both, filter_all, filter_none}
use Rattle.switch_lower.proofs.ShapeChunks.{choice, switch_tree, plain_tree}
use Rattle.switch_lower.proofs.ShapeFunctions.{low_function, lean_function}
use Rattle.switch_lower.proofs.ShapeFresh.{IsOld, HasOldNames, test_apart, params_old, blocks_old}

-- rows of chunks, of which new ones have nothing that is kept
module _ {X : Type 0} (padding : ℕ) (row : Block → List X) (keep : X → Bool)
    (compare : (ty : Ty) (a : Operand) (default : List ℕ) (at : ℕ) (pred : Pred) (number : ℕ) (taken other : List ℕ) → filter keep (row (block_of (compare_chunk (choice padding ty a default) at pred number taken other))) ≡ [])
    (read : (ty : Ty) (a : Operand) (default : List ℕ) (at : ℕ) → filter keep (row (block_of (read_chunk (choice padding ty a default) at))) ≡ [])
    (lead : (c : Chunk) (to : List ℕ) → row (block_of (with_end c (Br to))) ≡ row (block_of c)) where
  abbrev rows : List Chunk → List X
  rows cs = flat_map row (map block_of cs)

  rows_append : (xs ys : List Chunk) → rows (xs ++ ys) ≡ rows xs ++ rows ys
  rows_append xs ys = ap (flat_map row) (map-append block_of xs ys) ∙ rows_both row (map block_of xs) (map block_of ys)

  new_rows : (cs : List Chunk) → Each (λ (c : Chunk). filter keep (row (block_of c)) ≡ []) cs → filter keep (rows cs) ≡ []
  new_rows [] all = refl
  new_rows (c ∷ cs) all = filter_both keep (row (block_of c)) (rows cs) ∙ ap (λ l. l ++ filter keep (rows cs)) all.0 ∙ new_rows cs all.1

  one_row : (at : ℕ) (c : Chunk) (end : Term) → filter keep (row (block_of c)) ≡ row (block_of c) → filter keep (rows (chunks_by padding at c end)) ≡ row (block_of c)
  one_row at c (Switch ty a default cases) own =
      let first = with_end c (Br (chunk_name padding (at + 1))) in
      let new = switch_tree padding (at + 1) ty a default cases in
      filter_both keep (row (block_of first)) (rows new)
      ∙ ap (λ l. filter keep (row (block_of first)) ++ l) (new_rows new (plain_tree (λ (c : Chunk). filter keep (row (block_of c)) ≡ []) (choice padding ty a default) (compare ty a default) (read ty a default) (length (ways ty cases)) (at + 1) (ways ty cases)))
      ∙ append-nil (filter keep (row (block_of first))) ∙ ap (filter keep) (lead c (chunk_name padding (at + 1))) ∙ own
  one_row at c end own = filter_both keep (row (block_of c)) [] ∙ append-nil (filter keep (row (block_of c))) ∙ own

  pub rows_kept : (at : ℕ) (cs : List Chunk) → Each (λ (c : Chunk). filter keep (row (block_of c)) ≡ row (block_of c)) cs → filter keep (flat_map row (map block_of (chunks_from padding at cs))) ≡ flat_map row (map block_of cs)
  rows_kept at [] own = refl
  rows_kept at (c ∷ cs) own =
      let one = chunks_for padding at c in
      let others = chunks_from padding (at + length one) cs in
      ap (filter keep) (rows_append one others) ∙ filter_both keep (rows one) (rows others) ∙ ap (λ l. l ++ filter keep (rows others)) (one_row at c c.end own.0)
      ∙ ap (λ l. row (block_of c) ++ l) (rows_kept (at + length one) cs own.1)

-- names that aren't that of the variable of tests
abbrev pub is_other : ℕ → List ℕ → Bool
is_other padding name = not (same_name (test_name padding) name)

old_other : (padding : ℕ) (name : List ℕ) → IsOld padding name → is_other padding name ≡ true
old_other padding name old = ap not (test_apart padding name old)

-- chunks of a function have old names
pub chunks_old : (f : Function) (b : Body) → Each (λ (c : Chunk). HasOldNames (padding_for (low_function f b)) (block_of c)) b.chunks
chunks_old f b = each_mapped (HasOldNames (padding_for (low_function f b))) block_of b.chunks (blocks_old (low_function f b))

-- what is assigned
abbrev pub names_of_insts : List Inst → List (List ℕ)
names_of_insts insts = flat_map (λ (i : Inst). result_names i.result) insts

pub assigned_kept : (f : Function) (b : Body) → filter (is_other (padding_for (low_function f b))) (assigned (lean_function f b)) ≡ assigned (low_function f b)
assigned_kept f b =
    let padding = padding_for (low_function f b) in
    rows_kept padding (λ (x : Block). names_of_insts x.insts) (is_other padding)
    (λ ty a default at pred number taken other. filter_none (is_other padding) (test_name padding ∷ []) (ap not (same_itself (test_name padding)), tt)) (λ ty a default at. refl) (λ c to. refl) 0 b.chunks
    (Each_more (λ (c : Chunk). HasOldNames padding (block_of c)) (λ (c : Chunk). filter (is_other padding) (names_of_insts (block_of c).insts) ≡ names_of_insts (block_of c).insts) b.chunks
    (λ c old. filter_all (is_other padding) (names_of_insts (block_of c).insts) (rows_each (λ n. is_other padding n ≡ true) (λ (i : Inst). result_names i.result) (block_of c).insts (Each_more (λ (i : Inst). Each (IsOld padding) (result_names i.result)) (λ (i : Inst). Each (λ n. is_other padding n ≡ true) (result_names i.result)) (block_of c).insts (λ i all. Each_more (IsOld padding) (λ n. is_other padding n ≡ true) (result_names i.result) (old_other padding) all) old.results)))
    (chunks_old f b))

-- locals with their kinds
abbrev pub other_local : ℕ → LocalKind → Bool
other_local padding l = is_other padding l.name

local_other : (padding : ℕ) (o : Option (List ℕ)) (k : Kind) → Each (IsOld padding) (result_names o) → Each (λ (l : LocalKind). other_local padding l ≡ true) (result_local o k)
local_other padding (Some name) k old = (old_other padding name old.0, tt)
local_other padding None k old = tt

params_other : (padding : ℕ) (ps : List Param) → Each (IsOld padding) (map (λ (p : Param). p.name) ps) → Each (λ (l : LocalKind). other_local padding l ≡ true) (map param_kind ps)
params_other padding [] old = tt
params_other padding (p ∷ ps) old = (old_other padding p.name old.0, params_other padding ps old.1)

pub locals_kept : (f : Function) (b : Body) → filter (other_local (padding_for (low_function f b))) (locals_of (lean_function f b)) ≡ locals_of (low_function f b)
locals_kept f b =
    let padding = padding_for (low_function f b) in
    let keep = other_local padding in
    let front = map param_kind f.params in
    let results = rows_kept padding (λ (x : Block). kinds_in x.insts) keep
    (λ ty a default at pred number taken other. filter_none keep (result_local (Some (test_name padding)) _) (ap not (same_itself (test_name padding)), tt)) (λ ty a default at. refl) (λ c to. refl) 0 b.chunks
    (Each_more (λ (c : Chunk). HasOldNames padding (block_of c)) (λ (c : Chunk). filter keep (kinds_in (block_of c).insts) ≡ kinds_in (block_of c).insts) b.chunks
    (λ c old. filter_all keep (kinds_in (block_of c).insts) (rows_each (λ l. keep l ≡ true) inst_local (block_of c).insts (Each_more (λ (i : Inst). Each (IsOld padding) (result_names i.result)) (λ (i : Inst). Each (λ l. keep l ≡ true) (inst_local i)) (block_of c).insts (λ i all. local_other padding i.result (kind_given i.op) all) old.results)))
    (chunks_old f b)) in
    filter_both keep front (results_of (lean_function f b).blocks) ∙ ap (λ l. l ++ filter keep (results_of (lean_function f b).blocks)) (filter_all keep front (params_other padding f.params (params_old (low_function f b)))) ∙ ap (λ l. front ++ l) results

-- arguments of calls
all_kept : {X : Type 0} (xs : List X) → Each (λ (x : X). true ≡ true) xs
all_kept [] = tt
all_kept (x ∷ xs) = (refl, all_kept xs)

pub calls_kept : (f : Function) (b : Body) → call_counts (lean_function f b) ≡ call_counts (low_function f b)
calls_kept f b =
    let keep : ℕ → Bool = λ n. true in
    sym (filter_all keep (call_counts (lean_function f b)) (all_kept (call_counts (lean_function f b))))
    ∙ rows_kept (padding_for (low_function f b)) (λ (x : Block). flat_map (λ (i : Inst). argument_counts i.op) x.insts) keep (λ ty a default at pred number taken other. refl) (λ ty a default at. refl) (λ c to. refl) 0 b.chunks
    (own b.chunks)
  where
    own : (cs : List Chunk) → Each (λ (c : Chunk). filter (λ (n : ℕ). true) (flat_map (λ (i : Inst). argument_counts i.op) (block_of c).insts) ≡ flat_map (λ (i : Inst). argument_counts i.op) (block_of c).insts) cs
    own [] = tt
    own (c ∷ cs) = let row = flat_map (λ (i : Inst). argument_counts i.op) (block_of c).insts in (filter_all (λ (n : ℕ). true) row (all_kept row), own cs)
