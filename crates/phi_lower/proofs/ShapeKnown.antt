-- Without its phis a module mentions nothing that it doesn't define.
use Rattle.std.proofs.Common.{◌≡◌, ℕ, suc, Bool, true, false, List, [], ◌∷◌, ◌++◌, map, Option, Some, None, refl, ap, sym, ◌∙◌}
use Rattle.std.specs.Prelude.{◌||◌, slice_get, if◌then◌else◌}
use Rattle.std.specs.List.{list_all, list_any, flat_map}
use Rattle.std.proofs.lemmas.Bool.{and_from}
use Rattle.std.proofs.lemmas.List.{map-append}
use Rattle.ir_core.specs.declared.ty.Ty.{Ty}
use Rattle.ir_core.specs.declared.instruction.Entry.{Entry}
use Rattle.ir_core.specs.declared.instruction.Inst.{Inst}
use Rattle.ir_core.specs.declared.instruction.Op.TheVariants.{Phi}
use Rattle.ir_core.specs.declared.module.Block.{Block}
use Rattle.ir_core.specs.declared.module.Function.{Function}
use Rattle.ir_core.specs.declared.module.Module.{Module}
use Rattle.ir_core.specs.Names.{same_name}
use Rattle.ir_core.specs.declared.kind.Kind.{Kind}
use Rattle.ir_core.specs.Built.{name_built}
use Rattle.ir_core.specs.Definitions.{local_mark, global_mark, result_names, extern_names, label_names, is_among}
use Rattle.ir_core.specs.Mentions.{Mention, OfType, OfLabel, OfLocal, OfCallee, OfBase, OfSymbol, of_function, outside_functions}
use Rattle.ir_core.specs.Typing.{kind_given, labels_of}
use Rattle.ir_core.specs.Valid.{LocalKind, param_kind, result_local, inst_local, kinds_in, results_of, locals_of}
use Rattle.ir_core.specs.Refusals.{IsValid, Inside, outside, inside, unless_among, unknown_in, unknown}
use Rattle.ir_core.proofs.NameSets.{same_name-sym}
use Rattle.ir_sound.specs.WellTyped.{Each}
use Rattle.ir_sound.proofs.NoFaults.{both_empty, each_empty, not_empty, unrefused}
use Rattle.ir_sound.proofs.RowLaws.{Each_more, Each_at, first_passes}
use Rattle.ir_sound.proofs.SameLaws.{not_true}
use Rattle.low_core.specs.declared.moves.Chunk.{Chunk}
use Rattle.low_core.specs.Plain.{block_of}
use Rattle.low_core.specs.Weights.{assigned}
use Rattle.phi_lower.specs.Lowered.{PhiPart, aside, edge_label, phis_to, chunks_to, chunks_of_block, targets_of}
use Rattle.phi_lower.proofs.Turns.{lowered, without_phis}
use Rattle.phi_lower.proofs.Finds.{any_append, or_left, or_right, among_targets, edge_found}
use Rattle.phi_lower.proofs.ShapeBase.{functions_named, symbols_same}
use Rattle.phi_lower.proofs.ShapeMentions.{rows_each, among_has, empty_each, function_says}
use Rattle.phi_lower.proofs.ShapeCounts.{aside_names}
use Rattle.phi_lower.proofs.ShapeBuilt.{BlockIsBuilt, blocks_parts, IsFine, functions_fine}
use Rattle.phi_lower.proofs.ShapeNames.{InstThere, blocks_there}

-- names are looked up in the same lists
unknown_same : (m : Module) (at : Inside) (x : Mention) → unknown_in (without_phis m) at x ≡ unknown_in m at x
unknown_same m at (OfType ty) = refl
unknown_same m at (OfLabel name) = refl
unknown_same m at (OfLocal name) = refl
unknown_same m at (OfCallee name) = ap (λ ns. unless_among (extern_names m ++ ns) name (global_mark name)) (functions_named m)
unknown_same m at (OfBase name) = refl
unknown_same m at (OfSymbol name) = ap (λ ns. unless_among ns name (global_mark name)) (symbols_same m)

-- a name that is missed nowhere is there, and back
there_of : (names : List (List ℕ)) (name marked : List ℕ) → unless_among names name marked ≡ [] → is_among names name ≡ true
there_of names name marked e = by_test (is_among names name) e
  where
    by_test : (b : Bool) → (if b then [] else marked ∷ []) ≡ [] → b ≡ true
    by_test true f = refl
    by_test false f = not_empty marked [] f

of_there : (names : List (List ℕ)) (name marked : List ℕ) → is_among names name ≡ true → unless_among names name marked ≡ []
of_there names name marked e = ap (λ b. if b then [] else marked ∷ []) e

-- parameters and results
result_named : (o : Option (List ℕ)) (k : Kind) → map (λ (l : LocalKind). l.name) (result_local o k) ≡ result_names o
result_named (Some name) k = refl
result_named None k = refl

insts_named : (is : List Inst) → map (λ (l : LocalKind). l.name) (kinds_in is) ≡ flat_map (λ (i : Inst). result_names i.result) is
insts_named [] = refl
insts_named (i ∷ is) =
    map-append (λ (l : LocalKind). l.name) (inst_local i) (kinds_in is) ∙ ap (λ ns. ns ++ map (λ (l : LocalKind). l.name) (kinds_in is)) (result_named i.result (kind_given i.op)) ∙ ap (λ ns. result_names i.result ++ ns) (insts_named is)

blocks_named : (bs : List Block) → map (λ (l : LocalKind). l.name) (results_of bs) ≡ flat_map (λ (b : Block). flat_map (λ (i : Inst). result_names i.result) b.insts) bs
blocks_named [] = refl
blocks_named (b ∷ bs) =
    map-append (λ (l : LocalKind). l.name) (kinds_in b.insts) (results_of bs) ∙ ap (λ ns. ns ++ map (λ (l : LocalKind). l.name) (results_of bs)) (insts_named b.insts) ∙ ap (λ ns. flat_map (λ (i : Inst). result_names i.result) b.insts ++ ns) (blocks_named bs)

pub locals_named : (f : Function) → map (λ (l : LocalKind). l.name) (locals_of f) ≡ map (λ (l : LocalKind). l.name) (map param_kind f.params) ++ assigned f
locals_named f = map-append (λ (l : LocalKind). l.name) (map param_kind f.params) (results_of f.blocks) ∙ ap (λ ns. map (λ (l : LocalKind). l.name) (map param_kind f.params) ++ ns) (blocks_named f.blocks)

-- what is assigned is a local
pub assigned_local : (f : Function) (name : List ℕ) → is_among (assigned f) name ≡ true → is_among (map (λ (l : LocalKind). l.name) (locals_of f)) name ≡ true
assigned_local f name e = ap (λ ns. is_among ns name) (locals_named f) ∙ any_append (same_name name) (map (λ (l : LocalKind). l.name) (map param_kind f.params)) (assigned f) ∙ or_right _ _ e

-- a local stays one
pub local_stays : (f : Function) → IsFine f → (name : List ℕ) → is_among (map (λ (l : LocalKind). l.name) (locals_of f)) name ≡ true → is_among (map (λ (l : LocalKind). l.name) (locals_of (lowered f))) name ≡ true
local_stays f fine name e =
    by_test (is_among (map (λ (l : LocalKind). l.name) (map param_kind f.params)) name) refl (sym (any_append (same_name name) (map (λ (l : LocalKind). l.name) (map param_kind f.params)) (assigned f)) ∙ sym (ap (λ ns. is_among ns name) (locals_named f)) ∙ e)
  where
    ends : Each (λ n. is_among (assigned (lowered f)) n ≡ true) (assigned f)
    ends =
        rows_each (λ n. is_among (assigned (lowered f)) n ≡ true) (λ (b : Block). flat_map (λ (i : Inst). result_names i.result) b.insts) f.blocks
        (Each_more (λ (b : Block). Each (InstThere f fine) b.insts) (λ (b : Block). Each (λ n. is_among (assigned (lowered f)) n ≡ true) (flat_map (λ (i : Inst). result_names i.result) b.insts)) f.blocks
        (λ b has. rows_each (λ n. is_among (assigned (lowered f)) n ≡ true) (λ (i : Inst). result_names i.result) b.insts (Each_more (InstThere f fine) (λ (i : Inst). Each (λ n. is_among (assigned (lowered f)) n ≡ true) (result_names i.result)) b.insts (λ i there. first_row (result_names i.result) (aside_names i.result i.op) there) has))
        (blocks_there f fine fine.phis))
      where
        first_row : (xs ys : List (List ℕ)) → Each (λ n. is_among (assigned (lowered f)) n ≡ true) (xs ++ ys) → Each (λ n. is_among (assigned (lowered f)) n ≡ true) xs
        first_row [] ys all = tt
        first_row (x ∷ xs) ys all = (all.0, first_row xs ys all.1)

    by_test : (b : Bool) → is_among (map (λ (l : LocalKind). l.name) (map param_kind f.params)) name ≡ b → (b || is_among (assigned f) name) ≡ true → is_among (map (λ (l : LocalKind). l.name) (locals_of (lowered f))) name ≡ true
    by_test true e2 g = ap (λ ns. is_among ns name) (locals_named (lowered f)) ∙ any_append (same_name name) (map (λ (l : LocalKind). l.name) (map param_kind f.params)) (assigned (lowered f)) ∙ or_left _ _ e2
    by_test false e2 g = assigned_local (lowered f) name (among_has (λ n. is_among (assigned (lowered f)) n ≡ true) (assigned f) name ends g)

-- labels
any_label : (cs : List Chunk) (name : List ℕ) → is_among (map (λ (b : Block). b.label) (map block_of cs)) name ≡ list_any (λ (c : Chunk). same_name c.label name) cs
any_label [] name = refl
any_label (c ∷ cs) name = ap (λ b. b || is_among (map (λ (x : Block). x.label) (map block_of cs)) name) (same_name-sym name c.label) ∙ ap (λ b. same_name c.label name || b) (any_label cs name)

label_kept : (blocks bs : List Block) (name : List ℕ) → is_among (map (λ (b : Block). b.label) bs) name ≡ true → list_any (λ (c : Chunk). same_name c.label name) (flat_map (chunks_of_block blocks) bs) ≡ true
label_kept blocks [] name e = not_true e
label_kept blocks (b ∷ bs) name e = by_test (same_name name b.label) refl e (label_kept blocks bs name)
  where
    by_test : (t : Bool) → same_name name b.label ≡ t → (t || is_among (map (λ (x : Block). x.label) bs) name) ≡ true → (is_among (map (λ (x : Block). x.label) bs) name ≡ true → list_any (λ (c : Chunk). same_name c.label name) (flat_map (chunks_of_block blocks) bs) ≡ true) → list_any (λ (c : Chunk). same_name c.label name) (flat_map (chunks_of_block blocks) (b ∷ bs)) ≡ true
    by_test true same g go = or_left _ _ (same_name-sym b.label name ∙ same)
    by_test false same g go = or_right _ _ (any_append (λ (c : Chunk). same_name c.label name) (chunks_to blocks b.label (targets_of b.end)) (flat_map (chunks_of_block blocks) bs) ∙ or_right _ _ (go g))

pub label_stays : (f : Function) (name : List ℕ) → is_among (label_names f) name ≡ true → is_among (label_names (lowered f)) name ≡ true
label_stays f name e = any_label (flat_map (chunks_of_block f.blocks) f.blocks) name ∙ label_kept f.blocks f.blocks name e

-- all labels that a text could say
labels_built : (bs : List Block) → Each BlockIsBuilt bs → list_all (λ (b : Block). name_built b.label) bs ≡ true
labels_built [] built = refl
labels_built (b ∷ bs) built = and_from _ _ built.0.label (labels_built bs built.1)

-- the label of an edge to phis
edge_there : (f : Function) → IsFine f → (k : ℕ) (b : Block) → slice_get f.blocks k ≡ Some b → (to : List ℕ) (p : PhiPart) (others : List PhiPart) → is_among (labels_of b.end) to ≡ true → phis_to f.blocks to ≡ p ∷ others → is_among (label_names (lowered f)) (edge_label b.label to) ≡ true
edge_there f fine k b at to p others leads phis =
    let built = blocks_parts f fine.built in
    let own = (Each_at BlockIsBuilt f.blocks k b built at).label in
    let chunks = flat_map (chunks_of_block f.blocks) f.blocks in
    let g = edge_found f.blocks b.label to own f.blocks k b p others (labels_built f.blocks built) at refl phis (among_targets (labels_of b.end) [] to leads) in
    any_label chunks (edge_label b.label to) ∙ first_passes (λ (c : Chunk). same_name c.label (edge_label b.label to)) chunks _ g

-- a function that mentions nothing unknown
function_known : (m : Module) (f : Function) → IsFine f → flat_map (unknown_in m (inside f)) (of_function f) ≡ [] → flat_map (unknown_in (without_phis m) (inside (lowered f))) (of_function (lowered f)) ≡ []
function_known m f fine none =
    empty_each (unknown_in (without_phis m) (inside (lowered f))) (of_function (lowered f))
    (function_says f (λ x. unknown_in m (inside f) x ≡ []) (λ x. unknown_in (without_phis m) (inside (lowered f)) x ≡ []) (InstThere f fine) (λ (b : Block). (k : ℕ) × (slice_get f.blocks k ≡ Some b)) more aside_said edge_said (each_empty (unknown_in m (inside f)) (of_function f) none) (together f.blocks (λ j c e. (j, e)) (blocks_there f fine fine.phis)))
  where
    more : (x : Mention) → unknown_in m (inside f) x ≡ [] → unknown_in (without_phis m) (inside (lowered f)) x ≡ []
    more (OfType ty) e = e
    more (OfLabel name) e = of_there (label_names (lowered f)) name (local_mark name) (label_stays f name (there_of (label_names f) name (local_mark name) e))
    more (OfLocal name) e = of_there (inside (lowered f)).locals name (local_mark name) (local_stays f fine name (there_of (inside f).locals name (local_mark name) e))
    more (OfCallee name) e = unknown_same m (inside (lowered f)) (OfCallee name) ∙ e
    more (OfBase name) e = e
    more (OfSymbol name) e = unknown_same m (inside (lowered f)) (OfSymbol name) ∙ e

    aside_said : (into : List ℕ) (ty : Ty) (entries : List Entry) → InstThere f fine (record { result = Some into; op = Phi ty entries }) → unknown_in (without_phis m) (inside (lowered f)) (OfLocal (aside into)) ≡ []
    aside_said into ty entries there = of_there (inside (lowered f)).locals (aside into) (local_mark (aside into)) (assigned_local (lowered f) (aside into) there.1.0)

    edge_said : (b : Block) (to : List ℕ) (p : PhiPart) (others : List PhiPart) → ((k : ℕ) × (slice_get f.blocks k ≡ Some b)) → is_among (labels_of b.end) to ≡ true → phis_to f.blocks to ≡ p ∷ others → unknown_in (without_phis m) (inside (lowered f)) (OfLabel (edge_label b.label to)) ≡ []
    edge_said b to p others at leads phis = of_there (label_names (lowered f)) (edge_label b.label to) (local_mark (edge_label b.label to)) (edge_there f fine at.0 b at.1 to p others leads phis)

    together : (cs : List Block) → ((j : ℕ) (c : Block) → slice_get cs j ≡ Some c → (i : ℕ) × (slice_get f.blocks i ≡ Some c)) → Each (λ (b : Block). Each (InstThere f fine) b.insts) cs → Each (λ (b : Block). Each (InstThere f fine) b.insts × ((k : ℕ) × (slice_get f.blocks k ≡ Some b))) cs
    together [] place there = tt
    together (c ∷ cs) place there = ((there.0, place 0 c refl), together cs (λ j d e. place (suc j) d e) there.1)

functions_known : (m : Module) (fs : List Function) → Each IsFine fs → flat_map (λ (f : Function). flat_map (unknown_in m (inside f)) (of_function f)) fs ≡ [] → flat_map (λ (f : Function). flat_map (unknown_in (without_phis m) (inside f)) (of_function f)) (map lowered fs) ≡ []
functions_known m [] fine none = refl
functions_known m (f ∷ fs) fine none =
    let row : Function → List (List ℕ) = λ (g : Function). flat_map (unknown_in m (inside g)) (of_function g) in
    let rows : Function → List (List ℕ) = λ (g : Function). flat_map (unknown_in (without_phis m) (inside g)) (of_function g) in
    let p = both_empty (row f) (flat_map row fs) none in
    ap (λ l. l ++ flat_map rows (map lowered fs)) (function_known m f fine.0 p.0) ∙ functions_known m fs fine.1 p.1

pub shaped_known : (m : Module) → IsValid m → unknown (without_phis m) ≡ []
shaped_known m valid =
    let w = without_phis m in
    let p = both_empty (flat_map (unknown_in m outside) (outside_functions m)) (flat_map (λ (f : Function). flat_map (unknown_in m (inside f)) (of_function f)) m.functions) (unrefused m valid.accepted).unknown in
    let outer = empty_each (unknown_in w outside) (outside_functions m) (Each_more (λ x. unknown_in m outside x ≡ []) (λ x. unknown_in w outside x ≡ []) (outside_functions m) (λ x e. unknown_same m outside x ∙ e) (each_empty (unknown_in m outside) (outside_functions m) p.0)) in
    ap (λ l. l ++ flat_map (λ (f : Function). flat_map (unknown_in w (inside f)) (of_function f)) (map lowered m.functions)) outer ∙ functions_known m m.functions (functions_fine m valid) p.1
