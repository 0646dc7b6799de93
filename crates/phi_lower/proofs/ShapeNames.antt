-- The locals of a function without phis: those of the function, and one beside the result of each phi.
use Rattle.std.proofs.Common.{◌≡◌, ℕ, zero, suc, Bool, true, false, List, [], ◌∷◌, ◌++◌, map, length, drop, Option, Some, None, refl, ap, sym, ◌∙◌, subst}
use Rattle.std.specs.Prelude.{◌||◌, not, slice_get, if◌then◌else◌}
use Rattle.std.specs.List.{list_all, list_any, flat_map, filter}
use Rattle.std.proofs.lemmas.Bool.{and_parts}
use Rattle.std.proofs.lemmas.List.{map-append, append_assoc}
use Rattle.ir_core.specs.declared.ty.Ty.{Ty}
use Rattle.ir_core.specs.declared.instruction.Entry.{Entry}
use Rattle.ir_core.specs.declared.instruction.Inst.{Inst}
use Rattle.ir_core.specs.declared.instruction.Op.{Op}
use Rattle.ir_core.specs.declared.instruction.Op.TheVariants.{Phi}
use Rattle.ir_core.specs.declared.module.Block.{Block}
use Rattle.ir_core.specs.declared.module.Function.{Function}
use Rattle.ir_core.specs.Names.{same_name, first_where}
use Rattle.ir_core.specs.Built.{op_built, inst_built, result_named, type_built}
use Rattle.ir_core.specs.Definitions.{result_names, label_names, is_among}
use Rattle.ir_core.specs.Typing.{labels_of}
use Rattle.ir_core.specs.Valid.{leads_to, predecessors, entries_fit, is_phi}
use Rattle.ir_core.proofs.Distinct.{labels_differ}
use Rattle.ir_core.proofs.NameSets.{same_name-sym}
use Rattle.ir_sound.specs.WellTyped.{Each}
use Rattle.ir_sound.specs.Typed.{no_phi, phi_typed, phis_typed}
use Rattle.ir_sound.proofs.RowLaws.{Each_rows, found_any}
use Rattle.ir_sound.proofs.SameLaws.{not_true, name_is, same_itself, some_is, none_is}
use Rattle.low_core.specs.declared.moves.Move.{Move}
use Rattle.low_core.specs.Plain.{inst_of, block_of}
use Rattle.low_core.specs.Weights.{assigned}
use Rattle.phi_lower.specs.Lowered.{PhiPart, aside, phis_of, phis_with, phis_in, phis_to, block_of_label, behind_phis, put_of, put_aside, take_of, taken_up, last_first, copies, chunk_of_block, chunk_to, chunks_to, chunks_of_block, targets_of}
use Rattle.phi_lower.proofs.Turns.{lowered}
use Rattle.phi_lower.proofs.Finds.{any_append, or_left, or_right, among_targets}
use Rattle.phi_lower.proofs.EdgeLaws.{chunk_insts}
use Rattle.phi_lower.proofs.SumLaws.{Apart, names_apart}
use Rattle.phi_lower.proofs.ShapeWalk.{each_among}
use Rattle.phi_lower.proofs.ShapeCounts.{aside_names, both_names}
use Rattle.phi_lower.proofs.ShapeBuilt.{BlockIsBuilt, blocks_parts, IsFine}

-- rows one behind the other
rows_both : {A B : Type 0} (row : A → List B) (xs ys : List A) → flat_map row (xs ++ ys) ≡ flat_map row xs ++ flat_map row ys
rows_both row [] ys = refl
rows_both row (x ∷ xs) ys = ap (λ l. row x ++ l) (rows_both row xs ys) ∙ sym (append_assoc (row x) (flat_map row xs) (flat_map row ys))

-- rows of changed rows
rows_rows : {A B C D : Type 0} (row : C → List D) (f : B → C) (inner : A → List B) (xs : List A) → flat_map row (map f (flat_map inner xs)) ≡ flat_map (λ x. flat_map row (map f (inner x))) xs
rows_rows row f inner [] = refl
rows_rows row f inner (x ∷ xs) =
    ap (flat_map row) (map-append f (inner x) (flat_map inner xs)) ∙ rows_both row (map f (inner x)) (map f (flat_map inner xs)) ∙ ap (λ l. flat_map row (map f (inner x)) ++ l) (rows_rows row f inner xs)

-- a name of a row
in_both : (name : List ℕ) (xs ys : List (List ℕ)) → (is_among xs name || is_among ys name) ≡ true → is_among (xs ++ ys) name ≡ true
in_both name xs ys e = any_append (same_name name) xs ys ∙ e

in_row : {X : Type 0} (row : X → List (List ℕ)) (name : List ℕ) (xs : List X) (k : ℕ) (x : X) → slice_get xs k ≡ Some x → is_among (row x) name ≡ true → is_among (flat_map row xs) name ≡ true
in_row row name [] k x at e = none_is x at
in_row row name (y ∷ ys) zero x at e = in_both name (row y) (flat_map row ys) (or_left _ _ (ap (λ z. is_among (row z) name) (some_is y x at) ∙ e))
in_row row name (y ∷ ys) (suc k) x at e = in_both name (row y) (flat_map row ys) (or_right _ _ (in_row row name ys k x at e))

in_named : (row : List ℕ → List (List ℕ)) (name t : List ℕ) (ts : List (List ℕ)) → is_among ts t ≡ true → is_among (row t) name ≡ true → is_among (flat_map row ts) name ≡ true
in_named row name t [] there e = not_true there
in_named row name t (u ∷ us) there e = by_test (same_name t u) refl there (λ f. in_named row name t us f e)
  where
    by_test : (b : Bool) → same_name t u ≡ b → (b || is_among us t) ≡ true → (is_among us t ≡ true → is_among (flat_map row us) name ≡ true) → is_among (flat_map row (u ∷ us)) name ≡ true
    by_test true same f go = in_both name (row u) (flat_map row us) (or_left _ _ (ap (λ v. is_among (row v) name) (sym (name_is t u same)) ∙ e))
    by_test false same f go = in_both name (row u) (flat_map row us) (or_right _ _ (go f))

abbrev result_row : Inst → List (List ℕ)
result_row i = result_names i.result

abbrev pub insts_names : List Inst → List (List ℕ)
insts_names is = flat_map result_row is

abbrev moves_names : List Move → List (List ℕ)
moves_names ms = insts_names (map inst_of ms)

moves_both : (name : List ℕ) (xs ys : List Move) → (is_among (moves_names xs) name || is_among (moves_names ys) name) ≡ true → is_among (moves_names (xs ++ ys)) name ≡ true
moves_both name xs ys e = ap (λ l. is_among (insts_names l) name) (map-append inst_of xs ys) ∙ ap (λ l. is_among l name) (rows_both result_row (map inst_of xs) (map inst_of ys)) ∙ in_both name (moves_names xs) (moves_names ys) e

in_last : (name : List ℕ) (moves : PhiPart → List Move) (ps : List PhiPart) (j : ℕ) (p : PhiPart) → slice_get ps j ≡ Some p → is_among (moves_names (moves p)) name ≡ true → is_among (moves_names (last_first moves ps)) name ≡ true
in_last name moves [] j p at e = none_is p at
in_last name moves (q ∷ qs) zero p at e = moves_both name (last_first moves qs) (moves q) (or_right _ _ (ap (λ r. is_among (moves_names (moves r)) name) (some_is q p at) ∙ e))
in_last name moves (q ∷ qs) (suc j) p at e = moves_both name (last_first moves qs) (moves q) (or_left _ _ (in_last name moves qs j p at e))

-- what is assigned in the chunk of a block, and in that of an edge
module _ (f : Function) where
  abbrev block_row : Block → List (List ℕ)
  block_row b = insts_names b.insts

  assigned_is : assigned (lowered f) ≡ flat_map (λ b. flat_map block_row (map block_of (chunks_of_block f.blocks b))) f.blocks
  assigned_is = rows_rows block_row block_of (chunks_of_block f.blocks) f.blocks

  in_chunk : (name : List ℕ) (k : ℕ) (b : Block) → slice_get f.blocks k ≡ Some b → is_among (insts_names (behind_phis b.insts)) name ≡ true → is_among (assigned (lowered f)) name ≡ true
  in_chunk name k b at e =
      let rest = flat_map block_row (map block_of (chunks_to f.blocks b.label (targets_of b.end))) in
      ap (λ l. is_among l name) assigned_is
      ∙ in_row (λ (c : Block). flat_map block_row (map block_of (chunks_of_block f.blocks c))) name f.blocks k b at (in_both name (block_row (block_of (chunk_of_block f.blocks b))) rest (or_left _ _ (ap (λ is. is_among (insts_names is) name) (chunk_insts f.blocks b) ∙ e)))

  in_edge : (name : List ℕ) (k : ℕ) (b : Block) (to : List ℕ) (p : PhiPart) (others : List PhiPart) → slice_get f.blocks k ≡ Some b → is_among (targets_of b.end) to ≡ true → phis_to f.blocks to ≡ p ∷ others → is_among (moves_names (copies b.label (p ∷ others))) name ≡ true → is_among (assigned (lowered f)) name ≡ true
  in_edge name k b to p others at there phis e =
      let row : List ℕ → List (List ℕ) = λ t. flat_map block_row (map block_of (chunk_to b.label t (phis_to f.blocks t))) in
      let one : is_among (row to) name ≡ true = ap (λ ps. is_among (flat_map block_row (map block_of (chunk_to b.label to ps))) name) phis ∙ in_both name (moves_names (copies b.label (p ∷ others))) [] (or_left _ _ e) in
      let edges : is_among (flat_map block_row (map block_of (chunks_to f.blocks b.label (targets_of b.end)))) name ≡ true =
      ap (λ l. is_among l name) (rows_rows block_row block_of (λ t. chunk_to b.label t (phis_to f.blocks t)) (targets_of b.end)) ∙ in_named row name to (targets_of b.end) there one in
      ap (λ l. is_among l name) assigned_is
      ∙ in_row (λ (c : Block). flat_map block_row (map block_of (chunks_of_block f.blocks c))) name f.blocks k b at (in_both name (block_row (block_of (chunk_of_block f.blocks b))) (flat_map block_row (map block_of (chunks_to f.blocks b.label (targets_of b.end)))) (or_right _ _ edges))

-- a block is the first of its label
pub first_label : (bs : List Block) (k : ℕ) (c : Block) → Apart (map (λ (b : Block). b.label) bs) → slice_get bs k ≡ Some c → block_of_label bs c.label ≡ Some c
first_label [] k c apart at = none_is c at
first_label (b ∷ bs) zero c apart at =
    let same = some_is b c at in
    ap (λ t. if t then Some b else block_of_label bs c.label) (ap (λ (x : Block). same_name x.label c.label) same ∙ same_itself c.label) ∙ ap Some same
first_label (b ∷ bs) (suc k) c apart at = by_test (same_name b.label c.label) refl (first_label bs k c apart.1 at)
  where
    among_at : (cs : List Block) (j : ℕ) → slice_get cs j ≡ Some c → is_among (map (λ (x : Block). x.label) cs) c.label ≡ true
    among_at [] j e = none_is c e
    among_at (x ∷ xs) zero e = or_left _ _ (ap (λ (y : Block). same_name c.label y.label) (some_is x c e) ∙ same_itself c.label)
    among_at (x ∷ xs) (suc j) e = or_right _ _ (among_at xs j e)

    by_test : (t : Bool) → same_name b.label c.label ≡ t → block_of_label bs c.label ≡ Some c → (if t then Some b else block_of_label bs c.label) ≡ Some c
    by_test true same go = not_true (sym apart.0 ∙ ap (is_among (map (λ (x : Block). x.label) bs)) (name_is b.label c.label same) ∙ among_at bs k at)
    by_test false same go = go

-- a block that leads to a label, of the name of a predecessor
record Leader (bs : List Block) (label name : List ℕ) : Type 0 where
  pub number : ℕ
  pub block : Block
  pub at : slice_get bs number ≡ Some block
  pub named : block.label ≡ name
  pub leads : leads_to label block ≡ true

leader : (bs : List Block) (label name : List ℕ) → is_among (predecessors bs label) name ≡ true → Leader bs label name
leader [] label name e = not_true e
leader (b ∷ bs) label name e = by_test (leads_to label b) refl e (leader bs label name)
  where
    later : Leader bs label name → Leader (b ∷ bs) label name
    later l = record { number = suc l.number; block = l.block; at = l.at; named = l.named; leads = l.leads }

    by_name : (t : Bool) → leads_to label b ≡ true → same_name name b.label ≡ t → (t || is_among (predecessors bs label) name) ≡ true → (is_among (predecessors bs label) name ≡ true → Leader bs label name) → Leader (b ∷ bs) label name
    by_name true l same g go = record { number = 0; block = b; at = refl; named = sym (name_is name b.label same); leads = l }
    by_name false l same g go = later (go g)

    by_test : (t : Bool) → leads_to label b ≡ t → is_among (map (λ (p : Block). p.label) (if t then b ∷ filter (leads_to label) bs else filter (leads_to label) bs)) name ≡ true → (is_among (predecessors bs label) name ≡ true → Leader bs label name) → Leader (b ∷ bs) label name
    by_test true l g go = by_name (same_name name b.label) l refl g go
    by_test false l g go = later (go g)

any_back : (names : List (List ℕ)) (t : List ℕ) → list_any (λ to. same_name to t) names ≡ is_among names t
any_back [] t = refl
any_back (n ∷ ns) t = ap (λ b. b || list_any (λ to. same_name to t) ns) (same_name-sym n t) ∙ ap (λ b. same_name t n || b) (any_back ns t)

-- an entry of a phi, for a predecessor
record HasLeader (bs : List Block) (label : List ℕ) (entries : List Entry) : Type 0 where
  pub leader : (name : List ℕ) × (Leader bs label name)
  pub entry : (e : Entry) × (first_where (λ (x : Entry). same_name x.from leader.0) entries ≡ Some e)

has_leader : (bs : List Block) (label : List ℕ) (ty : Ty) (entries : List Entry) → op_built (Phi ty entries) ≡ true → entries_fit (predecessors bs label) entries ≡ true → HasLeader bs label entries
has_leader bs label ty [] built fits = not_true (and_parts (type_built ty) false built).1
has_leader bs label ty (e ∷ es) built fits =
    let all = (and_parts (list_all (λ (l : List ℕ). list_any (λ (x : Entry). same_name x.from l) (e ∷ es)) (predecessors bs label)) (list_all (λ (x : Entry). is_among (predecessors bs label) x.from) (e ∷ es)) fits).1 in
    let one = (and_parts (is_among (predecessors bs label) e.from) (list_all (λ (x : Entry). is_among (predecessors bs label) x.from) es) all).0 in
    let g = found_any (λ (x : Entry). same_name x.from e.from) (e ∷ es) (or_left _ _ (same_itself e.from)) in
    record { leader = (e.from, leader bs label e.from one); entry = (g.item, g.first) }

-- what is assigned by both names of a phi
put_named : (from into : List ℕ) (ty : Ty) (entries : List Entry) (e : Entry) → first_where (λ (x : Entry). same_name x.from from) entries ≡ Some e → is_among (moves_names (put_aside from (record { into = Some into; ty = ty; entries = entries }))) (aside into) ≡ true
put_named from into ty entries e at = ap (λ o. is_among (moves_names (put_of (Some into) ty o)) (aside into)) at ∙ or_left _ _ (same_itself (aside into))

module _ (f : Function) (fine : IsFine f) where
  abbrev Assigned : List ℕ → Type 0
  Assigned name = is_among (assigned (lowered f)) name ≡ true

  abbrev pub PhiThere : PhiPart → Type 0
  PhiThere p = Each Assigned (result_names p.into ++ aside_names p.into (Phi p.ty p.entries))

  -- a phi of a block
  phi_there : (k : ℕ) (c : Block) → slice_get f.blocks k ≡ Some c → (j : ℕ) (p : PhiPart) (first : PhiPart) (others : List PhiPart) → phis_of c.insts ≡ first ∷ others → slice_get (first ∷ others) j ≡ Some p → op_built (Phi p.ty p.entries) ≡ true → entries_fit (predecessors f.blocks c.label) p.entries ≡ true → PhiThere p
  phi_there k c at j p first others phis at_phi built fits = by_into p.into refl
    where
      h : HasLeader f.blocks c.label p.entries
      h = has_leader f.blocks c.label p.ty p.entries built fits

      l : Leader f.blocks c.label h.leader.0
      l = h.leader.1

      found : phis_to f.blocks c.label ≡ first ∷ others
      found = ap phis_in (first_label f.blocks k c (names_apart [] (label_names f) (labels_differ f fine.single)) at) ∙ phis

      there : is_among (targets_of l.block.end) c.label ≡ true
      there = among_targets (labels_of l.block.end) [] c.label (sym (any_back (labels_of l.block.end) c.label) ∙ l.leads)

      entry : first_where (λ (x : Entry). same_name x.from l.block.label) p.entries ≡ Some h.entry.0
      entry = ap (λ n. first_where (λ (x : Entry). same_name x.from n) p.entries) l.named ∙ h.entry.1

      edge : (name : List ℕ) → (is_among (moves_names (last_first (put_aside l.block.label) (first ∷ others))) name || is_among (moves_names (last_first taken_up (first ∷ others))) name) ≡ true → Assigned name
      edge name e = in_edge f name l.number l.block c.label first others l.at there found (moves_both name (last_first (put_aside l.block.label) (first ∷ others)) (last_first taken_up (first ∷ others)) e)

      by_into : (into : Option (List ℕ)) → p.into ≡ into → Each Assigned (result_names into ++ aside_names into (Phi p.ty p.entries))
      by_into (Some into) e = (
        edge into (or_right _ _ (in_last into taken_up (first ∷ others) j p at_phi (ap (λ o. is_among (moves_names (take_of o p.ty)) into) e ∙ or_left _ _ (same_itself into)))),
        (
          edge (aside into) (or_left _ _ (in_last (aside into) (put_aside l.block.label) (first ∷ others) j p at_phi
              (ap (λ o. is_among (moves_names (put_of o p.ty (first_where (λ (x : Entry). same_name x.from l.block.label) p.entries))) (aside into)) e ∙ put_named l.block.label into p.ty p.entries h.entry.0 entry))),
          tt,
        ),
      )
      by_into None e = tt

  -- phis of a block that is built and typed
  abbrev PhiFits : Block → PhiPart → Type 0
  PhiFits c p = (op_built (Phi p.ty p.entries) ≡ true) × (entries_fit (predecessors f.blocks c.label) p.entries ≡ true)

  fits_with : (c : Block) (i : Inst) (op : Op) (is : List Inst) → i.op ≡ op → inst_built i ≡ true → phis_typed (predecessors f.blocks c.label) (i ∷ is) ≡ true → (phis_typed (predecessors f.blocks c.label) is ≡ true → Each (PhiFits c) (phis_of is)) → Each (PhiFits c) (phis_with i.result op (phis_of is))
  fits_with c i (Phi ty entries) is e built typed go =
      let from = predecessors f.blocks c.label in
      let one = and_parts (phi_typed from i.op) (if is_phi i.op then phis_typed from is else no_phi is) typed in
      ((ap op_built (sym e) ∙ (and_parts (op_built i.op) (result_named i.op i.result) built).0, ap (phi_typed from) (sym e) ∙ one.0), go (ap (λ o. if is_phi o then phis_typed from is else no_phi is) (sym e) ∙ one.1))
  fits_with c i op is e built typed go = tt

  phis_fit : (c : Block) (is : List Inst) → Each (λ (i : Inst). inst_built i ≡ true) is → phis_typed (predecessors f.blocks c.label) is ≡ true → Each (PhiFits c) (phis_of is)
  phis_fit c [] built typed = tt
  phis_fit c (i ∷ is) built typed = fits_with c i i.op is refl built.0 typed (λ t. phis_fit c is built.1 t)

  each_there : (k : ℕ) (c : Block) → slice_get f.blocks k ≡ Some c → (ps : List PhiPart) → phis_of c.insts ≡ ps → Each (PhiFits c) ps → Each PhiThere ps
  each_there k c at [] phis fits = tt
  each_there k c at (p ∷ ps) phis fits = rows (p ∷ ps) (λ j q e. (j, e)) fits
    where
      rows : (qs : List PhiPart) → ((j : ℕ) (q : PhiPart) → slice_get qs j ≡ Some q → (i : ℕ) × (slice_get (p ∷ ps) i ≡ Some q)) → Each (PhiFits c) qs → Each PhiThere qs
      rows [] place fits = tt
      rows (q ∷ qs) place fits = let at_q = place 0 q refl in (phi_there k c at at_q.0 q p ps phis at_q.1 fits.0.0 fits.0.1, rows qs (λ j r e. place (suc j) r e) fits.1)

  -- all instructions of a block
  abbrev pub InstThere : Inst → Type 0
  InstThere i = Each Assigned (both_names i)

  no_aside : (into : Option (List ℕ)) (op : Op) → not (is_phi op) ≡ true → Each Assigned (result_names into) → Each Assigned (result_names into ++ aside_names into op)
  no_aside into (Phi ty entries) e all = not_true e
  no_aside (Some into) op e all = (all.0, tt)
  no_aside None op e all = tt

  plain_there : (is : List Inst) → no_phi is ≡ true → Each (λ (i : Inst). Each Assigned (result_row i)) is → Each InstThere is
  plain_there [] none all = tt
  plain_there (i ∷ is) none all = let p = and_parts (not (is_phi i.op)) (no_phi is) none in (no_aside i.result i.op p.0 all.0, plain_there is p.1 all.1)

  whole_with : (from : List (List ℕ)) (i : Inst) (op : Op) (is : List Inst) → i.op ≡ op → phis_typed from (i ∷ is) ≡ true
      → (phis_typed from is ≡ true → Each PhiThere (phis_of is) → Each (λ (j : Inst). Each Assigned (result_row j)) (behind_phis is) → Each InstThere is)
      → Each PhiThere (phis_with i.result op (phis_of is)) → Each (λ (j : Inst). Each Assigned (result_row j)) (drop (length (phis_with i.result op (phis_of is))) (i ∷ is)) → Each InstThere (i ∷ is)
  whole_with from i (Phi ty entries) is e typed go phis others =
      let one = and_parts (phi_typed from i.op) (if is_phi i.op then phis_typed from is else no_phi is) typed in
      (subst (λ o. Each Assigned (result_names i.result ++ aside_names i.result o)) (sym e) phis.0, go (ap (λ o. if is_phi o then phis_typed from is else no_phi is) (sym e) ∙ one.1) phis.1 others)
  whole_with from i op is e typed go phis others =
      let one = and_parts (phi_typed from i.op) (if is_phi i.op then phis_typed from is else no_phi is) typed in
      (subst (λ o. Each Assigned (result_names i.result ++ aside_names i.result o)) (sym e) (no_aside i.result op refl others.0), plain_there is (ap (λ o. if is_phi o then phis_typed from is else no_phi is) (sym e) ∙ one.1) others.1)

  whole : (from : List (List ℕ)) (is : List Inst) → phis_typed from is ≡ true → Each PhiThere (phis_of is) → Each (λ (j : Inst). Each Assigned (result_row j)) (behind_phis is) → Each InstThere is
  whole from [] typed phis others = tt
  whole from (i ∷ is) typed phis others = whole_with from i i.op is refl typed (λ t p o. whole from is t p o) phis others

  behind_there : (k : ℕ) (c : Block) → slice_get f.blocks k ≡ Some c → Each (λ (j : Inst). Each Assigned (result_row j)) (behind_phis c.insts)
  behind_there k c at = Each_rows Assigned result_row (behind_phis c.insts) (names_there (insts_names (behind_phis c.insts)) (λ t e. in_chunk f t k c at e))
    where
      names_there : (ns : List (List ℕ)) → ((t : List ℕ) → is_among ns t ≡ true → Assigned t) → Each Assigned ns
      names_there ns are = each_among (assigned (lowered f)) ns are

  -- all that a function assigns, and what stands beside its phis, is assigned without them
  pub blocks_there : Each (λ (c : Block). phis_typed (predecessors f.blocks c.label) c.insts ≡ true) f.blocks → Each (λ (c : Block). Each InstThere c.insts) f.blocks
  blocks_there typed = rows f.blocks (λ j c e. (j, e)) typed (blocks_parts f fine.built)
    where
      rows : (cs : List Block) → ((j : ℕ) (c : Block) → slice_get cs j ≡ Some c → (i : ℕ) × (slice_get f.blocks i ≡ Some c)) → Each (λ (c : Block). phis_typed (predecessors f.blocks c.label) c.insts ≡ true) cs → Each BlockIsBuilt cs → Each (λ (c : Block). Each InstThere c.insts) cs
      rows [] place typed built = tt
      rows (c ∷ cs) place typed built =
          let at = place 0 c refl in
          (whole (predecessors f.blocks c.label) c.insts typed.0 (each_there at.0 c at.1 (phis_of c.insts) refl (phis_fit c c.insts built.0.insts typed.0)) (behind_there at.0 c at.1), rows cs (λ j d e. place (suc j) d e) typed.1 built.1)
