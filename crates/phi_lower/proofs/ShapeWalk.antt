-- What all instructions and blocks of a function have, walked over its chunks.
use Rattle.std.proofs.Common.{◌≡◌, ℕ, Bool, true, false, List, [], ◌∷◌, ◌++◌, map, fold, length, Option, Some, None, refl, sym, subst}
use Rattle.std.specs.Prelude.{if◌then◌else◌}
use Rattle.std.specs.List.{flat_map}
use Rattle.std.proofs.lemmas.List.{map-append}
use Rattle.ir_core.specs.declared.ty.Ty.{Ty}
use Rattle.ir_core.specs.declared.operand.Operand.TheVariants.{Local as LocalName}
use Rattle.ir_core.specs.declared.instruction.Entry.{Entry}
use Rattle.ir_core.specs.declared.instruction.Inst.{Inst}
use Rattle.ir_core.specs.declared.instruction.Op.{Op}
use Rattle.ir_core.specs.declared.instruction.Op.TheVariants.{Freeze, Phi}
use Rattle.ir_core.specs.declared.module.Block.{Block}
use Rattle.ir_core.specs.declared.module.Function.{Function}
use Rattle.ir_core.specs.Names.{same_name, first_where}
use Rattle.ir_core.specs.Definitions.{is_among}
use Rattle.ir_core.specs.Typing.{labels_of}
use Rattle.ir_sound.specs.WellTyped.{Each}
use Rattle.ir_sound.proofs.RowLaws.{Each_both, Each_drop, Each_more, first_has}
use Rattle.ir_sound.proofs.SameLaws.{same_itself}
use Rattle.low_core.specs.declared.moves.Move.{Move}
use Rattle.low_core.specs.Plain.{inst_of, block_of}
use Rattle.phi_lower.specs.Lowered.{PhiPart, aside, phis_of, phis_with, phis_in, phis_to, block_of_label, put_of, put_aside, take_of, taken_up, last_first, copies, chunk_of_block, chunk_to, chunks_to, chunks_of_block, with_name, targets_of}
use Rattle.phi_lower.proofs.Turns.{lowered}
use Rattle.phi_lower.proofs.Finds.{edge_chunk, or_left, or_right}
use Rattle.phi_lower.proofs.EdgeLaws.{chunk_insts}

-- what is left of a list and what is put behind it
pub each_map_both : {A B : Type 0} (P : B → Type 0) (f : A → B) (xs ys : List A) → Each P (map f xs) → Each P (map f ys) → Each P (map f (xs ++ ys))
each_map_both P f xs ys first second = subst (Each P) (sym (map-append f xs ys)) (Each_both P (map f xs) (map f ys) first second)

-- what is said of what is kept, of what is put aside, and of what is taken up
abbrev pub Keeping : (Inst → Type 0) → (Inst → Type 0) → Type 0
Keeping F P = (i : Inst) → F i → P i

abbrev pub Putting : (Inst → Type 0) → (Inst → Type 0) → Type 0
Putting F P = (into : List ℕ) (ty : Ty) (entries : List Entry) (from : List ℕ) (e : Entry) → F (record { result = Some into; op = Phi ty entries }) → first_where (λ (x : Entry). same_name x.from from) entries ≡ Some e → P (record { result = Some (aside into); op = Freeze ty e.value })

abbrev pub Taking : (Inst → Type 0) → (Inst → Type 0) → Type 0
Taking F P = (into : List ℕ) (ty : Ty) (entries : List Entry) → F (record { result = Some into; op = Phi ty entries }) → P (record { result = Some into; op = Freeze ty (LocalName (aside into)) })

-- instructions
module _ (F P : Inst → Type 0) (keep : Keeping F P) (put : Putting F P) (take : Taking F P) where
  -- a phi
  abbrev pub PhiHas : PhiPart → Type 0
  PhiHas p = F (record { result = p.into; op = Phi p.ty p.entries })

  phi_with : (i : Inst) (op : Op) (is : List Inst) → i.op ≡ op → F i → Each PhiHas (phis_of is) → Each PhiHas (phis_with i.result op (phis_of is))
  phi_with i (Phi ty entries) is e own rest = (subst (λ (o : Op). F (record { result = i.result; op = o })) e own, rest)
  phi_with i op is e own rest = tt

  phis_have : (is : List Inst) → Each F is → Each PhiHas (phis_of is)
  phis_have [] all = tt
  phis_have (i ∷ is) all = phi_with i i.op is refl all.0 (phis_have is all.1)

  put_has : (from : List ℕ) (p : PhiPart) → PhiHas p → Each P (map inst_of (put_aside from p))
  put_has from p has = by_into p.into (first_where (λ (x : Entry). same_name x.from from) p.entries) refl has
    where
      by_into : (into : Option (List ℕ)) (o : Option Entry) → first_where (λ (x : Entry). same_name x.from from) p.entries ≡ o → F (record { result = into; op = Phi p.ty p.entries }) → Each P (map inst_of (put_of into p.ty o))
      by_into (Some into) (Some e) at h = (put into p.ty p.entries from e h at, tt)
      by_into (Some into) None at h = tt
      by_into None o at h = tt

  take_has : (p : PhiPart) → PhiHas p → Each P (map inst_of (taken_up p))
  take_has p has = by_into p.into has
    where
      by_into : (into : Option (List ℕ)) → F (record { result = into; op = Phi p.ty p.entries }) → Each P (map inst_of (take_of into p.ty))
      by_into (Some into) h = (take into p.ty p.entries h, tt)
      by_into None h = tt

  last_have : (moves : PhiPart → List Move) (ps : List PhiPart) → ((p : PhiPart) → PhiHas p → Each P (map inst_of (moves p))) → Each PhiHas ps → Each P (map inst_of (last_first moves ps))
  last_have moves [] one all = tt
  last_have moves (p ∷ ps) one all = each_map_both P inst_of (last_first moves ps) (moves p) (last_have moves ps one all.1) (one p all.0)

  pub copies_have : (from : List ℕ) (ps : List PhiPart) → Each PhiHas ps → Each P (map inst_of (copies from ps))
  copies_have from ps all = each_map_both P inst_of (last_first (put_aside from) ps) (last_first taken_up ps) (last_have (put_aside from) ps (put_has from) all) (last_have taken_up ps take_has all)

  -- the instructions of a block's chunk
  pub own_have : (blocks : List Block) (b : Block) → Each F b.insts → Each P (block_of (chunk_of_block blocks b)).insts
  own_have blocks b all = subst (Each P) (sym (chunk_insts blocks b)) (Each_drop P (length (phis_of b.insts)) b.insts (Each_more F P b.insts keep all))

  -- and of an edge's
  pub edge_have : (blocks : List Block) (from to : List ℕ) → Each (λ (b : Block). Each F b.insts) blocks → Each P (map inst_of (copies from (phis_to blocks to)))
  edge_have blocks from to all = copies_have from (phis_to blocks to) (of_block (block_of_label blocks to) refl)
    where
      of_block : (o : Option Block) → block_of_label blocks to ≡ o → Each PhiHas (phis_in o)
      of_block (Some b) e = phis_have b.insts (first_has (λ (x : Block). Each F x.insts) (λ (x : Block). same_name x.label to) blocks b all e)
      of_block None e = tt

-- each label is one of the labels
pub each_among : (labels ls : List (List ℕ)) → ((t : List ℕ) → is_among ls t ≡ true → is_among labels t ≡ true) → Each (λ t. is_among labels t ≡ true) ls
each_among labels [] are = tt
each_among labels (l ∷ ls) are = (are l (or_left (same_name l l) (is_among ls l) (same_itself l)), each_among labels ls (λ t e. are t (or_right (same_name t l) (is_among ls t) e)))

-- names that are added have what all have
each_added : (G : List ℕ → Type 0) (more names : List (List ℕ)) → Each G names → Each G more → Each G (fold with_name names more)
each_added G [] names own all = own
each_added G (n ∷ ns) names own all = each_added G ns (with_name names n) (by_test (is_among names n)) all.1
  where
    by_test : (b : Bool) → Each G (if b then names else names ++ n ∷ [])
    by_test true = own
    by_test false = Each_both G names (n ∷ []) own (all.0, tt)

-- blocks of edges to phis
module _ (blocks : List Block) (B Q : Block → Type 0)
    (edge : (b : Block) (to : List ℕ) (p : PhiPart) (others : List PhiPart) → B b → is_among (labels_of b.end) to ≡ true → phis_to blocks to ≡ p ∷ others → Q (block_of (edge_chunk b.label to (phis_to blocks to)))) where
  edge_has : (b : Block) (to : List ℕ) (ps : List PhiPart) → phis_to blocks to ≡ ps → B b → is_among (labels_of b.end) to ≡ true → Each Q (map block_of (chunk_to b.label to ps))
  edge_has b to [] e has leads = tt
  edge_has b to (p ∷ ps) e has leads = (subst (λ qs. Q (block_of (edge_chunk b.label to qs))) e (edge b to p ps has leads e), tt)

  edges_have : (b : Block) (targets : List (List ℕ)) → B b → Each (λ t. is_among (labels_of b.end) t ≡ true) targets → Each Q (map block_of (chunks_to blocks b.label targets))
  edges_have b [] has lead = tt
  edges_have b (t ∷ ts) has lead = each_map_both Q block_of (chunk_to b.label t (phis_to blocks t)) (chunks_to blocks b.label ts) (edge_has b t (phis_to blocks t) refl has lead.0) (edges_have b ts has lead.1)

  pub block_has : (b : Block) → B b → Each Q (map block_of (chunks_to blocks b.label (targets_of b.end)))
  block_has b has = edges_have b (targets_of b.end) has (each_added (λ t. is_among (labels_of b.end) t ≡ true) (labels_of b.end) [] tt (each_among (labels_of b.end) (labels_of b.end) (λ t e. e)))

  pub chunks_have : ((b : Block) → B b → Q (block_of (chunk_of_block blocks b))) → (bs : List Block) → Each B bs → Each Q (map block_of (flat_map (chunks_of_block blocks) bs))
  chunks_have own [] all = tt
  chunks_have own (b ∷ bs) all = (own b all.0, each_map_both Q block_of (chunks_to blocks b.label (targets_of b.end)) (flat_map (chunks_of_block blocks) bs) (block_has b all.0) (chunks_have own bs all.1))

-- the instructions of a function without phis
pub lowered_have : (F P : Inst → Type 0) → Keeping F P → Putting F P → Taking F P → (f : Function) → Each (λ (b : Block). Each F b.insts) f.blocks → Each (λ (b : Block). Each P b.insts) (lowered f).blocks
lowered_have F P keep put take f all =
    chunks_have f.blocks (λ (b : Block). Each F b.insts) (λ (b : Block). Each P b.insts) (λ b to p others has leads phis. edge_have F P keep put take f.blocks b.label to all) (own_have F P keep put take f.blocks) f.blocks all
