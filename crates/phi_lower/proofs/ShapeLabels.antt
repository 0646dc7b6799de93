-- No label of a function without phis stands twice.
use Rattle.std.proofs.Common.{◌≡◌, ℕ, Bool, true, false, List, [], ◌∷◌, ◌++◌, map, refl, ap, sym, ◌∙◌, subst}
use Rattle.std.specs.Prelude.{◌||◌}
use Rattle.std.specs.List.{flat_map}
use Rattle.std.proofs.lemmas.List.{map-append}
use Rattle.ir_core.specs.declared.module.Block.{Block}
use Rattle.ir_core.specs.declared.module.Function.{Function}
use Rattle.ir_core.specs.Built.{name_built}
use Rattle.ir_core.specs.Names.{same_name}
use Rattle.ir_core.specs.Definitions.{label_names, is_among, repeated}
use Rattle.ir_core.proofs.Distinct.{fresh_back, labels_differ}
use Rattle.ir_sound.specs.WellTyped.{Each}
use Rattle.ir_sound.proofs.RowLaws.{Each_more, Each_both}
use Rattle.ir_sound.proofs.SameLaws.{not_true, name_is, same_itself}
use Rattle.low_core.specs.declared.moves.Chunk.{Chunk}
use Rattle.low_core.specs.Plain.{block_of}
use Rattle.phi_lower.specs.Lowered.{PhiPart, edge_label, phis_to, chunk_to, chunks_to, chunks_of_block, targets_of}
use Rattle.ir_core.specs.Typing.{labels_of}
use Rattle.phi_lower.proofs.Turns.{lowered}
use Rattle.phi_lower.proofs.Finds.{any_append, apart_zero, zero_apart, edges_alike}
use Rattle.phi_lower.proofs.SumLaws.{Apart, names_apart, added_apart}
use Rattle.phi_lower.proofs.ShapeBuilt.{BlockIsBuilt, blocks_parts, IsFine}

-- neither of two
neither : (a b : Bool) → a ≡ false → b ≡ false → (a || b) ≡ false
neither false b e f = f
neither true b e f = not_true (sym e)

pub first_false : (a b : Bool) → (a || b) ≡ false → a ≡ false
first_false false b e = refl
first_false true b e = not_true (sym e)

pub second_false : (a b : Bool) → (a || b) ≡ false → b ≡ false
second_false false b e = e
second_false true b e = not_true (sym e)

-- names that stand once and aren't in front repeat none

pub apart_repeat : (before ns : List (List ℕ)) → Apart ns → Each (λ n. is_among before n ≡ false) ns → repeated before ns ≡ []
apart_repeat before [] apart new = refl
apart_repeat before (n ∷ ns) apart new = fresh_back before n ns (record { new = new.0; rest = apart_repeat (before ++ n ∷ []) ns apart.1 (behind ns apart.0 new.1) })
  where
    behind : (ks : List (List ℕ)) → is_among ks n ≡ false → Each (λ k. is_among before k ≡ false) ks → Each (λ k. is_among (before ++ n ∷ []) k ≡ false) ks
    behind [] e all = tt
    behind (k ∷ ks) e all = (
      any_append (same_name k) before (n ∷ []) ∙ neither (is_among before k) (same_name k n || false) all.0 (neither (same_name k n) false (other k (first_false (same_name n k) (is_among ks n) e)) refl),
      behind ks (second_false (same_name n k) (is_among ks n) e) all.1,
    )
      where
        other : (k : List ℕ) → same_name n k ≡ false → same_name k n ≡ false
        other k f = by_test (same_name k n) refl
          where
            by_test : (b : Bool) → same_name k n ≡ b → b ≡ false
            by_test false g = refl
            by_test true g = not_true (sym f ∙ ap (same_name n) (name_is k n g) ∙ same_itself n)

-- two rows of names that stand once
apart_both : (xs ys : List (List ℕ)) → Apart xs → Apart ys → Each (λ x. is_among ys x ≡ false) xs → Apart (xs ++ ys)
apart_both [] ys first second new = second
apart_both (x ∷ xs) ys first second new = (any_append (same_name x) xs ys ∙ neither (is_among xs x) (is_among ys x) first.0 new.0, apart_both xs ys first.1 second new.1)

abbrev labels_in : List Chunk → List (List ℕ)
labels_in cs = map (λ (c : Chunk). c.label) cs

labels_both : (xs ys : List Chunk) → labels_in (xs ++ ys) ≡ labels_in xs ++ labels_in ys
labels_both xs ys = map-append (λ (c : Chunk). c.label) xs ys

not_in : (name : List ℕ) (xs ys : List Chunk) → is_among (labels_in xs) name ≡ false → is_among (labels_in ys) name ≡ false → is_among (labels_in (xs ++ ys)) name ≡ false
not_in name xs ys e f = ap (λ l. is_among l name) (labels_both xs ys) ∙ any_append (same_name name) (labels_in xs) (labels_in ys) ∙ neither (is_among (labels_in xs) name) (is_among (labels_in ys) name) e f

module _ (blocks : List Block) where
  -- a name that isn't the label of an edge from a block isn't among those
  edges_not : (name from : List ℕ) (targets : List (List ℕ)) → Each (λ t. same_name name (edge_label from t) ≡ false) targets → is_among (labels_in (chunks_to blocks from targets)) name ≡ false
  edges_not name from [] each = refl
  edges_not name from (t ∷ ts) each = not_in name (chunk_to from t (phis_to blocks t)) (chunks_to blocks from ts) (one (phis_to blocks t)) (edges_not name from ts each.1)
    where
      one : (ps : List PhiPart) → is_among (labels_in (chunk_to from t ps)) name ≡ false
      one [] = refl
      one (p ∷ ps) = neither (same_name name (edge_label from t)) false each.0 refl

  all_targets : (P : List ℕ → Type 0) (targets : List (List ℕ)) → ((t : List ℕ) → P t) → Each P targets
  all_targets P [] go = tt
  all_targets P (t ∷ ts) go = (go t, all_targets P ts go)

  -- the label of a block isn't that of an edge
  built_not : (name from : List ℕ) (targets : List (List ℕ)) → name_built name ≡ true → is_among (labels_in (chunks_to blocks from targets)) name ≡ false
  built_not name from targets built = edges_not name from targets (all_targets (λ t. same_name name (edge_label from t) ≡ false) targets (λ t. zero_apart (from ++ 0 ∷ t) name built))

  -- nor is that of an edge from another block
  from_other : (from t from2 : List ℕ) (targets : List (List ℕ)) → name_built from ≡ true → name_built from2 ≡ true → same_name from from2 ≡ false → is_among (labels_in (chunks_to blocks from2 targets)) (edge_label from t) ≡ false
  from_other from t from2 targets built built2 differ = edges_not (edge_label from t) from2 targets (all_targets (λ u. same_name (edge_label from t) (edge_label from2 u) ≡ false) targets (λ u. by_test u (same_name (edge_label from t) (edge_label from2 u)) refl))
    where
      by_test : (u : List ℕ) (b : Bool) → same_name (edge_label from t) (edge_label from2 u) ≡ b → b ≡ false
      by_test u false e = refl
      by_test u true e = not_true (sym differ ∙ ap (same_name from) (sym (edges_alike from t from2 u built built2 e).0) ∙ same_itself from)

  -- nor that of an edge to another block
  to_other : (from t : List ℕ) (targets : List (List ℕ)) → name_built from ≡ true → is_among targets t ≡ false → Each (λ u. same_name (edge_label from t) (edge_label from u) ≡ false) targets
  to_other from t [] built new = tt
  to_other from t (u ∷ us) built new = (by_test (same_name (edge_label from t) (edge_label from u)) refl, to_other from t us built (second_false (same_name t u) (is_among us t) new))
    where
      by_test : (b : Bool) → same_name (edge_label from t) (edge_label from u) ≡ b → b ≡ false
      by_test false e = refl
      by_test true e = not_true (sym (first_false (same_name t u) (is_among us t) new) ∙ ap (same_name t) (sym (edges_alike from t from u built built e).1) ∙ same_itself t)

  -- edges from a block
  edges_apart : (from : List ℕ) (targets : List (List ℕ)) → name_built from ≡ true → Apart targets → Apart (labels_in (chunks_to blocks from targets))
  edges_apart from [] built apart = tt
  edges_apart from (t ∷ ts) built apart =
      subst Apart (sym (labels_both (chunk_to from t (phis_to blocks t)) (chunks_to blocks from ts)))
      (apart_both (labels_in (chunk_to from t (phis_to blocks t))) (labels_in (chunks_to blocks from ts)) (one (phis_to blocks t)) (edges_apart from ts built apart.1) (new (phis_to blocks t)))
    where
      one : (ps : List PhiPart) → Apart (labels_in (chunk_to from t ps))
      one [] = tt
      one (p ∷ ps) = (refl, tt)

      new : (ps : List PhiPart) → Each (λ x. is_among (labels_in (chunks_to blocks from ts)) x ≡ false) (labels_in (chunk_to from t ps))
      new [] = tt
      new (p ∷ ps) = (edges_not (edge_label from t) from ts (to_other from t ts built apart.0), tt)

  -- labels of blocks
  abbrev names : List Block → List (List ℕ)
  names bs = map (λ (b : Block). b.label) bs

  abbrev all_of : List Block → List Chunk
  all_of bs = flat_map (chunks_of_block blocks) bs

  label_not : (name : List ℕ) (bs : List Block) → name_built name ≡ true → is_among (names bs) name ≡ false → is_among (labels_in (all_of bs)) name ≡ false
  label_not name [] built new = refl
  label_not name (b ∷ bs) built new =
      neither (same_name name b.label) (is_among (labels_in (chunks_to blocks b.label (targets_of b.end) ++ all_of bs)) name) (first_false (same_name name b.label) (is_among (names bs) name) new)
      (not_in name (chunks_to blocks b.label (targets_of b.end)) (all_of bs) (built_not name b.label (targets_of b.end) built) (label_not name bs built (second_false (same_name name b.label) (is_among (names bs) name) new)))

  edge_not : (from t : List ℕ) (bs : List Block) → name_built from ≡ true → Each (λ (b : Block). name_built b.label ≡ true) bs → is_among (names bs) from ≡ false → is_among (labels_in (all_of bs)) (edge_label from t) ≡ false
  edge_not from t [] built all new = refl
  edge_not from t (b ∷ bs) built all new =
      neither (same_name (edge_label from t) b.label) (is_among (labels_in (chunks_to blocks b.label (targets_of b.end) ++ all_of bs)) (edge_label from t)) (apart_zero (from ++ 0 ∷ t) b.label all.0)
      (not_in (edge_label from t) (chunks_to blocks b.label (targets_of b.end)) (all_of bs)
      (from_other from t b.label (targets_of b.end) built all.0 (first_false (same_name from b.label) (is_among (names bs) from) new))
      (edge_not from t bs built all.1 (second_false (same_name from b.label) (is_among (names bs) from) new)))

  edges_new : (from : List ℕ) (targets : List (List ℕ)) (bs : List Block) → name_built from ≡ true → Each (λ (b : Block). name_built b.label ≡ true) bs → is_among (names bs) from ≡ false → Each (λ x. is_among (labels_in (all_of bs)) x ≡ false) (labels_in (chunks_to blocks from targets))
  edges_new from [] bs built all new = tt
  edges_new from (t ∷ ts) bs built all new =
      subst (Each (λ x. is_among (labels_in (all_of bs)) x ≡ false)) (sym (labels_both (chunk_to from t (phis_to blocks t)) (chunks_to blocks from ts)))
      (Each_both (λ x. is_among (labels_in (all_of bs)) x ≡ false) (labels_in (chunk_to from t (phis_to blocks t))) (labels_in (chunks_to blocks from ts)) (one (phis_to blocks t)) (edges_new from ts bs built all new))
    where
      one : (ps : List PhiPart) → Each (λ x. is_among (labels_in (all_of bs)) x ≡ false) (labels_in (chunk_to from t ps))
      one [] = tt
      one (p ∷ ps) = (edge_not from t bs built all new, tt)

  chunks_apart : (bs : List Block) → Each (λ (b : Block). name_built b.label ≡ true) bs → Apart (names bs) → Apart (labels_in (all_of bs))
  chunks_apart [] built apart = tt
  chunks_apart (b ∷ bs) built apart =
      let edges = chunks_to blocks b.label (targets_of b.end) in (
        not_in b.label edges (all_of bs) (built_not b.label b.label (targets_of b.end) built.0) (label_not b.label bs built.0 apart.0),
        subst Apart (sym (labels_both edges (all_of bs)))
            (apart_both (labels_in edges) (labels_in (all_of bs)) (edges_apart b.label (targets_of b.end) built.0 (added_apart (labels_of b.end) [] tt)) (chunks_apart bs built.1 apart.1) (edges_new b.label (targets_of b.end) bs built.0 built.1 apart.0)),
      )

labels_are : (cs : List Chunk) → map (λ (b : Block). b.label) (map block_of cs) ≡ labels_in cs
labels_are [] = refl
labels_are (c ∷ cs) = ap (λ ns. c.label ∷ ns) (labels_are cs)

none_before : (ns : List (List ℕ)) → Each (λ n. is_among [] n ≡ false) ns
none_before [] = tt
none_before (n ∷ ns) = (refl, none_before ns)

pub shaped_labels : (f : Function) → IsFine f → repeated [] (label_names (lowered f)) ≡ []
shaped_labels f fine =
    let cs = flat_map (chunks_of_block f.blocks) f.blocks in
    let built = Each_more BlockIsBuilt (λ (b : Block). name_built b.label ≡ true) f.blocks (λ b has. has.label) (blocks_parts f fine.built) in
    ap (repeated []) (labels_are cs) ∙ apart_repeat [] (labels_in cs) (chunks_apart f.blocks f.blocks built (names_apart [] (label_names f) (labels_differ f fine.single))) (none_before (labels_in cs))
