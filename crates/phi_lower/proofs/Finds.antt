-- Where the chunks of blocks and of edges stand in a function without phis.
use Rattle.std.proofs.Common.{◌≡◌, ℕ, zero, suc, Bool, true, false, List, [], ◌∷◌, ◌++◌, map, fold, Some, None, refl, ap, sym, ◌∙◌, subst, if◌then◌else◌}
use Rattle.std.specs.Prelude.{◌&&◌, ◌||◌, nat_eq, option_map, slice_get}
use Rattle.std.specs.List.{list_all, list_any, flat_map}
use Rattle.std.proofs.lemmas.Bool.{and_parts, eqb-true}
use Rattle.ir_core.specs.declared.module.Block.{Block}
use Rattle.ir_core.specs.declared.instruction.Term.TheVariants.{Br}
use Rattle.ir_core.specs.Names.{same_name, number_where, first_where}
use Rattle.ir_core.specs.Definitions.{is_among}
use Rattle.ir_core.specs.Built.{name_built, is_name_byte}
use Rattle.ir_core.proofs.NameSets.{same_name-sym}
use Rattle.ir_sound.specs.WellTyped.{Each}
use Rattle.ir_sound.proofs.SameLaws.{not_true, name_is, same_itself, some_is, none_is}
use Rattle.ir_sound.proofs.RowLaws.{found_any, first_passes, Each_both, Each_at}
use Rattle.low_core.specs.declared.moves.Chunk.{Chunk}
use Rattle.phi_lower.specs.Lowered.{PhiPart, edge_label, copies, phis_to, chunk_of_block, chunk_to, chunks_to, chunks_of_block, with_name, targets_of}
use Rattle.phi_lower.proofs.Same.{all_built}

-- a name of a text has no zero byte
pub nonzero : (n : ℕ) → is_name_byte n ≡ true → nat_eq 0 n ≡ false
nonzero n byte = by_test (nat_eq 0 n) refl
  where
    by_test : (b : Bool) → nat_eq 0 n ≡ b → b ≡ false
    by_test false e = refl
    by_test true e = not_true (ap is_name_byte (eqb-true 0 n e) ∙ byte)

-- the first byte of a name
first_byte : (n : ℕ) (ns : List ℕ) → name_built (n ∷ ns) ≡ true → is_name_byte n ≡ true
first_byte n ns built = (and_parts (is_name_byte n) (list_all is_name_byte ns) (all_built is_name_byte (n ∷ ns) built)).0

-- so it differs from a name with one in front
pub apart_zero : (rest name : List ℕ) → name_built name ≡ true → same_name (0 ∷ rest) name ≡ false
apart_zero rest [] built = not_true built
apart_zero rest (n ∷ ns) built = ap (λ b. b && same_name rest ns) (nonzero n (first_byte n ns built))

-- the other way around
pub zero_apart : (rest name : List ℕ) → name_built name ≡ true → same_name name (0 ∷ rest) ≡ false
zero_apart rest name built = same_name-sym name (0 ∷ rest) ∙ apart_zero rest name built

-- bytes of names in front of a zero, up to which two rows are the same
parts_alike : (a b x y : List ℕ) → list_all is_name_byte a ≡ true → list_all is_name_byte b ≡ true → same_name (a ++ 0 ∷ x) (b ++ 0 ∷ y) ≡ true → (a ≡ b) × (x ≡ y)
parts_alike [] [] x y p q e = (refl, name_is x y (and_parts (nat_eq 0 0) (same_name x y) e).1)
parts_alike [] (n ∷ b) x y p q e =
    let r = and_parts (is_name_byte n) (list_all is_name_byte b) q in
    not_true (sym (nonzero n r.0) ∙ (and_parts (nat_eq 0 n) (same_name x (b ++ 0 ∷ y)) e).0)
parts_alike (n ∷ a) [] x y p q e =
    let r = and_parts (is_name_byte n) (list_all is_name_byte a) p in
    let back = same_name-sym (n ∷ a ++ 0 ∷ x) (0 ∷ y) in
    not_true (sym (nonzero n r.0) ∙ (and_parts (nat_eq 0 n) (same_name y (a ++ 0 ∷ x)) (sym back ∙ e)).0)
parts_alike (n ∷ a) (k ∷ b) x y p q e =
    let t = and_parts (nat_eq n k) (same_name (a ++ 0 ∷ x) (b ++ 0 ∷ y)) e in
    let go = parts_alike a b x y (and_parts (is_name_byte n) (list_all is_name_byte a) p).1 (and_parts (is_name_byte k) (list_all is_name_byte b) q).1 t.1 in
    (ap (λ l. n ∷ l) go.0 ∙ ap (λ i. i ∷ b) (eqb-true n k t.0), go.1)

-- all bytes of a name
bytes_built : (name : List ℕ) → name_built name ≡ true → list_all is_name_byte name ≡ true
bytes_built [] built = refl
bytes_built (n ∷ ns) built = all_built is_name_byte (n ∷ ns) built

-- the label of an edge says which it is
pub edges_alike : (from to from2 to2 : List ℕ) → name_built from ≡ true → name_built from2 ≡ true → same_name (edge_label from to) (edge_label from2 to2) ≡ true → (from ≡ from2) × (to ≡ to2)
edges_alike from to from2 to2 built built2 e = parts_alike from from2 to to2 (bytes_built from built) (bytes_built from2 built2) (and_parts (nat_eq 0 0) (same_name (from ++ 0 ∷ to) (from2 ++ 0 ∷ to2)) e).1

-- the first that passes behind items that don't
skip : {X : Type 0} (test : X → Bool) (xs ys : List X) → list_any test xs ≡ false → first_where test (xs ++ ys) ≡ first_where test ys
skip test [] ys none = refl
skip test (x ∷ xs) ys none = by_test (test x) none (skip test xs ys)
  where
    by_test : (b : Bool) → (b || list_any test xs) ≡ false → (list_any test xs ≡ false → first_where test (xs ++ ys) ≡ first_where test ys) → (if b then Some x else first_where test (xs ++ ys)) ≡ first_where test ys
    by_test true e go = not_true (sym e)
    by_test false e go = go e

-- a test of two rows
pub any_append : {X : Type 0} (test : X → Bool) (xs ys : List X) → list_any test (xs ++ ys) ≡ (list_any test xs || list_any test ys)
any_append test [] ys = refl
any_append test (x ∷ xs) ys = by_test (test x) (any_append test xs ys)
  where
    by_test : (b : Bool) → list_any test (xs ++ ys) ≡ (list_any test xs || list_any test ys) → (b || list_any test (xs ++ ys)) ≡ ((b || list_any test xs) || list_any test ys)
    by_test true go = refl
    by_test false go = go

-- one of two
pub or_left : (a b : Bool) → a ≡ true → (a || b) ≡ true
or_left true b e = refl
or_left false b e = not_true e

pub or_right : (a b : Bool) → b ≡ true → (a || b) ≡ true
or_right true b e = refl
or_right false b e = e

-- the first among changed items
pub first_map : {A B : Type 0} (test : B → Bool) (f : A → B) (xs : List A) → first_where test (map f xs) ≡ option_map f (first_where (λ x. test (f x)) xs)
first_map test f [] = refl
first_map test f (x ∷ xs) = by_test (test (f x)) (first_map test f xs)
  where
    by_test : (b : Bool) → first_where test (map f xs) ≡ option_map f (first_where (λ y. test (f y)) xs) → (if b then Some (f x) else first_where test (map f xs)) ≡ option_map f (if b then Some x else first_where (λ y. test (f y)) xs)
    by_test true go = refl
    by_test false go = go

-- the number of the first that passes, and the item there
pub record Numbered {X : Type 0} (test : X → Bool) (xs : List X) (x : X) : Type 0 where
  pub number : ℕ
  pub numbered : number_where test xs ≡ Some number
  pub at_number : slice_get xs number ≡ Some x

pub numbered : {X : Type 0} (test : X → Bool) (xs : List X) (x : X) → first_where test xs ≡ Some x → Numbered test xs x
numbered test xs x first =
    let f = found_any test xs (first_passes test xs x first) in
    record { number = f.number; numbered = f.numbered; at_number = f.at_number ∙ ap Some (some_is f.item x (sym f.first ∙ first)) }

-- without a first one there is no number
pub none_numbered : {X : Type 0} (test : X → Bool) (xs : List X) → first_where test xs ≡ None → number_where test xs ≡ None
none_numbered test [] e = refl
none_numbered test (x ∷ xs) e = by_test (test x) e (none_numbered test xs)
  where
    by_test : (b : Bool) → (if b then Some x else first_where test xs) ≡ None → (first_where test xs ≡ None → number_where test xs ≡ None) → (if b then Some 0 else option_map (λ n. suc n) (number_where test xs)) ≡ None
    by_test true f go = none_is x (sym f)
    by_test false f go = ap (option_map (λ n. suc n)) (go f)

-- no edge has the label of a block
edge_apart : (from to label : List ℕ) (ps : List PhiPart) → name_built label ≡ true → list_any (λ (c : Chunk). same_name c.label label) (chunk_to from to ps) ≡ false
edge_apart from to label [] built = refl
edge_apart from to label (p ∷ ps) built = ap (λ b. b || false) (apart_zero (from ++ 0 ∷ to) label built)

edges_apart : (blocks : List Block) (from label : List ℕ) (targets : List (List ℕ)) → name_built label ≡ true → list_any (λ (c : Chunk). same_name c.label label) (chunks_to blocks from targets) ≡ false
edges_apart blocks from label [] built = refl
edges_apart blocks from label (to ∷ others) built =
    any_append (λ (c : Chunk). same_name c.label label) (chunk_to from to (phis_to blocks to)) (chunks_to blocks from others)
    ∙ ap (λ b. b || list_any (λ (c : Chunk). same_name c.label label) (chunks_to blocks from others)) (edge_apart from to label (phis_to blocks to) built) ∙ edges_apart blocks from label others built

-- a block is found where it was
pub block_found : (blocks bs : List Block) (label : List ℕ) → name_built label ≡ true → first_where (λ (c : Chunk). same_name c.label label) (flat_map (chunks_of_block blocks) bs) ≡ option_map (chunk_of_block blocks) (first_where (λ (b : Block). same_name b.label label) bs)
block_found blocks [] label built = refl
block_found blocks (b ∷ bs) label built = by_test (same_name b.label label) (block_found blocks bs label built)
  where
    by_test : (t : Bool) → first_where (λ (c : Chunk). same_name c.label label) (flat_map (chunks_of_block blocks) bs) ≡ option_map (chunk_of_block blocks) (first_where (λ (c : Block). same_name c.label label) bs) → (if t then Some (chunk_of_block blocks b) else first_where (λ (c : Chunk). same_name c.label label) (chunks_to blocks b.label (targets_of b.end) ++ flat_map (chunks_of_block blocks) bs)) ≡ option_map (chunk_of_block blocks) (if t then Some b else first_where (λ (c : Block). same_name c.label label) bs)
    by_test true go = refl
    by_test false go = skip (λ (c : Chunk). same_name c.label label) (chunks_to blocks b.label (targets_of b.end)) (flat_map (chunks_of_block blocks) bs) (edges_apart blocks b.label label (targets_of b.end) built) ∙ go

-- the chunk of an edge
abbrev pub edge_chunk : List ℕ → List ℕ → List PhiPart → Chunk
edge_chunk from to ps = record { label = edge_label from to; moves = copies from ps; end = Br to }

module _ (blocks : List Block) (from to : List ℕ) (from_built : name_built from ≡ true) where
  -- only the chunk of the edge has its label
  abbrev pub IsEdgeOrOther : Chunk → Type 0
  IsEdgeOrOther c = same_name c.label (edge_label from to) ≡ true → c ≡ edge_chunk from to (phis_to blocks to)

  edge_is : (from2 to2 : List ℕ) (ps : List PhiPart) → phis_to blocks to2 ≡ ps → name_built from2 ≡ true → Each IsEdgeOrOther (chunk_to from2 to2 ps)
  edge_is from2 to2 [] phis built = tt
  edge_is from2 to2 (p ∷ ps) phis built = (is, tt)
    where
      is : IsEdgeOrOther (edge_chunk from2 to2 (p ∷ ps))
      is same =
          let e = edges_alike from2 to2 from to built from_built same in
          ap (λ f. edge_chunk f to2 (p ∷ ps)) e.0 ∙ ap (λ t. edge_chunk from t (p ∷ ps)) e.1 ∙ ap (edge_chunk from to) (sym phis ∙ ap (phis_to blocks) e.1)

  edges_are : (from2 : List ℕ) (targets : List (List ℕ)) → name_built from2 ≡ true → Each IsEdgeOrOther (chunks_to blocks from2 targets)
  edges_are from2 [] built = tt
  edges_are from2 (t ∷ ts) built = Each_both IsEdgeOrOther (chunk_to from2 t (phis_to blocks t)) (chunks_to blocks from2 ts) (edge_is from2 t (phis_to blocks t) refl built) (edges_are from2 ts built)

  chunks_are : (bs : List Block) → list_all (λ (b : Block). name_built b.label) bs ≡ true → Each IsEdgeOrOther (flat_map (chunks_of_block blocks) bs)
  chunks_are [] built = tt
  chunks_are (b ∷ bs) built =
      let p = and_parts (name_built b.label) (list_all (λ (c : Block). name_built c.label) bs) built in (
        λ same. not_true (sym (zero_apart (from ++ 0 ∷ to) b.label p.0) ∙ same),
        Each_both IsEdgeOrOther (chunks_to blocks b.label (targets_of b.end)) (flat_map (chunks_of_block blocks) bs) (edges_are b.label (targets_of b.end) p.0) (chunks_are bs p.1),
      )

  -- the chunk of an edge to phis is there
  edge_there : (ps : List PhiPart) (p : PhiPart) (others : List PhiPart) → ps ≡ p ∷ others → list_any (λ (c : Chunk). same_name c.label (edge_label from to)) (chunk_to from to ps) ≡ true
  edge_there ps p others e = subst (λ l. list_any (λ (c : Chunk). same_name c.label (edge_label from to)) (chunk_to from to l) ≡ true) (sym e) (or_left (same_name (edge_label from to) (edge_label from to)) false (same_itself (edge_label from to)))

  edges_there : (targets : List (List ℕ)) (p : PhiPart) (others : List PhiPart) → phis_to blocks to ≡ p ∷ others → is_among targets to ≡ true → list_any (λ (c : Chunk). same_name c.label (edge_label from to)) (chunks_to blocks from targets) ≡ true
  edges_there [] p others phis among = not_true among
  edges_there (t ∷ ts) p others phis among = any_append (λ (c : Chunk). same_name c.label (edge_label from to)) (chunk_to from t (phis_to blocks t)) (chunks_to blocks from ts) ∙ by_test (same_name to t) refl among (edges_there ts p others phis)
    where
      by_test : (b : Bool) → same_name to t ≡ b → (b || is_among ts to) ≡ true → (is_among ts to ≡ true → list_any (λ (c : Chunk). same_name c.label (edge_label from to)) (chunks_to blocks from ts) ≡ true) → (list_any (λ (c : Chunk). same_name c.label (edge_label from to)) (chunk_to from t (phis_to blocks t)) || list_any (λ (c : Chunk). same_name c.label (edge_label from to)) (chunks_to blocks from ts)) ≡ true
      by_test true same e go = or_left _ _ (subst (λ u. list_any (λ (c : Chunk). same_name c.label (edge_label from to)) (chunk_to from u (phis_to blocks u)) ≡ true) (name_is to t same) (edge_there (phis_to blocks to) p others phis))
      by_test false same e go = or_right _ _ (go e)

  chunk_there : (bs : List Block) (k : ℕ) (b : Block) (p : PhiPart) (others : List PhiPart) → slice_get bs k ≡ Some b → b.label ≡ from → phis_to blocks to ≡ p ∷ others → is_among (targets_of b.end) to ≡ true → list_any (λ (c : Chunk). same_name c.label (edge_label from to)) (flat_map (chunks_of_block blocks) bs) ≡ true
  chunk_there [] k b p others at label phis among = none_is b at
  chunk_there (c ∷ bs) zero b p others at label phis among =
      let same = some_is c b at in
      let l : c.label ≡ from = ap (λ (x : Block). x.label) same ∙ label in
      let a : is_among (targets_of c.end) to ≡ true = ap (λ (x : Block). is_among (targets_of x.end) to) same ∙ among in
      let T : Chunk → Bool = λ (x : Chunk). same_name x.label (edge_label from to) in
      or_right _ _ (any_append T (chunks_to blocks c.label (targets_of c.end)) (flat_map (chunks_of_block blocks) bs)
      ∙ or_left _ _ (subst (λ f. list_any T (chunks_to blocks f (targets_of c.end)) ≡ true) (sym l) (edges_there (targets_of c.end) p others phis a)))
  chunk_there (c ∷ bs) (suc k) b p others at label phis among =
      let T : Chunk → Bool = λ (x : Chunk). same_name x.label (edge_label from to) in
      or_right _ _ (any_append T (chunks_to blocks c.label (targets_of c.end)) (flat_map (chunks_of_block blocks) bs)
      ∙ or_right _ _ (chunk_there bs k b p others at label phis among))

  -- the chunk of an edge is found
  pub edge_found : (bs : List Block) (k : ℕ) (b : Block) (p : PhiPart) (others : List PhiPart) → list_all (λ (c : Block). name_built c.label) bs ≡ true → slice_get bs k ≡ Some b → b.label ≡ from → phis_to blocks to ≡ p ∷ others → is_among (targets_of b.end) to ≡ true →
      first_where (λ (c : Chunk). same_name c.label (edge_label from to)) (flat_map (chunks_of_block blocks) bs) ≡ Some (edge_chunk from to (phis_to blocks to))
  edge_found bs k b p others built at label phis among =
      let chunks = flat_map (chunks_of_block blocks) bs in
      let f = found_any (λ (c : Chunk). same_name c.label (edge_label from to)) chunks (chunk_there bs k b p others at label phis among) in
      f.first ∙ ap Some (Each_at IsEdgeOrOther chunks f.number f.item (chunks_are bs built) f.at_number f.passes)

-- a name that is there stays
stays_among : (names : List (List ℕ)) (more to : List ℕ) → is_among names to ≡ true → is_among (with_name names more) to ≡ true
stays_among names more to e = by_test (is_among names more)
  where
    by_test : (b : Bool) → is_among (if b then names else names ++ more ∷ []) to ≡ true
    by_test true = e
    by_test false = any_append (same_name to) names (more ∷ []) ∙ or_left _ _ e

-- one that is added is there
added_among : (names : List (List ℕ)) (to : List ℕ) → is_among (with_name names to) to ≡ true
added_among names to = by_test (is_among names to) refl
  where
    by_test : (b : Bool) → is_among names to ≡ b → is_among (if b then names else names ++ to ∷ []) to ≡ true
    by_test true e = e
    by_test false e = any_append (same_name to) names (to ∷ []) ∙ or_right _ _ (or_left (same_name to to) false (same_itself to))

all_stay : (more names : List (List ℕ)) (to : List ℕ) → is_among names to ≡ true → is_among (fold with_name names more) to ≡ true
all_stay [] names to e = e
all_stay (n ∷ ns) names to e = all_stay ns (with_name names n) to (stays_among names n to e)

-- each label to which a block leads is a target
pub among_targets : (more names : List (List ℕ)) (to : List ℕ) → is_among more to ≡ true → is_among (fold with_name names more) to ≡ true
among_targets [] names to e = not_true e
among_targets (n ∷ ns) names to e = by_test (same_name to n) refl e (among_targets ns (with_name names n) to)
  where
    by_test : (b : Bool) → same_name to n ≡ b → (b || is_among ns to) ≡ true → (is_among ns to ≡ true → is_among (fold with_name (with_name names n) ns) to ≡ true) → is_among (fold with_name (with_name names n) ns) to ≡ true
    by_test true same f go = all_stay ns (with_name names n) to (subst (λ x. is_among (with_name names n) x ≡ true) (sym (name_is to n same)) (added_among names n))
    by_test false same f go = go f
