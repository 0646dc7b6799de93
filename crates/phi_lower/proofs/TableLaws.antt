-- What tables by labels find.
use Rattle.std.proofs.Common.{◌≡◌, ℕ, zero, suc, ◌+◌, List, [], ◌∷◌, ◌++◌, map, take, drop, arith, Option, Some, None, refl, ap, sym, ◌∙◌}
use Rattle.std.proofs.lemmas.List.{append-nil}
use Rattle.std.specs.Prelude.{slice_get, option_map, option_and_then}
use Rattle.ir_core.specs.declared.module.Block.{Block}
use Rattle.ir_core.specs.Names.{same_name, number_where}
use Rattle.ir_core.proofs.LookupLaws.{item_found}
use Rattle.ir_sound.proofs.SameLaws.{some_is, none_is}
use Rattle.phi_lower.specs.Lowered.{PhiPart, phis_of, phis_in, phis_to, phis_or_none, chunk_to, chunks_to}

-- the phis of the block at a place
phis_at : (blocks : List Block) (k : ℕ) → slice_get (map (λ (b : Block). phis_of b.insts) blocks) k ≡ option_map (λ (b : Block). phis_of b.insts) (slice_get blocks k)
phis_at [] k = refl
phis_at (b ∷ bs) zero = refl
phis_at (b ∷ bs) (suc k) = phis_at bs k

-- of a block, if there is one
phis_or : (o : Option Block) → phis_or_none (option_map (λ (b : Block). phis_of b.insts) o) ≡ phis_in o
phis_or (Some b) = refl
phis_or None = refl

-- of the block of a label, by its number
pub phis_found : (blocks : List Block) (labels : List (List ℕ)) (phis : List (List PhiPart)) (to : List ℕ) (o : Option ℕ) → labels ≡ map (λ (b : Block). b.label) blocks → phis ≡ map (λ (b : Block). phis_of b.insts) blocks → o ≡ number_where (λ n. same_name n to) labels → phis_or_none (option_and_then (slice_get phis) o) ≡ phis_to blocks to
phis_found blocks labels phis to o named are found =
    ap (λ ps. phis_or_none (option_and_then (slice_get ps) o)) are ∙ of_option o ∙ ap phis_in (item_found (λ (b : Block). b.label) blocks labels to o named found)
  where
    of_option : (o : Option ℕ) → phis_or_none (option_and_then (slice_get (map (λ (b : Block). phis_of b.insts) blocks)) o) ≡ phis_in (option_and_then (slice_get blocks) o)
    of_option None = refl
    of_option (Some k) = ap phis_or_none (phis_at blocks k) ∙ phis_or (slice_get blocks k)

-- the chunk of the edge to the label of a number
first_left : {X : Type 0} (k : ℕ) (xs : List X) (x : X) → slice_get xs k ≡ Some x → take 1 (drop k xs) ≡ x ∷ []
first_left k [] x e = none_is x e
first_left zero (y ∷ ys) x e = ap (λ z. z ∷ []) (some_is y x e)
first_left (suc k) (y ∷ ys) x e = first_left k ys x e

none_left : {X : Type 0} (k : ℕ) (xs : List X) → slice_get xs k ≡ None → take 1 (drop k xs) ≡ []
none_left zero [] e = refl
none_left (suc k) [] e = refl
none_left zero (y ∷ ys) e = none_is y (sym e)
none_left (suc k) (y ∷ ys) e = none_left k ys e

pub one_edge : (blocks : List Block) (from : List ℕ) (targets : List (List ℕ)) (k : ℕ) (t : List ℕ) → slice_get targets k ≡ Some t → chunk_to from t (phis_to blocks t) ≡ chunks_to blocks from (take 1 (drop k targets))
one_edge blocks from targets k t e = sym (ap (chunks_to blocks from) (first_left k targets t e) ∙ append-nil (chunk_to from t (phis_to blocks t)))

pub no_edge : (blocks : List Block) (from : List ℕ) (targets : List (List ℕ)) (k : ℕ) → slice_get targets k ≡ None → [] ≡ chunks_to blocks from (take 1 (drop k targets))
no_edge blocks from targets k e = sym (ap (chunks_to blocks from) (none_left k targets e))

-- the chunks of the edges to the labels from a number on
step_from : (blocks : List Block) (from : List ℕ) (k : ℕ) (targets : List (List ℕ)) → chunks_to blocks from (take 1 (drop k targets)) ++ chunks_to blocks from (drop (suc k) targets) ≡ chunks_to blocks from (drop k targets)
step_from blocks from zero [] = refl
step_from blocks from (suc k) [] = refl
step_from blocks from zero (t ∷ ts) = ap (λ cs. cs ++ chunks_to blocks from ts) (append-nil (chunk_to from t (phis_to blocks t)))
step_from blocks from (suc k) (t ∷ ts) = step_from blocks from k ts

pub edges_step : (blocks : List Block) (from : List ℕ) (k : ℕ) (targets : List (List ℕ)) → chunks_to blocks from (take 1 (drop k targets)) ++ chunks_to blocks from (drop (k + 1) targets) ≡ chunks_to blocks from (drop k targets)
edges_step blocks from k targets = let e : k + 1 ≡ suc k = omega arith in ap (λ n. chunks_to blocks from (take 1 (drop k targets)) ++ chunks_to blocks from (drop n targets)) e ∙ step_from blocks from k targets
