-- Edges by the phis of blocks are those by their choices.
use Rattle.std.proofs.Common.{◌≡◌, ℕ, suc, List, [], ◌∷◌, length, map, Option, Some, None, refl, ap, sym, ◌∙◌}
use Rattle.std.specs.Prelude.{option_map, slice_get}
use Rattle.std.proofs.lemmas.Option.{slice_get-map}
use Rattle.ir_core.specs.declared.module.Block.{Block}
use Rattle.ir_core.specs.declared.module.Module.{Module}
use Rattle.ir_core.specs.Names.{same_name, number_where}
use Rattle.ir_core.specs.Step.{Choice, choices_of}
use Rattle.ir_core.proofs.LookupLaws.{number-names}
use Rattle.ir_program.specs.declared.exit.Edge.{Edge}
use Rattle.ir_program.specs.declared.exit.Move.{Move}
use Rattle.ir_program.specs.declared.phi.Phi.{Phi}
use Rattle.ir_program.specs.Exits.{move_of, no_edge, edge_with, edge_found, edge_at, edge_to}
use Rattle.ir_program.specs.Phis.{phi_of, phis_in, phi_move, phi_edge}
use Rattle.ir_program.proofs.PhiLaws.{same_move}

-- as many phis as choices
as_many : (m : Module) (names : List (List ℕ)) (cs : List Choice) → length (map (phi_of m names) cs) ≡ length cs
as_many m names [] = refl
as_many m names (c ∷ cs) = ap (λ n. suc n) (as_many m names cs)

-- which take the same
same_moves : (m : Module) (names : List (List ℕ)) (from : List ℕ) (cs : List Choice) → map (phi_move from) (map (phi_of m names) cs) ≡ map (move_of m names from) cs
same_moves m names from [] = refl
same_moves m names from (c ∷ cs) = by _ _ _ _ (same_move m names from c) (same_moves m names from cs)
  where
    by : (x y : Move) (xs ys : List Move) → x ≡ y → xs ≡ ys → x ∷ xs ≡ y ∷ ys
    by x y xs ys p q = cc

-- an edge by phis
edge_by : (m : Module) (names : List (List ℕ)) (from : List ℕ) (k : ℕ) (cs : List Choice) → phi_edge from k (map (phi_of m names) cs) ≡ edge_with m names from k cs
edge_by m names from k cs = by _ _ _ _ (as_many m names cs) (same_moves m names from cs)
  where
    by : (n o : ℕ) (ms ns : List Move) → n ≡ o → ms ≡ ns → let e : Edge = record { block = k; next = n; moves = ms } in let f : Edge = record { block = k; next = o; moves = ns } in e ≡ f
    by n o ms ns p q = cc

-- the row of a block
row_of : (m : Module) (names : List (List ℕ)) (from : List ℕ) (k : ℕ) (o : Option Block) (phis : List Phi) → option_map (phis_in m names) o ≡ Some phis → phi_edge from k phis ≡ edge_found m names from k o
row_of m names from k None phis e = absurd (cc)
row_of m names from k (Some b) phis e = let same : phis ≡ map (phi_of m names) (choices_of b.insts) = cc in ap (phi_edge from k) same ∙ edge_by m names from k (choices_of b.insts)

-- no row
row_past : (m : Module) (names : List (List ℕ)) (from : List ℕ) (k : ℕ) (o : Option Block) → option_map (phis_in m names) o ≡ None → no_edge ≡ edge_found m names from k o
row_past m names from k None e = refl
row_past m names from k (Some b) e = absurd (cc)

-- the number of a label
pub numbered : (m : Module) (names : List (List ℕ)) (from : List ℕ) (blocks : List Block) (label : List ℕ) (o : Option ℕ) → o ≡ number_where (λ n. same_name n label) (map (λ (b : Block). b.label) blocks) → edge_at m names from blocks o ≡ edge_to m names from blocks label
numbered m names from blocks label o e = ap (edge_at m names from blocks) (e ∙ sym (number-names (λ (b : Block). b.label) blocks label))

module _ (m : Module) (names : List (List ℕ)) (from : List ℕ) (blocks : List Block) (rows : List (List Phi)) (are : rows ≡ map (phis_in m names) blocks) (k : ℕ) where
  -- the phis of a block
  pub row_there : (phis : List Phi) → slice_get rows k ≡ Some phis → phi_edge from k phis ≡ edge_found m names from k (slice_get blocks k)
  row_there phis got = row_of m names from k (slice_get blocks k) phis (sym (slice_get-map (phis_in m names) blocks k) ∙ sym (ap (λ rs. slice_get rs k) are) ∙ got)

  -- those of none
  pub row_none : slice_get rows k ≡ None → no_edge ≡ edge_found m names from k (slice_get blocks k)
  row_none got = row_past m names from k (slice_get blocks k) (sym (slice_get-map (phis_in m names) blocks k) ∙ sym (ap (λ rs. slice_get rs k) are) ∙ got)
