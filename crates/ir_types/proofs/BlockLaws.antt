-- The places of a block over a row are those over its predecessors.
use Rattle.std.proofs.Common.{◌≡◌, ℕ, List, [], ◌∷◌, ◌++◌, length, take, refl, ap, sym, ◌∙◌}
use Rattle.std.specs.Prelude.{◌&&◌}
use Rattle.std.specs.Option.{option_or}
use Rattle.std.specs.List.{flat_map, enumerate_from}
use Rattle.ir_core.specs.declared.limit.Spot.{Spot}
use Rattle.ir_core.specs.declared.instruction.Op.{Op}
use Rattle.ir_core.specs.declared.instruction.Op.TheVariants.{Phi}
use Rattle.ir_core.specs.declared.instruction.Inst.{Inst}
use Rattle.ir_core.specs.declared.module.Block.{Block}
use Rattle.ir_core.specs.declared.module.Function.{Function}
use Rattle.ir_core.specs.declared.module.Module.{Module}
use Rattle.ir_core.specs.Typing.{kind_given}
use Rattle.ir_core.specs.Valid.{env_of, op_rules, names_value, predecessors, entries_agree, phi_fits, alloca_fits, inst_fits, end_fits, unless, faults_in_block}
use Rattle.ir_types.specs.Spots.{HasSources, phi_placed, are_phis, inst_faults, insts_faults, first_spot}
use Rattle.ir_types.proofs.FirstLaws.{first-append}

-- what two functions give where they agree
flat_agree : {X A : Type 0} (f g : X → List A) (xs : List X) → ((x : X) → f x ≡ g x) → flat_map f xs ≡ flat_map g xs
flat_agree f g [] same = refl
flat_agree f g (x ∷ xs) same = ap (λ ys. ys ++ flat_map f xs) (same x) ∙ ap (λ ys. g x ++ ys) (flat_agree f g xs same)

-- a phi over a row
phi_same : (f : Function) (b : Block) (row : List (List ℕ)) → HasSources f b row → (before : List Inst) (op : Op) → phi_fits (predecessors f.blocks b.label) before op ≡ phi_placed row (are_phis before) op
phi_same f b row sources before (Phi ty entries) = ap (λ x. are_phis before && (x && entries_agree entries)) (sym (sources entries))
phi_same f b row sources before op = refl

-- so an instruction
inst_same : (m : Module) (f : Function) (function number : ℕ) (b : Block) (row : List (List ℕ)) → HasSources f b row → (p : ℕ × Inst) → unless (inst_fits m f number b (take p.0 b.insts) p.1) (Spot.Inst function number p.0) ≡ inst_faults m f row function number b.insts p
inst_same m f function number b row sources p =
    ap (λ x. unless ((op_rules m (env_of f) p.1.op && names_value p.1.result (kind_given p.1.op)) && (x && alloca_fits number p.1.op)) (Spot.Inst function number p.0)) (phi_same f b row sources (take p.0 b.insts) p.1.op)

-- the first place of a block: of its instructions, or else its terminator
pub block_first : (m : Module) (f : Function) (function number : ℕ) (b : Block) (row : List (List ℕ)) → HasSources f b row → option_or (first_spot (insts_faults m f row function number b.insts)) (first_spot (unless (end_fits m f b.end) (Spot.Inst function number (length b.insts)))) ≡ first_spot (faults_in_block m f function (number, b))
block_first m f function number b row sources =
    sym (ap (λ ys. first_spot (ys ++ unless (end_fits m f b.end) (Spot.Inst function number (length b.insts)))) (flat_agree (λ (p : ℕ × Inst). unless (inst_fits m f number b (take p.0 b.insts) p.1) (Spot.Inst function number p.0)) (inst_faults m f row function number b.insts) (enumerate_from 0 b.insts) (inst_same m f function number b row sources))
    ∙ first-append (insts_faults m f row function number b.insts) (unless (end_fits m f b.end) (Spot.Inst function number (length b.insts))))
