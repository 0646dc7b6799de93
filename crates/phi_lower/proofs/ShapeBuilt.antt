-- The parts of functions of a valid module: built, and with locals and labels that don't repeat.
use Rattle.std.proofs.Common.{◌≡◌, true, List, [], ◌∷◌, refl}
use Rattle.std.specs.Prelude.{◌&&◌}
use Rattle.std.specs.List.{list_all}
use Rattle.std.proofs.lemmas.Bool.{and_parts}
use Rattle.ir_core.specs.declared.instruction.Inst.{Inst}
use Rattle.ir_core.specs.declared.module.Block.{Block}
use Rattle.ir_core.specs.declared.module.Function.{Function}
use Rattle.ir_core.specs.declared.module.Module.{Module}
use Rattle.ir_core.specs.Built.{name_built, inst_built, end_built, block_built, blocks_built, function_built, param_built, result_built, built_all, named_built, global_built, extern_built}
use Rattle.ir_core.specs.Definitions.{repeated, local_names}
use Rattle.ir_core.specs.Kinds.{kind_of}
use Rattle.ir_core.specs.Typing.{inst_fits, term_fits}
use Rattle.ir_core.specs.Valid.{env_of, predecessors}
use Rattle.ir_core.specs.Refusals.{IsValid}
use Rattle.ir_core.proofs.Distinct.{LocalsDiffer, locals_of_functions}
use Rattle.ir_sound.specs.WellTyped.{Each}
use Rattle.ir_sound.specs.Typed.{phis_typed, labels_known, block_typed, function_typed}
use Rattle.ir_sound.proofs.NoFaults.{unrefused}
use Rattle.ir_sound.proofs.Parts.{function_parts}
use Rattle.ir_sound.proofs.ValidTyped.{valid_typed}
use Rattle.ir_sound.proofs.RowLaws.{Each_from, Each_more}
use Rattle.phi_lower.proofs.Same.{all_built}

-- a block
pub record BlockIsBuilt (b : Block) : Type 0 where
  pub label : name_built b.label ≡ true
  pub insts : Each (λ (i : Inst). inst_built i ≡ true) b.insts
  pub end : end_built b.end ≡ true

block_parts : (b : Block) → block_built b ≡ true → BlockIsBuilt b
block_parts b built =
    let p = and_parts (name_built b.label) (built_all inst_built b.insts && end_built b.end) built in
    let q = and_parts (built_all inst_built b.insts) (end_built b.end) p.1 in
    record { label = p.0; insts = Each_from inst_built b.insts (all_built inst_built b.insts q.0); end = q.1 }

-- the blocks of a built function
pub blocks_parts : (f : Function) → function_built f ≡ true → Each BlockIsBuilt f.blocks
blocks_parts f built =
    let p = and_parts (name_built f.name && result_built f.ret) (built_all param_built f.params && blocks_built f.blocks) built in
    Each_more (λ (b : Block). block_built b ≡ true) BlockIsBuilt f.blocks block_parts (Each_from block_built f.blocks (of_blocks f.blocks (and_parts (built_all param_built f.params) (blocks_built f.blocks) p.1).1))
  where
    of_blocks : (bs : List Block) → blocks_built bs ≡ true → list_all block_built bs ≡ true
    of_blocks [] e = refl
    of_blocks (b ∷ bs) e = all_built block_built (b ∷ bs) e

-- a function of a valid module
pub record IsFine (f : Function) : Type 0 where
  pub built : function_built f ≡ true
  pub single : repeated [] (local_names f) ≡ []
  pub phis : Each (λ (b : Block). phis_typed (predecessors f.blocks b.label) b.insts ≡ true) f.blocks

phis_are : (m : Module) (f : Function) → function_typed m (env_of f) f ≡ true → Each (λ (b : Block). phis_typed (predecessors f.blocks b.label) b.insts ≡ true) f.blocks
phis_are m f typed =
    let env = env_of f in
    Each_more (λ (b : Block). block_typed m env f b ≡ true) (λ (b : Block). phis_typed (predecessors f.blocks b.label) b.insts ≡ true) f.blocks one (Each_from (block_typed m env f) f.blocks (function_parts m env f typed).blocks)
  where
    one : (b : Block) → block_typed m (env_of f) f b ≡ true → phis_typed (predecessors f.blocks b.label) b.insts ≡ true
    one b e =
        let p = and_parts (list_all (inst_fits m (env_of f)) b.insts && term_fits m (env_of f) (kind_of f.ret) b.end) (phis_typed (predecessors f.blocks b.label) b.insts && labels_known f.blocks b) e in
        (and_parts (phis_typed (predecessors f.blocks b.label) b.insts) (labels_known f.blocks b) p.1).0

-- each of them
pub functions_fine : (m : Module) → IsValid m → Each IsFine m.functions
functions_fine m valid =
    let p = and_parts (built_all named_built m.types && built_all global_built m.globals) (built_all extern_built m.externs && built_all function_built m.functions) valid.built in
    let q = and_parts (built_all extern_built m.externs) (built_all function_built m.functions) p.1 in
    let typed = Each_from (λ (f : Function). function_typed m (env_of f) f) m.functions (valid_typed m valid).functions in
    together m.functions (Each_from function_built m.functions (all_built function_built m.functions q.1)) (locals_of_functions m (unrefused m valid.accepted).doubled) typed
  where
    together : (fs : List Function) → Each (λ (f : Function). function_built f ≡ true) fs → LocalsDiffer fs → Each (λ (f : Function). function_typed m (env_of f) f ≡ true) fs → Each IsFine fs
    together [] built single typed = tt
    together (f ∷ fs) built single typed = (record { built = built.0; single = single.0; phis = phis_are m f typed.0 }, together fs built.1 single.1 typed.1)
