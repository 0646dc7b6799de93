-- What the parts of a typed module are: its functions, and their blocks.
use Rattle.std.proofs.Common.{◌≡◌, ℕ, true, Some}
use Rattle.std.specs.Prelude.{◌&&◌, slice_get}
use Rattle.std.specs.List.{list_all}
use Rattle.std.proofs.lemmas.Bool.{and_parts}
use Rattle.ir_core.specs.declared.module.Block.{Block}
use Rattle.ir_core.specs.declared.module.Function.{Function}
use Rattle.ir_core.specs.declared.module.Module.{Module}
use Rattle.ir_core.specs.Kinds.{kind_of}
use Rattle.ir_core.specs.Typing.{Env, is_result, inst_fits, term_fits}
use Rattle.ir_core.specs.Valid.{env_of, predecessors}
use Rattle.ir_sound.specs.Typed.{phis_typed, labels_known, block_typed, entry_typed, param_typed, function_typed, functions_typed}
use Rattle.ir_sound.proofs.RowLaws.{all_at}

-- the parts of a function
pub record FunctionParts (m : Module) (env : Env) (f : Function) : Type 0 where
  pub result : is_result f.ret ≡ true
  pub params : list_all (param_typed env) f.params ≡ true
  pub entry : entry_typed f.blocks ≡ true
  pub blocks : list_all (block_typed m env f) f.blocks ≡ true

-- of one that is typed
pub function_parts : (m : Module) (env : Env) (f : Function) → function_typed m env f ≡ true → FunctionParts m env f
function_parts m env f typed =
    let p = and_parts (is_result f.ret && list_all (param_typed env) f.params) (entry_typed f.blocks && list_all (block_typed m env f) f.blocks) typed in
    let front = and_parts (is_result f.ret) (list_all (param_typed env) f.params) p.0 in
    let back = and_parts (entry_typed f.blocks) (list_all (block_typed m env f) f.blocks) p.1 in
    record { result = front.0; params = front.1; entry = back.0; blocks = back.1 }

-- of the function of a number
pub function_at : (m : Module) (number : ℕ) (f : Function) → functions_typed m m.functions ≡ true → slice_get m.functions number ≡ Some f → FunctionParts m (env_of f) f
function_at m number f typed at = function_parts m (env_of f) f (all_at (λ g. function_typed m (env_of g) g) m.functions number f typed at)

-- the parts of a block
pub record BlockParts (m : Module) (env : Env) (f : Function) (b : Block) : Type 0 where
  pub insts : list_all (inst_fits m env) b.insts ≡ true
  pub end : term_fits m env (kind_of f.ret) b.end ≡ true
  pub phis : phis_typed (predecessors f.blocks b.label) b.insts ≡ true
  pub labels : labels_known f.blocks b ≡ true

-- of the block of a number
pub block_at : (m : Module) (env : Env) (f : Function) (number : ℕ) (b : Block) → list_all (block_typed m env f) f.blocks ≡ true → slice_get f.blocks number ≡ Some b → BlockParts m env f b
block_at m env f number b typed at =
    let one = list_all (inst_fits m env) b.insts && term_fits m env (kind_of f.ret) b.end in
    let two = phis_typed (predecessors f.blocks b.label) b.insts && labels_known f.blocks b in
    let p = and_parts one two (all_at (block_typed m env f) f.blocks number b typed at) in
    let front = and_parts (list_all (inst_fits m env) b.insts) (term_fits m env (kind_of f.ret) b.end) p.0 in
    let back = and_parts (phis_typed (predecessors f.blocks b.label) b.insts) (labels_known f.blocks b) p.1 in
    record { insts = front.0; end = front.1; phis = back.0; labels = back.1 }
