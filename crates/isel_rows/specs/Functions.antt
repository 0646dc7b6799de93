-- Functions on numbered registers.
use Rattle.std.specs.Prelude.{ℕ, zero, suc, ◌+◌, List, [], ◌∷◌, ◌++◌, length}
use Rattle.std.specs.List.{sum_by}
use Rattle.ir_core.specs.declared.instruction.Inst.{Inst}
use Rattle.ir_core.specs.declared.module.Block.{Block}
use Rattle.ir_core.specs.declared.module.Function.{Function}
use Rattle.ir_core.specs.declared.module.Module.{Module}
use Rattle.ir_core.specs.declared.ty.NamedTy.{NamedTy}
use Rattle.ir_core.specs.Counts.{alloca_bytes}
use Rattle.ir_core.specs.Definitions.{label_names}
use Rattle.ir_core.specs.Valid.{LocalKind}
use Rattle.low_core.specs.declared.sel.SelOp.{SelOp}
use Rattle.low_core.specs.declared.sel.SelBlock.{SelBlock}
use Rattle.low_core.specs.declared.sel.SelFun.{SelFun}
use Rattle.low_core.specs.Weights.{allocas_room}
use Rattle.isel_rows.specs.Variables.{variables_of, registers_count}
use Rattle.isel_rows.specs.Rows.{ops_of, closing_of}

-- the bytes of the allocas among instructions, each in steps of sixteen
abbrev pub allocas_in : List NamedTy → List Inst → ℕ
allocas_in types insts = sum_by (λ (i : Inst). alloca_bytes types i.op) insts

-- instructions one after another, behind so many bytes of allocas
abbrev pub insts_ops : Module → List LocalKind → ℕ → List Inst → List SelOp
insts_ops m vs at [] = []
insts_ops m vs at (i ∷ is) = ops_of m vs at i.result i.op ++ insts_ops m vs (at + alloca_bytes m.types i.op) is

-- a block
abbrev pub block_selected : Module → List LocalKind → List (List ℕ) → ℕ → Block → SelBlock
block_selected m vs labels at b =
    let c = closing_of m vs labels b.end in
    record { ops = insts_ops m vs at b.insts ++ c.ops; end = c.end }

-- blocks one after another
abbrev pub blocks_selected : Module → List LocalKind → List (List ℕ) → ℕ → List Block → List SelBlock
blocks_selected m vs labels at [] = []
blocks_selected m vs labels at (b ∷ bs) = block_selected m vs labels at b ∷ blocks_selected m vs labels (at + allocas_in m.types b.insts) bs

-- the numbers from one on
abbrev pub numbers_from : ℕ → ℕ → List ℕ
numbers_from first zero = []
numbers_from first (suc count) = first ∷ numbers_from (first + 1) count

-- a function: its parameters are its first variables
abbrev pub function_selected : Module → Function → SelFun
function_selected m f =
    let vs = variables_of f in
    record {
      params = numbers_from 0 (length f.params);
      registers = registers_count vs f;
      frame = allocas_room m.types f;
      blocks = blocks_selected m vs (label_names f) 0 f.blocks;
    }
