-- Blocks that are selected are shaped: their operations fit, and their ends lead to blocks.
use Rattle.std.proofs.Common.{◌≡◌, ℕ, suc, ◌+◌, ◌<◌, ◌≤◌, List, [], ◌∷◌, ◌++◌, length, Option, Some, None, refl, ap, arith}
use Rattle.std.specs.List.{sum_by}
use Rattle.std.proofs.lemmas.List.Sums.{sum_by-cons}
use Rattle.ir_core.specs.declared.instruction.Inst.{Inst}
use Rattle.ir_core.specs.declared.instruction.Term.{Term}
use Rattle.ir_core.specs.declared.instruction.Term.TheVariants.{Ret, RetValue, Br, BrIf, Switch, Unreachable}
use Rattle.ir_core.specs.declared.kind.Kind.TheVariants.{Number}
use Rattle.rd_num.specs.declared.width.Width.TheVariants.{W1}
use Rattle.ir_core.specs.declared.module.Block.{Block}
use Rattle.ir_core.specs.declared.module.Function.{Function}
use Rattle.ir_core.specs.declared.module.Module.{Module}
use Rattle.ir_core.specs.Counts.{alloca_bytes}
use Rattle.ir_core.specs.Definitions.{label_names}
use Rattle.ir_core.specs.Kinds.{kind_of}
use Rattle.ir_core.specs.Mentions.{OfLabel, of_operand, of_end}
use Rattle.ir_core.specs.Names.{same_name}
use Rattle.ir_core.specs.Valid.{LocalKind, env_of}
use Rattle.ir_sound.specs.WellTyped.{Each}
use Rattle.ir_sound.proofs.RowLaws.{Each_both, Each_parts, Each_more, length_map, number_below}
use Rattle.ir_context.specs.Registers.{number_of}
use Rattle.low_core.specs.declared.sel.SelBlock.{SelBlock}
use Rattle.low_core.specs.declared.sel.SelOp.{SelOp}
use Rattle.low_core.specs.SelParts.{end_reads, leads_to}
use Rattle.low_core.specs.SelShaped.{IsOpShaped, IsBlockShaped}
use Rattle.low_core.specs.Weights.{allocas_room}
use Rattle.isel_rows.specs.Variables.{variables_of, number_or_first}
use Rattle.isel_rows.specs.Rows.{block_number, closing_of, ops_of}
use Rattle.isel_rows.specs.Functions.{allocas_in, insts_ops, block_selected, blocks_selected, function_selected}
use Rattle.isel_rows.specs.Selected.{module_selected}
use Rattle.isel.proofs.Mentioned.{IsFine}
use Rattle.isel.proofs.ShapeForms.{all_of, vs, Fits, IsBelow}
use Rattle.isel.proofs.ShapeBrought.{operand_fits}
use Rattle.isel.proofs.ShapeOps.{op_fit}
use Rattle.isel.proofs.ShapeKnown.{InstKnown, BlockKnown}

-- as many blocks
pub blocks_length : (m : Module) (variables : List LocalKind) (labels : List (List ℕ)) (at : ℕ) (bs : List Block) → length (blocks_selected m variables labels at bs) ≡ length bs
blocks_length m variables labels at [] = refl
blocks_length m variables labels at (b ∷ bs) = ap (λ n. suc n) (blocks_length m variables labels (at + allocas_in m.types b.insts) bs)

module _ (m : Module) (fn : Function) (some_block : 0 < length fn.blocks) where
  -- a block's number
  IsTarget : ℕ → Type 0
  IsTarget n = n < length (function_selected m fn).blocks

  -- a number that is found, or that of the first block
  number_fits : (o : Option ℕ) → ((k : ℕ) → o ≡ Some k → k < length fn.blocks) → number_or_first o < length (function_selected m fn).blocks
  number_fits (Some k) go = let l = blocks_length m (variables_of fn) (label_names fn) 0 fn.blocks in let low = go k refl in omega (arith, l, low)
  number_fits None go = let l = blocks_length m (variables_of fn) (label_names fn) 0 fn.blocks in omega (arith, l, some_block)

  -- the number of a label
  target_fits : (to : List ℕ) → block_number (label_names fn) to < length (function_selected m fn).blocks
  target_fits to = number_fits (number_of (label_names fn) to) (λ k e.
      let low = number_below (λ (n : List ℕ). same_name n to) (label_names fn) k e in
      let l = length_map (λ (b : Block). b.label) fn.blocks in
      omega (arith, low, l))

  -- an end
  pub record EndFits (end : Term) : Type 0 where
    pub ops : Each (Fits m fn) (closing_of m (vs m fn) (label_names fn) end).ops
    pub reads : Each (IsBelow m fn) (end_reads (closing_of m (vs m fn) (label_names fn) end).end)
    pub targets : Each (λ n. n < length (function_selected m fn).blocks) (leads_to (closing_of m (vs m fn) (label_names fn) end).end)

  -- each end fits
  end_fits : (end : Term) → Each (IsFine m) (of_end end) → EndFits end
  end_fits Ret fine = record { ops = tt; reads = tt; targets = tt }
  end_fits (RetValue ty a) fine = let b = operand_fits m fn 0 (kind_of ty) a (omega arith) fine.1 in record { ops = b.ops; reads = (b.register, tt); targets = tt }
  end_fits (Br to) fine = record { ops = tt; reads = tt; targets = (target_fits to, tt) }
  end_fits (BrIf condition taken other) fine =
      let q = Each_parts (IsFine m) (of_operand condition) (OfLabel taken ∷ OfLabel other ∷ []) fine in
      let b = operand_fits m fn 0 (Number W1) condition (omega arith) q.0 in
      record { ops = b.ops; reads = (b.register, tt); targets = (target_fits taken, (target_fits other, tt)) }
  end_fits (Switch ty a default cases) fine = record { ops = tt; reads = tt; targets = tt }
  end_fits Unreachable fine = record { ops = tt; reads = tt; targets = tt }

  -- instructions behind so many bytes of allocas
  insts_fit : (at : ℕ) (insts : List Inst) → Each (InstKnown m fn) insts → at + allocas_in m.types insts ≤ allocas_room m.types fn → Each (Fits m fn) (insts_ops m (vs m fn) at insts)
  insts_fit at [] known room = tt
  insts_fit at (i ∷ is) known room =
      let e = sum_by-cons (λ (x : Inst). alloca_bytes m.types x.op) i is in
      let next : ℕ = at + alloca_bytes m.types i.op in
      Each_both (Fits m fn) (ops_of m (vs m fn) at i.result i.op) (insts_ops m (vs m fn) next is)
      (op_fit m fn (env_of fn) at i.result i.op known.0.fits known.0.fine known.0.few (omega (arith, room, e)))
      (insts_fit next is known.1 (omega (arith, room, e)))

  -- a block
  pub record BlockFits (b : SelBlock) : Type 0 where
    pub shaped : IsBlockShaped (module_selected m) (function_selected m fn) b
    pub ops : Each (Fits m fn) b.ops

  -- each block fits
  block_fits : (at : ℕ) (b : Block) → BlockKnown m fn b → at + allocas_in m.types b.insts ≤ allocas_room m.types fn → BlockFits (block_selected m (vs m fn) (label_names fn) at b)
  block_fits at b known room =
      let end = end_fits b.end known.fine in
      let insts : List SelOp = insts_ops m (vs m fn) at b.insts in
      let closing = closing_of m (vs m fn) (label_names fn) b.end in
      let ops = Each_both (Fits m fn) insts closing.ops (insts_fit at b.insts known.insts room) end.ops in
      let P : SelOp → Type 0 = IsOpShaped (module_selected m) (function_selected m fn) in
      record {
        shaped = record {
          ops = all_of P (insts ++ closing.ops) (Each_more (Fits m fn) P (insts ++ closing.ops) (λ op fit. fit.0) ops);
          end_reads = all_of (IsBelow m fn) (end_reads closing.end) end.reads;
          targets = all_of (λ n. n < length (function_selected m fn).blocks) (leads_to closing.end) end.targets;
        };
        ops = ops;
      }

  -- blocks behind so many bytes of allocas
  blocks_fit : (at : ℕ) (bs : List Block) → Each (BlockKnown m fn) bs → at + sum_by (λ (b : Block). allocas_in m.types b.insts) bs ≤ allocas_room m.types fn → Each BlockFits (blocks_selected m (vs m fn) (label_names fn) at bs)
  blocks_fit at [] known room = tt
  blocks_fit at (b ∷ bs) known room =
      let e = sum_by-cons (λ (x : Block). allocas_in m.types x.insts) b bs in
      (block_fits at b known.0 (omega (arith, room, e)), blocks_fit (at + allocas_in m.types b.insts) bs known.1 (omega (arith, room, e)))

  -- all blocks of the function
  pub function_blocks : Each (BlockKnown m fn) fn.blocks → Each BlockFits (function_selected m fn).blocks
  function_blocks known = blocks_fit 0 fn.blocks known (omega arith)
