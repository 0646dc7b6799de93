use Rattle.std.proofs.Common.{◌+◌, ◌∙◌, List, map, max, drop, ap, sym}
use Rattle.std.specs.List.{flat_map}
use Rattle.ir_core.specs.declared.instruction.Inst.{Inst}
use Rattle.ir_core.specs.declared.module.Block.{Block}
use Rattle.ir_core.specs.Counts.{greatest, argument_counts}
use Rattle.low_core.specs.declared.moves.Chunk.{Chunk}
use Rattle.low_core.specs.declared.moves.Move.{Move}
use Rattle.low_core.specs.Plain.{inst_of, block_of}
use Rattle.isel_rows.proofs.ListLaws.{left_at}
use Rattle.isel_rows.proofs.CountLaws.{most_step}
use Rattle.isel_rows.proofs.function.most_arguments_in.Goals as goal

pub loop-c-preserved : goal.loop-c-preserved
loop-c-preserved c =
    let of_insts = λ (is : List Inst). flat_map (λ (i : Inst). argument_counts i.op) is in
    let of_blocks = λ (bs : List Block). greatest (flat_map (λ (b : Block). flat_map (λ (i : Inst). argument_counts i.op) b.insts) bs) in
    let later = drop (c.loop-c.c-index + 1) c.args.chunks.now in
    ap (λ n. max n (of_blocks (map block_of later)))
    (c.greater-most.ensures ∙ ap (max c.loop-c.most) (c.most_arguments.ensures ∙ ap (λ (xs : List Move). greatest (of_insts (map inst_of xs))) c.as_slice.ensures))
    ∙ most_step (λ (b : Block). of_insts b.insts) c.loop-c.most (block_of c.c-item.result) (map block_of later)
    ∙ ap (λ (cs : List Chunk). max c.loop-c.most (of_blocks (map block_of cs))) (sym (left_at c.loop-c.c-index c.args.chunks.now c.c-item.result c.loop-c-test.true c.c-item.is))
    ∙ c.loop-c.invariant
