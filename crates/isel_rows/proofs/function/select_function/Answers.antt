use Rattle.std.proofs.Common.{◌∙◌, ◌+◌, List, map, ap}
use Rattle.std.specs.List.{sum_by}
use Rattle.ir_core.specs.declared.module.Block.{Block}
use Rattle.low_core.specs.declared.moves.Chunk.{Chunk}
use Rattle.low_core.specs.Plain.{block_of}
use Rattle.isel_rows.specs.Functions.{allocas_in, blocks_selected, numbers_from}
use Rattle.isel_rows.proofs.FunctionLaws.{is_selected}
use Rattle.isel_rows.proofs.function.select_function.Goals as goal

pub returns : goal.returns
returns c =
    let m = c.args.context.now in
    is_selected m c.args.f.now c.args.b.now.chunks c.in_ok-variables.variables c.in_ok-labels.labels c.in_ok-params.params c.in_ok-registers.registers c.blocks-2.new.at c.in_ok-blocks.blocks
    c.in_ok-variables.ensures (c.in_ok-labels.ensures ∙ ap (map (λ (x : Chunk). x.label)) c.as_slice.ensures)
    (c.in_ok-params.ensures ∙ ap (numbers_from 0) c.len.ensures) c.in_ok-registers.ensures
    (c.in_ok-blocks.ensures.at ∙ ap (λ (cs : List Chunk). 0 + sum_by (λ (b : Block). allocas_in m.types b.insts) (map block_of cs)) c.as_slice-2.ensures)
    (c.in_ok-blocks.ensures.blocks ∙ ap (λ (cs : List Chunk). blocks_selected m c.in_ok-variables.variables c.in_ok-labels.labels 0 (map block_of cs)) c.as_slice-2.ensures)
