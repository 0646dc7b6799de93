use Rattle.std.proofs.Common.{◌≡◌, ◌∙◌, List, ap, map, fold, subst}
use Rattle.std.specs.Prelude.{IfOk}
use Rattle.ir_core.specs.declared.module.Param.{Param}
use Rattle.ir_core.specs.Valid.{LocalKind, param_kind, results_of}
use Rattle.low_core.specs.declared.moves.Chunk.{Chunk}
use Rattle.low_core.specs.Plain.{block_of}
use Rattle.isel_rows.specs.Kept.{with_local}
use Rattle.isel_rows.proofs.VariableLaws.{variables_are}
use Rattle.isel_rows.proofs.variables.Variables.of.Goals as goal

pub returns : goal.returns
returns c =
    subst (λ (ls : List LocalKind). IfOk c.with_chunks.result (λ vs. vs ≡ ls))
    (ap (λ (cs : List Chunk). fold with_local c.in_ok-params.params (results_of (map block_of cs))) c.as_slice-2.ensures
    ∙ variables_are c.new-none.result c.in_ok-params.params c.args.f.now.params (map block_of c.args.b.now.chunks) c.new-none.ensures
    (c.in_ok-params.ensures ∙ ap (λ (ps : List Param). fold with_local c.new-none.result (map param_kind ps)) c.as_slice.ensures))
    c.with_chunks.ensures
