use Rattle.std.proofs.Common.{◌∙◌, ap, sym, length}
use Rattle.std.specs.Option.{option_or}
use Rattle.ir_core.specs.declared.limit.Spot.{Spot}
use Rattle.ir_core.specs.Valid.{end_fits, unless}
use Rattle.ir_types.specs.Spots.{insts_faults, first_spot}
use Rattle.ir_types.proofs.BlockLaws.{block_first}
use Rattle.ir_types.proofs.spots.first_in_block.Goals as goal

pub returns-in-Some : goal.returns-in-Some
returns-in-Some c =
    ap (λ o. option_or o (first_spot (unless (end_fits c.args.site.now.tables.now c.args.site.now.scope.now c.args.b.now.end) (Spot.Inst c.args.site.now.function c.args.site.now.number (length c.args.b.now.insts)))))
    (sym c.in-Some.is ∙ c.in_ok-in_insts.ensures ∙ ap (λ is. first_spot (insts_faults c.args.site.now.tables.now c.args.site.now.scope.now c.args.site.now.row.now c.args.site.now.function c.args.site.now.number is)) c.as_slice.ensures)
    ∙ block_first c.args.site.now.tables.now c.args.site.now.scope.now c.args.site.now.function c.args.site.now.number c.args.b.now c.args.site.now.row.now c.requires.sources

pub returns-in_ok-fits-in-None : goal.returns-in_ok-fits-in-None
returns-in_ok-fits-in-None c =
    c.spot_unless.ensures
    ∙ ap (λ b. first_spot (unless b (Spot.Inst c.args.site.now.function c.args.site.now.number c.len.result))) c.in_ok-fits-in-None.ensures
    ∙ ap (λ n. first_spot (unless (end_fits c.args.site.now.tables.now c.args.site.now.scope.now c.args.b.now.end) (Spot.Inst c.args.site.now.function c.args.site.now.number n))) c.len.ensures
    ∙ ap (λ o. option_or o (first_spot (unless (end_fits c.args.site.now.tables.now c.args.site.now.scope.now c.args.b.now.end) (Spot.Inst c.args.site.now.function c.args.site.now.number (length c.args.b.now.insts)))))
    (sym c.in-None.is ∙ c.in_ok-in_insts.ensures ∙ ap (λ is. first_spot (insts_faults c.args.site.now.tables.now c.args.site.now.scope.now c.args.site.now.row.now c.args.site.now.function c.args.site.now.number is)) c.as_slice.ensures)
    ∙ block_first c.args.site.now.tables.now c.args.site.now.scope.now c.args.site.now.function c.args.site.now.number c.args.b.now c.args.site.now.row.now c.requires.sources
