use Rattle.std.proofs.Common.{◌≡◌, ◌<◌, ◌∙◌, ap, sym, length, get_or, map, subst}
use Rattle.ir_core.specs.declared.module.Block.{Block}
use Rattle.ir_core.specs.declared.module.Function.{Function}
use Rattle.ir_core.specs.Built.{block_built}
use Rattle.ir_core.specs.Valid.{faults_in_block}
use Rattle.ir_types.specs.Flow.{Rows, row_at, label_number}
use Rattle.ir_types.proofs.BuiltLaws.{built_at, blocks_are, row_sources}
use Rattle.ir_types.proofs.FirstLaws.{first_found, first_passed}
use Rattle.ir_types.proofs.spots.first_block.Goals as goal

pub first_in_block-requires-clause-built : goal.first_in_block-requires-clause-built
first_in_block-requires-clause-built c =
    let bs = c.args.scope.now.blocks in
    let same : c.as_slice-b-items.result.now ≡ bs = c.as_slice-b-items.ensures ∙ ap (λ (f : Function). f.blocks) c.function-function.ensures in
    let inside : c.loop-k.k < length bs = subst (λ xs. c.loop-k.k < length xs) same c.loop-k-test.true in
    let item : c.b-item.result ≡ get_or bs c.loop-k.k c.b-item.result = c.b-item.is ∙ ap (λ xs. get_or xs c.loop-k.k c.b-item.result) same in
    built_at block_built bs (blocks_are bs c.requires.built) c.loop-k.k c.b-item.result inside item

pub first_in_block-requires-clause-sources : goal.first_in_block-requires-clause-sources
first_in_block-requires-clause-sources c =
    let bs = c.args.scope.now.blocks in
    let same : c.as_slice-b-items.result.now ≡ bs = c.as_slice-b-items.ensures ∙ ap (λ (f : Function). f.blocks) c.function-function.ensures in
    let inside : c.loop-k.k < length bs = subst (λ xs. c.loop-k.k < length xs) same c.loop-k-test.true in
    let item : c.b-item.result ≡ get_or bs c.loop-k.k c.b-item.result = c.b-item.is ∙ ap (λ xs. get_or xs c.loop-k.k c.b-item.result) same in
    row_sources bs c.loop-k.k c.b-item.result inside item c.row.result.now (c.row.ensures ∙ ap (λ (rows : Rows). row_at rows (label_number (map (λ (b : Block). b.label) bs) c.b-item.result.label)) c.requires.rows)

pub returns-in-Some : goal.returns-in-Some
returns-in-Some c =
    let bs = c.args.scope.now.blocks in
    let same : c.as_slice-b-items.result.now ≡ bs = c.as_slice-b-items.ensures ∙ ap (λ (f : Function). f.blocks) c.function-function.ensures in
    let inside : c.loop-k.k < length bs = subst (λ xs. c.loop-k.k < length xs) same c.loop-k-test.true in
    let item : c.b-item.result ≡ get_or bs c.loop-k.k c.b-item.result = c.b-item.is ∙ ap (λ xs. get_or xs c.loop-k.k c.b-item.result) same in
    first_found (faults_in_block c.args.tables.now c.args.scope.now c.args.number) bs c.loop-k.k c.b-item.result inside item _ c.loop-k.invariant c.in-Some.spot (sym c.in-Some.is ∙ c.in_ok-spot.ensures)

pub loop-k-preserved : goal.loop-k-preserved
loop-k-preserved c =
    let bs = c.args.scope.now.blocks in
    let same : c.as_slice-b-items.result.now ≡ bs = c.as_slice-b-items.ensures ∙ ap (λ (f : Function). f.blocks) c.function-function.ensures in
    let inside : c.loop-k.k < length bs = subst (λ xs. c.loop-k.k < length xs) same c.loop-k-test.true in
    let item : c.b-item.result ≡ get_or bs c.loop-k.k c.b-item.result = c.b-item.is ∙ ap (λ xs. get_or xs c.loop-k.k c.b-item.result) same in
    first_passed (faults_in_block c.args.tables.now c.args.scope.now c.args.number) bs c.loop-k.k c.b-item.result inside item _ c.loop-k.invariant (sym c.in-None.is ∙ c.in_ok-spot.ensures)
