use Rattle.std.proofs.Common.{◌≡◌, ◌+◌, ◌∷◌, drop, ap, sym, ◌∙◌, arith}
use Rattle.std.proofs.lemmas.List.{drop_more}
use Rattle.low_core.specs.SelWeights.{calls_at}
use Rattle.frame_lower.specs.Blocks.{calls_in, ops_row}
use Rattle.frame_lower.specs.Making.{making}
use Rattle.frame_lower.specs.Rows.{marked_op}
use Rattle.frame_lower.specs.Writing.{with_row}
use Rattle.frame_lower.proofs.Writing.{row_joined, calls_more}
use Rattle.frame_lower.proofs.maker.Maker.put_ops.Goals as goal

pub loop-op-preserved : goal.loop-op-preserved
loop-op-preserved c =
    let by = making c.args.self.now in
    let ops = c.args.ops.now in
    let i = c.loop-op.op-index in
    let op = c.op-item.result in
    let slot = c.loop-op.slot in
    let rest = drop (i + 1) ops in
    let split : drop i ops ≡ op ∷ rest = drop_more ops i op c.loop-op-test.true ∙ ap (λ x. x ∷ rest) (sym c.op-item.is) in
    let count : c.calls-slot.result ≡ calls_at op = c.calls-slot.ensures in
    let more : calls_in (drop i ops) ≡ calls_at op + calls_in rest = ap calls_in split ∙ calls_more op rest in
    let before : slot + calls_in (drop i ops) ≡ c.args.first + calls_in ops = c.loop-op.invariant.1 in (
      ap (λ n. with_row (ops_row by (slot + n) rest) c.put_op.new.code) count
          ∙ ap (with_row (ops_row by (slot + calls_at op) rest)) c.in_ok-put_op.ensures
          ∙ sym (row_joined (marked_op by slot op) (ops_row by (slot + calls_at op) rest) c.loop-op.code)
          ∙ ap (λ xs. with_row (ops_row by slot xs) c.loop-op.code) (sym split)
          ∙ c.loop-op.invariant.0,
      omega arith,
    )
