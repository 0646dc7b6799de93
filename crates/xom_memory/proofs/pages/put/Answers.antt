use Rattle.std.proofs.Common.{◌≡◌, ◌+◌, ◌*◌, ap, ◌∙◌, arith, length, take, drop}
use Rattle.std.proofs.lemmas.List.{take_rest}
use Rattle.xom_memory.specs.Pages.{put_at, laid}
use Rattle.xom_memory.proofs.Laid.{put_more, length_laid}
use Rattle.xom_memory.proofs.pages.put.Goals as goal

pub loop-done-preserved : goal.loop-done-preserved
loop-done-preserved c =
    let whole : length (laid c.args.count c.args.pages.now) ≡ 4096 * c.args.count = length_laid c.args.count c.args.pages.now in
    record {
      within = omega (arith, c.put_front-done.ensures.within);
      put = c.put_front-done.ensures.put
          ∙ ap (λ x. put_at (laid c.args.count c.loop-done.pages) (c.args.from + c.loop-done.done) (take c.put_front-done.result x)) (take_rest c.args.bytes.now c.loop-done.done)
          ∙ ap (λ x. put_at x (c.args.from + c.loop-done.done) (take c.put_front-done.result (drop c.loop-done.done c.args.bytes.now))) c.loop-done.invariant.put
          ∙ put_more (laid c.args.count c.args.pages.now) c.args.bytes.now c.args.from c.loop-done.done c.put_front-done.result (omega arith) c.loop-done.invariant.within;
      made = λ k h. c.put_front-done.ensures.made k (c.loop-done.invariant.made k h);
    }
