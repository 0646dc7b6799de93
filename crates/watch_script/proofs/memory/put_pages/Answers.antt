use Rattle.std.proofs.Common.{◌≡◌, ℕ, ◌+◌, ◌*◌, ◌/◌, ◌%◌, ◌≤◌, min, ◌∙◌, arith}
use Rattle.xom_memory.specs.Access.{lent}
use Rattle.watch_script.proofs.Pieces.{page_more, page_blank, pages_all}
use Rattle.watch_script.proofs.memory.put_pages.Goals.{in-Some+in_ok-put_page, in_default}
use Rattle.watch_script.proofs.memory.put_pages.Goals as goal

pub loop-i-preserved : goal.loop-i-preserved
loop-i-preserved c = elim c.match-page.branch [
  | in-Some+in_ok-put_page w ↦
      page_more c.args.segment.now.start (lent c.args.segment.now).bytes w.in-Some.page.now c.args.text.now c.loop-i.text c.match-page.text c.loop-i.i w.in-Some.ensures (w.text-is ∙ w.in_ok-put_page.ensures) c.loop-i.invariant
  | in_default w ↦ page_blank c.args.segment.now.start (lent c.args.segment.now).bytes c.args.text.now c.loop-i.text c.match-page.text c.loop-i.i w.in_default.ensures w.text-is c.loop-i.invariant
]

-- so many pages are all
covered : (n size count i : ℕ) → size ≡ n → count ≡ size / 4096 + min 1 (size % 4096) → count ≤ i → n ≤ 4096 * i
covered n size count i e f h = omega arith

pub returns : goal.returns
returns c =
    pages_all c.args.segment.now.start (lent c.args.segment.now).bytes c.args.text.now c.loop-i.text c.loop-i.i
    (covered _ c.len.result c.div_ceil-count.result c.loop-i.i c.len.ensures c.div_ceil-count.ensures c.loop-i-test.false) c.loop-i.invariant
