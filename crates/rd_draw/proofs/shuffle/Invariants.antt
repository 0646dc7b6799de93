use Rattle.std.proofs.Common.{◌≡◌, ◌+◌, ◌-◌, ◌≤◌, length}
use Rattle.rd_draw.specs.Draw.{stream_word, swapped_down}
use Rattle.rd_draw.proofs.shuffle.Given as goal

-- the exchanges that are left lead where all of them lead from the start
abbrev pub invariant-loop-i : goal.invariant-loop-i
invariant-loop-i l = record {
  key : l.draw.key ≡ l.fn.draw.key;
  place : l.draw.place + l.i ≡ l.n;
  above : 1 ≤ l.i;
  long : length l.all ≡ l.n;
  rest : swapped_down (stream_word l.fn.draw.key) (l.i - 1) l.draw.place l.all ≡ swapped_down (stream_word l.fn.draw.key) (l.n - 1) 0 l.fn.all;
}
