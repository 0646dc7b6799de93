use Rattle.std.proofs.Common.{◌≡◌, ◌+◌, drop}
use Rattle.std.specs.List.{prefix_len}
use Rattle.ir_lex.specs.First.{test_of}
use Rattle.ir_lex.proofs.class.front.Given as goal

-- the front is what has been passed and the front of the rest
abbrev pub invariant-loop-i : goal.invariant-loop-i
invariant-loop-i l = prefix_len (test_of l.class) l.text ≡ l.i + prefix_len (test_of l.class) (drop l.i l.text)
