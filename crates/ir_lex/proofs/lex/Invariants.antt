use Rattle.std.proofs.Common.{◌-◌, ◌≤◌, length}
use Rattle.ir_lex.proofs.Rows.{ReadTo}
use Rattle.ir_lex.proofs.lex.Given as goal

-- the text is read up to the place
abbrev pub invariant-loop-place : goal.invariant-loop-place
invariant-loop-place l = record { within : l.place ≤ length l.text; read : ReadTo l.text l.place l.tokens }

abbrev pub decreases-loop-place : goal.decreases-loop-place
decreases-loop-place l = length l.text - l.place
