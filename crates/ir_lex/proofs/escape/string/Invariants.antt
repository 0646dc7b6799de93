use Rattle.std.proofs.Common.{◌≡◌, drop}
use Rattle.ir_lex.specs.First.{string_from}
use Rattle.ir_lex.specs.declared.escape.Escape.TheVariants.{Plain}
use Rattle.ir_lex.proofs.Strings.{onto}
use Rattle.ir_lex.proofs.escape.string.Given as goal

-- the bytes so far and those of the rest are the string's
abbrev pub invariant-loop-i : goal.invariant-loop-i
invariant-loop-i l = onto l.bytes l.i (string_from l.at (drop l.i l.text)) ≡ string_from Plain l.text
