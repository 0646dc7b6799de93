use Rattle.std.proofs.Common.{◌≡◌, length}
use Rattle.ir_grammar.specs.Tokens.{kinds}
use Rattle.ir_grammar.specs.Grammar.{many}
use Rattle.ir_grammar.specs.Reading.{read}
use Rattle.ir_syntax.specs.Instructions.{inst}
use Rattle.ir_syntax.specs.Functions.{insts}
use Rattle.ir_parse.specs.Present.{put_present}
use Rattle.ir_parse.proofs.block.insts.Given as goal

-- the instructions so far, and those that are read of the rest
abbrev pub invariant-insts : goal.invariant-insts
invariant-insts l = put_present l.all (read (many inst) (kinds l.rest)) ≡ read insts (kinds l.tokens)

abbrev pub decreases-insts : goal.decreases-insts
decreases-insts l = length l.rest
