use Rattle.std.proofs.Common.{◌≡◌, ◌≤◌, length}
use Rattle.ir_grammar.specs.Tokens.{kinds}
use Rattle.ir_grammar.specs.Grammar.{many}
use Rattle.ir_grammar.specs.Parts.{behind_comma}
use Rattle.ir_grammar.specs.Reading.{read}
use Rattle.ir_syntax.specs.Parameters.{param}
use Rattle.ir_syntax.specs.Naming.{named_behind}
use Rattle.ir_syntax.proofs.parameter.more_params.Given as goal

-- the parameters so far, and those that are read of the rest
abbrev pub invariant-commas : goal.invariant-commas
invariant-commas l =
    record {
      few : l.all.numbered ≤ length l.all.named;
      row : named_behind l.all.named l.all.numbered (read (many (behind_comma param)) (kinds l.rest)) ≡ named_behind l.fn.params.named l.fn.params.numbered (read (many (behind_comma param)) (kinds l.fn.tokens));
    }

abbrev pub decreases-commas : goal.decreases-commas
decreases-commas l = length l.rest
