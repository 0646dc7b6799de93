use Rattle.std.proofs.Common.{◌≡◌, length}
use Rattle.ir_grammar.specs.Tokens.{kinds}
use Rattle.ir_grammar.specs.Grammar.{many}
use Rattle.ir_grammar.specs.Reading.{read}
use Rattle.ir_syntax.specs.Items.{item}
use Rattle.ir_syntax.specs.ModuleText.{module_text}
use Rattle.ir_parse.specs.Joined.{put_items}
use Rattle.ir_parse.proofs.module.module_text.Given as goal

-- the module so far, and the items that are read of the rest
abbrev pub invariant-items : goal.invariant-items
invariant-items l = put_items l.all (read (many item) (kinds l.rest)) ≡ read module_text (kinds l.tokens)

abbrev pub decreases-items : goal.decreases-items
decreases-items l = length l.rest
