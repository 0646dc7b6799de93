-- What is printed reads back: the text has tokens, and these derive the module.
use Rattle.std.specs.Prelude.{ℕ, List}
use Rattle.ir_core.specs.declared.module.Module.{Module}
use Rattle.ir_lex.specs.declared.token.Token.{Token}
use Rattle.ir_lex.specs.Tokens.{Scans}
use Rattle.ir_grammar.specs.Tokens.{kinds}
use Rattle.ir_grammar.specs.Grammar.{Derives}
use Rattle.ir_syntax.specs.ModuleText.{module_text}

-- the text, read as the grammar of modules says, is this module
pub record ReadsBack (text : List ℕ) (m : Module) : Type 0 where
  pub tokens : List Token
  pub scanned : Scans text tokens
  pub derived : Derives module_text m (kinds tokens)
