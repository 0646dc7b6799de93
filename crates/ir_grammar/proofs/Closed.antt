-- What is asked of a grammar by those that it stands in.
use Rattle.std.proofs.Common.{◌≡◌, true, false, []}
use Rattle.ir_grammar.specs.Grammar.{Grammar}
use Rattle.ir_grammar.specs.Reading.{next, null, fine}

-- one token ahead is enough, it is never empty, and nothing makes it longer
pub record Closed {A : Type 0} (g : Grammar A) : Type 0 where
  pub good : fine g ≡ true
  pub some : null g ≡ false
  pub ends : next g ≡ []
