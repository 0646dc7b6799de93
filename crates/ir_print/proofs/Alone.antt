-- What is printed of a module reads back to no other one.
use Rattle.std.proofs.Common.{◌≡◌, List, sym, subst}
use Rattle.ir_core.specs.declared.module.Module.{Module}
use Rattle.ir_core.specs.Built.{IsBuilt}
use Rattle.ir_lex.specs.declared.token.Token.{Token}
use Rattle.ir_lex.specs.Tokens.{Scans}
use Rattle.ir_lex.proofs.Rows.{scan_once}
use Rattle.ir_grammar.specs.Tokens.{kinds}
use Rattle.ir_grammar.specs.Grammar.{Derives}
use Rattle.ir_grammar.proofs.Exact.{one_text}
use Rattle.ir_syntax.specs.ModuleText.{module_text}
use Rattle.ir_syntax.proofs.FineModule.{fine-module_text}
use Rattle.ir_print.specs.Canonical.{canonical_text}
use Rattle.ir_print.proofs.Whole.{reads_back}

-- the tokens of a module's text are that module's alone
pub alone : (m n : Module) (tokens : List Token) → IsBuilt m → Scans (canonical_text m) tokens → Derives module_text n (kinds tokens) → n ≡ m
alone m n tokens h scans d =
    let r = reads_back m h in
    let same : tokens ≡ r.tokens = scan_once (canonical_text m) tokens r.tokens scans r.scanned in
    one_text module_text fine-module_text n m (kinds r.tokens) (subst (λ ts. Derives module_text n (kinds ts)) same d) r.derived

-- two modules have two texts
pub apart : (m n : Module) → IsBuilt m → IsBuilt n → canonical_text m ≡ canonical_text n → m ≡ n
apart m n h k e = let r = reads_back n k in sym (alone m n r.tokens h (subst (λ t. Scans t r.tokens) (sym e) r.scanned) r.derived)
