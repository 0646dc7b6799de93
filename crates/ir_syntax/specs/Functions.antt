-- Blocks, functions and declarations.
use Rattle.std.specs.Prelude.{ℕ, List, ◌∷◌, codes, decimal, flat_map, option_to_list}
use Rattle.ir_core.specs.declared.ty.Ty.{Ty}
use Rattle.ir_core.specs.declared.instruction.Inst.{Inst}
use Rattle.ir_core.specs.declared.module.Block.{Block}
use Rattle.ir_core.specs.declared.module.Function.{Function}
use Rattle.ir_grammar.specs.Grammar.{Grammar, give, either, many, optional, ◌▸◌, ◌▹◌}
use Rattle.ir_grammar.specs.Parts.{the_word, the_mark, a_global, a_label, skip}
use Rattle.ir_syntax.specs.declared.item.Item.{Item}
use Rattle.ir_syntax.specs.declared.item.Item.TheVariants as item_of
use Rattle.ir_syntax.specs.Words.{maybe, plain_global, a_debug_global, a_hash, aligned, in_section, link, function_word}
use Rattle.ir_syntax.specs.Types.{rtype}
use Rattle.ir_syntax.specs.Metadata.{pgroup, attach}
use Rattle.ir_syntax.specs.Parameters.{pattr, params, declared_params, name_or}
use Rattle.ir_syntax.specs.Instructions.{inst}
use Rattle.ir_syntax.specs.Terminators.{term}

-- { inst }, of which those that leave no trace are dropped
unfoldable pub insts : Grammar (List Inst)
insts = give (λ is. flat_map option_to_list is) ▸ many inst

-- block = { inst } term { "," attach }, by the name of the block
unfoldable pub block : Grammar (List ℕ → Block)
block = give (λ is t l. record { label = l; insts = is; end = t }) ▸ insts ▸ term

-- Label block
unfoldable pub labelled : Grammar Block
labelled = give (λ l b. b l) ▸ a_label ▸ block

-- body = [ Label ] block { Label block }, by the name of a first block without a Label
unfoldable pub body : Grammar (List ℕ → List Block)
body = give (λ l b bs n. b (name_or l n) ∷ bs) ▸ optional a_label ▸ block ▸ many labelled

-- Hash | "align" Int | "section" Str | FWORD [ pgroup ]
unfoldable pub declared_tail : Grammar (Unit {0})
declared_tail = either a_hash (either aligned (either in_section (function_word ▹ maybe pgroup)))

-- ftail = Hash | "align" Int | "section" Str | FWORD [ pgroup ] | attach
unfoldable pub defined_tail : Grammar (Unit {0})
defined_tail = either declared_tail attach

-- "define" { LINK } { pattr } rtype Global params { ftail } "{" body "}"
-- A first block without a Label is named by the decimal number of parameters that have no written name or a
-- name of digits.
unfoldable pub define : Grammar Function
define =
    give (λ t n ps bs. record { name = n; ret = t; params = ps.named; blocks = bs (decimal ps.numbered) })
    ▹ the_word (codes "define") ▹ skip link ▹ skip pattr ▸ rtype ▸ a_global ▸ params ▹ skip defined_tail ▹ the_mark 123 ▸ body ▹ the_mark 125

-- what a declaration has behind its type: a name and parameters, or a Global that begins with `llvm.dbg.` and
-- a pgroup, which leave no trace
unfoldable pub declared : Grammar (Ty → Item)
declared =
    either (give (λ t. item_of.Nothing) ▹ a_debug_global ▹ pgroup)
    (give (λ n ts t. item_of.Extern (record { name = n; ret = t; params = ts })) ▸ plain_global ▸ declared_params)

-- "declare" { attach } { LINK } { pattr } rtype Global params { ftail }, where the ftail is no attach
unfoldable pub declare : Grammar Item
declare =
    give (λ t d. d t) ▹ the_word (codes "declare") ▹ skip attach ▹ skip link ▹ skip pattr ▸ rtype ▸ declared ▹ skip declared_tail
