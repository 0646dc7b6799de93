-- The indices of a getelementptr and the entries of a phi, as a loop reads them.
use Rattle.std.proofs.Common.{◌≡◌, ℕ, ◌<◌, true, false, List, [], ◌∷◌, ◌++◌, length}
use Rattle.ir_lex.specs.declared.token.Token.{Token}
use Rattle.ir_lex.specs.declared.token.TokenKind.{TokenKind}
use Rattle.ir_core.specs.declared.instruction.Arg.{Arg}
use Rattle.ir_core.specs.declared.instruction.Entry.{Entry}
use Rattle.ir_grammar.specs.Tokens.{mark, starts, kinds}
use Rattle.ir_grammar.specs.Grammar.{◌▹◌}
use Rattle.ir_grammar.specs.Reading.{first, done, fault, read, put_row}
use Rattle.ir_grammar.proofs.LoopRows.{loop_end, loop_last, loop_fault, last_fault, loop_more, loop_shorter}
use Rattle.ir_syntax.specs.Words.{a_comma}
use Rattle.ir_syntax.specs.Metadata.{attach, attaches}
use Rattle.ir_syntax.specs.Instructions.{index, index_rows, entry, entry_rows}
use Rattle.ir_syntax.proofs.FineInstructions.{loop-index, loop-entry}

-- index
pub index_end : (all : List Arg) (ts : List TokenKind) → starts (mark 44 ∷ []) ts ≡ false → put_row all (read index_rows ts) ≡ done all ts
unfolding index_rows
index_end all ts e = loop_end a_comma index (attach ▹ attaches) loop-index all ts e

pub index_last : (all : List Arg) (ts us vs : List TokenKind) → read a_comma ts ≡ done tt us → starts (first index) us ≡ false → read (attach ▹ attaches) us ≡ done tt vs
    → put_row all (read index_rows ts) ≡ done all vs
unfolding index_rows
index_last all ts us vs p q r = loop_last a_comma index (attach ▹ attaches) loop-index all ts us vs tt p q r

pub index_fault : (all : List Arg) (ts us : List TokenKind) (left : ℕ) → read a_comma ts ≡ done tt us → starts (first index) us ≡ true → read index us ≡ fault left
    → put_row all (read index_rows ts) ≡ fault left
unfolding index_rows
index_fault all ts us left p q r = loop_fault a_comma index (attach ▹ attaches) loop-index all ts us left p q r

pub index_last_fault : (all : List Arg) (ts us : List TokenKind) (left : ℕ) → read a_comma ts ≡ done tt us → starts (first index) us ≡ false
    → read (attach ▹ attaches) us ≡ fault left → put_row all (read index_rows ts) ≡ fault left
unfolding index_rows
index_last_fault all ts us left p q r = last_fault a_comma index (attach ▹ attaches) loop-index all ts us left p q r

pub index_more : (all longer : List Arg) (ts us vs : List TokenKind) (v : Arg) → read a_comma ts ≡ done tt us → read index us ≡ done v vs → longer ≡ all ++ v ∷ []
    → put_row longer (read index_rows vs) ≡ put_row all (read index_rows ts)
unfolding index_rows
index_more all longer ts us vs v p q e = loop_more a_comma index (attach ▹ attaches) loop-index all longer ts us vs v p q e

pub index_shorter : (ts us vs : List Token) (v : Arg) → read a_comma (kinds ts) ≡ done tt (kinds us) → read index (kinds us) ≡ done v (kinds vs) → length vs < length ts
index_shorter ts us vs v p q = loop_shorter a_comma index (attach ▹ attaches) loop-index ts us vs v p q

-- entry
pub entry_end : (all : List Entry) (ts : List TokenKind) → starts (mark 44 ∷ []) ts ≡ false → put_row all (read entry_rows ts) ≡ done all ts
unfolding entry_rows
entry_end all ts e = loop_end a_comma entry (attach ▹ attaches) loop-entry all ts e

pub entry_last : (all : List Entry) (ts us vs : List TokenKind) → read a_comma ts ≡ done tt us → starts (first entry) us ≡ false → read (attach ▹ attaches) us ≡ done tt vs
    → put_row all (read entry_rows ts) ≡ done all vs
unfolding entry_rows
entry_last all ts us vs p q r = loop_last a_comma entry (attach ▹ attaches) loop-entry all ts us vs tt p q r

pub entry_fault : (all : List Entry) (ts us : List TokenKind) (left : ℕ) → read a_comma ts ≡ done tt us → starts (first entry) us ≡ true → read entry us ≡ fault left
    → put_row all (read entry_rows ts) ≡ fault left
unfolding entry_rows
entry_fault all ts us left p q r = loop_fault a_comma entry (attach ▹ attaches) loop-entry all ts us left p q r

pub entry_last_fault : (all : List Entry) (ts us : List TokenKind) (left : ℕ) → read a_comma ts ≡ done tt us → starts (first entry) us ≡ false
    → read (attach ▹ attaches) us ≡ fault left → put_row all (read entry_rows ts) ≡ fault left
unfolding entry_rows
entry_last_fault all ts us left p q r = last_fault a_comma entry (attach ▹ attaches) loop-entry all ts us left p q r

pub entry_more : (all longer : List Entry) (ts us vs : List TokenKind) (v : Entry) → read a_comma ts ≡ done tt us → read entry us ≡ done v vs → longer ≡ all ++ v ∷ []
    → put_row longer (read entry_rows vs) ≡ put_row all (read entry_rows ts)
unfolding entry_rows
entry_more all longer ts us vs v p q e = loop_more a_comma entry (attach ▹ attaches) loop-entry all longer ts us vs v p q e

pub entry_shorter : (ts us vs : List Token) (v : Entry) → read a_comma (kinds ts) ≡ done tt (kinds us) → read entry (kinds us) ≡ done v (kinds vs) → length vs < length ts
entry_shorter ts us vs v p q = loop_shorter a_comma entry (attach ▹ attaches) loop-entry ts us vs v p q
