-- Rows of instructions, of which some leave no trace.
use Rattle.std.proofs.Common.{◌≡◌, false, List, [], ◌∷◌, ◌++◌, refl, sym, ◌∙◌, ap, append_assoc, append-nil, Option, Some, None}
use Rattle.std.specs.Prelude.{codes, ◌||◌, flat_map, option_to_list}
use Rattle.ir_lex.specs.declared.token.Token.{Token}
use Rattle.ir_lex.specs.declared.token.TokenKind.{TokenKind}
use Rattle.ir_core.specs.declared.instruction.Inst.{Inst}
use Rattle.ir_grammar.specs.Tokens.{local, debug_hash, starts, kinds}
use Rattle.ir_grammar.specs.Grammar.{many}
use Rattle.ir_grammar.specs.Reading.{first, Read, done, fault, ◌>>=◌, read, put_before}
use Rattle.ir_grammar.proofs.Sets.{starts-append}
use Rattle.ir_grammar.proofs.Rows.{more, put_none, row_end}
use Rattle.ir_syntax.specs.Words.{words_from}
use Rattle.ir_syntax.specs.Instructions.{inst}
use Rattle.ir_syntax.specs.Functions.{insts}
use Rattle.ir_syntax.proofs.FineInstructions.{known-inst, item-inst}
use Rattle.ir_parse.specs.Present.{put_present}

-- what instructions begin with
pub inst_starts : (ts : List TokenKind)
    → starts (first inst) ts ≡ (starts (local ∷ []) ts || (starts (words_from [] (codes "store tail notail call")) ts || starts (debug_hash ∷ []) ts))
inst_starts ts =
    ap (λ ss. starts ss ts) known-inst.first_is
    ∙ (starts-append (local ∷ []) (words_from [] (codes "store tail notail call") ++ debug_hash ∷ []) ts
    ∙ ap (λ b. starts (local ∷ []) ts || b) (starts-append (words_from [] (codes "store tail notail call")) (debug_hash ∷ []) ts))

-- one in front of a row is one behind those that were read
present_step : (all : List Inst) (v : Option Inst) (r : Read (List (Option Inst))) → put_present all (put_before (v ∷ []) r) ≡ put_present (all ++ option_to_list v) r
present_step all None (done is ts) = rw append-nil refl
present_step all (Some i) (done is ts) = ap (λ (x : List Inst). done x ts) (sym (append_assoc all (i ∷ []) (flat_map option_to_list is)))
present_step all v (fault left) = refl

-- one more
pub present_more : (all longer : List Inst) (v : Option Inst) (ts us : List Token) → read inst (kinds ts) ≡ done v (kinds us) → longer ≡ all ++ option_to_list v
    → put_present longer (read (many inst) (kinds us)) ≡ put_present all (read (many inst) (kinds ts))
present_more all longer v ts us one e =
    let row = more inst item-inst ts us v one [] (v ∷ []) refl in
    sym (ap (put_present all) (sym (row ∙ put_none (read (many inst) (kinds ts)))) ∙ present_step all v (read (many inst) (kinds us)) ∙ ap (λ (x : List Inst). put_present x (read (many inst) (kinds us))) (sym e))

-- none is next
pub present_end : (all : List Inst) (ts : List TokenKind) → starts (first inst) ts ≡ false → put_present all (read (many inst) ts) ≡ done all ts
present_end all ts e =
    ap (put_present all) (sym (put_none (read (many inst) ts)) ∙ row_end inst item-inst [] ts e) ∙ ap (λ (x : List Inst). done x ts) (append-nil all)

-- nothing is before a row that has just begun
pub present_none : (ts : List TokenKind) → put_present [] (read (many inst) ts) ≡ read insts ts
unfolding insts
present_none ts = by_row (read (many inst) ts)
  where
    by_row : (r : Read (List (Option Inst))) → put_present [] r ≡ r >>= λ is us. done (flat_map option_to_list is) us
    by_row (done is us) = refl
    by_row (fault left) = refl
