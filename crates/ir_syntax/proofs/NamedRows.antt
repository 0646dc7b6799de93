-- Parameters, as a loop names them.
use Rattle.std.proofs.Common.{◌≡◌, ℕ, suc, ◌≤◌, true, false, Bool, List, [], ◌∷◌, length, refl, sym, ◌∙◌, ap, append_assoc, append-nil, length-append, arith, if◌then◌else◌}
use Rattle.std.specs.Prelude.{decimal}
use Rattle.ir_core.specs.declared.module.Param.{Param}
use Rattle.ir_lex.specs.declared.token.TokenKind.{TokenKind}
use Rattle.ir_lex.specs.declared.token.Token.{Token}
use Rattle.ir_grammar.specs.Tokens.{kinds, starts, mark}
use Rattle.ir_grammar.specs.Grammar.{many}
use Rattle.ir_grammar.specs.Parts.{behind_comma}
use Rattle.ir_grammar.specs.Reading.{Read, done, fault, read, put_before}
use Rattle.ir_grammar.proofs.Rows.{more, put_none, row_end}
use Rattle.ir_syntax.specs.declared.parameter.Written.{Written}
use Rattle.ir_syntax.specs.declared.parameter.NamedParams.{NamedParams}
use Rattle.ir_syntax.specs.Parameters.{param, is_numbered, name_or, named_from, numbered_from}
use Rattle.ir_syntax.specs.Naming.{named_behind, with_one}
use Rattle.ir_syntax.proofs.FineValues.{item-param}

-- one in front of a row is one behind those that were named
named_step : (all : List Param) (n : ℕ) (p : Written) (r : Read (List Written))
    → named_behind all n (put_before (p ∷ []) r) ≡ named_behind (with_one (record { named = all; numbered = n }) p).named (with_one (record { named = all; numbered = n }) p).numbered r
named_step all n p (done ps ts) =
    ap (λ (x : List Param). done (record { named = x; numbered = numbered_from (if is_numbered p.name then suc n else n) ps }) ts)
    (sym (append_assoc all (record { ty = p.ty; name = name_or p.name (decimal n) } ∷ []) (named_from (if is_numbered p.name then suc n else n) ps)))
named_step all n p (fault left) = refl

-- one more
pub more_named : (ps : NamedParams) (p : Written) (ts us : List Token) → read (behind_comma param) (kinds ts) ≡ done p (kinds us)
    → named_behind (with_one ps p).named (with_one ps p).numbered (read (many (behind_comma param)) (kinds us)) ≡ named_behind ps.named ps.numbered (read (many (behind_comma param)) (kinds ts))
more_named ps p ts us one =
    let row = more (behind_comma param) item-param ts us p one [] (p ∷ []) refl in
    sym (ap (named_behind ps.named ps.numbered) (sym (row ∙ put_none (read (many (behind_comma param)) (kinds ts))))
    ∙ named_step ps.named ps.numbered p (read (many (behind_comma param)) (kinds us)))

-- one more at most
few_by : (b : Bool) (n m : ℕ) → n ≤ m → (if b then suc n else n) ≤ suc m
few_by true n m h = omega arith
few_by false n m h = omega arith

-- no more are numbered than there are
pub few_more : (ps : NamedParams) (p : Written) → ps.numbered ≤ length ps.named → (with_one ps p).numbered ≤ length (with_one ps p).named
few_more ps p h =
    rw (length-append ps.named (record { ty = p.ty; name = name_or p.name (decimal ps.numbered) } ∷ [])) (let k = few_by (is_numbered p.name) ps.numbered (length ps.named) h in omega arith)

-- no comma is next
pub named_end : (ps : NamedParams) (ts : List TokenKind) → starts (mark 44 ∷ []) ts ≡ false → named_behind ps.named ps.numbered (read (many (behind_comma param)) ts) ≡ done ps ts
named_end ps ts e =
    ap (named_behind ps.named ps.numbered) (sym (put_none (read (many (behind_comma param)) ts)) ∙ row_end (behind_comma param) item-param [] ts e)
    ∙ ap (λ (x : List Param). done (record { named = x; numbered = ps.numbered }) ts) (append-nil ps.named)
