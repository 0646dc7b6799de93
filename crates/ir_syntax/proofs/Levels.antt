-- Types, a level at a time.
use Rattle.std.proofs.Common.{◌≡◌, ℕ, zero, suc, ◌+◌, true, false, List, [], ◌∷◌, refl, ◌∙◌, ap, arith, if◌then◌else◌}
use Rattle.ir_lex.specs.declared.token.TokenKind.{TokenKind}
use Rattle.ir_grammar.specs.Tokens.{mark, starts}
use Rattle.ir_grammar.specs.Reading.{first, read}
use Rattle.ir_syntax.specs.Types.{simple_type, array_type, struct_type, type_at}

-- one level
level : (d n : ℕ) (ts : List TokenKind) → d ≡ suc n → read (type_at d) ts ≡ (if starts (first simple_type) ts then read simple_type ts else if starts (first (array_type (type_at n))) ts then read (array_type (type_at n)) ts else read (struct_type (type_at n)) ts)
unfolding type_at
level d n ts e = ap (λ k. read (type_at k) ts) e

-- the last level has no parts
pub shallow : (d : ℕ) (ts : List TokenKind) → d ≡ 0 → read (type_at d) ts ≡ read simple_type ts
unfolding type_at
shallow d ts e = ap (λ k. read (type_at k) ts) e

-- a type without parts, at any level
pub deep_simple : (d : ℕ) (ts : List TokenKind) → starts (first simple_type) ts ≡ true → read (type_at d) ts ≡ read simple_type ts
unfolding type_at
deep_simple zero ts s = refl
deep_simple (suc n) ts s = rw s refl

-- an array
pub deep_array : (d n : ℕ) (ts : List TokenKind) → d ≡ n + 1 → starts (first simple_type) ts ≡ false → starts (mark 91 ∷ []) ts ≡ true → read (type_at d) ts ≡ read (array_type (type_at n)) ts
unfolding array_type
deep_array d n ts e s a = level d n ts (omega arith) ∙ rw s (rw a refl)

-- neither of these
pub deep_struct : (d n : ℕ) (ts : List TokenKind) → d ≡ n + 1 → starts (first simple_type) ts ≡ false → starts (mark 91 ∷ []) ts ≡ false → read (type_at d) ts ≡ read (struct_type (type_at n)) ts
unfolding array_type
deep_struct d n ts e s a = level d n ts (omega arith) ∙ rw s (rw a refl)
