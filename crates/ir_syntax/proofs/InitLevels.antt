-- Initialisers, a level at a time.
use Rattle.std.proofs.Common.{◌≡◌, ℕ, zero, suc, ◌+◌, Bool, true, false, List, [], ◌∷◌, refl, ◌∙◌, ap, arith, if◌then◌else◌}
use Rattle.std.specs.Prelude.{codes, ◌||◌}
use Rattle.ir_lex.specs.declared.token.TokenKind.{TokenKind}
use Rattle.ir_grammar.specs.Tokens.{word, cstr, starts}
use Rattle.ir_grammar.specs.Reading.{first, read}
use Rattle.ir_grammar.proofs.Sets.{starts-append}
use Rattle.ir_syntax.specs.Values.{plain_value, place, fixed_value}
use Rattle.ir_syntax.specs.Initialisers.{simple_init, deep_init, init_at}

-- one level
level : (d n : ℕ) (ts : List TokenKind) → d ≡ suc n → read (init_at d) ts ≡ (if starts (first simple_init) ts then read simple_init ts else read (deep_init (init_at n)) ts)
unfolding init_at
level d n ts e = ap (λ k. read (init_at k) ts) e

-- the last level has no elements
pub shallow_init : (d : ℕ) (ts : List TokenKind) → d ≡ 0 → read (init_at d) ts ≡ read simple_init ts
unfolding init_at
shallow_init d ts e = ap (λ k. read (init_at k) ts) e

-- an initialiser without elements, at any level
pub simple_level : (d : ℕ) (ts : List TokenKind) → starts (first simple_init) ts ≡ true → read (init_at d) ts ≡ read simple_init ts
unfolding init_at
simple_level zero ts s = refl
simple_level (suc n) ts s = rw s refl

-- one with elements
pub deep_level : (d n : ℕ) (ts : List TokenKind) → d ≡ n + 1 → starts (first simple_init) ts ≡ false → read (init_at d) ts ≡ read (deep_init (init_at n)) ts
deep_level d n ts e s = level d n ts (omega arith) ∙ rw s refl

-- four tests in a row
or_four : (a b c d : Bool) → (a || b) || (c || d) ≡ a || (b || (c || d))
or_four true b c d = refl
or_four false b c d = refl

-- what values that are known before a run begin with
pub fixed_starts : (ts : List TokenKind) → starts (first fixed_value) ts ≡ starts (first plain_value) ts || starts (word (codes "getelementptr") ∷ []) ts
unfolding fixed_value place
fixed_starts ts = starts-append (first plain_value) (word (codes "getelementptr") ∷ []) ts

-- what initialisers without elements begin with
pub simple_starts : (ts : List TokenKind)
    → starts (first simple_init) ts ≡ (starts (first plain_value) ts || (starts (word (codes "getelementptr") ∷ []) ts || (starts (word (codes "zeroinitializer") ∷ []) ts || starts (cstr ∷ []) ts)))
unfolding simple_init
simple_starts ts =
    starts-append (first fixed_value) (word (codes "zeroinitializer") ∷ cstr ∷ []) ts
    ∙ (ap (λ b. b || starts (word (codes "zeroinitializer") ∷ cstr ∷ []) ts) (fixed_starts ts)
    ∙ (ap (λ b. (starts (first plain_value) ts || starts (word (codes "getelementptr") ∷ []) ts) || b) (starts-append (word (codes "zeroinitializer") ∷ []) (cstr ∷ []) ts)
    ∙ or_four (starts (first plain_value) ts) (starts (word (codes "getelementptr") ∷ []) ts) (starts (word (codes "zeroinitializer") ∷ []) ts) (starts (cstr ∷ []) ts)))
