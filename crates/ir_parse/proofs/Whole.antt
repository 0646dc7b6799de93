-- The whole of a text's tokens.
use Rattle.std.proofs.Common.{◌≡◌, ℕ, ◌-◌, ◌≤◌, List, [], ◌∷◌, ◌++◌, length, drop, length-append, arith, refl, sym, ◌∙◌, ap, subst}
use Rattle.ir_lex.specs.declared.token.Token.{Token}
use Rattle.ir_lex.specs.declared.token.TokenKind.{TokenKind}
use Rattle.ir_core.specs.declared.module.Module.{Module}
use Rattle.ir_grammar.specs.Tokens.{kinds}
use Rattle.ir_grammar.specs.Grammar.{Derives, Viable, Stray}
use Rattle.ir_grammar.specs.Reading.{done, fault, read}
use Rattle.ir_grammar.proofs.Exact.{is_text, one_text, stray, stray_behind}
use Rattle.ir_grammar.proofs.Rows.{length-kinds}
use Rattle.ir_grammar.proofs.Texts.{viable_text}
use Rattle.ir_syntax.specs.ModuleText.{module_text}
use Rattle.ir_syntax.proofs.FineModule.{fine-module_text}
use Rattle.ir_parse.specs.declared.parse.ParseFault.{ParseFault}
use Rattle.ir_parse.specs.declared.parse.ParseFault.TheVariants as why
use Rattle.ir_parse.specs.Faults.{Tells, Stops, Faults, AreOfText}

-- tokens that are read to their end
pub whole_text : (m : Module) (ts : List TokenKind) (rest : List Token) → read module_text ts ≡ done m (kinds rest) → length rest ≡ 0 → Derives module_text m ts
whole_text m ts [] e none = is_text module_text fine-module_text m ts e
whole_text m ts (t ∷ rest) e none = absurd (omega arith)

-- tokens that stop inside
pub stray_inside : (ts : List TokenKind) (left : ℕ) → read module_text ts ≡ fault left → Stray module_text ts left
stray_inside ts left e = stray module_text fine-module_text ts left e

-- tokens behind a module's
pub stray_behind_text : (m : Module) (ts : List TokenKind) (rest : List Token) → read module_text ts ≡ done m (kinds rest) → (rest ≡ [] → ⊥) → Stray module_text ts (length rest)
stray_behind_text m ts [] e some = absurd (some refl)
stray_behind_text m ts (t ∷ rest) e some = subst (Stray module_text ts) (length-kinds (t ∷ rest)) (stray_behind module_text fine-module_text ts m t.kind (kinds rest) e)

-- tokens are one module's at most
pub one_module : (a b : Module) (ts : List TokenKind) → Derives module_text a ts → Derives module_text b ts → a ≡ b
one_module a b ts d e = one_text module_text fine-module_text a b ts d e

-- no more tokens are left than there are
pub stray_few : (tokens : List Token) (left : ℕ) → Stray module_text (kinds tokens) left → left ≤ length tokens
stray_few tokens left s =
    let l = ap length s.cut in let parts = length-append s.front s.rest in let n = length-kinds tokens in let is = s.left_is in omega arith

-- tokens cut as their kinds are
record Cut (tokens : List Token) (front rest : List TokenKind) : Type 0 where
  left : List Token
  right : List Token
  whole : tokens ≡ left ++ right
  left_is : kinds left ≡ front
  right_is : kinds right ≡ rest
  dropped : drop (length front) tokens ≡ right

-- each cut of the kinds is one of the tokens
cut_of : (tokens : List Token) (front rest : List TokenKind) → kinds tokens ≡ front ++ rest → Cut tokens front rest
cut_of tokens [] rest e = record { left = []; right = tokens; whole = refl; left_is = refl; right_is = e; dropped = refl }
cut_of [] (k ∷ front) rest e = absurd (cc)
cut_of (t ∷ tokens) (k ∷ front) rest e =
    let c = cut_of tokens front rest (cc) in
    record { left = t ∷ c.left; right = c.right; whole = ap (λ x. t ∷ x) c.whole; left_is = (let same : t.kind ≡ k = cc in let l = c.left_is in cc); right_is = c.right_is; dropped = c.dropped }

-- the rest that a number of tokens left leads to
pub stray_stops : (tokens : List Token) (left end : ℕ) (says : ParseFault) → AreOfText tokens end → Stray module_text (kinds tokens) left
    → Tells (drop (length tokens - left) tokens) end says → Stops tokens end says
stray_stops tokens left end says (text, long, scans) s tells =
    let c = cut_of tokens s.front s.rest s.cut in
    let l = ap length s.cut in
    let parts = length-append s.front s.rest in
    let n = length-kinds tokens in
    let is = s.left_is in
    let at : length tokens - left ≡ length s.front = omega arith in
    let here : drop (length tokens - left) tokens ≡ c.right = ap (λ x. drop x tokens) at ∙ c.dropped in (
      c.left,
      c.right,
      c.whole,
      record {
        begins = viable_text module_text text tokens (kinds c.left) s.rest scans (s.cut ∙ ap (λ x. x ++ s.rest) (sym c.left_is)) (subst (Viable module_text) (sym c.left_is) s.viable);
        no_text = λ m. subst (λ x. Derives module_text m (kinds x) → ⊥) c.whole (s.no_text m);
        dead = λ t behind other m next d.
            s.dead t.kind (kinds behind) other m (sym c.right_is ∙ ap kinds next) (subst (λ x. Derives module_text m (x ++ t.kind ∷ other)) c.left_is d);
      },
      subst (λ x. Tells x end says) here tells,
    )

-- what a fault says
pub stray_fault : (tokens : List Token) (left end : ℕ) (says : ParseFault) → AreOfText tokens end → Stray module_text (kinds tokens) left
    → Tells (drop (length tokens - left) tokens) end says → Faults tokens end says
stray_fault tokens left end (why.Grammar place) t s tells = stray_stops tokens left end (why.Grammar place) t s tells
stray_fault tokens left end (why.Unsupported place word) t s tells = stray_stops tokens left end (why.Unsupported place word) t s tells
stray_fault tokens left end why.NoMemory t s tells = tt

-- tokens are a module's, or they stop
pub never_both : (m : Module) (tokens : List Token) (end place : ℕ) → Derives module_text m (kinds tokens) → ¬ (Faults tokens end (why.Grammar place))
never_both m tokens end place d (front, rest, cut, s, t) = s.no_text m (subst (λ x. Derives module_text m (kinds x)) cut d)
