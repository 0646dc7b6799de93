-- Grammars as they are read, by one token ahead.
use Rattle.std.specs.Prelude.{◌≡◌, ℕ, zero, suc, ◌&&◌, ◌||◌, Bool, true, false, not, List, [], ◌∷◌, ◌++◌, length, if◌then◌else◌, ◌==◌, Result, Ok, Err, Option, Some, None, ◌⊎◌}
use Rattle.std.proofs.Common.{inl, inr}
use Rattle.ir_lex.specs.declared.token.TokenKind.{TokenKind}
use Rattle.ir_grammar.specs.declared.cursor.Stop.{Stop}
use Rattle.ir_grammar.specs.declared.cursor.Stop.TheVariants as stop
use Rattle.ir_grammar.specs.Tokens.{Sort, mark, same_sort, sort_of, example, is_spellable, has, starts}
use Rattle.ir_grammar.specs.declared.bracket.Shape.{Shape}
use Rattle.ir_grammar.specs.declared.bracket.Shape.TheVariants.{Opens, Closes, Plain}
use Rattle.ir_grammar.specs.Brackets.{mark_shape, shape_of}
use Rattle.ir_grammar.specs.Grammar.{Grammar, give, token, both, either, many, nest, loop}

-- whether no token derives
abbrev pub null : {A : Type 0} → Grammar A → Bool
null (give a) = true
null (token s ss f) = false
null (both f g h) = null g && null h
null (either g h) = null g || null h
null (many g) = true
null (nest o c) = false
null (loop s g h) = true

-- the sorts, where something may be empty
abbrev pub where_null : Bool → List Sort → List Sort
where_null true sorts = sorts
where_null false sorts = []

-- what derivations begin with
abbrev pub first : {A : Type 0} → Grammar A → List Sort
first (give a) = []
first (token s ss f) = s ∷ ss
first (both f g h) = first g ++ where_null (null g) (first h)
first (either g h) = first g ++ first h
first (many g) = first g
first (nest o c) = mark o ∷ []
first (loop s g h) = first s ++ where_null (null s) (first g ++ first h)

-- what may make a derivation longer
abbrev pub next : {A : Type 0} → Grammar A → List Sort
next (give a) = []
next (token s ss f) = []
next (both f g h) = next h ++ where_null (null h) (next g)
next (either g h) = next g ++ (next h ++ where_null (null h) (first g))
next (many g) = next g ++ first g
next (nest o c) = []
next (loop s g h) = first s ++ (next g ++ next h)

-- whether two lists have no sort in common
abbrev pub apart : List Sort → List Sort → Bool
apart [] ss = true
apart (r ∷ rs) ss = not (has ss r) && apart rs ss

-- whether a bracket closes a pair
abbrev pub is_closing : Shape → Bool
is_closing (Opens c) = false
is_closing (Closes c) = true
is_closing Plain = false

-- whether a separator ends before either part, the parts are apart, and the first ends before a separator
abbrev pub is_looped : {S A B : Type 0} → Grammar S → Grammar A → Grammar B → Bool
is_looped s g h =
    not (null s) && (not (null g) && (not (null h) && (apart (next s) (first g) && (apart (next s) (first h) && (apart (first g) (first h) && apart (next g) (first s))))))

-- one token ahead tells how to read on, and examples that end a text have spellings
abbrev pub fine : {A : Type 0} → Grammar A → Bool
fine (give a) = true
fine (token s ss f) = is_spellable s
fine (both f g h) = fine g && (fine h && apart (next g) (first h))
fine (either g h) = fine g && (fine h && (not (null g) && apart (first g) (first h)))
fine (many g) = fine g && (not (null g) && apart (next g) (first g))
fine (nest o c) = is_spellable (mark o) && (is_spellable (mark c) && is_closing (mark_shape c))
fine (loop s g h) = fine s && (fine g && (fine h && is_looped s g h))

-- what is read: a value and the tokens behind it, or the number of tokens left at the first stray one
pub data Read (A : Type 0) : Type 0 where
  done : A → List TokenKind → Read A
  fault : ℕ → Read A

infixl 10 ◌>>=◌
abbrev pub ◌>>=◌ : {A B : Type 0} → Read A → (A → List TokenKind → Read B) → Read B
done a ts >>= f = f a ts
fault n >>= f = fault n

-- one token of these sorts, with its value
abbrev pub read_one : {A : Type 0} → List Sort → (TokenKind → A) → List TokenKind → Read A
read_one sorts f [] = fault 0
read_one sorts f (t ∷ ts) = if has sorts (sort_of t) then done (f t) ts else fault (length (t ∷ ts))

-- at most this many, as long as a token of these sorts is next
abbrev pub read_row : {A : Type 0} → ℕ → List Sort → (List TokenKind → Read A) → List TokenKind → Read (List A)
read_row zero sorts r ts = done [] ts
read_row (suc n) sorts r ts = if starts sorts ts then (r ts >>= λ a us. read_row n sorts r us >>= λ rest vs. done (a ∷ rest) vs) else done [] ts

-- what is behind a separator: one thing where a token of these sorts is next, else another
abbrev pub read_choice : {A B : Type 0} → List Sort → (List TokenKind → Read A) → (List TokenKind → Read B) → List TokenKind → Read (A ⊎ B)
read_choice sorts r q ts = if starts sorts ts then (r ts >>= λ a us. done (inl a) us) else (q ts >>= λ b us. done (inr b) us)

-- a separator and what is behind it
abbrev pub read_round : {A B : Type 0} → (List TokenKind → Read (Unit {0})) → List Sort → (List TokenKind → Read A) → (List TokenKind → Read B) → List TokenKind → Read (A ⊎ B)
read_round s sorts r q ts = s ts >>= λ _ us. read_choice sorts r q us >>= λ x vs. done x vs

-- one more of a row, or the end of it
abbrev pub with_round : {A B : Type 0} → A ⊎ B → List A × Option B → List A × Option B
with_round (inl a) x = (a ∷ x.0, x.1)
with_round (inr b) x = ([], Some b)

-- nothing is read behind the end
abbrev pub unless_last : {A B : Type 0} → A ⊎ B → (List TokenKind → Read (List A × Option B)) → List TokenKind → Read (List A × Option B)
unless_last (inl a) go ts = go ts
unless_last (inr b) go ts = done ([], None) ts

-- at most this many, as long as a token of these sorts is next and none was the last
abbrev pub read_rounds : {A B : Type 0} → ℕ → List Sort → (List TokenKind → Read (A ⊎ B)) → List TokenKind → Read (List A × Option B)
read_rounds zero sorts r ts = done ([], None) ts
read_rounds (suc n) sorts r ts =
    if starts sorts ts then (r ts >>= λ x us. unless_last x (λ vs. read_rounds n sorts r vs) us >>= λ y vs. done (with_round x y) vs) else done ([], None) ts

-- what a token does to the brackets that are open: it opens one more, closes the last one, or neither
abbrev pub by_shape : Shape → ℕ → List ℕ → ℕ → (List ℕ → Read (Unit {0})) → Read (Unit {0})
by_shape (Opens d) c cs left go = go (d ∷ c ∷ cs)
by_shape (Closes d) c cs left go = if d == c then go cs else fault left
by_shape Plain c cs left go = go (c ∷ cs)

-- to the end of the groups that are open, with these closing marks
abbrev pub scan : List TokenKind → List ℕ → Read (Unit {0})
scan ts [] = done tt ts
scan [] (c ∷ cs) = fault 0
scan (t ∷ ts) (c ∷ cs) = by_shape (shape_of t) c cs (length (t ∷ ts)) (λ marks. scan ts marks)

-- a group with these two brackets
abbrev pub read_nest : ℕ → ℕ → List TokenKind → Read (Unit {0})
read_nest o c [] = fault 0
read_nest o c (t ∷ ts) = if same_sort (mark o) (sort_of t) then scan ts (c ∷ []) else fault (length (t ∷ ts))

-- what is read of tokens by a grammar
abbrev pub read : {A : Type 0} → Grammar A → List TokenKind → Read A
read (give a) ts = done a ts
read (token s ss f) ts = read_one (s ∷ ss) f ts
read (both f g h) ts = read g ts >>= λ a us. read h us >>= λ b vs. done (f a b) vs
read (either g h) ts = if starts (first g) ts then read g ts else read h ts
read (many g) ts = read_row (length ts) (first g) (read g) ts
read (nest o c) ts = read_nest o c ts
read (loop s g h) ts = read_rounds (length ts) (first s) (read_round (read s) (first g) (read g) (read h)) ts

-- a shortest way to end
abbrev pub ending : {A : Type 0} → Grammar A → List Sort
ending (give a) = []
ending (token s ss f) = s ∷ []
ending (both f g h) = ending g ++ ending h
ending (either g h) = ending g
ending (many g) = []
ending (nest o c) = mark o ∷ mark c ∷ []
ending (loop s g h) = []

-- its value
abbrev pub ending_value : {A : Type 0} → Grammar A → A
ending_value (give a) = a
ending_value (token s ss f) = f (example s)
ending_value (both f g h) = f (ending_value g) (ending_value h)
ending_value (either g h) = ending_value g
ending_value (many g) = []
ending_value (nest o c) = tt
ending_value (loop s g h) = ([], None)

-- what a function returned, seen by view, is what reading gives, unless memory ran out
abbrev pub Gives : {X A : Type 0} → (X → Read A) → Result X Stop → Read A → Type 0
Gives view (Ok x) r = r ≡ view x
Gives view (Err (stop.Stray left)) r = r ≡ fault left
Gives view (Err stop.NoMemory) r = Unit {0}

-- what was read before, in front of a row
abbrev pub put_before : {A : Type 0} → List A → Read (List A) → Read (List A)
put_before xs (done ys ts) = done (xs ++ ys) ts
put_before xs (fault left) = fault left

-- a function that was read, at an argument
abbrev pub applied : {A B : Type 0} → A → Read (A → B) → Read B
applied a (done f ts) = done (f a) ts
applied a (fault left) = fault left

-- what was read before, in front of a row behind separators, and without what ends it
abbrev pub put_row : {A B : Type 0} → List A → Read (List A × Option B) → Read (List A)
put_row xs r = r >>= λ y ts. done (xs ++ y.0) ts
