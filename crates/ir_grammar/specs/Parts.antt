-- Parts that grammars are put together from: single tokens, lists with commas, things without a value.
use Rattle.std.specs.Prelude.{ℕ, List, [], ◌∷◌}
use Rattle.ir_grammar.specs.Tokens.{word, mark, label, local, global, debug_global, count, count_of, name_of}
use Rattle.ir_grammar.specs.Grammar.{Grammar, give, token, either, many, ◌▸◌, ◌▹◌}

-- this word
abbrev pub the_word : List ℕ → Grammar (Unit {0})
the_word w = token (word w) [] (λ _. tt)

-- this punctuation mark
abbrev pub the_mark : ℕ → Grammar (Unit {0})
the_mark m = token (mark m) [] (λ _. tt)

-- a number from 0 to 2^32 - 1
abbrev pub a_count : Grammar ℕ
a_count = token count [] count_of

-- a local's name
abbrev pub a_local : Grammar (List ℕ)
a_local = token local [] name_of

-- a global's name
abbrev pub a_global : Grammar (List ℕ)
a_global = token global (debug_global ∷ []) name_of

-- a label's name
abbrev pub a_label : Grammar (List ℕ)
a_label = token label [] name_of

-- any number of them, without a value
abbrev pub skip : {A : Type 0} → Grammar A → Grammar (Unit {0})
skip g = give (λ _. tt) ▸ many g

-- a comma and what stands behind it
abbrev pub behind_comma : {A : Type 0} → Grammar A → Grammar A
behind_comma g = give (λ x. x) ▹ the_mark 44 ▸ g

-- none or several with commas between, and a mark behind
abbrev pub listed : {A : Type 0} → ℕ → Grammar A → Grammar (List A)
listed close g = either (give [] ▹ the_mark close) (give (λ x xs. x ∷ xs) ▸ g ▸ many (behind_comma g) ▹ the_mark close)
