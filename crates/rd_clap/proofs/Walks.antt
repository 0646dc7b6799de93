-- The parser's walk over the arguments of one command.
use Rattle.std.proofs.Common.{◌≡◌, ℕ, ◌&&◌, ◌⊎◌, true, false, List, [], ◌∷◌, ◌++◌, drop, Some, None, refl, sym, ◌∙◌, ap, ap₂, subst, inl, inr, codes}
use Rattle.std.specs.Prelude.{fold}
use Rattle.std.specs.Str.{bytes_eq}
use Rattle.clap.specs.Lexer.{long_of}
use Rattle.clap.specs.Simple.{Shape}
use Rattle.clap.specs.Takes.{settle_passes, turn_passes, walk_passes}
use Rattle.clap.specs.Walk.{Text, Row, Held, Walk, arg_by_id, arg_by_index, arg_by_long, settled, reacted, pushed, used, used_by_id, walked}
use Rattle.rd_words.specs.Arguments.{Argument, File, Given, AreArguments, files, is_plain}
use Rattle.rd_clap.proofs.Turns.{single, between, behind, plain_is_no_flag, settles, file_walked, file_passes, whole_walked, whole_passes, alone_walked, alone_passes, value_walked, value_passes}

-- the name of an option, without its dashes
abbrev pub name_of : Text → Text
name_of option = drop 2 option

abbrev pub file_id : Text
file_id = codes "FILE"

-- the option is one of the command's
pub record IsKnown (s : Shape) (option : Text) : Type 0 where
  pub alone : long_of option ≡ Some (name_of option, None)
  pub whole : (v : Text) → long_of (option ++ 61 ∷ v) ≡ Some (name_of option, Some v)
  pub dashes : bytes_eq option (45 ∷ 45 ∷ []) ≡ false
  pub dashes_whole : (v : Text) → bytes_eq (option ++ 61 ∷ v) (45 ∷ 45 ∷ []) ≡ false
  pub by_long : arg_by_long s.rules (name_of option) ≡ Some (single (name_of option) (Some (name_of option)) None)
  pub by_id : arg_by_id s.rules (name_of option) ≡ Some (single (name_of option) (Some (name_of option)) None)

-- the command has FILE, and takes what was given last
pub record HasFile (s : Shape) : Type 0 where
  pub again : s.args_override_self ≡ true
  pub by_index : arg_by_index s.rules 1 ≡ Some (single file_id None (Some 1))
  pub by_id : arg_by_id s.rules file_id ≡ Some (single file_id None (Some 1))

abbrev pub AllKnown : Shape → List Argument → Type 0
AllKnown s [] = Unit {0}
AllKnown s (File name ∷ rest) = AllKnown s rest
AllKnown s (Given option value ∷ rest) = IsKnown s option × AllKnown s rest

-- the rows after an argument
abbrev pub with_argument : Argument → List Row → List Row
with_argument (File name) rows = used (single file_id None (Some 1)) (name ∷ []) rows
with_argument (Given option value) rows = used (single (name_of option) (Some (name_of option)) None) (value ∷ []) rows

abbrev pub with_arguments : List Argument → List Row → List Row
with_arguments [] rows = rows
with_arguments (a ∷ rest) rows = with_arguments rest (with_argument a rows)

-- the walk passes over the words, and ends between two arguments, with these rows
pub record Walks (s : Shape) (from : Walk) (words : List Text) (rows : List Row) : Type 0 where
  pub end : Held
  pub place : ℕ
  pub passes : walk_passes s [] from words ≡ true
  pub ends : fold (walked s.rules []) from words ≡ between end place
  pub settles : settle_passes s.rules s.args_override_self end ≡ true
  pub rows_are : (settled s.rules end).rows ≡ rows

-- where the walk stands among the positionals: FILE comes, or none
abbrev pub Places : ℕ → List Argument → Type 0
Places place args = ((place ≡ 1) × ((name : Text) × (files args ≡ name ∷ []))) ⊎ (files args ≡ [])

one_word : (s : Shape) (from to : Walk) (w : Text) (words : List Text) (rows : List Row) → walked s.rules [] from w ≡ to → turn_passes s [] from w ≡ true → Walks s to words rows → Walks s from (w ∷ words) rows
unfolding walk_passes
one_word s from to w words rows e turn x = record {
  end = x.end;
  place = x.place;
  passes = ap₂ (λ a b. a && b) turn (ap (λ t. walk_passes s [] t words) e ∙ x.passes);
  ends = ap (λ t. fold (walked s.rules []) t words) e ∙ x.ends;
  settles = x.settles;
  rows_are = x.rows_are;
}

no_word : (s : Shape) (h : Held) (place : ℕ) → settle_passes s.rules s.args_override_self h ≡ true → Walks s (between h place) [] (settled s.rules h).rows
unfolding walk_passes
no_word s h place ok = record { end = h; place = place; passes = refl; ends = refl; settles = ok; rows_are = refl }

abbrev Given_walks : Shape → Text → Text → List Argument → Held → ℕ → List Text → Type 0
Given_walks s option value rest h place words = Walks s (between h place) words (with_arguments rest (with_argument (Given option value) (settled s.rules h).rows))

given_walk : (s : Shape) → HasFile s → (option value : Text) (rest : List Argument) (words front back : List Text) (h : Held) (place : ℕ) → words ≡ front ++ back → IsKnown s option →
    settle_passes s.rules s.args_override_self h ≡ true →
    ((to : Held) → settle_passes s.rules s.args_override_self to ≡ true → Walks s (between to place) back (with_arguments rest (settled s.rules to).rows)) →
    ((is_plain value ≡ true) × (front ≡ option ∷ value ∷ [])) ⊎ (front ≡ (option ++ 61 ∷ value) ∷ []) → Given_walks s option value rest h place words
given_walk s has option value rest words front back h place e known ok go (inl two) =
    let i : Text = name_of option in
    let rows : List Row = (settled s.rules h).rows in
    let whole : words ≡ option ∷ value ∷ back = e ∙ ap (λ ws. ws ++ back) two.1 in
    let apart = plain_is_no_flag value two.0 in
    let to : Held = record { rows = rows; pending = Some (i, value ∷ []); skip = h.skip } in
    let waits : Held = record { rows = rows; pending = Some (i, []); skip = h.skip } in
    let rows_to : (settled s.rules to).rows ≡ with_argument (Given option value) rows = ap (λ o. used_by_id o (value ∷ []) rows) known.by_id in
    let more = go to (settles s has.again i (Some i) None value rows h.skip known.by_id) in
    let last : Walks s (between to place) back (with_arguments rest (with_argument (Given option value) rows)) = subst (λ r. Walks s (between to place) back (with_arguments rest r)) rows_to more in
    let second : Walks s (behind waits place i) (value ∷ back) (with_arguments rest (with_argument (Given option value) rows)) =
    one_word s (behind waits place i) (between to place) value back _ (value_walked s has.again i (Some i) value rows h.skip place known.by_id apart) (value_passes s has.again i (Some i) value rows h.skip place known.by_id apart) last in
    subst (Given_walks s option value rest h place) (sym whole)
    (one_word s (between h place) (behind waits place i) option (value ∷ back) _ (alone_walked s has.again i i option h place known.by_long known.dashes known.alone) (alone_passes s has.again i i option h place known.by_long known.dashes known.alone ok) second)
given_walk s has option value rest words front back h place e known ok go (inr one) =
    let i : Text = name_of option in
    let whole : words ≡ (option ++ 61 ∷ value) ∷ back = e ∙ ap (λ ws. ws ++ back) one in
    let to : Held = reacted s.rules (single i (Some i) None) (value ∷ []) h in
    subst (Given_walks s option value rest h place) (sym whole)
    (one_word s (between h place) (between to place) (option ++ 61 ∷ value) back _ (whole_walked s has.again i i (option ++ 61 ∷ value) h place known.by_long value (known.dashes_whole value) (known.whole value))
    (whole_passes s has.again i i (option ++ 61 ∷ value) h place known.by_long value (known.dashes_whole value) (known.whole value) ok) (go to refl))

module _ (s : Shape) (has : HasFile s) where
  pub args_walk : (args : List Argument) (words : List Text) (h : Held) (place : ℕ) → AreArguments words args → AllKnown s args → Places place args → settle_passes s.rules s.args_override_self h ≡ true →
      Walks s (between h place) words (with_arguments args (settled s.rules h).rows)
  args_walk [] words h place e known places ok = subst (λ ws. Walks s (between h place) ws (settled s.rules h).rows) (sym e) (no_word s h place ok)
  args_walk (File name ∷ rest) words h place (front, back, e) known (inr none) ok = absurd (cc)
  args_walk (File name ∷ rest) words h place (front, back, e) known (inl at) ok =
      let whole : words ≡ name ∷ back = e.0 ∙ ap (λ ws. ws ++ back) e.1.1 in
      let apart = plain_is_no_flag name e.1.0 in
      let rows : List Row = (settled s.rules h).rows in
      let to : Held = pushed file_id name (settled s.rules h) in
      let rows_to : (settled s.rules to).rows ≡ with_argument (File name) rows = ap (λ o. used_by_id o (name ∷ []) rows) has.by_id in
      let none : files rest ≡ [] = cc in
      let more = args_walk rest back to 2 e.2 known (inr none) (settles s has.again file_id None (Some 1) name rows h.skip has.by_id) in
      let last : Walks s (between to 2) back (with_arguments rest (with_argument (File name) rows)) = subst (λ r. Walks s (between to 2) back (with_arguments rest r)) rows_to more in
      let here : Walks s (between h 1) (name ∷ back) (with_arguments rest (with_argument (File name) rows)) =
      one_word s (between h 1) (between to 2) name back _ (file_walked s has.again file_id name h has.by_index apart) (file_passes s has.again file_id name h has.by_index apart ok) last in
      subst (λ ws. Walks s (between h place) ws (with_arguments rest (with_argument (File name) rows))) (sym whole)
      (subst (λ p. Walks s (between h p) (name ∷ back) (with_arguments rest (with_argument (File name) rows))) (sym at.0) here)
  args_walk (Given option value ∷ rest) words h place (front, back, e) (known, others) places ok =
      given_walk s has option value rest words front back h place e.0 known ok (λ to settled_to. args_walk rest back to place e.2 others places settled_to) e.1.1
