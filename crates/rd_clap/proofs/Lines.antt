-- The values that the parser finds are those that the arguments have.
use Rattle.std.proofs.Common.{◌≡◌, ℕ, ◌&&◌, Bool, true, false, List, [], ◌∷◌, ◌++◌, length, Option, Some, None, refl, sym, ◌∙◌, ap, ap₂, subst, inl, inr, codes, arith}
use Rattle.std.specs.Prelude.{if◌then◌else◌, nat_le, cond, find, fold, is_some, option_and_then, option_map, slice_get}
use Rattle.std.specs.Cmp.Lexicographic.{same_text}
use Rattle.std.specs.List.{list_all}
use Rattle.std.specs.Str.{bytes_eq}
use Rattle.std.proofs.lemmas.Bool.Decides.{nat_tests}
use Rattle.clap.proofs.SimpleLemmas.{is_nil}
use Rattle.clap.proofs.WalkLemmas.{both}
use Rattle.clap.specs.Simple.{Shape, built, entered, rows_at, subcommand_of}
use Rattle.clap.specs.Walk.{Text, Row, Rule, Walk, arg_by_id, at_row, default_rows, finished, first_of, has_row, is_empty, more_values, nothing_held, reading_by, stronger, settled, with_default}
use Rattle.clap.specs.declared.parser.matches.ValueSource.TheVariants.{CommandLine}
use Rattle.rd_words.specs.Arguments.{Argument, File, Given, AreArguments, IsLine, files, same, values, with_value}
use Rattle.rd_words.specs.Read.{ask, ask_file, ask_workload, if_number, with_file, with_one, with_three, with_two}
use Rattle.rd_words.specs.Words.{Reading, Compile, Build, Lay, Run, Show, Eval, Watch, Check, Print, Certify, Gen, IsReading, IsWorkload}
use Rattle.rd_clap.specs.Found.{found_in}
use Rattle.rd_clap.specs.Program.{program_app}
use Rattle.rd_clap.proofs.Known.{AreApart, KnownOptions, line_is_bare, line_is_known, none_apart, options}
use Rattle.rd_clap.proofs.Turns.{between, same_self, single}
use Rattle.rd_clap.proofs.Walks.{AllKnown, HasFile, IsKnown, Walks, args_walk, file_id, name_of, with_argument, with_arguments}
use Rattle.rd_clap.proofs.Whole.{IsCommandOf, walk_stops, build_apart, build_is, build_options, certify_is, check_is, compile_apart, compile_is, compile_options, gen_apart, gen_is, gen_options, lay_apart, lay_is, lay_options, print_is, run_apart, run_is, run_options, show_apart, show_is, show_options, eval_apart, eval_is, eval_options, watch_apart, watch_is, watch_options}

row_in : Text → List Row → Option Row
row_in i rows = find (λ r. bytes_eq r.id i) rows

-- ---- rows with one row changed

at_other : (i j : Text) (change : Row → List Row) (missing : List Row) → bytes_eq j i ≡ false →
    ((r : Row) (rest : List Row) → bytes_eq r.id i ≡ false → row_in i (change r ++ rest) ≡ row_in i rest) → row_in i missing ≡ None →
    (rows : List Row) → row_in i (at_row j change missing rows) ≡ row_in i rows
unfolding row_in
at_other i j change missing apart here none [] = none
at_other i j change missing apart here none (r ∷ rs) = by (bytes_eq r.id j) refl (at_other i j change missing apart here none rs)
  where
    by : (b : Bool) → bytes_eq r.id j ≡ b → row_in i (at_row j change missing rs) ≡ row_in i rs → row_in i (if b then change r ++ rs else r ∷ at_row j change missing rs) ≡ row_in i (r ∷ rs)
    by true e go =
        let other : bytes_eq r.id i ≡ false = ap (λ x. bytes_eq x i) (same_text r.id j (sym e)) ∙ apart in
        here r rs other ∙ sym (ap (λ b. cond b (Some r) (row_in i rs)) other)
    by false e go = ap (λ o. cond (bytes_eq r.id i) (Some r) o) go

at_none : (i : Text) (change : Row → List Row) (missing : List Row) (rows : List Row) → row_in i rows ≡ None → at_row i change missing rows ≡ rows ++ missing
unfolding row_in
at_none i change missing [] none = refl
at_none i change missing (r ∷ rs) none = by (bytes_eq r.id i) none (λ k. at_none i change missing rs k)
  where
    by : (b : Bool) → cond b (Some r) (row_in i rs) ≡ None → (row_in i rs ≡ None → at_row i change missing rs ≡ rs ++ missing) → (if b then change r ++ rs else r ∷ at_row i change missing rs) ≡ r ∷ (rs ++ missing)
    by true k go = absurd (cc)
    by false k go = ap (λ xs. r ∷ xs) (go k)

behind_none : (i : Text) (rows more : List Row) → row_in i rows ≡ None → row_in i (rows ++ more) ≡ row_in i more
unfolding row_in
behind_none i [] more none = refl
behind_none i (r ∷ rs) more none = by (bytes_eq r.id i) none (λ k. behind_none i rs more k)
  where
    by : (b : Bool) → cond b (Some r) (row_in i rs) ≡ None → (row_in i rs ≡ None → row_in i (rs ++ more) ≡ row_in i more) → cond b (Some r) (row_in i (rs ++ more)) ≡ row_in i more
    by true k go = absurd (cc)
    by false k go = go k

-- ---- arguments

id_of : Argument → Text
id_of (File name) = file_id
id_of (Given option value) = name_of option

text_of : Argument → Text
text_of (File name) = name
text_of (Given option value) = value

-- the row of a first value, and a row with one value more
abbrev new_row : Text → Text → Row
new_row i v = record { id = i; values = v ∷ []; count = None; source = Some CommandLine; reading = reading_by (single i None None) }

abbrev more : Text → Row → List Row
more v = more_values CommandLine (v ∷ [])

abbrev put_value : Text → Text → List Row → List Row
put_value i v rows = at_row i (more v) (new_row i v ∷ []) (at_row i (λ _. []) [] rows)

-- a value of another id keeps a row
put_keeps : (i j v : Text) (rows : List Row) → bytes_eq j i ≡ false → row_in i (put_value j v rows) ≡ row_in i rows
unfolding row_in
put_keeps i j v rows apart =
    at_other i j (more v) (new_row j v ∷ []) apart (λ r rest other. ap (λ b. cond b (Some (record r { values = r.values ++ v ∷ []; source = Some (stronger r.source CommandLine) })) (row_in i rest)) other)
    (ap (λ b. cond b (Some (new_row j v)) None) apart) (at_row j (λ _. []) [] rows) ∙
    at_other i j (λ _. []) [] apart (λ r rest other. refl) refl rows

keeps : (i : Text) (a : Argument) (rows : List Row) → bytes_eq (id_of a) i ≡ false → row_in i (with_argument a rows) ≡ row_in i rows
unfolding id_of
keeps i (File name) rows apart = put_keeps i file_id name rows apart
keeps i (Given option value) rows apart = put_keeps i (name_of option) value rows apart

value_of_row : Option Row → Option Text
value_of_row o = option_and_then (λ r. slice_get r.values 0) o

-- the first value of an id makes its row
put_sets : (i v : Text) (rows : List Row) → row_in i rows ≡ None → value_of_row (row_in i (put_value i v rows)) ≡ Some v
unfolding row_in value_of_row
put_sets i v rows none =
    let same_rows = at_none i (λ _. []) [] rows none in
    let still : row_in i (rows ++ []) ≡ None = behind_none i rows [] none in
    ap (λ xs. value_of_row (row_in i (at_row i (more v) (new_row i v ∷ []) xs))) same_rows ∙
    ap (λ xs. value_of_row (row_in i xs)) (at_none i (more v) (new_row i v ∷ []) (rows ++ []) still) ∙
    ap value_of_row (behind_none i (rows ++ []) (new_row i v ∷ []) still) ∙
    ap (λ b. value_of_row (cond b (Some (new_row i v)) None)) (same_self i)

sets : (a : Argument) (rows : List Row) → row_in (id_of a) rows ≡ None → value_of_row (row_in (id_of a) (with_argument a rows)) ≡ Some (text_of a)
unfolding id_of text_of
sets (File name) rows none = put_sets file_id name rows none
sets (Given option value) rows none = put_sets (name_of option) value rows none

-- what the arguments of an id are given
given_to : Text → List Argument → List Text
given_to i [] = []
given_to i (a ∷ rest) = with_value (bytes_eq (id_of a) i) (text_of a) (given_to i rest)

all_keep : (i : Text) (args : List Argument) (rows : List Row) → given_to i args ≡ [] → row_in i (with_arguments args rows) ≡ row_in i rows
unfolding given_to
all_keep i [] rows none = refl
all_keep i (a ∷ rest) rows none = by (bytes_eq (id_of a) i) refl none (λ k. all_keep i rest (with_argument a rows) k)
  where
    by : (b : Bool) → bytes_eq (id_of a) i ≡ b → with_value b (text_of a) (given_to i rest) ≡ [] → (given_to i rest ≡ [] → row_in i (with_arguments rest (with_argument a rows)) ≡ row_in i (with_argument a rows)) → row_in i (with_arguments rest (with_argument a rows)) ≡ row_in i rows
    by true e k go = absurd (cc)
    by false e k go = go k ∙ keeps i a rows e

one_value : (i v : Text) (args : List Argument) (rows : List Row) → given_to i args ≡ v ∷ [] → row_in i rows ≡ None → value_of_row (row_in i (with_arguments args rows)) ≡ Some v
unfolding given_to
one_value i v [] rows one none = absurd (cc)
one_value i v (a ∷ rest) rows one none = by (bytes_eq (id_of a) i) refl one (λ k n. one_value i v rest (with_argument a rows) k n)
  where
    by : (b : Bool) → bytes_eq (id_of a) i ≡ b → with_value b (text_of a) (given_to i rest) ≡ v ∷ [] →
        (given_to i rest ≡ v ∷ [] → row_in i (with_argument a rows) ≡ None → value_of_row (row_in i (with_arguments rest (with_argument a rows))) ≡ Some v) → value_of_row (row_in i (with_arguments rest (with_argument a rows))) ≡ Some v
    by true e k go =
        let is : id_of a ≡ i = same_text (id_of a) i (sym e) in
        let first : text_of a ≡ v = cc in
        let no_more : given_to i rest ≡ [] = cc in
        ap value_of_row (all_keep i rest (with_argument a rows) no_more) ∙
        subst (λ j. value_of_row (row_in j (with_argument a rows)) ≡ Some v) is (sets a rows (subst (λ j. row_in j rows ≡ None) (sym is) none) ∙ ap (λ t. Some t) first)
    by false e k go = go k (keeps i a rows e ∙ none)

-- ---- by FILE and by the options

abbrev is_indexed : Option Rule → Bool
is_indexed None = false
is_indexed (Some a) = is_some a.index

-- a known option isn't named as FILE is
file_apart : (s : Shape) (o : Text) → HasFile s → IsKnown s o → (b : Bool) → bytes_eq (name_of o) file_id ≡ b → b ≡ false
file_apart s o has known false e = refl
file_apart s o has known true e =
    let is : name_of o ≡ file_id = same_text (name_of o) file_id (sym e) in
    let twice : arg_by_id s.rules file_id ≡ Some (single (name_of o) (Some (name_of o)) None) = sym (ap (arg_by_id s.rules) is) ∙ known.by_id in
    let one : Some (single file_id None (Some 1)) ≡ Some (single (name_of o) (Some (name_of o)) None) = sym has.by_id ∙ twice in
    let bad : true ≡ false = ap is_indexed one in
    absurd (cc)

turned : (xs ys : Text) → bytes_eq xs ys ≡ false → (b : Bool) → bytes_eq ys xs ≡ b → b ≡ false
turned xs ys h false e = refl
turned xs ys h true e =
    let is : ys ≡ xs = same_text ys xs (sym e) in
    let self : bytes_eq xs ys ≡ true = ap (bytes_eq xs) is ∙ same_self xs in
    absurd (cc)

files_given : (s : Shape) (args : List Argument) → HasFile s → AllKnown s args → given_to file_id args ≡ files args
unfolding given_to id_of text_of
files_given s [] has known = refl
files_given s (File name ∷ rest) has known = ap (λ vs. name ∷ vs) (files_given s rest has known)
files_given s (Given o v ∷ rest) has known =
    ap (λ b. with_value b v (given_to file_id rest)) (file_apart s o has known.0 (bytes_eq (name_of o) file_id) refl) ∙ files_given s rest has known.1

-- an option with its dashes
abbrev IsDashed : Text → Type 0
IsDashed o = o ≡ 45 ∷ 45 ∷ name_of o

same_names : (o x : Text) → IsDashed o → IsDashed x → bytes_eq (name_of x) (name_of o) ≡ same o x
same_names o x a b = turned_same (name_of o) (name_of x) ∙ sym (ap₂ same a b)
  where
    turned_same : (xs ys : Text) → bytes_eq ys xs ≡ bytes_eq xs ys
    turned_same xs ys = by (bytes_eq xs ys) refl
      where
        by : (b : Bool) → bytes_eq xs ys ≡ b → bytes_eq ys xs ≡ b
        by true e = let is : xs ≡ ys = same_text xs ys (sym e) in ap (λ zs. bytes_eq zs xs) (sym is) ∙ same_self xs
        by false e = turned xs ys e (bytes_eq ys xs) refl

dashed : (o name : Text) → o ≡ 45 ∷ 45 ∷ name → IsDashed o
dashed o name e = subst (λ w. w ≡ 45 ∷ 45 ∷ name_of w) (sym e) refl

values_given : (o : Text) → IsDashed o → bytes_eq file_id (name_of o) ≡ false → (args : List Argument) (words : List Text) → AreArguments words args → given_to (name_of o) args ≡ values o args
unfolding given_to id_of text_of
values_given o d apart [] words h = refl
values_given o d apart (File name ∷ rest) words (front, back, h) =
    ap (λ b. with_value b name (given_to (name_of o) rest)) apart ∙ values_given o d apart rest back h.2
values_given o d apart (Given x v ∷ rest) words (front, back, h) =
    ap₂ (λ b vs. with_value b v vs) (same_names o x d (dashed x h.1.0.name h.1.0.dashes)) (values_given o d apart rest back h.2)

-- ---- what is found on a line

no_defaults : (rules : List Rule) (rows : List Row) → list_all (λ a. is_empty a.defaults) rules ≡ true → fold with_default rows rules ≡ rows
no_defaults [] rows h = refl
no_defaults (a ∷ rest) rows h =
    let two = both (is_empty a.defaults) (list_all (λ x. is_empty x.defaults) rest) h in
    let one : with_default rows a ≡ rows = ap (λ vs. if has_row a.id rows then rows else default_rows a.id (reading_by a) vs rows) (is_nil a.defaults two.0) ∙ either (has_row a.id rows) in
    ap (λ r. fold with_default r rest) one ∙ no_defaults rest rows two.1
  where
    either : (b : Bool) → (if b then rows else rows) ≡ rows
    either true = refl
    either false = refl

walk_finds : (s : Shape) (others : List Text) (rows : List Row) → list_all (λ a. is_empty a.defaults) s.rules ≡ true → Walks s (between nothing_held 1) others rows → rows_at s others ≡ (s.name, rows)
walk_finds s others rows bare x =
    ap (λ (w : Walk). (s.name, finished s.rules w.held)) x.ends ∙ ap (λ r. (s.name, r)) (no_defaults s.rules (settled s.rules x.end).rows bare ∙ x.rows_are)

module _ (command name : Text) (s : Shape) (wanted : List Argument) (words : List Text) (is : IsCommandOf command s) (l : IsLine words command (File name ∷ wanted))
    (same_length : length wanted ≡ length (options wanted)) (apart : AreApart (options wanted)) (known : KnownOptions s (options wanted)) where
  abbrev line_rows : List Row
  line_rows = with_arguments l.args []

  line_known : AllKnown s l.args
  line_known = line_is_known s words command name wanted l same_length apart known

  line_found : subcommand_of program_app words ≡ Some (command, line_rows)
  line_found =
      let walks = args_walk s is.has l.args l.others nothing_held 1 l.spelled line_known (inl (refl, (name, l.each_once.0))) refl in
      ap (subcommand_of program_app) l.command_first ∙
      ap (λ (w : Walk). entered (built program_app) w.stopped) (walk_stops command s is l.others) ∙
      ap (option_map (λ x. rows_at x l.others)) is.found ∙
      ap (λ p. Some p) (walk_finds s l.others line_rows is.bare walks ∙ ap (λ c. (c, line_rows)) is.name)

  line_file : first_of file_id line_rows ≡ Some name
  unfolding row_in value_of_row
  line_file = one_value file_id name l.args [] (files_given s l.args is.has line_known ∙ l.each_once.0) refl

  line_value : (o v : Text) → IsDashed o → bytes_eq file_id (name_of o) ≡ false → values o l.args ≡ v ∷ [] → first_of (name_of o) line_rows ≡ Some v
  unfolding row_in value_of_row
  line_value o v d not_file one = one_value (name_of o) v l.args [] (values_given o d not_file l.args l.others l.spelled ∙ one) refl

-- the same on a line without a file
module _ (command : Text) (s : Shape) (wanted : List Argument) (words : List Text) (is : IsCommandOf command s) (l : IsLine words command wanted)
    (same_length : length wanted ≡ length (options wanted)) (apart : AreApart (options wanted)) (known : KnownOptions s (options wanted)) where
  abbrev bare_rows : List Row
  bare_rows = with_arguments l.args []

  bare_found : subcommand_of program_app words ≡ Some (command, bare_rows)
  bare_found =
      let all = line_is_bare s words command wanted l same_length apart known in
      let walks = args_walk s is.has l.args l.others nothing_held 1 l.spelled all.known (inr all.none) refl in
      ap (subcommand_of program_app) l.command_first ∙
      ap (λ (w : Walk). entered (built program_app) w.stopped) (walk_stops command s is l.others) ∙
      ap (option_map (λ x. rows_at x l.others)) is.found ∙
      ap (λ p. Some p) (walk_finds s l.others bare_rows is.bare walks ∙ ap (λ c. (c, bare_rows)) is.name)

  bare_value : (o v : Text) → IsDashed o → bytes_eq file_id (name_of o) ≡ false → values o l.args ≡ v ∷ [] → first_of (name_of o) bare_rows ≡ Some v
  unfolding row_in value_of_row
  bare_value o v d not_file one = one_value (name_of o) v l.args [] (values_given o d not_file l.args l.others l.spelled ∙ one) refl

within : (n : ℕ) → IsWorkload n → (if nat_le 1 n && nat_le n 4000 then Some (Gen n) else None) ≡ Some (Gen n)
within n w =
    let a = w.some in
    let b = w.most in
    let c : (nat_le 1 n && nat_le n 4000) ≡ true = grind (arith, nat_tests, a, b) in
    ap (λ x. if x then Some (Gen n) else None) c

-- what is found on a line is what it asks for
pub reading_is_found : (words : List Text) (r : Reading) → IsReading words r → found_in (subcommand_of program_app words) ≡ Some r
reading_is_found words (Compile file m n) (a, b, h) =
    ap found_in (line_found (codes "compile") file _ _ words compile_is h.0 refl compile_apart compile_options) ∙
    ap₂ (λ f x. with_two f x (if_number (first_of (codes "reg-seed") (line_rows (codes "compile") file _ _ words compile_is h.0 refl compile_apart compile_options)))) (line_file (codes "compile") file _ _ words compile_is h.0 refl compile_apart compile_options)
    (ap if_number (line_value (codes "compile") file _ _ words compile_is h.0 refl compile_apart compile_options (codes "--slot-seed") a refl refl h.0.each_once.1.0) ∙ h.1) ∙
    ap (λ y. with_two (Some file) (Some m) y) (ap if_number (line_value (codes "compile") file _ _ words compile_is h.0 refl compile_apart compile_options (codes "--reg-seed") b refl refl h.0.each_once.1.1.0) ∙ h.2)
reading_is_found words (Build file m n k) (a, b, c, h) =
    ap found_in (line_found (codes "build") file _ _ words build_is h.0 refl build_apart build_options) ∙
    ap₂ (λ f x. with_three f x (if_number (first_of (codes "reg-seed") (line_rows (codes "build") file _ _ words build_is h.0 refl build_apart build_options))) (if_number (first_of (codes "layout-seed") (line_rows (codes "build") file _ _ words build_is h.0 refl build_apart build_options))))
    (line_file (codes "build") file _ _ words build_is h.0 refl build_apart build_options) (ap if_number (line_value (codes "build") file _ _ words build_is h.0 refl build_apart build_options (codes "--slot-seed") a refl refl h.0.each_once.1.0) ∙ h.1) ∙
    ap₂ (λ x y. with_three (Some file) (Some m) x y) (ap if_number (line_value (codes "build") file _ _ words build_is h.0 refl build_apart build_options (codes "--reg-seed") b refl refl h.0.each_once.1.1.0) ∙ h.2)
    (ap if_number (line_value (codes "build") file _ _ words build_is h.0 refl build_apart build_options (codes "--layout-seed") c refl refl h.0.each_once.1.1.1.0) ∙ h.3)
reading_is_found words (Lay file n) (a, h) =
    ap found_in (line_found (codes "lay") file _ _ words lay_is h.0 refl lay_apart lay_options) ∙
    ap₂ (λ f x. ask Lay (with_one f x)) (line_file (codes "lay") file _ _ words lay_is h.0 refl lay_apart lay_options) (ap if_number (line_value (codes "lay") file _ _ words lay_is h.0 refl lay_apart lay_options (codes "--layout-seed") a refl refl h.0.each_once.1.0) ∙ h.1)
reading_is_found words (Run file n) (a, h) =
    ap found_in (line_found (codes "run") file _ _ words run_is h.0 refl run_apart run_options) ∙
    ap₂ (λ f x. ask Run (with_one f x)) (line_file (codes "run") file _ _ words run_is h.0 refl run_apart run_options) (ap if_number (line_value (codes "run") file _ _ words run_is h.0 refl run_apart run_options (codes "--steps") a refl refl h.0.each_once.1.0) ∙ h.1)
reading_is_found words (Show file n) (a, h) =
    ap found_in (line_found (codes "show") file _ _ words show_is h.0 refl show_apart show_options) ∙
    ap₂ (λ f x. ask Show (with_one f x)) (line_file (codes "show") file _ _ words show_is h.0 refl show_apart show_options) (ap if_number (line_value (codes "show") file _ _ words show_is h.0 refl show_apart show_options (codes "--steps") a refl refl h.0.each_once.1.0) ∙ h.1)
reading_is_found words (Eval file n) (a, h) =
    ap found_in (line_found (codes "eval") file _ _ words eval_is h.0 refl eval_apart eval_options) ∙
    ap₂ (λ f x. ask Eval (with_one f x)) (line_file (codes "eval") file _ _ words eval_is h.0 refl eval_apart eval_options) (ap if_number (line_value (codes "eval") file _ _ words eval_is h.0 refl eval_apart eval_options (codes "--steps") a refl refl h.0.each_once.1.0) ∙ h.1)
reading_is_found words (Watch file script) l =
    ap found_in (line_found (codes "watch") file _ _ words watch_is l refl watch_apart watch_options) ∙
    ap₂ (λ f x. with_file f x) (line_file (codes "watch") file _ _ words watch_is l refl watch_apart watch_options) (line_value (codes "watch") file _ _ words watch_is l refl watch_apart watch_options (codes "--script") script refl refl l.each_once.1.0)
reading_is_found words (Check file) l = ap found_in (line_found (codes "check") file _ _ words check_is l refl none_apart tt) ∙ ap (ask_file Check) (line_file (codes "check") file _ _ words check_is l refl none_apart tt)
reading_is_found words (Print file) l = ap found_in (line_found (codes "print") file _ _ words print_is l refl none_apart tt) ∙ ap (ask_file Print) (line_file (codes "print") file _ _ words print_is l refl none_apart tt)
reading_is_found words (Certify file) l = ap found_in (line_found (codes "certify") file _ _ words certify_is l refl none_apart tt) ∙ ap (ask_file Certify) (line_file (codes "certify") file _ _ words certify_is l refl none_apart tt)
reading_is_found words (Gen n) (a, h) =
    ap found_in (bare_found (codes "gen") _ _ words gen_is h.0 refl gen_apart gen_options) ∙
    ap ask_workload (ap if_number (bare_value (codes "gen") _ _ words gen_is h.0 refl gen_apart gen_options (codes "--number") a refl refl h.0.each_once.0) ∙ h.1) ∙
    within n h.2
