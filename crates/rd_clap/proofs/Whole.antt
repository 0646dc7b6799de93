-- The parser takes each line that asks for something.
use Rattle.std.proofs.Common.{◌≡◌, ◌&&◌, true, false, List, [], ◌∷◌, ◌++◌, length, Option, Some, refl, sym, ◌∙◌, ap, ap₂, subst, inl, inr, codes}
use Rattle.std.specs.Prelude.{fold, find, is_some, option_map}
use Rattle.std.specs.List.{list_all}
use Rattle.std.specs.Option.{option_map_or}
use Rattle.clap.proofs.OnLiterals.{clap_on_literals}
use Rattle.clap.specs.Simple.{App, Shape, built, built_leaf, entered, inherited, label_of, names_of, rows_at}
use Rattle.clap.specs.Takes.{default_passes, entered_passes, is_valid, level_passes, settle_passes, takes, turn_passes, walk_passes}
use Rattle.clap.specs.Walk.{Text, Row, Rule, Names, Walk, idle, answers_to, finished, is_empty, nothing_held, walk_from, walked}
use Rattle.rd_words.specs.Arguments.{Argument, File, IsLine}
use Rattle.rd_words.specs.Words.{Reading, Compile, Build, Lay, Run, Show, Eval, Watch, Check, Print, Certify, Gen, IsReading}
use Rattle.rd_clap.specs.Program.{bare_app, program_app, with_file, with_option, compile_app, build_app}
use Rattle.rd_clap.proofs.Turns.{between}
use Rattle.rd_clap.proofs.Walks.{HasFile, Walks, args_walk}
use Rattle.rd_clap.proofs.Known.{AreApart, KnownOptions, line_is_bare, line_is_known, more_apart, none_apart, options}

append_nil : {X : Type 0} (xs : List X) → xs ++ [] ≡ xs
append_nil [] = refl
append_nil (x ∷ xs) = ap (λ ys. x ∷ ys) (append_nil xs)

append_one : {X : Type 0} (xs : List X) (y : X) (ys : List X) → (xs ++ y ∷ []) ++ ys ≡ xs ++ y ∷ ys
append_one [] y ys = refl
append_one (x ∷ xs) y ys = ap (λ zs. x ∷ zs) (append_one xs y ys)

-- the walk after the word that names a command, and after words behind it
abbrev stopped_at : Text → List Text → Walk
stopped_at command words = record { held = nothing_held; waiting = idle; position = 1; is_trailing = false; stopped = Some (command, words) }

all_behind : (rules : List Rule) (names : Names) (command : Text) (before words : List Text) → fold (walked rules names) (stopped_at command before) words ≡ stopped_at command (before ++ words)
unfolding walked
all_behind rules names command before [] = ap (stopped_at command) (sym (append_nil before))
all_behind rules names command before (w ∷ words) = all_behind rules names command (before ++ w ∷ []) words ∙ ap (stopped_at command) (append_one before w words)

behind_passes : (s : Shape) (names : Names) (command : Text) (before words : List Text) → walk_passes s names (stopped_at command before) words ≡ true
unfolding walked walk_passes
behind_passes s names command before [] = refl
behind_passes s names command before (w ∷ words) = behind_passes s names command (before ++ w ∷ []) words

abbrev pub top : Shape
top = (built program_app).top

abbrev pub names : Names
names = names_of (built program_app)

-- a command of the program, and what is read of the words behind it
pub record IsCommandOf (command : Text) (s : Shape) : Type 0 where
  pub walked_to : walked top.rules names (walk_from nothing_held) command ≡ stopped_at command []
  pub turn : turn_passes top names (walk_from nothing_held) command ≡ true
  pub found : find (λ x. answers_to command (label_of x)) (built program_app).subs ≡ Some s
  pub has : HasFile s
  pub name : s.name ≡ command
  pub bare : list_all (λ a. is_empty a.defaults) s.rules ≡ true
  pub defaults : list_all default_passes s.rules ≡ true
  pub valid : (rows : List Row) → is_valid s rows false ≡ true

-- the words behind the command are taken
leaf_takes : (s : Shape) (others : List Text) (rows : List Row) → list_all default_passes s.rules ≡ true → ((rows : List Row) → is_valid s rows false ≡ true) → Walks s (between nothing_held 1) others rows → level_passes s [] nothing_held others false ≡ true
leaf_takes s others rows defaults valid x =
    ap (λ (w : Walk). walk_passes s [] (walk_from nothing_held) others && (settle_passes s.rules s.args_override_self w.held && (list_all default_passes s.rules && is_valid s (finished s.rules w.held) false))) x.ends ∙
    ap₂ (λ a b. a && (b && (list_all default_passes s.rules && is_valid s (finished s.rules x.end) false))) x.passes x.settles ∙
    ap₂ (λ a b. a && b) defaults (valid (finished s.rules x.end))

module _ (command : Text) (s : Shape) (is : IsCommandOf command s) (others : List Text) where
  pub walk_stops : fold (walked top.rules names) (walk_from nothing_held) (command ∷ others) ≡ stopped_at command others
  walk_stops = ap (λ (w : Walk). fold (walked top.rules names) w others) is.walked_to ∙ all_behind top.rules names command [] others

  top_passes : walk_passes top names (walk_from nothing_held) (command ∷ others) ≡ true
  unfolding walk_passes
  top_passes = ap₂ (λ a (w : Walk). a && walk_passes top names w others) is.turn is.walked_to ∙ behind_passes top names command [] others

  command_takes : level_passes s [] nothing_held others false ≡ true → takes program_app (command ∷ others) ≡ true
  command_takes leaf =
      ap (λ (w : Walk). entered_passes (built program_app) w.stopped &&
      (walk_passes top names (walk_from nothing_held) (command ∷ others) && (settle_passes top.rules top.args_override_self w.held &&
      (list_all default_passes top.rules && is_valid top (finished top.rules w.held) (is_some (entered (built program_app) w.stopped)))))) walk_stops ∙
      ap₂ (λ (o : Option Shape) b. option_map_or (λ x. level_passes x [] nothing_held others false) o true && (b && (is_some (option_map (λ x. rows_at x others) o) && true))) is.found top_passes ∙
      ap (λ b. b && true) leaf

abbrev pub leaf : App → Shape
leaf a = built_leaf (inherited bare_app.top a.top)

line_takes : (command name : Text) (s : Shape) (wanted : List Argument) (words : List Text) → IsCommandOf command s → IsLine words command (File name ∷ wanted) → length wanted ≡ length (options wanted) → AreApart (options wanted) → KnownOptions s (options wanted) →
    takes program_app words ≡ true
line_takes command name s wanted words is l same_length apart known =
    let all = line_is_known s words command name wanted l same_length apart known in
    let walks = args_walk s is.has l.args l.others nothing_held 1 l.spelled all (inl (refl, (name, l.each_once.0))) refl in
    subst (λ ws. takes program_app ws ≡ true) (sym l.command_first)
    (command_takes command s is l.others (leaf_takes s l.others _ is.defaults is.valid walks))

-- the same of a line without a file
bare_takes : (command : Text) (s : Shape) (wanted : List Argument) (words : List Text) → IsCommandOf command s → IsLine words command wanted → length wanted ≡ length (options wanted) → AreApart (options wanted) → KnownOptions s (options wanted) →
    takes program_app words ≡ true
bare_takes command s wanted words is l same_length apart known =
    let all = line_is_bare s words command wanted l same_length apart known in
    let walks = args_walk s is.has l.args l.others nothing_held 1 l.spelled all.known (inr all.none) refl in
    subst (λ ws. takes program_app ws ≡ true) (sym l.command_first)
    (command_takes command s is l.others (leaf_takes s l.others _ is.defaults is.valid walks))

-- ---- the commands

pub compile_is : IsCommandOf (codes "compile") (leaf compile_app)
unfolding clap_on_literals
compile_is = record { walked_to = refl; turn = refl; found = refl; has = record { again = refl; by_index = refl; by_id = refl }; name = refl; bare = refl; defaults = refl; valid = λ rows. refl }

pub build_is : IsCommandOf (codes "build") (leaf build_app)
unfolding clap_on_literals
build_is = record { walked_to = refl; turn = refl; found = refl; has = record { again = refl; by_index = refl; by_id = refl }; name = refl; bare = refl; defaults = refl; valid = λ rows. refl }

pub lay_is : IsCommandOf (codes "lay") (leaf (with_option (codes "lay") (codes "layout-seed")))
unfolding clap_on_literals
lay_is = record { walked_to = refl; turn = refl; found = refl; has = record { again = refl; by_index = refl; by_id = refl }; name = refl; bare = refl; defaults = refl; valid = λ rows. refl }

pub run_is : IsCommandOf (codes "run") (leaf (with_option (codes "run") (codes "steps")))
unfolding clap_on_literals
run_is = record { walked_to = refl; turn = refl; found = refl; has = record { again = refl; by_index = refl; by_id = refl }; name = refl; bare = refl; defaults = refl; valid = λ rows. refl }

pub show_is : IsCommandOf (codes "show") (leaf (with_option (codes "show") (codes "steps")))
unfolding clap_on_literals
show_is = record { walked_to = refl; turn = refl; found = refl; has = record { again = refl; by_index = refl; by_id = refl }; name = refl; bare = refl; defaults = refl; valid = λ rows. refl }

pub eval_is : IsCommandOf (codes "eval") (leaf (with_option (codes "eval") (codes "steps")))
unfolding clap_on_literals
eval_is = record { walked_to = refl; turn = refl; found = refl; has = record { again = refl; by_index = refl; by_id = refl }; name = refl; bare = refl; defaults = refl; valid = λ rows. refl }

pub watch_is : IsCommandOf (codes "watch") (leaf (with_option (codes "watch") (codes "script")))
unfolding clap_on_literals
watch_is = record { walked_to = refl; turn = refl; found = refl; has = record { again = refl; by_index = refl; by_id = refl }; name = refl; bare = refl; defaults = refl; valid = λ rows. refl }

pub check_is : IsCommandOf (codes "check") (leaf (with_file (codes "check")))
unfolding clap_on_literals
check_is = record { walked_to = refl; turn = refl; found = refl; has = record { again = refl; by_index = refl; by_id = refl }; name = refl; bare = refl; defaults = refl; valid = λ rows. refl }

pub print_is : IsCommandOf (codes "print") (leaf (with_file (codes "print")))
unfolding clap_on_literals
print_is = record { walked_to = refl; turn = refl; found = refl; has = record { again = refl; by_index = refl; by_id = refl }; name = refl; bare = refl; defaults = refl; valid = λ rows. refl }

pub certify_is : IsCommandOf (codes "certify") (leaf (with_file (codes "certify")))
unfolding clap_on_literals
certify_is = record { walked_to = refl; turn = refl; found = refl; has = record { again = refl; by_index = refl; by_id = refl }; name = refl; bare = refl; defaults = refl; valid = λ rows. refl }

pub gen_is : IsCommandOf (codes "gen") (leaf (with_option (codes "gen") (codes "number")))
unfolding clap_on_literals
gen_is = record { walked_to = refl; turn = refl; found = refl; has = record { again = refl; by_index = refl; by_id = refl }; name = refl; bare = refl; defaults = refl; valid = λ rows. refl }

pub compile_options : KnownOptions (leaf compile_app) (codes "--slot-seed" ∷ codes "--reg-seed" ∷ [])
compile_options = (record { alone = refl; whole = λ v. refl; dashes = refl; dashes_whole = λ v. refl; by_long = refl; by_id = refl }, (record { alone = refl; whole = λ v. refl; dashes = refl; dashes_whole = λ v. refl; by_long = refl; by_id = refl }, tt))

pub build_options : KnownOptions (leaf build_app) (codes "--slot-seed" ∷ codes "--reg-seed" ∷ codes "--layout-seed" ∷ [])
build_options = (record { alone = refl; whole = λ v. refl; dashes = refl; dashes_whole = λ v. refl; by_long = refl; by_id = refl }, (record { alone = refl; whole = λ v. refl; dashes = refl; dashes_whole = λ v. refl; by_long = refl; by_id = refl }, (record { alone = refl; whole = λ v. refl; dashes = refl; dashes_whole = λ v. refl; by_long = refl; by_id = refl }, tt)))

pub lay_options : KnownOptions (leaf (with_option (codes "lay") (codes "layout-seed"))) (codes "--layout-seed" ∷ [])
lay_options = (record { alone = refl; whole = λ v. refl; dashes = refl; dashes_whole = λ v. refl; by_long = refl; by_id = refl }, tt)

pub run_options : KnownOptions (leaf (with_option (codes "run") (codes "steps"))) (codes "--steps" ∷ [])
run_options = (record { alone = refl; whole = λ v. refl; dashes = refl; dashes_whole = λ v. refl; by_long = refl; by_id = refl }, tt)

pub show_options : KnownOptions (leaf (with_option (codes "show") (codes "steps"))) (codes "--steps" ∷ [])
show_options = (record { alone = refl; whole = λ v. refl; dashes = refl; dashes_whole = λ v. refl; by_long = refl; by_id = refl }, tt)

pub eval_options : KnownOptions (leaf (with_option (codes "eval") (codes "steps"))) (codes "--steps" ∷ [])
eval_options = (record { alone = refl; whole = λ v. refl; dashes = refl; dashes_whole = λ v. refl; by_long = refl; by_id = refl }, tt)

pub watch_options : KnownOptions (leaf (with_option (codes "watch") (codes "script"))) (codes "--script" ∷ [])
watch_options = (record { alone = refl; whole = λ v. refl; dashes = refl; dashes_whole = λ v. refl; by_long = refl; by_id = refl }, tt)

pub gen_options : KnownOptions (leaf (with_option (codes "gen") (codes "number"))) (codes "--number" ∷ [])
gen_options = (record { alone = refl; whole = λ v. refl; dashes = refl; dashes_whole = λ v. refl; by_long = refl; by_id = refl }, tt)

pub compile_apart : AreApart (codes "--slot-seed" ∷ codes "--reg-seed" ∷ [])
compile_apart = (more_apart (codes "--slot-seed") (codes "--reg-seed" ∷ []) (more_apart (codes "--reg-seed") ([]) none_apart refl) refl)

pub build_apart : AreApart (codes "--slot-seed" ∷ codes "--reg-seed" ∷ codes "--layout-seed" ∷ [])
build_apart = (more_apart (codes "--slot-seed") (codes "--reg-seed" ∷ codes "--layout-seed" ∷ []) (more_apart (codes "--reg-seed") (codes "--layout-seed" ∷ []) (more_apart (codes "--layout-seed") ([]) none_apart refl) refl) refl)

pub lay_apart : AreApart (codes "--layout-seed" ∷ [])
lay_apart = (more_apart (codes "--layout-seed") ([]) none_apart refl)

pub run_apart : AreApart (codes "--steps" ∷ [])
run_apart = (more_apart (codes "--steps") ([]) none_apart refl)

pub show_apart : AreApart (codes "--steps" ∷ [])
show_apart = (more_apart (codes "--steps") ([]) none_apart refl)

pub eval_apart : AreApart (codes "--steps" ∷ [])
eval_apart = (more_apart (codes "--steps") ([]) none_apart refl)

pub watch_apart : AreApart (codes "--script" ∷ [])
watch_apart = (more_apart (codes "--script") ([]) none_apart refl)

pub gen_apart : AreApart (codes "--number" ∷ [])
gen_apart = (more_apart (codes "--number") ([]) none_apart refl)

pub reading_is_taken : (words : List Text) (r : Reading) → IsReading words r → takes program_app words ≡ true
reading_is_taken words (Compile file m n) (a, b, h) = line_takes (codes "compile") file _ _ words compile_is h.0 refl compile_apart compile_options
reading_is_taken words (Build file m n k) (a, b, c, h) = line_takes (codes "build") file _ _ words build_is h.0 refl build_apart build_options
reading_is_taken words (Lay file n) (a, h) = line_takes (codes "lay") file _ _ words lay_is h.0 refl lay_apart lay_options
reading_is_taken words (Run file n) (a, h) = line_takes (codes "run") file _ _ words run_is h.0 refl run_apart run_options
reading_is_taken words (Show file n) (a, h) = line_takes (codes "show") file _ _ words show_is h.0 refl show_apart show_options
reading_is_taken words (Eval file n) (a, h) = line_takes (codes "eval") file _ _ words eval_is h.0 refl eval_apart eval_options
reading_is_taken words (Watch file script) l = line_takes (codes "watch") file _ _ words watch_is l refl watch_apart watch_options
reading_is_taken words (Check file) l = line_takes (codes "check") file _ _ words check_is l refl none_apart tt
reading_is_taken words (Print file) l = line_takes (codes "print") file _ _ words print_is l refl none_apart tt
reading_is_taken words (Certify file) l = line_takes (codes "certify") file _ _ words certify_is l refl none_apart tt
reading_is_taken words (Gen n) (a, h) = bare_takes (codes "gen") _ _ words gen_is h.0 refl gen_apart gen_options
