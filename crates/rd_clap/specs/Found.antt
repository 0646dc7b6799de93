-- What the parser's matches ask for.
use Rattle.std.specs.Prelude.{◌≡◌, ℕ, List, Option, Some, None, codes, if◌then◌else◌}
use Rattle.clap.specs.Simple.{subcommand_rows_of}
use Rattle.clap.specs.Walk.{Row, first_of}
use Rattle.clap.specs.declared.parser.matches.ArgMatches.{ArgMatches}
use Rattle.rd_words.specs.Arguments.{same}
use Rattle.rd_words.specs.Read.{FileNumber, ask, ask_file, ask_workload, if_number, with_file, with_one, with_three, with_two}
use Rattle.rd_words.specs.Words.{Reading, Lay, Run, Show, Eval, Check, Print, Certify}

abbrev pub file_in : List Row → Option (List ℕ)
file_in rows = first_of (codes "FILE") rows

-- the number that an option was given
abbrev pub number_in : List ℕ → List Row → Option ℕ
number_in option rows = if_number (first_of option rows)

abbrev pub file_and_number_in : List ℕ → List Row → Option FileNumber
file_and_number_in option rows = with_one (file_in rows) (number_in option rows)

abbrev pub compile_in : List Row → Option Reading
compile_in rows = with_two (file_in rows) (number_in (codes "slot-seed") rows) (number_in (codes "reg-seed") rows)

abbrev pub build_in : List Row → Option Reading
build_in rows = with_three (file_in rows) (number_in (codes "slot-seed") rows) (number_in (codes "reg-seed") rows) (number_in (codes "layout-seed") rows)

abbrev pub watch_in : List Row → Option Reading
watch_in rows = with_file (file_in rows) (first_of (codes "script") rows)

abbrev pub gen_in : List Row → Option Reading
gen_in rows = ask_workload (number_in (codes "number") rows)

-- a command with the values that were found for it
abbrev pub command_in : List ℕ → List Row → Option Reading
command_in command rows =
    if same command (codes "compile") then compile_in rows else
    (if same command (codes "build") then build_in rows else
    (if same command (codes "lay") then ask Lay (file_and_number_in (codes "layout-seed") rows) else
    (if same command (codes "run") then ask Run (file_and_number_in (codes "steps") rows) else
    (if same command (codes "show") then ask Show (file_and_number_in (codes "steps") rows) else
    (if same command (codes "eval") then ask Eval (file_and_number_in (codes "steps") rows) else
    (if same command (codes "watch") then watch_in rows else
    (if same command (codes "check") then ask_file Check (file_in rows) else
    (if same command (codes "print") then ask_file Print (file_in rows) else
    (if same command (codes "certify") then ask_file Certify (file_in rows) else
    (if same command (codes "gen") then gen_in rows else None))))))))))

abbrev pub found_in : Option (List ℕ × List Row) → Option Reading
found_in None = None
found_in (Some p) = command_in p.0 p.1

-- the parser's matches ask for this
abbrev pub AreFound : Reading → ArgMatches → Type 0
AreFound r m = found_in (subcommand_rows_of m) ≡ Some r
