-- The words of a command line read one after another. That this reads exactly what the words ask for is proved.
use Rattle.std.specs.Prelude.{◌≡◌, ℕ, ◌+◌, ◌==◌, ◌&&◌, Bool, false, nat_eq, nat_lt, nat_le, if◌then◌else◌, List, [], ◌∷◌, ◌++◌, length, Option, Some, None, codes}
use Rattle.std.specs.Option.{option_to_list}
use Rattle.std.specs.List.{position_or_len, before_first, after_first}
use Rattle.rd_words.specs.Arguments.{Argument, File, Given, same, is_plain, files, values}
use Rattle.rd_words.specs.Words.{Reading, Compile, Build, Lay, Run, Show, Eval, Watch, Check, Print, Certify, Gen, number_of}

-- an argument, and the words behind it
pub record Next : Type 0 where
  pub argument : Argument
  pub rest : List (List ℕ)

abbrev pub has_dashes : List ℕ → Bool
has_dashes [] = false
has_dashes (c ∷ []) = false
has_dashes (c ∷ d ∷ rest) = nat_eq c 45 && nat_eq d 45

abbrev pub has_equals : List ℕ → Bool
has_equals w = nat_lt (position_or_len (λ c. c == 61) w) (length w)

-- an option that holds its value
abbrev pub with_equals : List ℕ → Argument
with_equals w = Given (before_first (λ c. c == 61) w) (after_first (λ c. c == 61) w)

-- an option whose value is the next word
abbrev pub valued : List ℕ → List (List ℕ) → Option Next
valued w [] = None
valued w (v ∷ rest) = if is_plain v then Some (record { argument = Given w v; rest = rest }) else None

abbrev pub next_option : List ℕ → List (List ℕ) → Option Next
next_option w rest = if has_dashes w then (if has_equals w then Some (record { argument = with_equals w; rest = rest }) else valued w rest) else None

-- the first argument
abbrev pub next_of : List (List ℕ) → Option Next
next_of [] = None
next_of (w ∷ rest) = if is_plain w then Some (record { argument = File w; rest = rest }) else next_option w rest

abbrev pub put : Argument → Option (List Argument) → Option (List Argument)
put a None = None
put a (Some args) = Some (a ∷ args)

-- the arguments from a word on, where those from the next word on, and from the one behind it on, are these
abbrev pub from_word : List ℕ → List ℕ → Option (List Argument) → Option (List Argument) → Option (List Argument)
from_word w v here behind =
    if is_plain w then put (File w) here else
    (if has_dashes w then (if has_equals w then put (with_equals w) here else (if is_plain v then put (Given w v) behind else None)) else None)

abbrev pub from_last : List ℕ → Option (List Argument)
from_last w =
    if is_plain w then Some (File w ∷ []) else
    (if has_dashes w then (if has_equals w then Some (with_equals w ∷ []) else None) else None)

-- all arguments
unfoldable pub arguments_of : List (List ℕ) → Option (List Argument)
arguments_of [] = Some []
arguments_of (w ∷ []) = from_last w
arguments_of (w ∷ v ∷ rest) = from_word w v (arguments_of (v ∷ rest)) (arguments_of rest)

-- the one item of a list
abbrev pub only : List (List ℕ) → Option (List ℕ)
only [] = None
only (x ∷ []) = Some x
only (x ∷ y ∷ rest) = None

-- the one file of arguments, behind others of which these were files
abbrev pub file_behind : List (List ℕ) → Option (List Argument) → Option (List ℕ)
file_behind before None = None
file_behind before (Some args) = only (before ++ files args)

-- the one value of an option, behind arguments that give it these
abbrev pub value_behind : List ℕ → List (List ℕ) → Option (List Argument) → Option (List ℕ)
value_behind option before None = None
value_behind option before (Some args) = only (before ++ values option args)

-- the file so far after one more argument, whatever comes behind it; none where there are two
abbrev pub FileGoesOn : Option (List ℕ) → Argument → Option (Option (List ℕ)) → Type 0
FileGoesOn found a None = (args : Option (List Argument)) → file_behind (option_to_list found) (put a args) ≡ None
FileGoesOn found a (Some now) = (args : Option (List Argument)) → file_behind (option_to_list found) (put a args) ≡ file_behind (option_to_list now) args

-- the same of the value of an option
abbrev pub ValueGoesOn : List ℕ → Option (List ℕ) → Argument → Option (Option (List ℕ)) → Type 0
ValueGoesOn option found a None = (args : Option (List Argument)) → value_behind option (option_to_list found) (put a args) ≡ None
ValueGoesOn option found a (Some now) = (args : Option (List Argument)) → value_behind option (option_to_list found) (put a args) ≡ value_behind option (option_to_list now) args

abbrev pub count_behind : ℕ → Option (List Argument) → Option ℕ
count_behind n None = None
count_behind n (Some args) = Some (n + length args)

abbrev pub file_of : List (List ℕ) → Option (List ℕ)
file_of words = file_behind [] (arguments_of words)

abbrev pub value_of : List ℕ → List (List ℕ) → Option (List ℕ)
value_of option words = value_behind option [] (arguments_of words)

abbrev pub if_number : Option (List ℕ) → Option ℕ
if_number None = None
if_number (Some word) = number_of word

abbrev pub number_given : List ℕ → List (List ℕ) → Option ℕ
number_given option words = if_number (value_of option words)

abbrev pub are : Option ℕ → ℕ → Bool
are None n = false
are (Some m) n = nat_eq m n

-- so many arguments
abbrev pub has_count : ℕ → List (List ℕ) → Bool
has_count n words = are (count_behind 0 (arguments_of words)) n

-- a file and a number
pub record FileNumber : Type 0 where
  pub file : List ℕ
  pub number : ℕ

abbrev pub with_one : Option (List ℕ) → Option ℕ → Option FileNumber
with_one (Some file) (Some n) = Some (record { file = file; number = n })
with_one None n = None
with_one (Some file) None = None

abbrev pub with_two : Option (List ℕ) → Option ℕ → Option ℕ → Option Reading
with_two (Some file) (Some a) (Some b) = Some (Compile file a b)
with_two None a b = None
with_two (Some file) None b = None
with_two (Some file) (Some a) None = None

abbrev pub with_three : Option (List ℕ) → Option ℕ → Option ℕ → Option ℕ → Option Reading
with_three (Some file) (Some a) (Some b) (Some c) = Some (Build file a b c)
with_three None a b c = None
with_three (Some file) None b c = None
with_three (Some file) (Some a) None c = None
with_three (Some file) (Some a) (Some b) None = None

abbrev pub with_file : Option (List ℕ) → Option (List ℕ) → Option Reading
with_file (Some file) (Some script) = Some (Watch file script)
with_file None script = None
with_file (Some file) None = None

abbrev pub compile_of : List (List ℕ) → Option Reading
compile_of words = if has_count 3 words then with_two (file_of words) (number_given (codes "--slot-seed") words) (number_given (codes "--reg-seed") words) else None

abbrev pub build_of : List (List ℕ) → Option Reading
build_of words = if has_count 4 words then with_three (file_of words) (number_given (codes "--slot-seed") words) (number_given (codes "--reg-seed") words) (number_given (codes "--layout-seed") words) else None

abbrev pub file_and_number : List ℕ → List (List ℕ) → Option FileNumber
file_and_number option words = if has_count 2 words then with_one (file_of words) (number_given option words) else None

abbrev pub ask : (List ℕ → ℕ → Reading) → Option FileNumber → Option Reading
ask make None = None
ask make (Some x) = Some (make x.file x.number)

abbrev pub watch_of : List (List ℕ) → Option Reading
watch_of words = if has_count 2 words then with_file (file_of words) (value_of (codes "--script") words) else None

-- a file and nothing else
abbrev pub file_alone : List (List ℕ) → Option (List ℕ)
file_alone words = if has_count 1 words then file_of words else None

abbrev pub ask_file : (List ℕ → Reading) → Option (List ℕ) → Option Reading
ask_file make None = None
ask_file make (Some file) = Some (make file)

-- a number of functions, and nothing else
abbrev pub ask_workload : Option ℕ → Option Reading
ask_workload None = None
ask_workload (Some n) = if nat_le 1 n && nat_le n 4000 then Some (Gen n) else None

abbrev pub gen_of : List (List ℕ) → Option Reading
gen_of words = if has_count 1 words then ask_workload (number_given (codes "--number") words) else None

abbrev pub by_command : List ℕ → List (List ℕ) → Option Reading
by_command command words =
    if same command (codes "compile") then compile_of words else
    (if same command (codes "build") then build_of words else
    (if same command (codes "lay") then ask Lay (file_and_number (codes "--layout-seed") words) else
    (if same command (codes "run") then ask Run (file_and_number (codes "--steps") words) else
    (if same command (codes "show") then ask Show (file_and_number (codes "--steps") words) else
    (if same command (codes "eval") then ask Eval (file_and_number (codes "--steps") words) else
    (if same command (codes "watch") then watch_of words else
    (if same command (codes "check") then ask_file Check (file_alone words) else
    (if same command (codes "print") then ask_file Print (file_alone words) else
    (if same command (codes "certify") then ask_file Certify (file_alone words) else
    (if same command (codes "gen") then gen_of words else None))))))))))

-- what words ask for
abbrev pub reading_of : List (List ℕ) → Option Reading
reading_of [] = None
reading_of (command ∷ words) = by_command command words
