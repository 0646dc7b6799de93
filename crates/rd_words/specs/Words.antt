-- What the words of a command line ask for.
use Rattle.std.specs.Prelude.{◌≡◌, ℕ, ◌^◌, ◌≤◌, List, [], ◌∷◌, Option, Some, None, codes}
use Rattle.rd_num.specs.Numeral.{numeral}
use Rattle.rd_words.specs.Arguments.{File, Given, IsLine}

-- a command with its values
pub data Reading : Type 0 where
  Compile : (file : List ℕ) → (slot_seed : ℕ) → (reg_seed : ℕ) → Reading
  Build : (file : List ℕ) → (slot_seed : ℕ) → (reg_seed : ℕ) → (layout_seed : ℕ) → Reading
  Lay : (file : List ℕ) → (layout_seed : ℕ) → Reading
  Run : (file : List ℕ) → (steps : ℕ) → Reading
  Show : (file : List ℕ) → (steps : ℕ) → Reading
  Eval : (file : List ℕ) → (steps : ℕ) → Reading
  Watch : (file : List ℕ) → (script : List ℕ) → Reading
  Check : (file : List ℕ) → Reading
  Print : (file : List ℕ) → Reading
  Certify : (file : List ℕ) → Reading
  Gen : (number : ℕ) → Reading

-- 1 to 20 decimal digits of at most 2^64 - 1
abbrev pub number_of : List ℕ → Option ℕ
number_of word = numeral 10 20 (2 ^ 64) word

-- how many functions a generated module may have, `main` aside
pub record IsWorkload (number : ℕ) : Type 0 where
  pub some : 1 ≤ number
  pub most : number ≤ 4000

-- words ask for a command: its name, and then FILE, where it has one, and its options, in any order, each once
abbrev pub IsReading : List (List ℕ) → Reading → Type 0
IsReading words (Compile file slot_seed reg_seed) =
    (a : List ℕ) × (b : List ℕ) × (IsLine words (codes "compile") (File file ∷ Given (codes "--slot-seed") a ∷ Given (codes "--reg-seed") b ∷ []) × (number_of a ≡ Some slot_seed) × (number_of b ≡ Some reg_seed))
IsReading words (Build file slot_seed reg_seed layout_seed) =
    (a : List ℕ) × (b : List ℕ) × (c : List ℕ) × (IsLine words (codes "build") (File file ∷ Given (codes "--slot-seed") a ∷ Given (codes "--reg-seed") b ∷ Given (codes "--layout-seed") c ∷ []) × (number_of a ≡ Some slot_seed) × (number_of b ≡ Some reg_seed) × (number_of c ≡ Some layout_seed))
IsReading words (Lay file layout_seed) = (a : List ℕ) × (IsLine words (codes "lay") (File file ∷ Given (codes "--layout-seed") a ∷ []) × (number_of a ≡ Some layout_seed))
IsReading words (Run file steps) = (a : List ℕ) × (IsLine words (codes "run") (File file ∷ Given (codes "--steps") a ∷ []) × (number_of a ≡ Some steps))
IsReading words (Show file steps) = (a : List ℕ) × (IsLine words (codes "show") (File file ∷ Given (codes "--steps") a ∷ []) × (number_of a ≡ Some steps))
IsReading words (Eval file steps) = (a : List ℕ) × (IsLine words (codes "eval") (File file ∷ Given (codes "--steps") a ∷ []) × (number_of a ≡ Some steps))
IsReading words (Watch file script) = IsLine words (codes "watch") (File file ∷ Given (codes "--script") script ∷ [])
IsReading words (Check file) = IsLine words (codes "check") (File file ∷ [])
IsReading words (Print file) = IsLine words (codes "print") (File file ∷ [])
IsReading words (Certify file) = IsLine words (codes "certify") (File file ∷ [])
IsReading words (Gen number) = (a : List ℕ) × (IsLine words (codes "gen") (Given (codes "--number") a ∷ []) × (number_of a ≡ Some number) × IsWorkload number)

-- what words ask for, or that they ask for nothing
abbrev pub IsReadingOf : List (List ℕ) → Option Reading → Type 0
IsReadingOf words (Some reading) = IsReading words reading
IsReadingOf words None = (reading : Reading) → IsReading words reading → ⊥
