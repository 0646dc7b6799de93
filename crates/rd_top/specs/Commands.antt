-- What each command does to the outside: its files one after another, and then its work.
use Rattle.std.specs.Prelude.{◌≡◌, ℕ, List, Option, Some, None}
use Rattle.behavior.specs.Moment.{AreBytes}
use Rattle.rd_io.specs.Told.{FilesTold, SinkTold}
use Rattle.watch_script.specs.Events.{last_after}
use Rattle.rd_top.specs.declared.answer.Answer.{Answer}
use Rattle.rd_top.specs.declared.answer.Answer.TheVariants.{Words, Valid}
use Rattle.rd_top.specs.Certifying.{Certified}
use Rattle.rd_top.specs.Files.{OfFile}
use Rattle.rd_top.specs.Kinds.{module_text, object_file, image_file, script_file}
use Rattle.rd_top.specs.Puts.{Writes}
use Rattle.rd_top.specs.Courses.{AnyInput, Streams}
use Rattle.rd_top.specs.Reports.{Reports}
use Rattle.rd_top.specs.Making.{IsGenerated, IsPrinted, IsObjectFor, IsImageFor, IsLaid}
use Rattle.rd_top.specs.Machines.{machine_course, watched_course, shown_after, report_on}
use Rattle.rd_top.specs.Modules.{module_course}
use Rattle.rd_top.specs.World.{World}
use Rattle.rd_words.specs.Words.{Reading, Check, Print, Certify, Gen, Compile, Build, Lay, Run, Show, Eval, Watch, IsWorkload}

-- nothing was taken, and nothing was put
abbrev pub Untouched : World → World → Type 0
Untouched before after = (after.input ≡ before.input) × (after.out ≡ before.out)

abbrev pub Checks : List ℕ → FilesTold → FilesTold → Answer → Type 0
Checks file files files2 a = OfFile module_text file files files2 (Unit {0}) (λ v. a ≡ Valid) a

abbrev pub Certifies : List ℕ → FilesTold → FilesTold → Answer → Type 0
Certifies file files files2 a = OfFile object_file file files files2 (Unit {0}) (λ checked. Certified checked.object a) a

abbrev pub Prints : List ℕ → FilesTold → FilesTold → SinkTold → SinkTold → Answer → Type 0
Prints file files files2 out out2 a = OfFile module_text file files files2 (out2 ≡ out) (λ v. Writes (IsPrinted v.kept) out out2 a) a

abbrev pub Compiles : List ℕ → ℕ → ℕ → FilesTold → FilesTold → SinkTold → SinkTold → Answer → Type 0
Compiles file slot_seed reg_seed files files2 out out2 a =
    OfFile module_text file files files2 (out2 ≡ out) (λ v. Writes (IsObjectFor v.kept slot_seed reg_seed) out out2 a) a

abbrev pub Builds : List ℕ → ℕ → ℕ → ℕ → FilesTold → FilesTold → SinkTold → SinkTold → Answer → Type 0
Builds file slot_seed reg_seed layout_seed files files2 out out2 a =
    OfFile module_text file files files2 (out2 ≡ out) (λ v. Writes (IsImageFor v.kept slot_seed reg_seed layout_seed) out out2 a) a

abbrev pub Lays : List ℕ → ℕ → FilesTold → FilesTold → SinkTold → SinkTold → Answer → Type 0
Lays file layout_seed files files2 out out2 a =
    OfFile object_file file files files2 (out2 ≡ out) (λ checked. Writes (IsLaid checked.object layout_seed) out out2 a) a

abbrev pub Runs : List ℕ → ℕ → World → World → Answer → Type 0
Runs file steps w w2 a =
    OfFile image_file file w.files w2.files (Untouched w w2) (λ image. Streams AnyInput (machine_course image) steps w.input w2.input w.out w2.out a) a

abbrev pub Shows : List ℕ → ℕ → World → World → Answer → Type 0
Shows file steps w w2 a =
    OfFile image_file file w.files w2.files (Untouched w w2) (λ image.
    Reports (machine_course image) steps (shown_after image steps) w.input w2.input w.out w2.out a) a

abbrev pub Evaluates : List ℕ → ℕ → World → World → Answer → Type 0
Evaluates file steps w w2 a =
    OfFile module_text file w.files w2.files (Untouched w w2) (λ v. Streams AreBytes (module_course v.kept) steps w.input w2.input w.out w2.out a) a

-- the script's file is read only where the first is an image
abbrev pub Watches : List ℕ → List ℕ → World → World → Answer → Type 0
Watches file script w w2 a =
    OfFile image_file file w.files w2.files (Untouched w w2) (λ image.
    OfFile script_file script w.files w2.files (Untouched w w2) (λ s.
    Reports (watched_course image s.events) (last_after 0 s.events) (report_on image s.events) w.input w2.input w.out w2.out a) a) a

-- no file is read
abbrev pub Generates : ℕ → SinkTold → SinkTold → Answer → Type 0
Generates number out out2 a = Writes (IsGenerated number) out out2 a

-- a number of functions is within its limits
abbrev pub IsWithin : Reading → Type 0
IsWithin (Gen number) = IsWorkload number
IsWithin other = Unit {0}

-- what an answer says, by what the words ask for
abbrev pub Means : Option Reading → World → World → Answer → Type 0
Means None w w2 a = (a ≡ Words) × (w2 ≡ w)
Means (Some (Check file)) w w2 a = Checks file w.files w2.files a × Untouched w w2
Means (Some (Certify file)) w w2 a = Certifies file w.files w2.files a × Untouched w w2
Means (Some (Gen number)) w w2 a = Generates number w.out w2.out a × (w2.files ≡ w.files) × (w2.input ≡ w.input)
Means (Some (Print file)) w w2 a = Prints file w.files w2.files w.out w2.out a × (w2.input ≡ w.input)
Means (Some (Compile file slot_seed reg_seed)) w w2 a = Compiles file slot_seed reg_seed w.files w2.files w.out w2.out a × (w2.input ≡ w.input)
Means (Some (Build file slot_seed reg_seed layout_seed)) w w2 a = Builds file slot_seed reg_seed layout_seed w.files w2.files w.out w2.out a × (w2.input ≡ w.input)
Means (Some (Lay file layout_seed)) w w2 a = Lays file layout_seed w.files w2.files w.out w2.out a × (w2.input ≡ w.input)
Means (Some (Run file steps)) w w2 a = Runs file steps w w2 a
Means (Some (Show file steps)) w w2 a = Shows file steps w w2 a
Means (Some (Eval file steps)) w w2 a = Evaluates file steps w w2 a
Means (Some (Watch file script)) w w2 a = Watches file script w w2 a
