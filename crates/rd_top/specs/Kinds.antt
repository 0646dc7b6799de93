-- The kinds of files: modules' texts, objects, images and scripts.
use Rattle.std.specs.Prelude.{◌≡◌, ℕ, List, length, Some}
use Rattle.x86_core.specs.declared.image.Image.{Image}
use Rattle.ir_core.specs.declared.module.Module.{Module}
use Rattle.ir_core.specs.declared.valid.Valid.{Valid}
use Rattle.ir_core.specs.Refusals.{Fault, IsValid, first_fault}
use Rattle.ir_core.specs.Refusals as invalid
use Rattle.ir_lex.specs.declared.token.Token.{Token}
use Rattle.ir_lex.specs.declared.LexFault.TheVariants.{At}
use Rattle.ir_lex.specs.Tokens.{Scans, Faults as HasNoTokens}
use Rattle.ir_print.specs.ReadsBack.{ReadsBack as IsTextOf}
use Rattle.ir_parse.specs.declared.parse.ParseFault.{ParseFault}
use Rattle.ir_parse.specs.declared.parse.ParseFault.TheVariants as stray
use Rattle.ir_parse.specs.Faults.{Faults as FaultsOf}
use Rattle.obj_core.specs.declared.object.Object.{Object}
use Rattle.obj_core.specs.declared.checked.Checked.{Checked}
use Rattle.obj_core.specs.Object.{IsObject, Spells}
use Rattle.obj_core.specs.WellFormed.{IsWellFormed, IsFirstViolation}
use Rattle.obj_file.specs.Faults.{IsNoneFrom}
use Rattle.obj_check.specs.declared.fault.ShapeSpot.{ShapeSpot}
use Rattle.obj_check.specs.Least.{spot_of}
use Rattle.elf_file.specs.Rules.{LoadsAs, FailsFirst}
use Rattle.watch_script.specs.declared.script.Script.{Script}
use Rattle.watch_script.specs.Script.{ScriptOf, IsFirstBad}
use Rattle.ir_check.specs.declared.CheckFault.{CheckFault}
use Rattle.ir_check.specs.declared.CheckFault.TheVariants as CheckFault
use Rattle.rd_top.specs.declared.answer.Answer.{Answer}
use Rattle.rd_top.specs.declared.answer.Answer.TheVariants.{Refused, Memory}
use Rattle.rd_top.specs.declared.answer.Refusal.{Refusal}
use Rattle.rd_top.specs.declared.answer.Refusal.TheVariants as refusal
use Rattle.rd_top.specs.declared.answer.ModuleFault.TheVariants.{Lex, Grammar, Unsupported, Doubled, Unknown, Limited, External, NoMain, BadType}
use Rattle.rd_top.specs.declared.answer.ObjectFault.TheVariants.{Form, Shape}
use Rattle.rd_top.specs.Files.{Kind}

-- the text is that of this module, which is valid
pub record SpellsValid (text : List ℕ) (v : Valid) : Type 0 where
  pub text_of : IsTextOf text v.kept
  pub valid : IsValid v.kept

-- the text has tokens, and they are no module's
pub record HasNoModule (text : List ℕ) (fault : ParseFault) : Type 0 where
  pub tokens : List Token
  pub scanned : Scans text tokens
  pub stopped : FaultsOf tokens (length text) fault

-- the text is that of a module that isn't valid, and this is the first thing that is wrong with it
pub record IsOfInvalid (text : List ℕ) (fault : Fault) : Type 0 where
  pub whole : Module
  pub text_of : IsTextOf text whole
  pub first : first_fault whole ≡ Some fault

-- why a text is that of no valid module
abbrev pub RefusesModule : List ℕ → Refusal → Type 0
RefusesModule text (refusal.Module (Lex place)) = HasNoTokens text (At place)
RefusesModule text (refusal.Module (Grammar place)) = HasNoModule text (stray.Grammar place)
RefusesModule text (refusal.Module (Unsupported place word)) = HasNoModule text (stray.Unsupported place word)
RefusesModule text (refusal.Module (Doubled name)) = IsOfInvalid text (invalid.Doubled name)
RefusesModule text (refusal.Module (Unknown name)) = IsOfInvalid text (invalid.Unknown name)
RefusesModule text (refusal.Module (Limited which count)) = IsOfInvalid text (invalid.Limited which count)
RefusesModule text (refusal.Module (External name)) = IsOfInvalid text (invalid.External name)
RefusesModule text (refusal.Module NoMain) = IsOfInvalid text invalid.NoMain
RefusesModule text (refusal.Module (BadType spot)) = IsOfInvalid text (invalid.BadType spot)
RefusesModule text other = ⊥

-- the answer that names a fault of the checker
abbrev pub answer_to : CheckFault → Answer
answer_to (CheckFault.Doubled name) = Refused (refusal.Module (Doubled name))
answer_to (CheckFault.Unknown name) = Refused (refusal.Module (Unknown name))
answer_to (CheckFault.Limit which count) = Refused (refusal.Module (Limited which count))
answer_to (CheckFault.External name) = Refused (refusal.Module (External name))
answer_to CheckFault.NoMain = Refused (refusal.Module NoMain)
answer_to (CheckFault.BadType spot) = Refused (refusal.Module (BadType spot))
answer_to CheckFault.NoMemory = Memory

-- a module's text, at most 8 MiB
abbrev pub module_text : Kind Valid
module_text = record { limit = 8388608; Spells = SpellsValid; Refuses = RefusesModule }

-- bytes are a file of this object, in either format
pub record AreObject (bytes : List ℕ) (o : Object) : Type 0 where
  pub object : IsObject o
  pub spelled : Spells bytes o

-- bytes are those of a well-formed object
pub record SpellsChecked (bytes : List ℕ) (checked : Checked) : Type 0 where
  pub spells : AreObject bytes checked.object
  pub well_formed : IsWellFormed checked.object

-- bytes spell an object that isn't well formed, and this is what is wrong with it
pub record IsMisshapen (bytes : List ℕ) (rule : ℕ) (spot : ShapeSpot) (offset : ℕ) : Type 0 where
  pub object : Object
  pub spells : AreObject bytes object
  pub first : IsFirstViolation object (record { rule = rule; spot = spot_of spot; offset = offset })

abbrev pub RefusesObject : List ℕ → Refusal → Type 0
RefusesObject bytes (refusal.Object (Form place)) = IsNoneFrom bytes place
RefusesObject bytes (refusal.Object (Shape rule spot offset)) = IsMisshapen bytes rule spot offset
RefusesObject bytes other = ⊥

-- an object's file, at most 256 MiB
abbrev pub object_file : Kind Checked
object_file = record { limit = 268435456; Spells = SpellsChecked; Refuses = RefusesObject }

abbrev pub RefusesImage : List ℕ → Refusal → Type 0
RefusesImage bytes (refusal.Image rule) = FailsFirst bytes rule
RefusesImage bytes other = ⊥

-- an image's file, at most 256 MiB
abbrev pub image_file : Kind Image
image_file = record { limit = 268435456; Spells = LoadsAs; Refuses = RefusesImage }

abbrev pub SpellsScript : List ℕ → Script → Type 0
SpellsScript bytes script = ScriptOf bytes script.events

abbrev pub RefusesScript : List ℕ → Refusal → Type 0
RefusesScript bytes (refusal.Script line) = IsFirstBad bytes line
RefusesScript bytes other = ⊥

-- a script's file, at most 1 MiB
abbrev pub script_file : Kind Script
script_file = record { limit = 1048576; Spells = SpellsScript; Refuses = RefusesScript }
