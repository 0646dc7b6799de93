-- The parts of a file as the spellings of an object's parts, in either format.
use Rattle.std.specs.Prelude.{◌≡◌, ℕ, ◌<◌, List, [], ◌++◌, length}
use Rattle.rd_num.specs.Number.{le_bytes}
use Rattle.obj_core.specs.declared.object.Object.{Object}
use Rattle.obj_core.specs.declared.object.Func.{Func}
use Rattle.obj_core.specs.declared.object.Link.{Link}
use Rattle.obj_core.specs.declared.object.Slot.{Slot}
use Rattle.obj_core.specs.Object.{Each, IsField, IsLink, IsFunc, IsUncut, IsSlot, IsObject, field, links_bytes, cuts_bytes, function_bytes, function_bytes_v1, functions_bytes, slots_bytes, object_bytes, object_bytes_v1}
use Rattle.obj_file.specs.declared.format.Format.{Format}
use Rattle.obj_file.specs.Texts.{IsRaw, full, Spans}

-- a function's spelling in a format
abbrev pub function_in : Format → Func → List ℕ
function_in Format.One = function_bytes_v1
function_in Format.Two = function_bytes

-- what it has behind the number of links
abbrev pub code_bytes : Format → List ℕ → List Link → List ℕ → List ℕ
code_bytes Format.One bytes links cuts = bytes ++ links_bytes links
code_bytes Format.Two bytes links cuts = field (length cuts) ++ (bytes ++ (links_bytes links ++ cuts_bytes cuts))

-- an object's spelling in a format
abbrev pub object_in : Format → Object → List ℕ
object_in Format.One = object_bytes_v1
object_in Format.Two = object_bytes

-- the functions that a format can spell
abbrev pub IsFuncIn : Format → Func → Type 0
IsFuncIn Format.One f = IsFunc f × IsUncut f
IsFuncIn Format.Two f = IsFunc f

-- the objects that a format can spell
pub record IsObjectIn (format : Format) (o : Object) : Type 0 where
  pub object : IsObject o
  pub functions : Each (IsFuncIn format) o.functions

-- what stands behind the seeds, and behind the counts
abbrev pub body_bytes : Format → List Func → List Slot → List ℕ → List ℕ → List ℕ
body_bytes format functions slots ro rw = functions_bytes (function_in format) functions ++ (slots_bytes slots ++ (ro ++ rw))

-- the counts and what they count
abbrev pub counted_bytes : Format → List Func → List Slot → List ℕ → List ℕ → List ℕ
counted_bytes format functions slots ro rw =
    field (length functions) ++ (field (length slots) ++ (field (length ro) ++ (field (length rw) ++ body_bytes format functions slots ro rw)))

-- the seeds and what follows them
abbrev pub seeded_bytes : Format → Object → List ℕ
seeded_bytes format o = le_bytes 8 o.slot_seed ++ (le_bytes 8 o.reg_seed ++ counted_bytes format o.functions o.slots o.ro o.rw)

-- code, links and cuts in range, as many as the counts say, and no cuts where the format has none
pub record AreRows (format : Format) (size links_count : ℕ) (bytes : List ℕ) (links : List Link) (cuts : List ℕ) : Type 0 where
  pub raw : IsRaw size bytes
  pub each_link : Each IsLink links
  pub each_cut : Each IsField cuts
  pub links_counted : length links ≡ links_count
  pub cuts_fit : length cuts < full
  pub uncut : format ≡ Format.One → cuts ≡ []

-- parts in range and so many as the counts say
pub record AreParts (format : Format) (functions_count slots_count ro_count rw_count : ℕ) (functions : List Func) (slots : List Slot) (ro rw : List ℕ) : Type 0 where
  pub each_function : Each (IsFuncIn format) functions
  pub each_slot : Each IsSlot slots
  pub raw_ro : IsRaw ro_count ro
  pub raw_rw : IsRaw rw_count rw
  pub functions_counted : length functions ≡ functions_count
  pub slots_counted : length slots ≡ slots_count

-- parts in range whose counts fit their fields
pub record AreCounted (format : Format) (functions : List Func) (slots : List Slot) (ro rw : List ℕ) : Type 0 where
  pub parts : AreParts format (length functions) (length slots) (length ro) (length rw) functions slots ro rw
  pub functions_fit : length functions < full
  pub slots_fit : length slots < full
  pub ro_fits : length ro < full
  pub rw_fits : length rw < full

-- an object stands from the start of a file up to a place, in some format
pub record Holds (bytes : List ℕ) (end : ℕ) (o : Object) : Type 0 where
  pub format : Format
  pub object : IsObjectIn format o
  pub spans : Spans bytes 0 end (object_in format o)
