-- The limits of fields, and that each part of a file is a good set of texts.
use Rattle.std.proofs.Common.{ℕ, ◌<◌, ◌≤◌, Bool, true, false, arith}
use Rattle.std.specs.Prelude.{nat_le}
use Rattle.obj_core.specs.Object.{magic}
use Rattle.obj_file.specs.declared.format.Format.{Format}
use Rattle.obj_file.specs.Texts.{IsText, IsRaw, IsNumber, FormatThen, Times, full, limit_if, IsLinkText, RowsText, CutCodeText, CodeText, LinksText, SizeText, IsFunctionText, OffsetText, BackText, TargetText, IsSlotText, DataText, SlotsText, BodyText, AfterRo, AfterSlots, AfterFunctions, CountedText, RegSeedText, SlotSeedText, IsObjectText}
use Rattle.obj_file.proofs.Good.{Good, IsLimit, good_text, good_raw, good_number, good_field, good_format, good_then, good_times}

-- any number that a field can hold
pub full_limit : IsLimit full
full_limit = record { some = omega arith; fits = omega arith }

-- a limit of at most 256
pub small_limit : (n : ℕ) → 0 < n → n ≤ 256 → IsLimit n
small_limit n h k = record { some = h; fits = omega arith }

-- the limit of a field that may be unused
pub used_limit : (used : Bool) → IsLimit (limit_if used)
used_limit true = full_limit
used_limit false = small_limit 1 (omega arith) (omega arith)

-- links
pub good_link : Good IsLinkText
good_link = good_field full (λ at. IsNumber full) full_limit (λ at. good_number full full_limit)

-- cuts
pub good_cut : Good (IsNumber full)
good_cut = good_number full full_limit

-- links and cuts
pub good_rows : (links cuts : ℕ) → Good (RowsText links cuts)
good_rows links cuts = good_then (Times IsLinkText links) (Times (IsNumber full) cuts) (good_times IsLinkText links good_link) (good_times (IsNumber full) cuts good_cut)

-- code, links and cuts
pub good_cut_code : (size links cuts : ℕ) → Good (CutCodeText size links cuts)
good_cut_code size links cuts = good_then (IsRaw size) (RowsText links cuts) (good_raw size) (good_rows links cuts)

-- what follows a count of links
pub good_code : (format : Format) (size links : ℕ) → Good (CodeText format size links)
good_code Format.One size links = good_then (IsRaw size) (Times IsLinkText links) (good_raw size) (good_times IsLinkText links good_link)
good_code Format.Two size links = good_field full (CutCodeText size links) full_limit (good_cut_code size links)

-- a count of links, and what follows
pub good_links : (format : Format) (size : ℕ) → Good (LinksText format size)
good_links format size = good_field full (CodeText format size) full_limit (good_code format size)

-- a size, and what is counted
pub good_size : (format : Format) → Good (SizeText format)
good_size format = good_field full (LinksText format) full_limit (good_links format)

-- kinds of functions
pub two_limit : IsLimit 2
two_limit = small_limit 2 (omega arith) (omega arith)

-- functions
pub good_function : (format : Format) → Good (IsFunctionText format)
good_function format = good_field 2 (λ kind. SizeText format) two_limit (λ kind. good_size format)

-- the offset of a way back
pub good_offset : (kind : ℕ) → Good (OffsetText kind)
good_offset kind = good_number (limit_if (nat_le 2 kind)) (used_limit (nat_le 2 kind))

-- a way back
pub good_back : (kind : ℕ) → Good (BackText kind)
good_back kind = good_field (limit_if (nat_le 2 kind)) (λ function. OffsetText kind) (used_limit (nat_le 2 kind)) (λ function. good_offset kind)

-- a target and a way back
pub good_target : (kind : ℕ) → Good (TargetText kind)
good_target kind = good_field (limit_if (nat_le kind 2)) (λ target. BackText kind) (used_limit (nat_le kind 2)) (λ target. good_back kind)

-- kinds of slots
pub five_limit : IsLimit 5
five_limit = small_limit 5 (omega arith) (omega arith)

-- slots
pub good_slot : Good IsSlotText
good_slot = good_field 5 TargetText five_limit good_target

-- both data parts
pub good_data : (ro rw : ℕ) → Good (DataText ro rw)
good_data ro rw = good_then (IsRaw ro) (IsRaw rw) (good_raw ro) (good_raw rw)

-- slots and data
pub good_slots : (slots ro rw : ℕ) → Good (SlotsText slots ro rw)
good_slots slots ro rw = good_then (Times IsSlotText slots) (DataText ro rw) (good_times IsSlotText slots good_slot) (good_data ro rw)

-- functions, slots and data
pub good_body : (format : Format) (functions slots ro rw : ℕ) → Good (BodyText format functions slots ro rw)
good_body format functions slots ro rw = good_then (Times (IsFunctionText format) functions) (SlotsText slots ro rw) (good_times (IsFunctionText format) functions (good_function format)) (good_slots slots ro rw)

-- the last count and the body
pub good_after_ro : (format : Format) (functions slots ro : ℕ) → Good (AfterRo format functions slots ro)
good_after_ro format functions slots ro = good_field full (BodyText format functions slots ro) full_limit (good_body format functions slots ro)

-- the last two counts and the body
pub good_after_slots : (format : Format) (functions slots : ℕ) → Good (AfterSlots format functions slots)
good_after_slots format functions slots = good_field full (AfterRo format functions slots) full_limit (good_after_ro format functions slots)

-- the last three counts and the body
pub good_after_functions : (format : Format) (functions : ℕ) → Good (AfterFunctions format functions)
good_after_functions format functions = good_field full (AfterSlots format functions) full_limit (good_after_slots format functions)

-- the counts and the body
pub good_counted : (format : Format) → Good (CountedText format)
good_counted format = good_field full (AfterFunctions format) full_limit (good_after_functions format)

-- the register seed and what follows
pub good_reg_seed : (format : Format) → Good (RegSeedText format)
good_reg_seed format = good_then (IsRaw 8) (CountedText format) (good_raw 8) (good_counted format)

-- both seeds and what follows
pub good_slot_seed : (format : Format) → Good (SlotSeedText format)
good_slot_seed format = good_then (IsRaw 8) (RegSeedText format) (good_raw 8) (good_reg_seed format)

-- the format and what follows
pub good_formatted : Good (FormatThen SlotSeedText)
good_formatted = good_format SlotSeedText good_slot_seed

-- whole files
pub good_object : Good IsObjectText
good_object = good_then (IsText magic) (FormatThen SlotSeedText) (good_text magic) good_formatted
