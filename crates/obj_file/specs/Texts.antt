-- The parts of a file as sets of texts, and where bytes leave such a set.
use Rattle.std.specs.Prelude.{◌≡◌, ℕ, zero, suc, ◌+◌, ◌<◌, ◌≤◌, ◌^◌, Bool, nat_le, if◌then◌else◌, List, [], ◌∷◌, ◌++◌, length, drop}
use Rattle.obj_core.specs.Object.{Each, IsByte, field, magic}
use Rattle.obj_file.specs.declared.format.Format.{Format}
use Rattle.obj_file.specs.declared.fault.FormFault.{FormFault}

-- one text alone
pub record IsText (only s : List ℕ) : Type 0 where
  pub same : s ≡ only

-- any bytes, so many
pub record IsRaw (n : ℕ) (s : List ℕ) : Type 0 where
  pub bytes : Each IsByte s
  pub size : length s ≡ n

-- a field whose number is below a limit
pub record IsNumber (limit : ℕ) (s : List ℕ) : Type 0 where
  pub number : ℕ
  pub below : number < limit
  pub text : s ≡ field number

-- a field whose number is below a limit, and a text of the set that the number names
pub record FieldThen (limit : ℕ) (L : ℕ → List ℕ → Type 0) (s : List ℕ) : Type 0 where
  pub number : ℕ
  pub below : number < limit
  pub rest : List ℕ
  pub text : s ≡ field number ++ rest
  pub ends : L number rest

-- the number of a format
abbrev pub number_of : Format → ℕ
number_of Format.One = 1
number_of Format.Two = 2

-- a field with the number of a format
pub record IsFormat (s : List ℕ) : Type 0 where
  pub format : Format
  pub text : s ≡ field (number_of format)

-- a field with the number of a format, and a text of the set that the format names
pub record FormatThen (L : Format → List ℕ → Type 0) (s : List ℕ) : Type 0 where
  pub format : Format
  pub rest : List ℕ
  pub text : s ≡ field (number_of format) ++ rest
  pub ends : L format rest

-- a text of one set and a text of another
pub record Then (L M : List ℕ → Type 0) (s : List ℕ) : Type 0 where
  pub first : List ℕ
  pub second : List ℕ
  pub text : s ≡ first ++ second
  pub begins : L first
  pub ends : M second

-- so many texts of a set
abbrev pub Times : (List ℕ → Type 0) → ℕ → List ℕ → Type 0
Times L zero s = IsText [] s
Times L (suc n) s = Then L (Times L n) s

-- the limit of a field that may hold any number
abbrev pub full : ℕ
full = 2 ^ 32

-- the limit of a field that is 0 where it isn't used
abbrev pub limit_if : Bool → ℕ
limit_if used = if used then full else 1

-- a link: two fields
abbrev pub IsLinkText : List ℕ → Type 0
IsLinkText = FieldThen full (λ at. IsNumber full)

-- so many links, and so many cuts
abbrev pub RowsText : ℕ → ℕ → List ℕ → Type 0
RowsText links cuts = Then (Times IsLinkText links) (Times (IsNumber full) cuts)

-- a function's code, and its links and cuts
abbrev pub CutCodeText : ℕ → ℕ → ℕ → List ℕ → Type 0
CutCodeText size links cuts = Then (IsRaw size) (RowsText links cuts)

-- what follows the number of links: code and links, and in format 2 before them the number of cuts and behind them these
abbrev pub CodeText : Format → ℕ → ℕ → List ℕ → Type 0
CodeText Format.One size links = Then (IsRaw size) (Times IsLinkText links)
CodeText Format.Two size links = FieldThen full (CutCodeText size links)

-- the number of links, and what follows it
abbrev pub LinksText : Format → ℕ → List ℕ → Type 0
LinksText format size = FieldThen full (CodeText format size)

-- the size, and what follows it
abbrev pub SizeText : Format → List ℕ → Type 0
SizeText format = FieldThen full (LinksText format)

-- a function from its kind on
abbrev pub IsFunctionText : Format → List ℕ → Type 0
IsFunctionText format = FieldThen 2 (λ kind. SizeText format)

-- a slot: the offset of its way back, and before it the function, the target, and the kind, which says what is used
abbrev pub OffsetText : ℕ → List ℕ → Type 0
OffsetText kind = IsNumber (limit_if (nat_le 2 kind))

-- the way back
abbrev pub BackText : ℕ → List ℕ → Type 0
BackText kind = FieldThen (limit_if (nat_le 2 kind)) (λ function. OffsetText kind)

-- the target and the way back
abbrev pub TargetText : ℕ → List ℕ → Type 0
TargetText kind = FieldThen (limit_if (nat_le kind 2)) (λ target. BackText kind)

-- a slot from its kind on
abbrev pub IsSlotText : List ℕ → Type 0
IsSlotText = FieldThen 5 TargetText

-- what follows the four counts, and what follows three, two, one and none of them
abbrev pub DataText : ℕ → ℕ → List ℕ → Type 0
DataText ro rw = Then (IsRaw ro) (IsRaw rw)

-- the slots and the data
abbrev pub SlotsText : ℕ → ℕ → ℕ → List ℕ → Type 0
SlotsText slots ro rw = Then (Times IsSlotText slots) (DataText ro rw)

-- the functions, the slots and the data
abbrev pub BodyText : Format → ℕ → ℕ → ℕ → ℕ → List ℕ → Type 0
BodyText format functions slots ro rw = Then (Times (IsFunctionText format) functions) (SlotsText slots ro rw)

-- from the fourth count on
abbrev pub AfterRo : Format → ℕ → ℕ → ℕ → List ℕ → Type 0
AfterRo format functions slots ro = FieldThen full (BodyText format functions slots ro)

-- from the third count on
abbrev pub AfterSlots : Format → ℕ → ℕ → List ℕ → Type 0
AfterSlots format functions slots = FieldThen full (AfterRo format functions slots)

-- from the second count on
abbrev pub AfterFunctions : Format → ℕ → List ℕ → Type 0
AfterFunctions format functions = FieldThen full (AfterSlots format functions)

-- from the first count on
abbrev pub CountedText : Format → List ℕ → Type 0
CountedText format = FieldThen full (AfterFunctions format)

-- from the register seed on
abbrev pub RegSeedText : Format → List ℕ → Type 0
RegSeedText format = Then (IsRaw 8) (CountedText format)

-- from the slot seed on
abbrev pub SlotSeedText : Format → List ℕ → Type 0
SlotSeedText format = Then (IsRaw 8) (RegSeedText format)

-- a whole file
abbrev pub IsObjectText : List ℕ → Type 0
IsObjectText = Then (IsText magic) (FormatThen SlotSeedText)

-- what stands in a file from one place to another
pub record Spans (bytes : List ℕ) (at to : ℕ) (s : List ℕ) : Type 0 where
  pub text : drop at bytes ≡ s ++ drop to bytes
  pub size : to ≡ at + length s
  pub within : to ≤ length bytes

-- no text of a set begins with these bytes and the first of the others
abbrev pub NoneBegins : (List ℕ → Type 0) → List ℕ → List ℕ → Type 0
NoneBegins L front [] = Unit {0}
NoneBegins L front (b ∷ bs) = (rest : List ℕ) → L (front ++ b ∷ rest) → ⊥

-- the first n of the bytes are the longest part of them that a text of the set goes on from
pub record Leaves (L : List ℕ → Type 0) (bytes : List ℕ) (n : ℕ) : Type 0 where
  pub front : List ℕ
  pub others : List ℕ
  pub split : bytes ≡ front ++ others
  pub size : n ≡ length front
  pub next : ℕ
  pub more : List ℕ
  pub goes_on : L (front ++ next ∷ more)
  pub wrong : NoneBegins L front others

-- the bytes from a place on leave a set of texts at a later place
pub record LeavesAt (L : List ℕ → Type 0) (bytes : List ℕ) (at place : ℕ) : Type 0 where
  pub inside : ℕ
  pub is : place ≡ at + inside
  pub leaves : Leaves L (drop at bytes) inside

-- where a fault names a place, the bytes leave the set there
pub record Fault (L : List ℕ → Type 0) (bytes : List ℕ) (at : ℕ) (e : FormFault) : Type 0 where
  pub left : (place : ℕ) → e ≡ FormFault.At place → LeavesAt L bytes at place
