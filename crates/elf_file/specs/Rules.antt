-- Which files load, and as what: nine rules on fields at their offsets.
use Rattle.std.specs.Prelude.{ℕ, zero, suc, ◌≡◌, ◌+◌, ◌*◌, ◌%◌, ◌<◌, ◌≤◌, List, [], ◌∷◌, length, take, drop, All, sum_by, map}
use Rattle.rd_num.specs.Number.{le_number}
use Rattle.x86_core.specs.declared.image.Segment.{Segment}
use Rattle.x86_core.specs.declared.image.Image.{Image}
use Rattle.elf_file.specs.declared.ImageFault.{ImageFault}
use Rattle.elf_file.specs.declared.layout.ProgramHeader.{ProgramHeader}
use Rattle.elf_file.specs.Sound.{IsRights}
use Rattle.elf_file.specs.Elf.{ident}

-- the number that a field spells, by its size and its offset
unfoldable pub number_at : ℕ → ℕ → List ℕ → ℕ
number_at size offset bytes = le_number (take size (drop offset bytes))

-- fields of the file's header
abbrev pub e_type : List ℕ → ℕ
e_type bytes = number_at 2 16 bytes

abbrev pub e_machine : List ℕ → ℕ
e_machine bytes = number_at 2 18 bytes

abbrev pub e_version : List ℕ → ℕ
e_version bytes = number_at 4 20 bytes

abbrev pub e_entry : List ℕ → ℕ
e_entry bytes = number_at 8 24 bytes

abbrev pub e_phoff : List ℕ → ℕ
e_phoff bytes = number_at 8 32 bytes

abbrev pub e_phentsize : List ℕ → ℕ
e_phentsize bytes = number_at 2 54 bytes

abbrev pub e_phnum : List ℕ → ℕ
e_phnum bytes = number_at 2 56 bytes

-- the program header that bytes begin with
abbrev pub program_header : List ℕ → ProgramHeader
program_header bytes = record {
  p_type = number_at 4 0 bytes;
  p_flags = number_at 4 4 bytes;
  p_offset = number_at 8 8 bytes;
  p_vaddr = number_at 8 16 bytes;
  p_filesz = number_at 8 32 bytes;
  p_memsz = number_at 8 40 bytes;
  p_align = number_at 8 48 bytes;
}

-- a number of program headers, one behind the other
abbrev pub program_headers : ℕ → List ℕ → List ProgramHeader
program_headers zero bytes = []
program_headers (suc n) bytes = program_header bytes ∷ program_headers n (drop 56 bytes)

-- the program headers of a file
unfoldable pub headers_of : List ℕ → List ProgramHeader
headers_of bytes = program_headers (e_phnum bytes) (drop 64 bytes)

-- a segment to load, with some right, aligned to pages
pub record IsLoad (h : ProgramHeader) : Type 0 where
  pub kind : h.p_type ≡ 1
  pub flags : IsRights h.p_flags
  pub align : h.p_align ≡ 4096

-- as many bytes in the file as in memory, and at least one
pub record IsWhole (h : ProgramHeader) : Type 0 where
  pub same : h.p_filesz ≡ h.p_memsz
  pub some : 1 ≤ h.p_filesz

-- on whole pages, and between 0x10000 and 0x90000000
pub record IsPlaced (h : ProgramHeader) : Type 0 where
  pub start : h.p_vaddr % 4096 ≡ 0
  pub offset : h.p_offset % 4096 ≡ 0
  pub low : 65536 ≤ h.p_vaddr
  pub high : h.p_vaddr + h.p_filesz ≤ 2415919104

-- the first segment begins at the end or after it, each other at the end of the one before or after it
abbrev pub AreOrdered : ℕ → List ProgramHeader → Type 0
AreOrdered end [] = Unit {0}
AreOrdered end (h ∷ hs) = (end ≤ h.p_vaddr) × AreOrdered (h.p_vaddr + h.p_filesz) hs

-- all bytes stand in a file of a length
abbrev pub IsInFile : ℕ → ProgramHeader → Type 0
IsInFile size h = h.p_offset + h.p_filesz ≤ size

-- how many bytes all segments have
abbrev pub total_size : List ProgramHeader → ℕ
total_size hs = sum_by (λ h. h.p_filesz) hs

-- the nine rules, in their order
pub record Rule1 (bytes : List ℕ) : Type 0 where
  pub long : 64 ≤ length bytes
  pub ident : take 16 bytes ≡ ident

pub record Rule2 (bytes : List ℕ) : Type 0 where
  pub kind : e_type bytes ≡ 2
  pub machine : e_machine bytes ≡ 62
  pub version : e_version bytes ≡ 1

pub record Rule3 (bytes : List ℕ) : Type 0 where
  pub offset : e_phoff bytes ≡ 64
  pub size : e_phentsize bytes ≡ 56
  pub some : 1 ≤ e_phnum bytes
  pub few : e_phnum bytes ≤ 8
  pub there : 64 + 56 * e_phnum bytes ≤ length bytes

abbrev pub Rule4 : List ℕ → Type 0
Rule4 bytes = All IsLoad (headers_of bytes)

abbrev pub Rule5 : List ℕ → Type 0
Rule5 bytes = All IsWhole (headers_of bytes)

abbrev pub Rule6 : List ℕ → Type 0
Rule6 bytes = All IsPlaced (headers_of bytes)

abbrev pub Rule7 : List ℕ → Type 0
Rule7 bytes = AreOrdered 0 (headers_of bytes)

abbrev pub Rule8 : List ℕ → Type 0
Rule8 bytes = All (IsInFile (length bytes)) (headers_of bytes)

abbrev pub Rule9 : List ℕ → Type 0
Rule9 bytes = total_size (headers_of bytes) ≤ 268435456

pub record Rules (bytes : List ℕ) : Type 0 where
  pub rule1 : Rule1 bytes
  pub rule2 : Rule2 bytes
  pub rule3 : Rule3 bytes
  pub rule4 : Rule4 bytes
  pub rule5 : Rule5 bytes
  pub rule6 : Rule6 bytes
  pub rule7 : Rule7 bytes
  pub rule8 : Rule8 bytes
  pub rule9 : Rule9 bytes

-- the segment of a program header: bytes of the file, at its address, with its rights
abbrev pub segment_of : List ℕ → ProgramHeader → Segment
segment_of bytes h = record { start = h.p_vaddr; bytes = take h.p_filesz (drop h.p_offset bytes); rights = record { 0 = h.p_flags } }

-- a file that keeps all rules loads as its entry and the segments of its headers
pub record LoadsAs (bytes : List ℕ) (i : Image) : Type 0 where
  pub rules : Rules bytes
  pub entry : i.entry ≡ e_entry bytes
  pub segments : i.segments ≡ map (segment_of bytes) (headers_of bytes)

-- what a refusal by the rule of one number says of the rule of another
abbrev pub Told : ℕ → ℕ → Type 0 → Type 0
Told refused number Holds = (number < refused → Holds) × (refused ≡ number → Holds → ⊥)

-- the rules before one hold, and that one fails
pub record FailsFirst (bytes : List ℕ) (refused : ℕ) : Type 0 where
  pub from : 1 ≤ refused
  pub to : refused ≤ 9
  pub rule1 : Told refused 1 (Rule1 bytes)
  pub rule2 : Told refused 2 (Rule2 bytes)
  pub rule3 : Told refused 3 (Rule3 bytes)
  pub rule4 : Told refused 4 (Rule4 bytes)
  pub rule5 : Told refused 5 (Rule5 bytes)
  pub rule6 : Told refused 6 (Rule6 bytes)
  pub rule7 : Told refused 7 (Rule7 bytes)
  pub rule8 : Told refused 8 (Rule8 bytes)
  pub rule9 : Told refused 9 (Rule9 bytes)

-- why a file was not loaded
abbrev pub Explains : List ℕ → ImageFault → Type 0
Explains bytes (ImageFault.Rule rule) = FailsFirst bytes rule
Explains bytes ImageFault.NoMemory = Unit {0}
