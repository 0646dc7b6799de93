-- The one file that is written for an image: an executable of ELF64.
use Rattle.std.specs.Prelude.{ℕ, ◌+◌, ◌-◌, ◌*◌, ◌/◌, List, [], ◌∷◌, ◌++◌, length, replicate}
use Rattle.rd_num.specs.Number.{le_bytes}
use Rattle.x86_core.specs.declared.image.Segment.{Segment}
use Rattle.x86_core.specs.declared.image.Image.{Image}

-- fields of two, four and eight bytes
unfoldable pub half : ℕ → List ℕ
half n = le_bytes 2 n

unfoldable pub word : ℕ → List ℕ
word n = le_bytes 4 n

unfoldable pub long : ℕ → List ℕ
long n = le_bytes 8 n

-- e_ident: the magic number, 64 bits, lowest byte first, version 1, System V
abbrev pub ident : List ℕ
ident = 127 ∷ 69 ∷ 76 ∷ 70 ∷ 2 ∷ 1 ∷ 1 ∷ 0 ∷ 0 ∷ 0 ∷ 0 ∷ 0 ∷ 0 ∷ 0 ∷ 0 ∷ 0 ∷ []

-- e_type, e_machine, e_version: an executable for x86-64
abbrev pub kind_bytes : List ℕ
kind_bytes = half 2 ++ (half 62 ++ word 1)

-- e_entry, e_phoff, e_shoff, e_flags
abbrev pub place_bytes : ℕ → List ℕ
place_bytes entry = long entry ++ (long 64 ++ (long 0 ++ word 0))

-- e_ehsize, e_phentsize, e_phnum, e_shentsize, e_shnum, e_shstrndx
abbrev pub size_bytes : ℕ → List ℕ
size_bytes count = half 64 ++ (half 56 ++ (half count ++ (half 0 ++ (half 0 ++ half 0))))

-- the header of the file, 64 bytes
unfoldable pub header_bytes : ℕ → ℕ → List ℕ
header_bytes entry count = ident ++ (kind_bytes ++ (place_bytes entry ++ size_bytes count))

-- two fields with the same number
abbrev pub twice : ℕ → List ℕ
twice n = long n ++ long n

-- p_type, p_flags, p_offset, p_vaddr and p_paddr, p_filesz and p_memsz, p_align: 56 bytes
abbrev pub program_header_bytes : ℕ → Segment → List ℕ
program_header_bytes offset s =
    word 1 ++ (word s.rights.0 ++ (long offset ++ (twice s.start ++ (twice (length s.bytes) ++ long 4096))))

-- the least multiple of 4096 that is not below a number
unfoldable pub page_up : ℕ → ℕ
page_up n = (n + 4095) / 4096 * 4096

-- where the headers of a number of segments end
abbrev pub headers_end : ℕ → ℕ
headers_end count = 64 + 56 * count

-- the program headers of segments, where what stands before their bytes ends
abbrev pub program_headers_bytes : ℕ → List Segment → List ℕ
program_headers_bytes end [] = []
program_headers_bytes end (s ∷ ss) = program_header_bytes (page_up end) s ++ program_headers_bytes (page_up end + length s.bytes) ss

-- the bytes of segments, each at the next multiple of 4096, with zeros between
abbrev pub contents : ℕ → List Segment → List ℕ
contents end [] = []
contents end (s ∷ ss) = replicate (page_up end - end) 0 ++ (s.bytes ++ contents (page_up end + length s.bytes) ss)

unfoldable pub elf_bytes : Image → List ℕ
elf_bytes i =
    let count = length i.segments in
    header_bytes i.entry count ++ (program_headers_bytes (headers_end count) i.segments ++ contents (headers_end count) i.segments)
