-- Fields of written headers read back as what was written.
use Rattle.std.proofs.Common.{ℕ, ◌≡◌, ◌^◌, ◌<◌, List, ◌++◌, length, drop, take, refl, ◌∙◌, ap, arith}
use Rattle.rd_num.specs.Number.{le_bytes, le_number}
use Rattle.x86_core.specs.declared.image.Segment.{Segment}
use Rattle.elf_file.specs.declared.layout.ProgramHeader.{ProgramHeader}
use Rattle.elf_file.specs.Elf.{half, word, long, ident, header_bytes, program_header_bytes}
use Rattle.elf_file.specs.Rules.{number_at, e_type, e_machine, e_version, e_entry, e_phoff, e_phentsize, e_phnum, program_header}

half_again : (n : ℕ) → n < 2 ^ 16 → le_number (le_bytes 2 n) ≡ n
half_again n h = omega arith

word_again : (n : ℕ) → n < 2 ^ 32 → le_number (le_bytes 4 n) ≡ n
word_again n h = omega arith

long_again : (n : ℕ) → n < 2 ^ 64 → le_number (le_bytes 8 n) ≡ n
long_again n h = omega arith

-- the fields of the header, whatever follows it
pub record Written (e n : ℕ) (bytes body : List ℕ) : Type 0 where
  pub ident : take 16 bytes ≡ ident
  pub kind : e_type bytes ≡ 2
  pub machine : e_machine bytes ≡ 62
  pub version : e_version bytes ≡ 1
  pub entry : e_entry bytes ≡ e
  pub offset : e_phoff bytes ≡ 64
  pub size : e_phentsize bytes ≡ 56
  pub count : e_phnum bytes ≡ n
  pub rest : drop 64 bytes ≡ body

pub header_again : (entry count : ℕ) (rest : List ℕ) → entry < 2 ^ 64 → count < 2 ^ 16 → Written entry count (header_bytes entry count ++ rest) rest
unfolding half word long header_bytes number_at
header_again entry count rest he hc = record {
  ident = refl;
  kind = refl;
  machine = refl;
  version = refl;
  entry = long_again entry he;
  offset = refl;
  size = refl;
  count = half_again count hc;
  rest = refl;
}

-- the program header of a segment whose bytes stand at an offset
abbrev pub header_for : ℕ → Segment → ProgramHeader
header_for offset s = record { p_type = 1; p_flags = s.rights.0; p_offset = offset; p_vaddr = s.start; p_filesz = length s.bytes; p_memsz = length s.bytes; p_align = 4096 }

made : ℕ → ℕ → ℕ → ℕ → ProgramHeader
made flags offset start size = record { p_type = 1; p_flags = flags; p_offset = offset; p_vaddr = start; p_filesz = size; p_memsz = size; p_align = 4096 }

pub program_header_again : (offset : ℕ) (s : Segment) (rest : List ℕ) → s.rights.0 < 2 ^ 32 → offset < 2 ^ 64 → s.start < 2 ^ 64 → length s.bytes < 2 ^ 64 →
    program_header (program_header_bytes offset s ++ rest) ≡ header_for offset s
unfolding word long number_at made
program_header_again offset s rest hr ho hs hl =
    let flags = le_number (le_bytes 4 s.rights.0) in
    let place = le_number (le_bytes 8 offset) in
    let start = le_number (le_bytes 8 s.start) in
    ap (λ n. made n place start (le_number (le_bytes 8 (length s.bytes)))) (word_again s.rights.0 hr) ∙
    ap (λ n. made s.rights.0 n start (le_number (le_bytes 8 (length s.bytes)))) (long_again offset ho) ∙
    ap (λ n. made s.rights.0 offset n (le_number (le_bytes 8 (length s.bytes)))) (long_again s.start hs) ∙
    ap (λ n. made s.rights.0 offset s.start n) (long_again (length s.bytes) hl)

pub behind_program_header : (offset : ℕ) (s : Segment) (rest : List ℕ) → drop 56 (program_header_bytes offset s ++ rest) ≡ rest
unfolding word long
behind_program_header offset s rest = refl
