-- How long the parts of a written file are.
use Rattle.std.proofs.Common.{ℕ, ◌≡◌, ◌+◌, ◌*◌, List, [], ◌∷◌, ◌++◌, length, refl, ◌∙◌, ap, arith, length-append, append_assoc}
use Rattle.x86_core.specs.declared.image.Segment.{Segment}
use Rattle.elf_file.specs.Elf.{half, word, long, page_up, header_bytes, program_header_bytes, program_headers_bytes, headers_end, contents}

pub length-header_bytes : (entry count : ℕ) → length (header_bytes entry count) ≡ 64
unfolding half word long header_bytes
length-header_bytes entry count = refl

pub length-program_header_bytes : (offset : ℕ) (s : Segment) → length (program_header_bytes offset s) ≡ 56
unfolding word long
length-program_header_bytes offset s = refl

pub length-program_headers_bytes : (end : ℕ) (ss : List Segment) → length (program_headers_bytes end ss) ≡ 56 * length ss
length-program_headers_bytes end [] = refl
length-program_headers_bytes end (s ∷ ss) =
    let rest : length (program_headers_bytes (page_up end + length s.bytes) ss) ≡ 56 * length ss = length-program_headers_bytes (page_up end + length s.bytes) ss in
    let both : length (program_header_bytes (page_up end) s ++ program_headers_bytes (page_up end + length s.bytes) ss) ≡ length (program_header_bytes (page_up end) s) + length (program_headers_bytes (page_up end + length s.bytes) ss) = length-append (program_header_bytes (page_up end) s) (program_headers_bytes (page_up end + length s.bytes) ss) in
    omega (arith, both, rest, length-program_header_bytes (page_up end) s)

-- where the bytes of segments begin
pub headers_lead : (entry count end : ℕ) (ss : List Segment) (file : List ℕ) → file ≡ header_bytes entry count ++ program_headers_bytes end ss → length file ≡ 64 + 56 * length ss
headers_lead entry count end ss file e =
    ap length e ∙ length-append (header_bytes entry count) (program_headers_bytes end ss) ∙ ap (λ n. n + length (program_headers_bytes end ss)) (length-header_bytes entry count) ∙ ap (λ n. 64 + n) (length-program_headers_bytes end ss)

-- header, program headers and bytes, put one after another
pub whole_file : (entry : ℕ) (ss : List Segment) (one two file : List ℕ) →
    one ≡ header_bytes entry (length ss) →
    two ≡ one ++ program_headers_bytes (headers_end (length ss)) ss →
    file ≡ two ++ contents (length two) ss →
    file ≡ header_bytes entry (length ss) ++ (program_headers_bytes (headers_end (length ss)) ss ++ contents (headers_end (length ss)) ss)
whole_file entry ss one two file e1 e2 e3 =
    let end = headers_end (length ss) in
    let header = header_bytes entry (length ss) in
    let both : two ≡ header ++ program_headers_bytes end ss = e2 ∙ ap (λ x. x ++ program_headers_bytes end ss) e1 in
    let long : length two ≡ end = headers_lead entry (length ss) end ss two both in
    e3 ∙ ap (λ n. two ++ contents n ss) long ∙ ap (λ x. x ++ contents end ss) both ∙ append_assoc header (program_headers_bytes end ss) (contents end ss)
