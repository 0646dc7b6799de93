-- Program headers one behind the other.
use Rattle.std.proofs.Common.{ℕ, zero, suc, ◌≡◌, ◌+◌, ◌-◌, ◌*◌, ◌<◌, List, [], ◌∷◌, ◌++◌, length, drop, refl, sym, ◌∙◌, ap, arith, append_assoc}
use Rattle.std.proofs.lemmas.List.{drop-drop}
use Rattle.elf_file.specs.declared.layout.ProgramHeader.{ProgramHeader}
use Rattle.elf_file.specs.Rules.{program_header, program_headers}

pub length-program_headers : (n : ℕ) (bytes : List ℕ) → length (program_headers n bytes) ≡ n
length-program_headers zero bytes = refl
length-program_headers (suc n) bytes = ap suc (length-program_headers n (drop 56 bytes))

-- the first of the headers that are left
pub first_header : (count i : ℕ) (bytes : List ℕ) → i < count → program_headers (count - i) (drop (64 + 56 * i) bytes) ≡ program_header (drop (64 + 56 * i) bytes) ∷ program_headers (count - (i + 1)) (drop (64 + 56 * (i + 1)) bytes)
first_header count i bytes h =
    let at = 64 + 56 * i in
    let fewer : count - i ≡ suc (count - (i + 1)) = omega arith in
    let further : at + 56 ≡ 64 + 56 * (i + 1) = omega arith in
    let rest : drop 56 (drop at bytes) ≡ drop (64 + 56 * (i + 1)) bytes = drop-drop 56 at bytes ∙ ap (λ n. drop n bytes) further in
    ap (λ n. program_headers n (drop at bytes)) fewer ∙ ap (λ b. program_header (drop at bytes) ∷ program_headers (count - (i + 1)) b) rest

-- one header more behind those that were read
pub one_header_more : (count i : ℕ) (bytes : List ℕ) (all more : List ProgramHeader) (h : ProgramHeader) (whole : List ProgramHeader) → i < count →
    h ≡ program_header (drop (64 + 56 * i) bytes) → more ≡ all ++ h ∷ [] →
    all ++ program_headers (count - i) (drop (64 + 56 * i) bytes) ≡ whole →
    more ++ program_headers (count - (i + 1)) (drop (64 + 56 * (i + 1)) bytes) ≡ whole
one_header_more count i bytes all more h whole below is put before =
    let rest = program_headers (count - (i + 1)) (drop (64 + 56 * (i + 1)) bytes) in
    ap (λ x. x ++ rest) put ∙ append_assoc all (h ∷ []) rest ∙ ap (λ x. all ++ x ∷ rest) is ∙ ap (λ x. all ++ x) (sym (first_header count i bytes below)) ∙ before
