-- Every image that a file loads as is sound.
use Rattle.std.proofs.Common.{ℕ, ◌≡◌, ◌+◌, ◌<◌, ◌≤◌, List, [], ◌∷◌, length, drop, map, get_or, All, refl, sym, ◌∙◌, ap, subst, arith, length-drop}
use Rattle.std.proofs.lemmas.List.{length-take-le, get_or-map, length-map}
use Rattle.std.proofs.lemmas.List.Elements.{recursion_from_All}
use Rattle.std.proofs.lemmas.List.Sums.{sum_by-cons}
use Rattle.std.specs.List.{AllByRecursion}
use Rattle.x86_core.specs.declared.image.Segment.{Segment}
use Rattle.x86_core.specs.declared.image.Image.{Image}
use Rattle.elf_file.specs.declared.layout.ProgramHeader.{ProgramHeader}
use Rattle.elf_file.specs.Sound.{IsSegment, AreApart, total_bytes, IsSound}
use Rattle.elf_file.specs.Rules.{program_header, headers_of, e_phnum, IsLoad, IsWhole, IsPlaced, AreOrdered, IsInFile, total_size, segment_of, LoadsAs}
use Rattle.elf_file.proofs.Headers.{length-program_headers}

-- a segment that stands in the file has its whole length
pub length-segment_of : (bytes : List ℕ) (h : ProgramHeader) → IsInFile (length bytes) h → length (segment_of bytes h).bytes ≡ h.p_filesz
length-segment_of bytes h there = length-take-le h.p_filesz (drop h.p_offset bytes) (omega (arith, length-drop h.p_offset bytes, there))

segment_sound : (bytes : List ℕ) (h : ProgramHeader) → IsLoad h → IsWhole h → IsPlaced h → IsInFile (length bytes) h → IsSegment (segment_of bytes h)
segment_sound bytes h load whole placed there =
    let long = length-segment_of bytes h there in
    record {
      rights = load.flags;
      some = subst (λ (n : ℕ). 1 ≤ n) (sym long) whole.some;
      aligned = placed.start;
      low = placed.low;
      high = subst (λ (n : ℕ). h.p_vaddr + n ≤ 2415919104) (sym long) placed.high;
    }

segments_sound : (bytes : List ℕ) (hs : List ProgramHeader) → All IsLoad hs → All IsWhole hs → All IsPlaced hs → All (IsInFile (length bytes)) hs → All IsSegment (map (segment_of bytes) hs)
segments_sound bytes hs loads whole placed there = λ k d below.
    let d2 = program_header bytes in
    let k_in : k < length hs = omega (arith, below, length-map hs (segment_of bytes)) in
    subst IsSegment (sym (get_or-map (segment_of bytes) hs k d2 d k_in)) (segment_sound bytes (get_or hs k d2) (loads k d2 k_in) (whole k d2 k_in) (placed k d2 k_in) (there k d2 k_in))

segments_apart : (bytes : List ℕ) (end : ℕ) (hs : List ProgramHeader) → AllByRecursion (IsInFile (length bytes)) hs → AreOrdered end hs → AreApart end (map (segment_of bytes) hs)
segments_apart bytes end [] there ordered = tt
segments_apart bytes end (h ∷ hs) there ordered =
    (ordered.0, subst (λ (n : ℕ). AreApart (h.p_vaddr + n) (map (segment_of bytes) hs)) (sym (length-segment_of bytes h there.0)) (segments_apart bytes (h.p_vaddr + h.p_filesz) hs there.1 ordered.1))

segments_total : (bytes : List ℕ) (hs : List ProgramHeader) → AllByRecursion (IsInFile (length bytes)) hs → total_bytes (map (segment_of bytes) hs) ≡ total_size hs
segments_total bytes [] there = refl
segments_total bytes (h ∷ hs) there =
    let size : Segment → ℕ = λ s. length s.bytes in
    let filesz : ProgramHeader → ℕ = λ x. x.p_filesz in
    sum_by-cons size (segment_of bytes h) (map (segment_of bytes) hs) ∙ ap (λ n. n + total_bytes (map (segment_of bytes) hs)) (length-segment_of bytes h there.0) ∙ ap (λ n. h.p_filesz + n) (segments_total bytes hs there.1) ∙ sym (sum_by-cons filesz h hs)

length-headers_of : (bytes : List ℕ) → length (headers_of bytes) ≡ e_phnum bytes
unfolding headers_of
length-headers_of bytes = length-program_headers (e_phnum bytes) (drop 64 bytes)

made_sound : (bytes : List ℕ) (i : Image) → LoadsAs bytes i → (ss : List Segment) → i.segments ≡ ss → ss ≡ map (segment_of bytes) (headers_of bytes) → IsSound i
made_sound bytes i l ss e made =
    let hs = headers_of bytes in
    let rules = l.rules in
    let there = recursion_from_All (IsInFile (length bytes)) hs rules.rule8 in
    let long : length i.segments ≡ e_phnum bytes = ap length l.segments ∙ length-map hs (segment_of bytes) ∙ length-headers_of bytes in
    record {
      some = subst (λ (n : ℕ). 1 ≤ n) (sym long) rules.rule3.some;
      few = subst (λ (n : ℕ). n ≤ 8) (sym long) rules.rule3.few;
      each = subst (λ x. All IsSegment x) (sym l.segments) (segments_sound bytes hs rules.rule4 rules.rule5 rules.rule6 rules.rule8);
      apart = subst (λ x. AreApart 0 x) (sym l.segments) (segments_apart bytes 0 hs there rules.rule7);
      small = subst (λ x. total_bytes x ≤ 268435456) (sym l.segments) (subst (λ (n : ℕ). n ≤ 268435456) (sym (segments_total bytes hs there)) rules.rule9);
    }

pub loads_sound : (bytes : List ℕ) (i : Image) → LoadsAs bytes i → IsSound i
loads_sound bytes i l = made_sound bytes i l (map (segment_of bytes) (headers_of bytes)) l.segments refl
