-- The file of a sound image loads as that image.
use Rattle.std.proofs.Common.{ℕ, suc, ◌≡◌, ◌+◌, ◌-◌, ◌*◌, ◌%◌, ◌^◌, ◌<◌, ◌≤◌, List, [], ◌∷◌, ◌++◌, length, drop, take, map, replicate, All, refl, sym, ◌∙◌, ap, subst, arith, append_assoc, length-append}
use Rattle.std.proofs.lemmas.List.{take_at, drop_at, length-replicate}
use Rattle.std.proofs.lemmas.List.Elements.{recursion_from_All, All-from_recursion}
use Rattle.std.proofs.lemmas.List.Sums.{sum_by-cons}
use Rattle.std.specs.List.{AllByRecursion}
use Rattle.x86_core.specs.declared.image.Segment.{Segment}
use Rattle.x86_core.specs.declared.image.Image.{Image}
use Rattle.elf_file.specs.declared.layout.ProgramHeader.{ProgramHeader}
use Rattle.elf_file.specs.Sound.{IsSegment, AreApart, total_bytes, IsSound}
use Rattle.elf_file.specs.Elf.{header_bytes, program_header_bytes, program_headers_bytes, page_up, headers_end, contents, elf_bytes}
use Rattle.elf_file.specs.Rules.{program_headers, headers_of, e_phnum, IsLoad, IsWhole, IsPlaced, AreOrdered, IsInFile, total_size, segment_of, LoadsAs}
use Rattle.elf_file.proofs.Lengths.{headers_lead}
use Rattle.elf_file.proofs.Fields.{Written, header_again, header_for, program_header_again, behind_program_header}

page_up-above : (n : ℕ) → n ≤ page_up n
unfolding page_up
page_up-above n = omega arith

page_up-near : (n : ℕ) → page_up n < n + 4096
unfolding page_up
page_up-near n = omega arith

page_up-aligned : (n : ℕ) → page_up n % 4096 ≡ 0
unfolding page_up
page_up-aligned n = omega arith

page_up-below : (n m : ℕ) → n ≤ m → m % 4096 ≡ 0 → page_up n ≤ m
unfolding page_up
page_up-below n m above aligned = omega arith

pub page_up-least : (n : ℕ) → (n ≤ page_up n) × (page_up n % 4096 ≡ 0) × ((m : ℕ) → n ≤ m → m % 4096 ≡ 0 → page_up n ≤ m)
page_up-least n = (page_up-above n, page_up-aligned n, page_up-below n)

-- the program headers of segments
abbrev headers_for : ℕ → List Segment → List ProgramHeader
headers_for end [] = []
headers_for end (s ∷ ss) = header_for (page_up end) s ∷ headers_for (page_up end + length s.bytes) ss

-- they read back, whatever follows them
headers_again : (end : ℕ) (ss : List Segment) (rest : List ℕ) → AllByRecursion IsSegment ss → end + length ss * 2415923200 < 2 ^ 63 →
    program_headers (length ss) (program_headers_bytes end ss ++ rest) ≡ headers_for end ss
headers_again end [] rest each room = refl
headers_again end (s ∷ ss) rest each room =
    let offset = page_up end in
    let next = offset + length s.bytes in
    let one = program_header_bytes offset s in
    let more = program_headers_bytes next ss in
    let high : s.start + length s.bytes ≤ 2415919104 = each.0.high in
    let flags : s.rights.0 ≤ 7 = each.0.rights.1 in
    let near : offset < end + 4096 = page_up-near end in
    let long : length (s ∷ ss) ≡ length ss + 1 = omega arith in
    let room2 : next + length ss * 2415923200 < 2 ^ 63 = omega (arith, room, long, near, high) in
    ap (λ b. program_headers (suc (length ss)) b) (append_assoc one more rest) ∙
    ap (λ h. h ∷ program_headers (length ss) (drop 56 (one ++ (more ++ rest)))) (program_header_again offset s (more ++ rest) (omega (arith, flags)) (omega (arith, room, near)) (omega (arith, high)) (omega (arith, high))) ∙
    ap (λ b. header_for offset s ∷ program_headers (length ss) b) (behind_program_header offset s (more ++ rest)) ∙
    ap (λ hs. header_for offset s ∷ hs) (headers_again next ss rest each.1 room2)

-- what stands before the bytes of the first of some segments
record Lead (bytes : List ℕ) (end : ℕ) (s : Segment) (ss : List Segment) : Type 0 where
  lead : List ℕ
  whole : bytes ≡ lead ++ (s.bytes ++ contents (page_up end + length s.bytes) ss)
  long : length lead ≡ page_up end

led : (bytes front : List ℕ) (end : ℕ) (s : Segment) (ss : List Segment) → bytes ≡ front ++ contents end (s ∷ ss) → length front ≡ end → Lead bytes end s ss
led bytes front end s ss e h =
    let zeros = replicate (page_up end - end) 0 in
    let above : end ≤ page_up end = page_up-above end in
    record {
      lead = front ++ zeros;
      whole = e ∙ sym (append_assoc front zeros (s.bytes ++ contents (page_up end + length s.bytes) ss));
      long = omega (arith, length-append front zeros, length-replicate {A = ℕ} (page_up end - end) 0, above, h);
    }

-- the bytes of the segments behind it
behind : (bytes : List ℕ) (end : ℕ) (s : Segment) (ss : List Segment) (l : Lead bytes end s ss) → bytes ≡ (l.lead ++ s.bytes) ++ contents (page_up end + length s.bytes) ss
behind bytes end s ss l = l.whole ∙ sym (append_assoc l.lead s.bytes (contents (page_up end + length s.bytes) ss))

long_behind : (bytes : List ℕ) (end : ℕ) (s : Segment) (ss : List Segment) (l : Lead bytes end s ss) → length (l.lead ++ s.bytes) ≡ page_up end + length s.bytes
long_behind bytes end s ss l = length-append l.lead s.bytes ∙ ap (λ n. n + length s.bytes) l.long

-- the segments of the headers are the segments
segments_again : (bytes front : List ℕ) (end : ℕ) (ss : List Segment) → bytes ≡ front ++ contents end ss → length front ≡ end → map (segment_of bytes) (headers_for end ss) ≡ ss
segments_again bytes front end [] e h = refl
segments_again bytes front end (s ∷ ss) e h =
    let l : Lead bytes end s ss = led bytes front end s ss e h in
    let offset = page_up end in
    let next = offset + length s.bytes in
    let rest = contents next ss in
    let own : take (length s.bytes) (drop offset bytes) ≡ s.bytes =
    ap (λ b. take (length s.bytes) (drop offset b)) l.whole ∙ ap (λ b. take (length s.bytes) b) (drop_at l.lead (s.bytes ++ rest) offset l.long) ∙ take_at s.bytes rest (length s.bytes) refl in
    let with_bytes : List ℕ → Segment = λ b. record { start = s.start; bytes = b; rights = s.rights } in
    ap (λ b. with_bytes b ∷ map (segment_of bytes) (headers_for next ss)) own ∙
    ap (λ x. s ∷ x) (segments_again bytes (l.lead ++ s.bytes) next ss (behind bytes end s ss l) (long_behind bytes end s ss l))

-- the rules on the headers
in_file_for : (bytes front : List ℕ) (end : ℕ) (ss : List Segment) → bytes ≡ front ++ contents end ss → length front ≡ end → AllByRecursion (IsInFile (length bytes)) (headers_for end ss)
in_file_for bytes front end [] e h = tt
in_file_for bytes front end (s ∷ ss) e h =
    let l : Lead bytes end s ss = led bytes front end s ss e h in
    let next = page_up end + length s.bytes in
    let rest = contents next ss in
    let whole : length bytes ≡ length ((l.lead ++ s.bytes) ++ rest) = ap length (behind bytes end s ss l) in (
      omega (arith, whole, length-append (l.lead ++ s.bytes) rest, long_behind bytes end s ss l),
      in_file_for bytes (l.lead ++ s.bytes) next ss (behind bytes end s ss l) (long_behind bytes end s ss l),
    )

loads_for : (end : ℕ) (ss : List Segment) → AllByRecursion IsSegment ss → AllByRecursion IsLoad (headers_for end ss)
loads_for end [] each = tt
loads_for end (s ∷ ss) each = (record { kind = refl; flags = each.0.rights; align = refl }, loads_for (page_up end + length s.bytes) ss each.1)

whole_for : (end : ℕ) (ss : List Segment) → AllByRecursion IsSegment ss → AllByRecursion IsWhole (headers_for end ss)
whole_for end [] each = tt
whole_for end (s ∷ ss) each = (record { same = refl; some = each.0.some }, whole_for (page_up end + length s.bytes) ss each.1)

placed_for : (end : ℕ) (ss : List Segment) → AllByRecursion IsSegment ss → AllByRecursion IsPlaced (headers_for end ss)
placed_for end [] each = tt
placed_for end (s ∷ ss) each =
    (record { start = each.0.aligned; offset = page_up-aligned end; low = each.0.low; high = each.0.high }, placed_for (page_up end + length s.bytes) ss each.1)

ordered_for : (at end : ℕ) (ss : List Segment) → AreApart at ss → AreOrdered at (headers_for end ss)
ordered_for at end [] apart = tt
ordered_for at end (s ∷ ss) apart = (apart.0, ordered_for (s.start + length s.bytes) (page_up end + length s.bytes) ss apart.1)

total_for : (end : ℕ) (ss : List Segment) → total_size (headers_for end ss) ≡ total_bytes ss
total_for end [] = refl
total_for end (s ∷ ss) =
    let size : Segment → ℕ = λ x. length x.bytes in
    let filesz : ProgramHeader → ℕ = λ x. x.p_filesz in
    let next = page_up end + length s.bytes in
    sum_by-cons filesz (header_for (page_up end) s) (headers_for next ss) ∙ ap (λ n. length s.bytes + n) (total_for next ss) ∙ sym (sum_by-cons size s ss)

-- bytes with these headers and contents load as the image
loads_from : (bytes front body : List ℕ) (end : ℕ) (i : Image) → IsSound i → Written i.entry (length i.segments) bytes body → end ≡ headers_end (length i.segments) →
    headers_of bytes ≡ headers_for end i.segments → bytes ≡ front ++ contents end i.segments → length front ≡ end → LoadsAs bytes i
loads_from bytes front body end i sound w at hs e h =
    let ss = i.segments in
    let each = recursion_from_All IsSegment ss sound.each in
    let hfs = headers_for end ss in
    let count : e_phnum bytes ≡ length ss = w.count in
    let whole : length bytes ≡ length front + length (contents end ss) = ap length e ∙ length-append front (contents end ss) in
    record {
      rules = record {
        rule1 = record { long = omega (arith, whole, h, at); ident = w.ident };
        rule2 = record { kind = w.kind; machine = w.machine; version = w.version };
        rule3 = record {
          offset = w.offset;
          size = w.size;
          some = omega (arith, count, sound.some);
          few = omega (arith, count, sound.few);
          there = omega (arith, whole, h, at, count);
        };
        rule4 = subst (λ x. All IsLoad x) (sym hs) (All-from_recursion IsLoad hfs (loads_for end ss each));
        rule5 = subst (λ x. All IsWhole x) (sym hs) (All-from_recursion IsWhole hfs (whole_for end ss each));
        rule6 = subst (λ x. All IsPlaced x) (sym hs) (All-from_recursion IsPlaced hfs (placed_for end ss each));
        rule7 = subst (λ x. AreOrdered 0 x) (sym hs) (ordered_for 0 end ss sound.apart);
        rule8 = subst (λ x. All (IsInFile (length bytes)) x) (sym hs) (All-from_recursion (IsInFile (length bytes)) hfs (in_file_for bytes front end ss e h));
        rule9 = subst (λ x. total_size x ≤ 268435456) (sym hs) (subst (λ (n : ℕ). n ≤ 268435456) (sym (total_for end ss)) sound.small);
      };
      entry = sym w.entry;
      segments = sym (ap (λ x. map (segment_of bytes) x) hs ∙ segments_again bytes front end ss e h);
    }

headers_written : (bytes body rest : List ℕ) (e end : ℕ) (ss : List Segment) → Written e (length ss) bytes body → body ≡ program_headers_bytes end ss ++ rest →
    All IsSegment ss → end + length ss * 2415923200 < 2 ^ 63 → headers_of bytes ≡ headers_for end ss
unfolding headers_of
headers_written bytes body rest e end ss w b each room =
    ap (λ n. program_headers n (drop 64 bytes)) w.count ∙ ap (λ x. program_headers (length ss) x) (w.rest ∙ b) ∙ headers_again end ss rest (recursion_from_All IsSegment ss each) room

pub written_loads : (i : Image) → IsSound i → i.entry < 2 ^ 64 → LoadsAs (elf_bytes i) i
unfolding elf_bytes
written_loads i sound fits =
    let ss = i.segments in
    let count = length ss in
    let end = headers_end count in
    let few : count ≤ 8 = sound.few in
    let header = header_bytes i.entry count in
    let phs = program_headers_bytes end ss in
    let body = phs ++ contents end ss in
    let bytes = header ++ body in
    let w : Written i.entry count bytes body = header_again i.entry count body fits (omega (arith, few)) in
    let hs : headers_of bytes ≡ headers_for end ss = headers_written bytes body (contents end ss) i.entry end ss w refl sound.each (omega (arith, few)) in
    loads_from bytes (header ++ phs) body end i sound w refl hs (sym (append_assoc header phs (contents end ss))) (headers_lead i.entry count end ss (header ++ phs) refl)
