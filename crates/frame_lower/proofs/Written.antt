-- What code is once a whole row is written: the row's bytes, its links, and where it may be cut.
use Rattle.std.proofs.Common.{◌≡◌, ℕ, ◌+◌, ◌-◌, ◌<◌, List, [], ◌∷◌, ◌++◌, Bool, true, false, if◌then◌else◌, map, length, Option, Some, None, refl, ap, sym, subst, ◌∙◌, arith, length-append}
use Rattle.std.specs.List.{All}
use Rattle.std.proofs.lemmas.List.{append-nil, append_assoc}
use Rattle.std.proofs.lemmas.List.Elements.{All-nil, All-cons, All-append}
use Rattle.x86_core.specs.declared.instr.Instr.{Instr}
use Rattle.x86_core.specs.Encoding.{encoding}
use Rattle.obj_core.specs.Disassembly.{size_of, spelled}
use Rattle.obj_core.specs.WellFormed.{is_end}
use Rattle.obj_rows.specs.Marked.{Marked, instrs_of, row_size, link_ending, links_from}
use Rattle.frame_lower.specs.declared.code.Code.{Code}
use Rattle.frame_lower.specs.declared.code.Linked.{Linked}
use Rattle.frame_lower.specs.Functions.{cuts_from}
use Rattle.frame_lower.specs.Writing.{empty_code, linked_ending, cut_here, with_one, with_row, link_of}

pub bytes_written : (row : List Marked) (c : Code) → (with_row row c).bytes ≡ c.bytes ++ spelled (instrs_of row)
bytes_written [] c = sym (append-nil c.bytes)
bytes_written (x ∷ xs) c = bytes_written xs (with_one x c) ∙ append_assoc c.bytes (encoding x.instr) (spelled (instrs_of xs))

-- the links of a row, as they are kept
abbrev pub all_linked : ℕ → List Marked → List Linked
all_linked off [] = []
all_linked off (x ∷ xs) = linked_ending x.slot (off + size_of x.instr) ++ all_linked (off + size_of x.instr) xs

pub links_written : (row : List Marked) (c : Code) → (with_row row c).links ≡ c.links ++ all_linked (length c.bytes) row
links_written [] c = sym (append-nil c.links)
links_written (x ∷ xs) c =
    let off = length c.bytes + size_of x.instr in
    links_written xs (with_one x c)
    ∙ ap (λ n. (c.links ++ linked_ending x.slot off) ++ all_linked n xs) (length-append c.bytes (encoding x.instr))
    ∙ append_assoc c.links (linked_ending x.slot off) (all_linked off xs)

ending_is : (slot : Option ℕ) (off : ℕ) (ls : List Linked) → map link_of (linked_ending slot off ++ ls) ≡ link_ending slot off ++ map link_of ls
ending_is None off ls = refl
ending_is (Some k) off ls = refl

links_are : (off : ℕ) (row : List Marked) → map link_of (all_linked off row) ≡ links_from off row
links_are off [] = refl
links_are off (x ∷ xs) =
    let end = off + size_of x.instr in
    ending_is x.slot end (all_linked end xs) ∙ ap (λ ls. link_ending x.slot end ++ ls) (links_are end xs)

-- where a row may be cut behind what nothing runs past
abbrev pub cuts_behind : Bool → ℕ → List Instr → List ℕ
cuts_behind ended at [] = []
cuts_behind ended at (i ∷ is) = cut_here ended at ++ cuts_behind (is_end i) (at + size_of i) is

pub cuts_written : (row : List Marked) (c : Code) → (with_row row c).cuts ≡ c.cuts ++ cuts_behind c.ended (length c.bytes) (instrs_of row)
cuts_written [] c = sym (append-nil c.cuts)
cuts_written (x ∷ xs) c =
    let here = cut_here c.ended (length c.bytes) in
    cuts_written xs (with_one x c)
    ∙ ap (λ n. (c.cuts ++ here) ++ cuts_behind (is_end x.instr) n (instrs_of xs)) (length-append c.bytes (encoding x.instr))
    ∙ append_assoc c.cuts here (cuts_behind (is_end x.instr) (length c.bytes + size_of x.instr) (instrs_of xs))

cuts_are : (at : ℕ) (i : Instr) (is : List Instr) → cuts_behind (is_end i) (at + size_of i) is ≡ cuts_from at (i ∷ is)
cuts_are at i [] = refl
cuts_are at i (j ∷ is) = by_end (is_end i) (cuts_are (at + size_of i) j is)
  where
    by_end : (ended : Bool) → cuts_behind (is_end j) (at + size_of i + size_of j) is ≡ cuts_from (at + size_of i) (j ∷ is) →
        cut_here ended (at + size_of i) ++ cuts_behind (is_end j) (at + size_of i + size_of j) is ≡ (if ended then (at + size_of i) ∷ cuts_from (at + size_of i) (j ∷ is) else cuts_from (at + size_of i) (j ∷ is))
    by_end true e = ap (λ cs. (at + size_of i) ∷ cs) e
    by_end false e = e

all_cuts : (is : List Instr) → cuts_behind false 0 is ≡ cuts_from 0 is
all_cuts [] = refl
all_cuts (i ∷ is) = cuts_are 0 i is

-- the whole of them
pub whole_bytes : (row : List Marked) → (with_row row empty_code).bytes ≡ spelled (instrs_of row)
whole_bytes row = bytes_written row empty_code

pub whole_links : (row : List Marked) → map link_of (with_row row empty_code).links ≡ links_from 0 row
whole_links row = ap (map link_of) (links_written row empty_code) ∙ links_are 0 row

pub whole_cuts : (row : List Marked) → (with_row row empty_code).cuts ≡ cuts_from 0 (instrs_of row)
whole_cuts row = cuts_written row empty_code ∙ all_cuts (instrs_of row)

-- links and cuts stand inside
all_linked_inside : (most off : ℕ) (row : List Marked) → off + row_size row < most → All (λ (l : Linked). l.at < most) (all_linked off row)
all_linked_inside most off [] below = All-nil (λ (l : Linked). l.at < most)
all_linked_inside most off (x ∷ xs) below =
    All-append (λ (l : Linked). l.at < most) (linked_ending x.slot (off + size_of x.instr)) (all_linked (off + size_of x.instr) xs) (one x.slot) (all_linked_inside most (off + size_of x.instr) xs (omega arith))
  where
    one : (slot : Option ℕ) → All (λ (l : Linked). l.at < most) (linked_ending slot (off + size_of x.instr))
    one None = All-nil (λ (l : Linked). l.at < most)
    one (Some k) = All-cons (λ (l : Linked). l.at < most) (record { at = off + size_of x.instr - 4; slot = k }) [] (omega arith) (All-nil (λ (l : Linked). l.at < most))

cuts_inside : (most at : ℕ) (ended : Bool) (row : List Marked) → at + row_size row < most → All (λ n. n < most) (cuts_behind ended at (instrs_of row))
cuts_inside most at ended [] below = All-nil (λ n. n < most)
cuts_inside most at ended (x ∷ xs) below =
    All-append (λ n. n < most) (cut_here ended at) (cuts_behind (is_end x.instr) (at + size_of x.instr) (instrs_of xs)) (one ended) (cuts_inside most (at + size_of x.instr) (is_end x.instr) xs (omega arith))
  where
    one : (b : Bool) → All (λ n. n < most) (cut_here b at)
    one true = All-cons (λ n. n < most) at [] (omega arith) (All-nil (λ n. n < most))
    one false = All-nil (λ n. n < most)

pub whole_links_inside : (most : ℕ) (row : List Marked) → row_size row < most → All (λ (l : Linked). l.at < most) (with_row row empty_code).links
whole_links_inside most row below = subst (All (λ (l : Linked). l.at < most)) (sym (links_written row empty_code)) (all_linked_inside most 0 row (omega arith))

pub whole_cuts_inside : (most : ℕ) (row : List Marked) → row_size row < most → All (λ n. n < most) (with_row row empty_code).cuts
whole_cuts_inside most row below = subst (All (λ n. n < most)) (sym (cuts_written row empty_code)) (cuts_inside most 0 false row (omega arith))
