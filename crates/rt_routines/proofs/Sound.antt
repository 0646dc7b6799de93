-- Each routine keeps the rules of objects by itself.
use Rattle.std.proofs.Common.{◌≡◌, ℕ, ◌+◌, ◌<◌, ◌≤◌, ◌^◌, Bool, true, ◌&&◌, nat_lt, List, [], ◌∷◌, ◌++◌, length, Option, Some, None, refl, arith, lit≤}
use Rattle.std.proofs.lemmas.Bool.{and_parts, ltb-true}
use Rattle.x86_core.specs.declared.reg.Reg.TheVariants.{Rax, Rcx, Rsi}
use Rattle.x86_core.specs.declared.instr.Wide.{Wide}
use Rattle.x86_core.specs.declared.instr.Size.{Size}
use Rattle.x86_core.specs.declared.instr.WidenKind.{WidenKind}
use Rattle.x86_core.specs.declared.instr.Instr.{Instr}
use Rattle.x86_core.specs.declared.instr.Instr.TheVariants.{MovImm64, Imul, Widen, Ret}
use Rattle.x86_core.specs.Encoding.{IsInstr}
use Rattle.obj_core.specs.declared.object.Link.{Link}
use Rattle.obj_core.specs.Object.{Each, IsByte, IsLink}
use Rattle.obj_core.specs.Disassembly.{found, starts_at, size_of, spelled}
use Rattle.obj_core.specs.WellFormed.{bad_branches, forbidden_in, open_end}
use Rattle.obj_rows.specs.Marked.{Marked, all_unlinked, instrs_of, row_size, link_ending, links_from, IsRow, IsSlotBelow, MarksBelow}
use Rattle.obj_rows.specs.Sound.{IsSoundFunction}
use Rattle.obj_rows.proofs.Rows.{spelled_size}
use Rattle.obj_rows.proofs.Rules.{row_disassembles, links_are_good}
use Rattle.rt_routines.specs.Code.{start_row, putchar_row, getchar_row, exit_row, copy_loop, memcpy_row, eight_ones, fill_loop, memset_row, function_of}

-- bytes are small
abbrev are_small : List ℕ → Bool
are_small [] = true
are_small (b ∷ bs) = nat_lt b 256 && are_small bs

small_bytes : (bs : List ℕ) → are_small bs ≡ true → Each IsByte bs
small_bytes [] e = tt
small_bytes (b ∷ bs) e = let both = and_parts (nat_lt b 256) (are_small bs) e in (ltb-true b 256 both.0, small_bytes bs both.1)

-- links of a row are in range
links_fit : (count off : ℕ) (row : List Marked) → MarksBelow count row → count < 2 ^ 32 → off + row_size row < 2 ^ 32 → Each IsLink (links_from off row)
links_fit count off [] below few short = tt
links_fit count off (x ∷ xs) below few short = here x.slot below.0 (links_fit count (off + size_of x.instr) xs below.1 few (omega (arith, short)))
  where
    here : (slot : Option ℕ) → IsSlotBelow count slot → Each IsLink (links_from (off + size_of x.instr) xs) → Each IsLink (link_ending slot (off + size_of x.instr) ++ links_from (off + size_of x.instr) xs)
    here None small others = others
    here (Some k) small others = (record { at = omega (arith, short); slot = omega (arith, small, few) }, others)

-- what is left to say of a row
record Keeps (row : List Marked) : Type 0 where
  some : 1 ≤ length row
  short : row_size row < 2 ^ 32
  few_links : length (links_from 0 row) < 2 ^ 32
  small : are_small (spelled (instrs_of row)) ≡ true
  transfers : forbidden_in (found (instrs_of row)) ≡ []
  branches : bad_branches (links_from 0 row) (found (instrs_of row)) (found (instrs_of row)) ≡ []
  end : open_end (found (instrs_of row)) ≡ []
  ways_back : Each (λ (l : Link). starts_at (found (instrs_of row)) (l.at + 4) ≡ true) (links_from 0 row)

sound : (count : ℕ) (row : List Marked) → count < 2 ^ 32 → IsRow row → MarksBelow count row → Keeps row → IsSoundFunction count (function_of row)
sound count [] few is_row below k = absurd (let s = k.some in omega (arith, s))
sound count (x ∷ xs) few is_row below k =
    let row = x ∷ xs in
    let short = k.short in
    record {
      plain = refl;
      uncut = refl;
      fits = record {
        bytes = small_bytes (spelled (instrs_of row)) k.small;
        links = links_fit count 0 row below few (omega (arith, short));
        cuts = tt;
        length_fits = let e = spelled_size row in omega (arith, e, short);
        links_fit = k.few_links;
        cuts_fit = lit≤ tt;
      };
      first = x.instr;
      others = instrs_of xs;
      disassembly = row_disassembles row is_row;
      transfers = k.transfers;
      links = links_are_good row count is_row below;
      branches = k.branches;
      end = k.end;
      ways_back = k.ways_back;
    }

-- the rows can be spelled
pub start_spelled : (call system : ℕ) → IsRow (start_row call system)
start_spelled call system = ((lit≤ tt, tt), ((lit≤ tt, tt), ((lit≤ tt, tt), ((lit≤ tt, refl), ((tt, tt), ((lit≤ tt, tt), ((lit≤ tt, refl), ((tt, tt), tt))))))))

pub putchar_spelled : (system : ℕ) → IsRow (putchar_row system)
putchar_spelled system = ((lit≤ tt, tt), ((lit≤ tt, tt), ((lit≤ tt, tt), ((lit≤ tt, tt), ((lit≤ tt, tt), ((lit≤ tt, refl), ((lit≤ tt, tt), ((tt, tt), tt))))))))

pub getchar_spelled : (system : ℕ) → IsRow (getchar_row system)
getchar_spelled system =
    ((lit≤ tt, tt), ((lit≤ tt, tt), ((lit≤ tt, tt), ((lit≤ tt, tt), ((lit≤ tt, refl), ((lit≤ tt, tt), ((lit≤ tt, tt), ((lit≤ tt, tt), ((tt, tt), ((tt, tt), tt))))))))))

pub exit_spelled : (system : ℕ) → IsRow (exit_row system)
exit_spelled system = ((lit≤ tt, tt), ((lit≤ tt, refl), ((tt, tt), tt)))

-- without links
unlinked_spelled : (is : List Instr) → Each IsInstr is → IsRow (all_unlinked is)
unlinked_spelled [] h = tt
unlinked_spelled (i ∷ is) h = ((h.0, tt), unlinked_spelled is h.1)

each_append : (xs ys : List Instr) → Each IsInstr xs → Each IsInstr ys → Each IsInstr (xs ++ ys)
each_append [] ys h k = k
each_append (x ∷ xs) ys h k = (h.0, each_append xs ys h.1 k)

copy_spelled : (size : Size) (bytes : ℕ) → bytes < 2 ^ 31 → Each IsInstr (copy_loop size bytes)
copy_spelled size bytes small = (small, (lit≤ tt, (lit≤ tt, (lit≤ tt, (small, (small, (small, (lit≤ tt, tt))))))))

fill_spelled : (size : Size) (bytes : ℕ) → bytes < 2 ^ 31 → Each IsInstr (fill_loop size bytes)
fill_spelled size bytes small = (small, (lit≤ tt, (lit≤ tt, (small, (small, (lit≤ tt, tt))))))

pub memcpy_spelled : IsRow memcpy_row
memcpy_spelled =
    unlinked_spelled (copy_loop Size.W64 8 ++ (copy_loop Size.W8 1 ++ Ret ∷ []))
    (each_append (copy_loop Size.W64 8) (copy_loop Size.W8 1 ++ Ret ∷ []) (copy_spelled Size.W64 8 (lit≤ tt))
    (each_append (copy_loop Size.W8 1) (Ret ∷ []) (copy_spelled Size.W8 1 (lit≤ tt)) (tt, tt)))

pub memset_spelled : IsRow memset_row
memset_spelled =
    let front = Widen WidenKind.Zero8 Rax Rsi ∷ MovImm64 Rcx eight_ones ∷ Imul Wide.W64 Rax Rcx ∷ [] in
    unlinked_spelled (front ++ (fill_loop Size.W64 8 ++ (fill_loop Size.W8 1 ++ Ret ∷ [])))
    (each_append front (fill_loop Size.W64 8 ++ (fill_loop Size.W8 1 ++ Ret ∷ [])) (tt, (lit≤ tt, (tt, tt)))
    (each_append (fill_loop Size.W64 8) (fill_loop Size.W8 1 ++ Ret ∷ []) (fill_spelled Size.W64 8 (lit≤ tt))
    (each_append (fill_loop Size.W8 1) (Ret ∷ []) (fill_spelled Size.W8 1 (lit≤ tt)) (tt, tt))))

-- what computes of them
start_keeps : (call system : ℕ) → Keeps (start_row call system)
start_keeps call system = record { some = lit≤ tt; short = lit≤ tt; few_links = lit≤ tt; small = refl; transfers = refl; branches = refl; end = refl; ways_back = (refl, (refl, tt)) }

putchar_keeps : (system : ℕ) → Keeps (putchar_row system)
putchar_keeps system = record { some = lit≤ tt; short = lit≤ tt; few_links = lit≤ tt; small = refl; transfers = refl; branches = refl; end = refl; ways_back = (refl, tt) }

getchar_keeps : (system : ℕ) → Keeps (getchar_row system)
getchar_keeps system = record { some = lit≤ tt; short = lit≤ tt; few_links = lit≤ tt; small = refl; transfers = refl; branches = refl; end = refl; ways_back = (refl, tt) }

exit_keeps : (system : ℕ) → Keeps (exit_row system)
exit_keeps system = record { some = lit≤ tt; short = lit≤ tt; few_links = lit≤ tt; small = refl; transfers = refl; branches = refl; end = refl; ways_back = (refl, tt) }

memcpy_keeps : Keeps memcpy_row
memcpy_keeps = record { some = lit≤ tt; short = lit≤ tt; few_links = lit≤ tt; small = refl; transfers = refl; branches = refl; end = refl; ways_back = tt }

memset_keeps : Keeps memset_row
memset_keeps = record { some = lit≤ tt; short = lit≤ tt; few_links = lit≤ tt; small = refl; transfers = refl; branches = refl; end = refl; ways_back = tt }

-- where the slots that they use exist, they are sound
module _ (count : ℕ) (few : count < 2 ^ 32) where
  pub start_sound : (call system : ℕ) → call < count → system < count → IsSoundFunction count (function_of (start_row call system))
  start_sound call system c s =
      let below : MarksBelow count (start_row call system) = (tt, (tt, (tt, (c, (tt, (tt, (s, (tt, tt)))))))) in
      sound count (start_row call system) few (start_spelled call system) below (start_keeps call system)

  pub putchar_sound : (system : ℕ) → system < count → IsSoundFunction count (function_of (putchar_row system))
  putchar_sound system s =
      let below : MarksBelow count (putchar_row system) = (tt, (tt, (tt, (tt, (tt, (s, (tt, (tt, tt)))))))) in
      sound count (putchar_row system) few (putchar_spelled system) below (putchar_keeps system)

  pub getchar_sound : (system : ℕ) → system < count → IsSoundFunction count (function_of (getchar_row system))
  getchar_sound system s =
      let below : MarksBelow count (getchar_row system) = (tt, (tt, (tt, (tt, (s, (tt, (tt, (tt, (tt, (tt, tt)))))))))) in
      sound count (getchar_row system) few (getchar_spelled system) below (getchar_keeps system)

  pub exit_sound : (system : ℕ) → system < count → IsSoundFunction count (function_of (exit_row system))
  exit_sound system s =
      let below : MarksBelow count (exit_row system) = (tt, (s, (tt, tt))) in
      sound count (exit_row system) few (exit_spelled system) below (exit_keeps system)

  pub memcpy_sound : IsSoundFunction count (function_of memcpy_row)
  memcpy_sound =
      let below : MarksBelow count memcpy_row = (tt, (tt, (tt, (tt, (tt, (tt, (tt, (tt, (tt, (tt, (tt, (tt, (tt, (tt, (tt, (tt, (tt, tt))))))))))))))))) in
      sound count memcpy_row few memcpy_spelled below memcpy_keeps

  pub memset_sound : IsSoundFunction count (function_of memset_row)
  memset_sound =
      let below : MarksBelow count memset_row = (tt, (tt, (tt, (tt, (tt, (tt, (tt, (tt, (tt, (tt, (tt, (tt, (tt, (tt, (tt, (tt, tt)))))))))))))))) in
      sound count memset_row few memset_spelled below memset_keeps
