-- A function of a program keeps the rules, with any number of its first cuts.
use Rattle.std.proofs.Common.{◌≡◌, ℕ, zero, suc, ◌+◌, ◌-◌, ◌<◌, ◌≤◌, true, List, [], ◌∷◌, ◌++◌, length, take, pos, append_assoc, Option, Some, None, refl, ap, sym, subst, ◌∙◌, arith}
use Rattle.std.specs.List.{All}
use Rattle.std.proofs.lemmas.Bool.{and_from}
use Rattle.std.proofs.lemmas.List.{append-nil}
use Rattle.x86_core.specs.declared.reg.Reg.TheVariants.{Rax, R15, Rsp}
use Rattle.x86_core.specs.declared.instr.Cond.{Cond}
use Rattle.x86_core.specs.declared.instr.Wide.{Wide}
use Rattle.x86_core.specs.declared.instr.ImmOp.{ImmOp}
use Rattle.x86_core.specs.declared.instr.Instr.{Instr}
use Rattle.x86_core.specs.declared.instr.Instr.TheVariants as instr
use Rattle.low_core.specs.declared.sel.SelEnd.{SelEnd}
use Rattle.low_core.specs.declared.sel.SelEnd.TheVariants.{Go, If, Ret}
use Rattle.low_core.specs.declared.sel.SelEnd.TheVariants as end
use Rattle.low_core.specs.declared.sel.SelBlock.{SelBlock}
use Rattle.low_core.specs.declared.sel.SelFun.{SelFun}
use Rattle.low_core.specs.SelParts.{leads_to}
use Rattle.obj_core.specs.declared.object.Func.{Func}
use Rattle.obj_core.specs.declared.object.FuncKind.{FuncKind}
use Rattle.obj_core.specs.declared.object.Link.{Link}
use Rattle.obj_core.specs.Object.{Each}
use Rattle.obj_core.specs.Disassembly.{IsDisassembly, found, size_of, spelled, starts_at}
use Rattle.obj_core.specs.Saved.{five_of, prologue, begins_with, are_first_colors}
use Rattle.obj_core.specs.Slots.{push_purpose}
use Rattle.obj_core.specs.WellFormed.{bad_branches, bad_cut, bad_links, forbidden_in, open_end}
use Rattle.obj_rows.specs.Marked.{Marked, unlinked, all_unlinked, instrs_of, row_size, link_ending, links_from, IsLinkable, IsRow, IsSlotBelow, MarksBelow, LeadsInside, Stands}
use Rattle.obj_rows.proofs.Links.{branch_size}
use Rattle.obj_rows.proofs.Rows.{stands_whole, stands_next}
use Rattle.obj_rows.proofs.Rules.{row_disassembles, stands_starts, links_are_good, branches_are_good, none_forbidden, ends_closed}
use Rattle.frame_rows.specs.Code.{home_read}
use Rattle.frame_lower.specs.Rows.{Making, between, choice_bytes, jump_bytes, pop_row, leave_row, closing_row, branch_row, end_row}
use Rattle.frame_lower.specs.Blocks.{calls_in, ops_row, block_row, block_bytes, blocks_row, calls_of_blocks, starts_from, start_in}
use Rattle.frame_lower.specs.Functions.{front_row, function_row, cuts_from}
use Rattle.frame_lower.proofs.Avoided.{function_tame, tame_transfers, no_colors}
use Rattle.frame_lower.proofs.Branches.{some_stands, function_leads}
use Rattle.frame_lower.proofs.Closed.{IsClosed, function_closed, function_begins, cuts_are_good}
use Rattle.frame_lower.proofs.Keeping.{KeepsRules}
use Rattle.frame_lower.proofs.Marks.{mark, marks, numbered, function_marks}
use Rattle.frame_lower.proofs.Ranged.{IsRanged, function_ranged}
use Rattle.frame_lower.proofs.Tame.{AreTame, AreWords}

-- numbers below one
abbrev AllBelow : ℕ → List ℕ → Type 0
AllBelow most [] = Unit {0}
AllBelow most (n ∷ ns) = (n < most) × AllBelow most ns

numbered_below : (most first count : ℕ) → first + count ≤ most → AllBelow most (numbered first count)
numbered_below most first zero low = tt
numbered_below most first (suc count) low = ((omega (arith, low)), numbered_below most (first + 1) count (omega (arith, low)))

-- each mark is one of the slots
mark_below : (count : ℕ) (slot : Option ℕ) (rest : List ℕ) → AllBelow count (mark slot ++ rest) → IsSlotBelow count slot × AllBelow count rest
mark_below count None rest h = (tt, h)
mark_below count (Some k) rest h = h

marks_below : (count : ℕ) (row : List Marked) → AllBelow count (marks row) → MarksBelow count row
marks_below count [] h = tt
marks_below count (x ∷ xs) h = let r = mark_below count x.slot (marks xs) h in (r.0, marks_below count xs r.1)

-- a row whose last instruction isn't linked
record HasPlainEnd (row : List Marked) : Type 0 where
  pub front : List Marked
  pub last : Instr
  pub are : row ≡ front ++ unlinked last ∷ []

plain_behind : (xs ys : List Marked) → HasPlainEnd ys → HasPlainEnd (xs ++ ys)
plain_behind xs ys h = record { front = xs ++ h.front; last = h.last; are = ap (λ l. xs ++ l) h.are ∙ sym (append_assoc xs h.front (unlinked h.last ∷ [])) }

unlinked_end : (i : Instr) (is : List Instr) → HasPlainEnd (all_unlinked (i ∷ is))
unlinked_end i [] = record { front = []; last = i; are = refl }
unlinked_end i (j ∷ is) = plain_behind (unlinked i ∷ []) (all_unlinked (j ∷ is)) (unlinked_end j is)

none_after : (xs : List Marked) → HasPlainEnd xs → HasPlainEnd (xs ++ [])
none_after xs h = subst HasPlainEnd (sym (append-nil xs)) h

module _ (by : Making) where
  end_plain : (starts : ℕ → ℕ) (at : ℕ) (e : SelEnd) → HasPlainEnd (end_row by starts at e)
  end_plain starts at (Go b) = unlinked_end _ []
  end_plain starts at (If c b d) =
      let closing = all_unlinked (closing_row by (If c b d)) in
      let from = at + row_size closing in
      plain_behind closing (all_unlinked (branch_row starts from (If c b d)))
      (unlinked_end (instr.Jcc Cond.Ne (between (from + choice_bytes) (starts b))) (instr.Jmp (between (from + (choice_bytes + jump_bytes)) (starts d)) ∷ []))
  end_plain starts at (Ret (Some r)) = none_after (all_unlinked (closing_row by (Ret (Some r)))) (unlinked_end (home_read (by.homes r) Rax) (leave_row by))
  end_plain starts at (Ret None) =
      none_after (all_unlinked (leave_row by)) (unlinked_end (instr.AluImm ImmOp.Add Wide.W64 Rsp (pos by.room)) (pop_row by.order ++ (instr.AluImm ImmOp.Add Wide.W64 R15 (pos 1) ∷ instr.Ret ∷ [])))
  end_plain starts at end.Trap = unlinked_end instr.Ud2 []

  blocks_plain : (starts : ℕ → ℕ) (at slot : ℕ) (bs : List SelBlock) → 0 < length bs → HasPlainEnd (blocks_row by starts at slot bs)
  blocks_plain starts at slot [] some = absurd (omega arith)
  blocks_plain starts at slot (b ∷ []) some =
      let ops = ops_row by slot b.ops in
      none_after (block_row by starts at slot b) (plain_behind ops (end_row by starts (at + row_size ops) b.end) (end_plain starts (at + row_size ops) b.end))
  blocks_plain starts at slot (b ∷ c ∷ bs) some =
      plain_behind (block_row by starts at slot b) (blocks_row by starts (at + block_bytes by b) (slot + calls_in b.ops) (c ∷ bs)) (blocks_plain starts (at + block_bytes by b) (slot + calls_in b.ops) (c ∷ bs) (omega arith))

  function_plain : (slot : ℕ) (f : SelFun) → 0 < length f.blocks → HasPlainEnd (function_row by slot f)
  function_plain slot f some =
      let front = front_row by f in
      plain_behind front (blocks_row by (start_in (starts_from by (row_size front) f.blocks)) (row_size front) slot f.blocks) (blocks_plain (start_in (starts_from by (row_size front) f.blocks)) (row_size front) slot f.blocks some)

-- behind each link something stands
ways : (row : List Marked) (off : ℕ) (front : List Marked) (last : Instr) → Stands row off (front ++ unlinked last ∷ []) → IsRow (front ++ unlinked last ∷ []) →
    Each (λ (l : Link). starts_at (found (instrs_of row)) (l.at + 4) ≡ true) (links_from off (front ++ unlinked last ∷ []))
ways row off [] last s h = tt
ways row off (x ∷ front) last s h =
    let rest = front ++ unlinked last ∷ [] in
    let next = some_stands row (off + size_of x.instr) front [] (unlinked last) (stands_next row off x rest s) in
    let starts = stands_starts row (off + size_of x.instr) next.0 next.1 in
    by x.slot h.0.1 starts (ways row (off + size_of x.instr) front last (stands_next row off x rest s) h.1)
  where
    by : (slot : Option ℕ) → IsLinkable x.instr slot → starts_at (found (instrs_of row)) (off + size_of x.instr) ≡ true →
        Each (λ (l : Link). starts_at (found (instrs_of row)) (l.at + 4) ≡ true) (links_from (off + size_of x.instr) (front ++ unlinked last ∷ [])) →
        Each (λ (l : Link). starts_at (found (instrs_of row)) (l.at + 4) ≡ true) (link_ending slot (off + size_of x.instr) ++ links_from (off + size_of x.instr) (front ++ unlinked last ∷ []))
    by None linkable starts others = others
    by (Some k) linkable starts others =
        let long = branch_size x.instr linkable in
        let e : off + size_of x.instr - 4 + 4 ≡ off + size_of x.instr = omega (arith, long) in
        (ap (starts_at (found (instrs_of row))) e ∙ starts, others)

row_ways : (row : List Marked) → HasPlainEnd row → IsRow row → Each (λ (l : Link). starts_at (found (instrs_of row)) (l.at + 4) ≡ true) (links_from 0 row)
row_ways row e h =
    subst (λ (part : List Marked). Each (λ (l : Link). starts_at (found (instrs_of row)) (l.at + 4) ≡ true) (links_from 0 part)) (sym e.are)
    (ways row 0 e.front e.last (subst (Stands row 0) e.are (stands_whole row)) (subst IsRow e.are h))

-- what a function needs for all of this
pub record IsWhole (by : Making) (reg_seed number slots slot : ℕ) (f : SelFun) : Type 0 where
  pub ranged : IsRanged by f
  pub words : AreWords by.homes
  pub drawn : by.order ≡ five_of reg_seed push_purpose number
  pub some_block : 0 < length f.blocks
  pub targets : All (λ (b : SelBlock). All (λ n. n < length f.blocks) (leads_to b.end)) f.blocks
  pub linked : slot + calls_of_blocks f.blocks ≤ slots

-- a function of a row, with some of its first cuts
abbrev pub cut_function : ℕ → List Marked → Func
cut_function count row = record { kind = FuncKind.Saved; bytes = spelled (instrs_of row); links = links_from 0 row; cuts = take count (cuts_from 0 (instrs_of row)) }

first_of : (is : List Instr) → IsClosed is → (i : Instr) × (others : List Instr) × (is ≡ i ∷ others)
first_of [] c = absurd (nothing c.front c.are)
  where
    nothing : (front : List Instr) → [] ≡ front ++ c.last ∷ [] → ⊥
    nothing [] e = absurd cc
    nothing (i ∷ front) e = absurd cc
first_of (i ∷ is) c = (i, is, refl)

row_keeps : (row : List Marked) (reg_seed number slots count : ℕ) → IsRow row → AreTame (instrs_of row) → MarksBelow slots row → LeadsInside row → IsClosed (instrs_of row) → HasPlainEnd row →
    begins_with (prologue reg_seed number) (spelled (instrs_of row)) ≡ true → KeepsRules reg_seed slots number (cut_function count row)
row_keeps row reg_seed number slots count is_row tame_row below inside closed plain begins =
    let n = first_of (instrs_of row) closed in
    let e : instrs_of row ≡ n.0 ∷ n.1 = n.2 in
    let links = links_from 0 row in
    record {
      first = n.0;
      others = n.1;
      disassembly = subst (IsDisassembly (spelled (instrs_of row))) e (row_disassembles row is_row);
      transfers = subst (λ is. forbidden_in (found is) ≡ []) e (none_forbidden 0 (instrs_of row) (tame_transfers (instrs_of row) tame_row));
      links = subst (λ is. bad_links None (found is) slots links ≡ []) e (links_are_good row slots is_row below);
      branches = subst (λ is. bad_branches links (found is) (found is) ≡ []) e (branches_are_good row is_row inside);
      end = subst (λ is. open_end (found is) ≡ []) e (ap (λ is. open_end (found is)) closed.are ∙ ends_closed 0 closed.front closed.last closed.ends);
      saved =
          and_from (begins_with (prologue reg_seed number) (spelled (instrs_of row))) (are_first_colors reg_seed number (n.0 ∷ n.1)) begins
          (subst (λ is. are_first_colors reg_seed number is ≡ true) e (no_colors reg_seed number (instrs_of row) tame_row));
      cuts = subst (λ is. bad_cut 0 (found is) (take count (cuts_from 0 (instrs_of row))) ≡ []) e (cuts_are_good (instrs_of row) count);
      ways_back = subst (λ is. Each (λ (l : Link). starts_at (found is) (l.at + 4) ≡ true) links) e (row_ways row plain is_row);
    }

pub function_keeps : (by : Making) (reg_seed number slots slot count : ℕ) (f : SelFun) → IsWhole by reg_seed number slots slot f → KeepsRules reg_seed slots number (cut_function count (function_row by slot f))
function_keeps by reg_seed number slots slot count f w =
    row_keeps (function_row by slot f) reg_seed number slots count (function_ranged by slot f w.ranged) (function_tame by w.words slot f)
    (marks_below slots (function_row by slot f) (subst (AllBelow slots) (sym (function_marks by slot f)) (numbered_below slots slot (calls_of_blocks f.blocks) w.linked)))
    (function_leads by slot f w.words w.ranged.five w.ranged.params w.ranged.light w.targets)
    (function_closed by slot f w.some_block) (function_plain by slot f w.some_block) (function_begins by slot f reg_seed number w.drawn)
