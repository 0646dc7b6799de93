-- Rows keep the rules of well-formed objects that speak of one function.
use Rattle.std.proofs.Common.{◌≡◌, ℕ, ◌+◌, ◌-◌, ◌<◌, ◌≤◌, Bool, true, false, ◌&&◌, ◌||◌, nat_eq, nat_lt, if◌then◌else◌, List, [], ◌∷◌, ◌++◌, Option, Some, None, refl, sym, ◌∙◌, ap, subst, arith}
use Rattle.std.specs.Prelude.{ℤ}
use Rattle.std.proofs.lemmas.Bool.{eq-eqb, lt-ltb, and_from}
use Rattle.x86_core.specs.declared.instr.Instr.{Instr}
use Rattle.x86_core.specs.Arithmetic.{moved}
use Rattle.x86_core.specs.Encoding.{IsInstr}
use Rattle.obj_core.specs.declared.object.Link.{Link}
use Rattle.obj_core.specs.Object.{Each}
use Rattle.obj_core.specs.Disassembly.{IsDisassembly, Found, found, found_from, starts_at, size_of, spelled}
use Rattle.obj_core.specs.WellFormed.{displacement, is_zero, end_of, fills_zero, is_good_link, bad_links, is_linked, goes_well, bad_branches, is_slots_own, forbidden_in, is_end, open_end}
use Rattle.obj_core.specs.SymbolicMachine.{link_before}
use Rattle.obj_rows.specs.Marked.{Marked, instrs_of, row_size, link_ending, links_from, IsLinkable, IsRow, IsSlotBelow, MarksBelow, LeadsInside, Stands}
use Rattle.obj_rows.proofs.Rows.{stands_whole, stands_one, stands_next}
use Rattle.obj_rows.proofs.Links.{branch_size, own_link}

-- one of two tests
first_holds : (a b : Bool) → a ≡ true → (a || b) ≡ true
first_holds true b e = refl
first_holds false b e = absurd (cc)

second_holds : (a b : Bool) → b ≡ true → (a || b) ≡ true
second_holds true b e = refl
second_holds false b e = e

-- each instruction can be spelled
pub each_spelled : (row : List Marked) → IsRow row → Each IsInstr (instrs_of row)
each_spelled [] h = tt
each_spelled (x ∷ xs) h = (h.0.0, each_spelled xs h.1)

-- the row is the disassembly of its bytes
pub row_disassembles : (row : List Marked) → IsRow row → IsDisassembly (spelled (instrs_of row)) (instrs_of row)
row_disassembles row h = record { instructions = each_spelled row h; whole = refl }

-- an instruction starts where one stands
starts_behind : (before : List Marked) (x : Marked) (behind : List Marked) (off : ℕ) → starts_at (found_from off (instrs_of (before ++ x ∷ behind))) (off + row_size before) ≡ true
starts_behind [] x behind off = first_holds (nat_eq off (off + 0)) (starts_at (found_from (off + size_of x.instr) (instrs_of behind)) (off + 0)) (eq-eqb off (off + 0) (omega arith))
starts_behind (y ∷ before) x behind off =
    let others = found_from (off + size_of y.instr) (instrs_of (before ++ x ∷ behind)) in
    let there : off + size_of y.instr + row_size before ≡ off + (size_of y.instr + row_size before) = omega arith in
    second_holds (nat_eq off (off + (size_of y.instr + row_size before))) (starts_at others (off + (size_of y.instr + row_size before)))
    (ap (starts_at others) (sym there) ∙ starts_behind before x behind (off + size_of y.instr))

pub stands_starts : (row : List Marked) (off : ℕ) (x : Marked) → Stands row off (x ∷ []) → starts_at (found (instrs_of row)) off ≡ true
stands_starts row off x s =
    let there : off ≡ 0 + row_size s.before = let e = s.offset in omega (arith, e) in
    ap (λ r. starts_at (found (instrs_of r)) off) s.split ∙ ap (starts_at (found (instrs_of (s.before ++ x ∷ s.behind)))) there ∙ starts_behind s.before x s.behind 0

-- a link is at the displacement 0 of its branch
abbrev Filled : List Found → ℕ → List Marked → Type 0
Filled all off [] = Unit {0}
Filled all off (x ∷ xs) = ((k : ℕ) → x.slot ≡ Some k → fills_zero all (off + size_of x.instr - 4) ≡ true) × Filled all (off + size_of x.instr) xs

filled_more : (f : Found) (all : List Found) (off : ℕ) (row : List Marked) → Filled all off row → Filled (f ∷ all) off row
filled_more f all off [] h = tt
filled_more f all off (x ∷ xs) h =
    let at = off + size_of x.instr - 4 in
    (λ k e. second_holds (nat_eq (end_of f) (at + 4) && is_zero (displacement f.instr)) (fills_zero all at) (h.0 k e), filled_more f all (off + size_of x.instr) xs h.1)

row_filled : (off : ℕ) (row : List Marked) → IsRow row → Filled (found_from off (instrs_of row)) off row
row_filled off [] h = tt
row_filled off (x ∷ xs) h = (here x.slot h.0.1, filled_more (record { at = off; instr = x.instr }) (found_from (off + size_of x.instr) (instrs_of xs)) (off + size_of x.instr) xs (row_filled (off + size_of x.instr) xs h.1))
  where
    here : (slot : Option ℕ) → IsLinkable x.instr slot → (k : ℕ) → slot ≡ Some k → fills_zero (found_from off (instrs_of (x ∷ xs))) (off + size_of x.instr - 4) ≡ true
    here None linkable k e = absurd (cc)
    here (Some j) linkable k e =
        let last : off + size_of x.instr ≡ off + size_of x.instr - 4 + 4 = omega (arith, branch_size x.instr linkable) in
        first_holds _ (fills_zero (found_from (off + size_of x.instr) (instrs_of xs)) (off + size_of x.instr - 4))
        (and_from (nat_eq (off + size_of x.instr) (off + size_of x.instr - 4 + 4)) (is_zero (displacement x.instr)) (eq-eqb (off + size_of x.instr) (off + size_of x.instr - 4 + 4) last) (ap is_zero linkable))

-- the last link lies in front of an offset
abbrev IsBefore : Option ℕ → ℕ → Type 0
IsBefore None off = Unit {0}
IsBefore (Some at) off = at < off

module _ (all : List Found) (count : ℕ) where
  good_link : (last : Option ℕ) (l : Link) → IsBefore last l.at → fills_zero all l.at ≡ true → l.slot < count → is_good_link last all count l ≡ true
  good_link None l before fills below = and_from (fills_zero all l.at) (nat_lt l.slot count) fills (lt-ltb l.slot count below)
  good_link (Some at) l before fills below =
      and_from (nat_lt at l.at) (fills_zero all l.at && nat_lt l.slot count) (lt-ltb at l.at before) (and_from (fills_zero all l.at) (nat_lt l.slot count) fills (lt-ltb l.slot count below))

  before_more : (last : Option ℕ) (off more : ℕ) → IsBefore last off → IsBefore last (off + more)
  before_more None off more h = tt
  before_more (Some at) off more h = omega (arith, h)

  before_link : (last : Option ℕ) (off size : ℕ) → 4 ≤ size → IsBefore last off → IsBefore last (off + size - 4)
  before_link None off size room h = tt
  before_link (Some at) off size room h = omega (arith, h, room)

  no_bad_links : (last : Option ℕ) (off : ℕ) (row : List Marked) → IsRow row → Filled all off row → MarksBelow count row → IsBefore last off → bad_links last all count (links_from off row) ≡ []
  no_bad_links last off [] h filled below before = refl
  no_bad_links last off (x ∷ xs) h filled below before = by_slot x.slot h.0.1 filled.0 below.0 (λ last2 before2. no_bad_links last2 (off + size_of x.instr) xs h.1 filled.1 below.1 before2)
    where
      by_slot : (slot : Option ℕ) → IsLinkable x.instr slot → ((k : ℕ) → slot ≡ Some k → fills_zero all (off + size_of x.instr - 4) ≡ true) → IsSlotBelow count slot →
          ((last2 : Option ℕ) → IsBefore last2 (off + size_of x.instr) → bad_links last2 all count (links_from (off + size_of x.instr) xs) ≡ []) →
          bad_links last all count (link_ending slot (off + size_of x.instr) ++ links_from (off + size_of x.instr) xs) ≡ []
      by_slot None linkable fills small others = others last (before_more last off (size_of x.instr) before)
      by_slot (Some k) linkable fills small others =
          let at = off + size_of x.instr - 4 in
          let room = branch_size x.instr linkable in
          let rest = links_from (off + size_of x.instr) xs in
          let good : is_good_link last all count (record { at = at; slot = k }) ≡ true = good_link last (record { at = at; slot = k }) (before_link last off (size_of x.instr) room before) (fills k refl) small in
          ap (λ b. if b then bad_links (Some at) all count rest else at ∷ bad_links (Some at) all count rest) good ∙ others (Some at) (omega (arith, room))

-- rule 4, links
pub links_are_good : (row : List Marked) (count : ℕ) → IsRow row → MarksBelow count row → bad_links None (found (instrs_of row)) count (links_from 0 row) ≡ []
links_are_good row count h below = no_bad_links (found (instrs_of row)) count None 0 row h (row_filled 0 row h) below tt

-- a link that is found is one
found_linked : (links : List Link) (end k : ℕ) → link_before links end ≡ Some k → is_linked links end ≡ true
found_linked [] end k e = absurd (cc)
found_linked (l ∷ links) end k e = by_test (found_linked links end k) (nat_eq (l.at + 4) end) e
  where
    by_test : (link_before links end ≡ Some k → is_linked links end ≡ true) → (b : Bool) → (if b then Some l.slot else link_before links end) ≡ Some k → (b || is_linked links end) ≡ true
    by_test others true e = refl
    by_test others false e = others e

-- rule 4, branches
module _ (row : List Marked) (is_row : IsRow row) (inside : LeadsInside row) where
  abbrev all : List Found
  all = found (instrs_of row)

  goes : (off : ℕ) (x : Marked) → Stands row off (x ∷ []) → x.slot ≡ None → (by : Option ℤ) → displacement x.instr ≡ by → goes_well all (off + size_of x.instr) by ≡ true
  goes off x s none None e = refl
  goes off x s none (Some by) e = let y = inside off x by s none e in stands_starts row (moved (off + size_of x.instr) by) y.0 y.1

  is_well : (off : ℕ) (x : Marked) → Stands row off (x ∷ []) → (is_linked (links_from 0 row) (off + size_of x.instr) || goes_well all (off + size_of x.instr) (displacement x.instr)) ≡ true
  is_well off x s = by_slot x.slot refl
    where
      own : link_before (links_from 0 row) (off + size_of x.instr) ≡ x.slot
      own =
          let there : off + size_of x.instr ≡ 0 + row_size s.before + size_of x.instr = let e = s.offset in omega (arith, e) in
          ap (λ r. link_before (links_from 0 r) (off + size_of x.instr)) s.split ∙ ap (link_before (links_from 0 (s.before ++ x ∷ s.behind))) there ∙ own_link s.before x s.behind 0 (subst IsRow s.split is_row)

      by_slot : (slot : Option ℕ) → x.slot ≡ slot → (is_linked (links_from 0 row) (off + size_of x.instr) || goes_well all (off + size_of x.instr) (displacement x.instr)) ≡ true
      by_slot None e = second_holds (is_linked (links_from 0 row) (off + size_of x.instr)) _ (goes off x s e (displacement x.instr) refl)
      by_slot (Some k) e = first_holds _ (goes_well all (off + size_of x.instr) (displacement x.instr)) (found_linked (links_from 0 row) (off + size_of x.instr) k (own ∙ e))

  no_bad_branches : (part : List Marked) (off : ℕ) → Stands row off part → bad_branches (links_from 0 row) all (found_from off (instrs_of part)) ≡ []
  no_bad_branches [] off s = refl
  no_bad_branches (x ∷ part) off s =
      let rest = bad_branches (links_from 0 row) all (found_from (off + size_of x.instr) (instrs_of part)) in
      ap (λ b. if b then rest else off ∷ rest) (is_well off x (stands_one row off x part s)) ∙ no_bad_branches part (off + size_of x.instr) (stands_next row off x part s)

  pub branches_are_good : bad_branches (links_from 0 row) (found (instrs_of row)) (found (instrs_of row)) ≡ []
  branches_are_good = no_bad_branches row 0 (stands_whole row)

-- rule 3: nothing that only a slot may do
pub none_forbidden : (off : ℕ) (is : List Instr) → Each (λ i. is_slots_own i ≡ false) is → forbidden_in (found_from off is) ≡ []
none_forbidden off [] h = refl
none_forbidden off (i ∷ is) h = let rest = forbidden_in (found_from (off + size_of i) is) in ap (λ b. if b then off ∷ rest else rest) h.0 ∙ none_forbidden (off + size_of i) is h.1

-- rule 5: the last instruction is one that nothing runs past
pub ends_closed : (off : ℕ) (is : List Instr) (i : Instr) → is_end i ≡ true → open_end (found_from off (is ++ i ∷ [])) ≡ []
ends_closed off [] i h = ap (λ b. if b then [] else off ∷ []) h
ends_closed off (j ∷ []) i h = ends_closed (off + size_of j) [] i h
ends_closed off (j ∷ k ∷ is) i h = ends_closed (off + size_of j) (k ∷ is) i h
