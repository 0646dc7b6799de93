-- What stands at the instructions of a function in a layout.
use Rattle.std.proofs.Common.{◌≡◌, ℕ, ◌+◌, ◌-◌, ◌%◌, ◌^◌, ◌<◌, ◌≤◌, inl, inr, Bool, true, false, ◌||◌, ◌&&◌, List, [], ◌∷◌, ◌++◌, length, take, drop, Option, Some, None, if◌then◌else◌, refl, sym, ◌∙◌, ap, subst, arith, append_assoc}
use Rattle.std.specs.Prelude.{nat_eq, nat_lt, slice_get, ℤ}
use Rattle.std.proofs.lemmas.Bool.{lt-ltb, or_cases, and_parts, eqb-true, cases_eq}
use Rattle.std.proofs.lemmas.List.{drop-drop, drop-append-le, drop-take, length-take, length-drop}
use Rattle.x86_core.specs.declared.instr.Instr.{Instr}
use Rattle.x86_core.specs.declared.instr.Decoded.TheVariants.{One}
use Rattle.x86_core.specs.declared.instr.Instr.TheVariants.{Jcc, Jmp}
use Rattle.x86_core.specs.declared.image.Segment.{Segment}
use Rattle.x86_core.specs.Arithmetic.{moved}
use Rattle.x86_core.specs.Encoding.{encoding, IsInstr, IsNumber32, number32}
use Rattle.x86_core.specs.Decoding.{decode}
use Rattle.x86_core.proofs.Back.{decode_back}
use Rattle.x86_core.proofs.Laws.{some_bytes}
use Rattle.obj_core.specs.declared.object.Object.{Object}
use Rattle.obj_core.specs.declared.object.Func.{Func}
use Rattle.obj_core.specs.declared.object.Link.{Link}
use Rattle.obj_core.specs.declared.object.Place.{Place}
use Rattle.obj_core.specs.Slots.{slot_start, positions}
use Rattle.obj_core.specs.Disassembly.{IsDisassembly, found, found_from, instrs_in, size_of, spelled}
use Rattle.obj_core.specs.SymbolicMachine.{link_before, target}
use Rattle.obj_core.specs.WellFormed.{displacement, is_zero, is_linked, is_end, stops_at, goes_well, IsWellFormed}
use Rattle.obj_lay.specs.Held.{IsAt, IsAtTo, HasInstr}
use Rattle.obj_lay.specs.Places.{is_code_place, CodeBytes}
use Rattle.obj_core.proofs.Kept.{KeepsRules, function_keeps}
use Rattle.obj_lay.proofs.lockstep.Rules.{function_of_disassembly}
use Rattle.obj_core.specs.Object.{Each}
use Rattle.obj_core.specs.Placement.{code_base, address, displacement_bytes}
use Rattle.obj_core.specs.Layout.{Way, ways_of, branch_ways, link_ways, led, behind, filled, code_bytes, trampoline_bytes}
use Rattle.obj_core.proofs.Pieces.{IsEdge}
use Rattle.obj_core.proofs.Cuts.{edge_is}
use Rattle.obj_lay.proofs.Instructions.{instrs_known}
use Rattle.obj_lay.proofs.hidden.Instrs.{IsIn, lies, Front, front, apart, which_starts, each_in, branches_well}
use Rattle.obj_lay.proofs.hidden.Numbers.{between, between_leads, between_fits, displacement_between, local_leads}
use Rattle.obj_lay.proofs.hidden.Linked.{link_good, IsFilled, jump_filled, test_filled, IsWay, NoneEnds, link_ways_end, branch_ways_end, no_link_ends, no_branch_ends, links_lead, branches_lead, branch_ends, same_end, led_stays, led_some, led_leads, led_both}
use Rattle.obj_lay.proofs.Lengths.{length-trampoline_bytes, led_long}
use Rattle.obj_lay.proofs.hidden.Executable.{executable, in_code, take_past}
use Rattle.obj_lay.proofs.hidden.Places.{in_piece, place, slot_low}

-- what starts at a place of a function
pub record Begun (disassemblies : List (List Instr)) (n off : ℕ) : Type 0 where
  pub instrs : List Instr
  pub there : slice_get disassemblies n ≡ Some instrs
  pub instr : Instr
  pub is_in : IsIn 0 instrs off instr

-- a place of a function is the start of an instruction
pub begun : (disassemblies : List (List Instr)) (n off : ℕ) (x : Option (List Instr)) → slice_get disassemblies n ≡ x → is_code_place x off ≡ true → Begun disassemblies n off
begun disassemblies n off None e h = absurd (cc)
begun disassemblies n off (Some instrs) e h = let x = which_starts 0 instrs off h in record { instrs = instrs; there = e; instr = x.0; is_in = x.1 }

-- where no link is found, none ends
not_linked : (ls : List Link) (end : ℕ) → link_before ls end ≡ None → is_linked ls end ≡ false
not_linked [] end e = refl
not_linked (l ∷ ls) end e = by_test (nat_eq (l.at + 4) end) e (not_linked ls end)
  where
    by_test : (t : Bool) → (if t then Some l.slot else link_before ls end) ≡ None → (link_before ls end ≡ None → is_linked ls end ≡ false) → (t || is_linked ls end) ≡ false
    by_test true e next = absurd (cc)
    by_test false e next = next e

-- bytes begin with one instruction
same_instr : (bs : List ℕ) (i j : Instr) (xs ys : List ℕ) → IsInstr i → IsInstr j → bs ≡ encoding i ++ xs → bs ≡ encoding j ++ ys → i ≡ j
same_instr bs i j xs ys a b e f =
    let same : One i (size_of i) ≡ One j (size_of j) = sym (decode_back i xs a) ∙ ap decode (sym e ∙ f) ∙ decode_back j ys b in
    cc

module _ (o : Object) (w : IsWellFormed o) (seed : ℕ) where
  -- what may be executed of the layout
  abbrev pub exec : List Segment
  exec = executable (trampoline_bytes o seed) (code_base seed) (code_bytes o seed)

  -- the address of a place
  abbrev pub at_place : Place → ℕ
  at_place = place o seed

  -- one function
  module _ (n : ℕ) (f : Func) (instrs : List Instr) (func_there : slice_get o.functions n ≡ Some f) (instrs_there : slice_get w.disassemblies n ≡ Some instrs) (is_disassembly : IsDisassembly f.bytes instrs) where
    -- the rules on the function
    rules : KeepsRules (length o.slots) f instrs
    rules = function_keeps o w.disassemblies w.kept n f instrs func_there instrs_there

    -- the bytes of the disassembly
    long : length (spelled instrs) ≡ length f.bytes
    long = ap length is_disassembly.whole

    -- the address of a byte
    abbrev at_byte : ℕ → ℕ
    at_byte k = address o seed (record { function = n; offset = k })

    -- the function with its displacements
    abbrev filled_bytes : List ℕ
    filled_bytes = filled (address o seed) (positions o) n f

    -- an instruction ends before its piece or with it
    ends_inside : (off : ℕ) (i : Instr) → IsIn 0 instrs off i → (to : ℕ) → IsEdge f.cuts (length f.bytes) to → off < to → off + size_of i ≤ to
    ends_inside off i h to edge lt = elim (edge_is 0 (found instrs) f.cuts (length f.bytes) to rules.cuts edge) [
      | inl end ↦ let last = (lies 0 instrs off i h).to in omega (arith, last, long, end)
      | inr x ↦ let j = which_starts 0 instrs to x.0 in elim (apart 0 instrs off i to j.0 h j.1) [
        | inl same ↦ absurd (omega (arith, same.0, lt))
        | inr y ↦ elim y [
          | inl le ↦ le
          | inr le ↦ absurd (omega (arith, le, lt))
        ]
      ]
    ]

    -- the bytes of an instruction stand together, at near addresses
    pub record Near (off : ℕ) (i : Instr) : Type 0 where
      pub low : 0x40000000 ≤ at_byte off
      pub base : code_base seed ≤ at_byte off
      pub high : at_byte off + size_of i ≤ 1477000000
      pub inside : off + size_of i ≤ length f.bytes
      pub on : (k : ℕ) → k < size_of i → at_byte (off + k) ≡ at_byte off + k
      pub room_left : ℕ
      pub fits : size_of i ≤ room_left
      pub more : List ℕ
      pub bytes : drop (at_byte off - code_base seed) (code_bytes o seed) ≡ take room_left (drop off filled_bytes) ++ more

    pub near : (off : ℕ) (i : Instr) → IsIn 0 instrs off i → Near off i
    near off i h =
        let last = (lies 0 instrs off i h).to in
        let some = some_bytes i in
        let x = in_piece o w seed n f func_there off (omega (arith, last, long, some)) in
        let from : x.piece.from ≤ off = x.from in
        let to : off < x.piece.to = x.to in
        let end : off + size_of i ≤ x.piece.to = ends_inside off i h x.piece.to x.edge x.to in
        let low : code_base seed ≤ x.start = x.low in
        let high : x.start + (x.piece.to - x.piece.from) ≤ 1477000000 = x.high in
        let over : x.piece.to ≤ length f.bytes = x.last in
        let base : 0x40000000 ≤ code_base seed = omega arith in
        let here : at_byte off ≡ x.start + (off - x.piece.from) = x.address_is off x.from x.to in
        let filled_long : length filled_bytes ≡ length f.bytes = led_long (behind (address o seed) n) (branch_ways (address o seed) n f f.cuts ++ link_ways (positions o) f.links) f.bytes in
        let split : at_byte off - code_base seed ≡ (x.start - code_base seed) + (off - x.piece.from) = omega (arith, here, low) in
        let len : x.piece.to - x.piece.from ≡ (off - x.piece.from) + (x.piece.to - off) = omega (arith, from, to) in
        let sum : x.piece.from + (off - x.piece.from) ≡ off = omega (arith, from) in
        let size : length (take (x.piece.to - x.piece.from) (drop x.piece.from filled_bytes)) ≡ x.piece.to - x.piece.from = omega (arith, length-take (x.piece.to - x.piece.from) (drop x.piece.from filled_bytes), length-drop x.piece.from filled_bytes, filled_long, over) in
        record {
          low = omega (arith, here, low, base);
          base = omega (arith, here, low);
          high = omega (arith, here, high, end, from);
          inside = omega (arith, last, long);
          on = λ k lt. let there = x.address_is (off + k) (omega (arith, from)) (omega (arith, end, lt)) in omega (arith, there, here, from);
          room_left = x.piece.to - off;
          fits = omega (arith, end);
          more = x.more;
          bytes =
              ap (λ k. drop k (code_bytes o seed)) split ∙
              sym (drop-drop (off - x.piece.from) (x.start - code_base seed) (code_bytes o seed)) ∙
              ap (drop (off - x.piece.from)) x.bytes ∙
              drop-append-le (off - x.piece.from) (take (x.piece.to - x.piece.from) (drop x.piece.from filled_bytes)) x.more (omega (arith, size, from, to)) ∙
              ap (λ m. drop (off - x.piece.from) (take m (drop x.piece.from filled_bytes)) ++ x.more) len ∙
              ap (λ ys. ys ++ x.more) (drop-take (off - x.piece.from) (x.piece.to - off) (drop x.piece.from filled_bytes)) ∙
              ap (λ ys. take (x.piece.to - off) ys ++ x.more) (drop-drop (off - x.piece.from) x.piece.from filled_bytes) ∙
              ap (λ m. take (x.piece.to - off) (drop m filled_bytes) ++ x.more) sum;
        }

    pub plain : (off : ℕ) (i : Instr) → IsIn 0 instrs off i → Front (drop off f.bytes) i
    plain off i h =
        let x = front 0 instrs off i h in
        let whole : off ≡ off - 0 = omega arith in
        record { more = x.more; begins = ap (drop off) (sym is_disassembly.whole) ∙ ap (λ k. drop k (spelled instrs)) whole ∙ x.begins }

    -- what the filled bytes begin with there may be executed there
    runs : (off : ℕ) (i j : Instr) → IsIn 0 instrs off i → IsInstr j → size_of j ≡ size_of i → Front (drop off filled_bytes) j → IsAt exec (at_place (Place.Code n off)) j
    runs off i j h is size y =
        let x = near off i h in
        let low : 0x40000000 ≤ at_byte off = x.low in
        let fits : size_of i ≤ x.room_left = x.fits in
        let slots_long = length-trampoline_bytes o seed in
        let few : length o.slots ≤ 1048576 = w.few.slots in
        in_code (trampoline_bytes o seed) (code_base seed) (code_bytes o seed) (at_byte off) j is (omega (arith, slots_long, few, low)) x.base (record {
          more = take (x.room_left - size_of j) y.more ++ x.more;
          begins =
              x.bytes ∙
              ap (λ ys. take x.room_left ys ++ x.more) y.begins ∙
              ap (λ ys. ys ++ x.more) (take_past x.room_left (encoding j) y.more (omega (arith, size, fits))) ∙
              append_assoc (encoding j) (take (x.room_left - size_of j) y.more) x.more;
        })

    -- a link that ends an instruction is of a branch with displacement 0
    link_is : (off : ℕ) (i : Instr) → IsIn 0 instrs off i → (k : ℕ) → link_before f.links (off + size_of i) ≡ Some k → (k < length o.slots) × (is_zero (displacement i) ≡ true)
    link_is off i h k e =
        let x = link_good None instrs (length o.slots) k (off + size_of i) f.links rules.links e in
        let y = x.1.2 in
        let ends : y.off + size_of y.instr ≡ x.1.0 + 4 = y.ends in
        let end : x.1.0 + 4 ≡ off + size_of i = x.1.1 in
        let some = some_bytes i in
        let some2 = some_bytes y.instr in (
          x.0,
          elim (apart 0 instrs off i y.off y.instr h y.is_in) [
            | inl same ↦ ap (λ j. is_zero (displacement j)) same.1 ∙ y.zero_by
            | inr z ↦ elim z [
              | inl le ↦ absurd (omega (arith, le, ends, end, some2))
              | inr le ↦ absurd (omega (arith, le, ends, end, some))
            ]
          ],
        )

    -- only branches with displacement 0 have links
    no_link : (off : ℕ) (i : Instr) → IsIn 0 instrs off i → is_zero (displacement i) ≡ false → (x : Option ℕ) → link_before f.links (off + size_of i) ≡ x → link_before f.links (off + size_of i) ≡ None
    no_link off i h z None e = e
    no_link off i h z (Some k) e = let t = (link_is off i h k e).1 in absurd (cc)

    -- the instructions are those of the disassembly
    known : instrs_in f.bytes ≡ found instrs
    known = instrs_known f.bytes instrs is_disassembly

    -- the displacements end with instructions
    branches : List Way
    branches = branch_ways (address o seed) n f f.cuts

    branches_good : (cuts : List ℕ) → Each (IsWay instrs) (branch_ways (address o seed) n f cuts)
    branches_good [] = tt
    branches_good (c ∷ cs) = subst (λ xs. Each (IsWay instrs) (ways_of (address o seed) n f xs)) (sym known) (branch_ways_end (address o seed) n f instrs)

    links_good : Each (IsWay instrs) (link_ways (positions o) f.links)
    links_good = link_ways_end None instrs (length o.slots) (positions o) f.links rules.links

    -- first those of branches, and then those of links
    filled_first : (off : ℕ) (j : Instr) → Front (drop off (led (behind (address o seed) n) (link_ways (positions o) f.links) (led (behind (address o seed) n) (branch_ways (address o seed) n f f.cuts) f.bytes))) j → Front (drop off filled_bytes) j
    filled_first off j h = record { more = h.more; begins = ap (drop off) (led_both (behind (address o seed) n) (branch_ways (address o seed) n f f.cuts) (link_ways (positions o) f.links) f.bytes) ∙ h.begins }

    -- no branch's displacement ends with another instruction
    no_branch : (off : ℕ) (i : Instr) → IsIn 0 instrs off i → displacement i ≡ None → (cuts : List ℕ) → NoneEnds (off + size_of i) (branch_ways (address o seed) n f cuts)
    no_branch off i h e [] = tt
    no_branch off i h e (c ∷ cs) = subst (λ xs. NoneEnds (off + size_of i) (ways_of (address o seed) n f xs)) (sym known) (no_branch_ends (address o seed) n f instrs off i h e)

    -- all that are no branches stand as they are
    straight : (off : ℕ) (i : Instr) → IsIn 0 instrs off i → displacement i ≡ None → IsAt exec (at_place (Place.Code n off)) i
    straight off i h e =
        let none = no_link off i h (ap is_zero e) (link_before f.links (off + size_of i)) refl in
        runs off i i h (each_in IsInstr 0 instrs off i is_disassembly.instructions h) refl (filled_first off i
        (led_stays instrs off i h i refl (behind (address o seed) n) (link_ways (positions o) f.links) (led (behind (address o seed) n) (branch_ways (address o seed) n f f.cuts) f.bytes) links_good (no_link_ends (positions o) (off + size_of i) f.links none)
        (led_stays instrs off i h i refl (behind (address o seed) n) (branch_ways (address o seed) n f f.cuts) f.bytes (branches_good f.cuts) (no_branch off i h e f.cuts) (plain off i h))))

    -- a function that is not cut stands in one piece
    one_piece : f.cuts ≡ [] → 1 ≤ length f.bytes → (start : ℕ) × ((k : ℕ) → k < length f.bytes → at_byte k ≡ start + k)
    one_piece e some =
        let x = in_piece o w seed n f func_there 0 some in
        let from : x.piece.from ≤ 0 = x.from in
        let edge : IsEdge [] (length f.bytes) x.piece.to = subst (λ cs. IsEdge cs (length f.bytes) x.piece.to) e x.edge in
        (x.start, λ k lt. x.address_is k (omega (arith, from)) (omega (arith, edge, lt)) ∙ omega (arith, from))

    -- a branch that goes into the function
    pub record Goes (off : ℕ) (i : Instr) (by : ℤ) : Type 0 where
      pub inside : moved (off + size_of i) by < length f.bytes
      pub low : 0x40000000 ≤ at_byte (moved (off + size_of i) by)
      pub high : at_byte (moved (off + size_of i) by) ≤ 1477000000

    goes : (off : ℕ) (i : Instr) (by : ℤ) → IsIn 0 instrs off i → displacement i ≡ Some by → link_before f.links (off + size_of i) ≡ None → Goes off i by
    goes off i by h disp e =
        let none = not_linked f.links (off + size_of i) e in
        let well = branches_well f.links (found instrs) 0 instrs off i rules.branches h in
        let start_there : goes_well (found instrs) (off + size_of i) (Some by) ≡ true =
        ap (goes_well (found instrs) (off + size_of i)) (sym disp) ∙ ap (λ t. t || goes_well (found instrs) (off + size_of i) (displacement i)) (sym none) ∙ well in
        let to = which_starts 0 instrs (moved (off + size_of i) by) start_there in
        let x = near (moved (off + size_of i) by) to.0 to.1 in
        let some = some_bytes to.0 in
        let inside : moved (off + size_of i) by + size_of to.0 ≤ length f.bytes = x.inside in
        let high : at_byte (moved (off + size_of i) by) + size_of to.0 ≤ 1477000000 = x.high in
        record { inside = omega (arith, inside, some); low = x.low; high = omega (arith, high) }

    -- a branch leads where the object says
    module _ (make : ℤ → Instr) (is_filled : IsFilled make) (off : ℕ) (by : ℤ) (h : IsIn 0 instrs off (make by)) (disp : displacement (make by) ≡ Some by) (sized : (x : ℤ) → size_of (make x) ≡ size_of (make by)) (fits : (x : ℤ) → IsNumber32 x → IsInstr (make x)) (fitted : IsInstr (make by) → IsNumber32 by) where
      -- where it ends
      abbrev end : ℕ
      end = off + size_of (make by)

      -- its address behind it
      abbrev from_there : ℕ
      from_there = at_byte off + size_of (make by)

      behind_is : (at : ℕ) → at + 4 ≡ end → behind (address o seed) n at ≡ from_there
      behind_is at e =
          let some = some_bytes (make by) in
          let last : at + 3 ≡ off + (size_of (make by) - 1) = omega (arith, e, some) in
          let there : at_byte (off + (size_of (make by) - 1)) ≡ at_byte off + (size_of (make by) - 1) = (near off (make by) h).on (size_of (make by) - 1) (omega (arith, some)) in
          ap (λ k. at_byte k + 1) last ∙ omega (arith, there, some)

      -- it stands with a displacement that leads to an address
      to_address : (to : ℕ) → to ≤ 1477000000 → 268435456 ≤ to → ((by2 : ℤ) → ((at : ℕ) → at + 4 ≡ end → displacement_bytes to (behind (address o seed) n at) ≡ number32 by2) → Front (drop off filled_bytes) (make by2)) → IsAtTo exec (at_place (Place.Code n off)) make to
      to_address to high low fill =
          let x = near off (make by) h in
          let near_low : 0x40000000 ≤ at_byte off = x.low in
          let near_high : at_byte off + size_of (make by) ≤ 1477000000 = x.high in
          let bytes = displacement_between to from_there (omega (arith, near_high)) (omega (arith, high)) (omega (arith, near_high, low)) in
          let size : size_of (make (between to from_there)) ≡ size_of (make by) = sized (between to from_there) in
          let behind_it : at_byte off + size_of (make (between to from_there)) ≡ from_there = omega (arith, size) in
          record {
            by = between to from_there;
            here = runs off (make by) (make (between to from_there)) h (fits _ (between_fits to from_there (omega (arith, high, near_low)) (omega (arith, near_high, low)))) size (fill (between to from_there) (λ at e. ap (displacement_bytes to) (behind_is at e) ∙ bytes));
            leads = ap (λ a. moved (a % 2 ^ 64) (between to from_there)) behind_it ∙ between_leads to from_there (omega (arith, high)) (omega (arith, near_high));
          }

      -- one with a link
      to_slot : (k : ℕ) → link_before f.links end ≡ Some k → IsAtTo exec (at_place (Place.Code n off)) make (at_place (Place.Slot k 0))
      to_slot k e =
          let z = link_is off (make by) h k e in
          let below = slot_low o seed k w.few z.0 in
          let same : slot_start o k ≡ slot_start o k + 0 = omega arith in
          let lead = links_lead None (found instrs) (length o.slots) (positions o) end k f.links rules.links e in
          let first = led_some instrs off make is_filled by h sized (behind (address o seed) n) (branch_ways (address o seed) n f f.cuts) f.bytes by (branches_good f.cuts) (plain off (make by) h) in
          subst (IsAtTo exec (at_place (Place.Code n off)) make) same
          (to_address (slot_start o k) (omega (arith, below)) (omega arith) (λ by2 way.
          filled_first off (make by2)
          (led_leads instrs off make is_filled by h sized (behind (address o seed) n) (slot_start o k) by2 way (link_ways (positions o) f.links) (led (behind (address o seed) n) (branch_ways (address o seed) n f f.cuts) f.bytes) first.0 links_good lead.0 lead.1 first.1)))

      -- one without a link in a function that is not cut
      in_one_piece : f.cuts ≡ [] → link_before f.links end ≡ None → IsAtTo exec (at_place (Place.Code n off)) make (at_byte (moved end by))
      in_one_piece none e =
          let x = near off (make by) h in
          let g = goes off (make by) by h disp e in
          let inside : off + size_of (make by) ≤ length f.bytes = x.inside in
          let there : moved end by < length f.bytes = g.inside in
          let some = some_bytes (make by) in
          let one = one_piece none (omega (arith, inside, some)) in
          let high : at_byte off + size_of (make by) ≤ 1477000000 = x.high in
          let here : at_byte off ≡ one.0 + off = one.1 off (omega (arith, inside, some)) in
          let goal : at_byte (moved end by) ≡ one.0 + moved end by = one.1 (moved end by) g.inside in
          let goal_high : at_byte (moved end by) ≤ 1477000000 = g.high in
          let is = each_in IsInstr 0 instrs off (make by) is_disassembly.instructions h in
          let split : at_byte off + size_of (make by) ≡ one.0 + end = omega (arith, here) in
          let no_branches : branch_ways (address o seed) n f f.cuts ≡ [] = ap (branch_ways (address o seed) n f) none in
          let first : Front (drop off (led (behind (address o seed) n) (branch_ways (address o seed) n f f.cuts) f.bytes)) (make by) = subst (λ ws. Front (drop off (led (behind (address o seed) n) ws f.bytes)) (make by)) (sym no_branches) (plain off (make by) h) in
          record {
            by = by;
            here = runs off (make by) (make by) h is refl (filled_first off (make by)
                (led_stays instrs off (make by) h (make by) refl (behind (address o seed) n) (link_ways (positions o) f.links) (led (behind (address o seed) n) (branch_ways (address o seed) n f f.cuts) f.bytes) links_good (no_link_ends (positions o) end f.links e) first));
            leads = ap (λ a. moved (a % 2 ^ 64) by) split ∙ local_leads one.0 end by (fitted is) (omega (arith, here, high)) (omega (arith, goal, goal_high)) ∙ sym goal;
          }

      -- one without a link in a function that is cut
      to_piece : (c : ℕ) (cs : List ℕ) → f.cuts ≡ c ∷ cs → link_before f.links end ≡ None → IsAtTo exec (at_place (Place.Code n off)) make (at_byte (moved end by))
      to_piece c cs cut e =
          let g = goes off (make by) by h disp e in
          let low : 0x40000000 ≤ at_byte (moved end by) = g.low in
          let test : nat_lt (moved end by) (length f.bytes) ≡ true = lt-ltb (moved end by) (length f.bytes) g.inside in
          let ways : branch_ways (address o seed) n f f.cuts ≡ ways_of (address o seed) n f (found instrs) = ap (branch_ways (address o seed) n f) cut ∙ ap (ways_of (address o seed) n f) known in
          to_address (at_byte (moved end by)) g.high (omega (arith, low)) (λ by2 way.
          filled_first off (make by2)
          (led_stays instrs off (make by) h (make by2) (sized by2) (behind (address o seed) n) (link_ways (positions o) f.links) (led (behind (address o seed) n) (branch_ways (address o seed) n f f.cuts) f.bytes) links_good (no_link_ends (positions o) end f.links e)
          (subst (λ ws. Front (drop off (led (behind (address o seed) n) ws f.bytes)) (make by2)) (sym ways)
          (led_leads instrs off make is_filled by h sized (behind (address o seed) n) (at_byte (moved end by)) by2 way (ways_of (address o seed) n f (found instrs)) f.bytes by (branch_ways_end (address o seed) n f instrs) (branches_lead (address o seed) n f instrs off (make by) by h disp) (branch_ends (address o seed) n f 0 instrs off (make by) by h disp test) (plain off (make by) h)))))

      by_cuts : (cuts : List ℕ) → f.cuts ≡ cuts → link_before f.links end ≡ None → IsAtTo exec (at_place (Place.Code n off)) make (at_byte (moved end by))
      by_cuts [] none e = in_one_piece none e
      by_cuts (c ∷ cs) cut e = to_piece c cs cut e

      leads_there : (x : Option ℕ) → link_before f.links end ≡ x → IsAtTo exec (at_place (Place.Code n off)) make (at_place (target n end x by))
      leads_there (Some k) e = to_slot k e
      leads_there None e = by_cuts f.cuts refl e

    -- the bytes at each instruction
    bytes_there : (off : ℕ) (i : Instr) → IsIn 0 instrs off i → CodeBytes exec at_place o f n off i
    bytes_there off (Jcc c by) h = leads_there (Jcc c) (test_filled c) off by h refl (λ x. refl) (λ x y. y) (λ y. y) (link_before f.links (off + 6)) refl
    bytes_there off (Jmp by) h = leads_there Jmp jump_filled off by h refl (λ x. refl) (λ x y. y) (λ y. y) (link_before f.links (off + 5)) refl
    bytes_there off i h = straight off i h refl

    -- the instruction that ends where nothing runs past
    stopping : (at : ℕ) (is : List Instr) (e : ℕ) → stops_at (found_from at is) e ≡ true → (off : ℕ) × ((j : Instr) × (IsIn at is off j × ((off + size_of j ≡ e) × (is_end j ≡ true))))
    stopping at [] e h = absurd (cc)
    stopping at (j ∷ js) e h = elim (or_cases (nat_eq (at + size_of j) e && is_end j) _ h) [
      | inl here ↦ let x = and_parts (nat_eq (at + size_of j) e) (is_end j) here in (at, (j, (inl (refl, refl), (eqb-true (at + size_of j) e x.0, x.1))))
      | inr more ↦ let x = stopping (at + size_of j) js e more in (x.0, (x.1.0, (inr x.1.1.0, x.1.1.1)))
    ]

    -- what is run past has the next instruction behind it
    runs_on : (off : ℕ) (i : Instr) → IsIn 0 instrs off i → is_end i ≡ false → off + size_of i < length f.bytes → at_byte (off + size_of i) ≡ at_byte off + size_of i
    runs_on off i h goes_past lt =
        let some = some_bytes i in
        let x = in_piece o w seed n f func_there off (omega (arith, lt, some)) in
        let from : x.piece.from ≤ off = x.from in
        let end : off + size_of i ≤ x.piece.to = ends_inside off i h x.piece.to x.edge x.to in
        let here : at_byte off ≡ x.start + (off - x.piece.from) = x.address_is off x.from x.to in
        let apart_from : (off + size_of i ≡ x.piece.to) → ⊥ = λ same. elim (edge_is 0 (found instrs) f.cuts (length f.bytes) x.piece.to rules.cuts x.edge) [
          | inl last ↦ omega (arith, last, same, lt)
          | inr y ↦ let z = stopping 0 instrs x.piece.to y.1 in let one = same_end instrs off i h z.0 z.1.0 z.1.1.0 (z.1.1.1.0 ∙ sym same) in let ends : is_end i ≡ true = ap is_end one.1 ∙ z.1.1.1.1 in absurd (cc)
        ] in
        let before : off + size_of i < x.piece.to = elim (cases_eq (off + size_of i) x.piece.to) [
          | inl same ↦ absurd (apart_from same)
          | inr other ↦ omega (arith, end, other)
        ] in
        let there : at_byte (off + size_of i) ≡ x.start + (off + size_of i - x.piece.from) = x.address_is (off + size_of i) (omega (arith, from)) before in
        omega (arith, there, here, from)

    pub behind_it : (off : ℕ) (i : Instr) → IsIn 0 instrs off i → (s : HasInstr o n off) → is_end s.instr ≡ false → is_code_place (Some instrs) (off + size_of s.instr) ≡ true → at_byte (off + size_of s.instr) ≡ (at_byte off + size_of s.instr) % 2 ^ 64
    behind_it off i h s goes_past next =
        let x = plain off i h in
        let func : f ≡ s.func = cc in
        let same : i ≡ s.instr = same_instr (drop off f.bytes) i s.instr x.more s.rest (each_in IsInstr 0 instrs off i is_disassembly.instructions h) s.is_instr x.begins (ap (λ (g : Func). drop off g.bytes) func ∙ s.bytes) in
        let to = which_starts 0 instrs (off + size_of s.instr) next in
        let y = near (off + size_of s.instr) to.0 to.1 in
        let some = some_bytes to.0 in
        let inside : off + size_of s.instr + size_of to.0 ≤ length f.bytes = y.inside in
        let high : at_byte (off + size_of s.instr) + size_of to.0 ≤ 1477000000 = y.high in
        let on : at_byte (off + size_of s.instr) ≡ at_byte off + size_of s.instr = runs_on off s.instr (subst (IsIn 0 instrs off) same h) goes_past (omega (arith, inside, some)) in
        omega (arith, on, high)

    -- and at what the object has there, which is the same
    pub bytes_here : (off : ℕ) (i : Instr) → IsIn 0 instrs off i → (s : HasInstr o n off) → CodeBytes exec at_place o s.func n off s.instr
    bytes_here off i h s =
        let x = plain off i h in
        let func : f ≡ s.func = cc in
        let same : i ≡ s.instr = same_instr (drop off f.bytes) i s.instr x.more s.rest (each_in IsInstr 0 instrs off i is_disassembly.instructions h) s.is_instr x.begins (ap (λ (g : Func). drop off g.bytes) func ∙ s.bytes) in
        subst (λ (g : Func). CodeBytes exec at_place o g n off s.instr) func (subst (CodeBytes exec at_place o f n off) same (bytes_there off i h))

  -- the places of functions are near
  pub record NearCode (n off : ℕ) : Type 0 where
    pub low : 0x40000000 ≤ address o seed (record { function = n; offset = off })
    pub high : address o seed (record { function = n; offset = off }) ≤ 1477000000

  pub near_code : (n off : ℕ) → is_code_place (slice_get w.disassemblies n) off ≡ true → NearCode n off
  near_code n off h =
      let b = begun w.disassemblies n off (slice_get w.disassemblies n) refl h in
      let f = function_of_disassembly o.functions w.disassemblies w.disassembled n b.instrs b.there in
      let x = near n f.func b.instrs f.found b.there f.is_disassembly off b.instr b.is_in in
      let high : address o seed (record { function = n; offset = off }) + size_of b.instr ≤ 1477000000 = x.high in
      record { low = x.low; high = omega (arith, high) }

  pub code_laid : (n off : ℕ) → is_code_place (slice_get w.disassemblies n) off ≡ true → (s : HasInstr o n off) → CodeBytes exec at_place o s.func n off s.instr
  code_laid n off h s =
      let b = begun w.disassemblies n off (slice_get w.disassemblies n) refl h in
      let f = function_of_disassembly o.functions w.disassemblies w.disassembled n b.instrs b.there in
      bytes_here n f.func b.instrs f.found b.there f.is_disassembly off b.instr b.is_in s

  pub neighbours : (n off : ℕ) → is_code_place (slice_get w.disassemblies n) off ≡ true → (s : HasInstr o n off) → is_end s.instr ≡ false → is_code_place (slice_get w.disassemblies n) (off + size_of s.instr) ≡ true → at_place (Place.Code n (off + size_of s.instr)) ≡ (at_place (Place.Code n off) + size_of s.instr) % 2 ^ 64
  neighbours n off h s goes_past next =
      let b = begun w.disassemblies n off (slice_get w.disassemblies n) refl h in
      let f = function_of_disassembly o.functions w.disassemblies w.disassembled n b.instrs b.there in
      behind_it n f.func b.instrs f.found b.there f.is_disassembly off b.instr b.is_in s goes_past (ap (λ x. is_code_place x (off + size_of s.instr)) (sym b.there) ∙ next)
