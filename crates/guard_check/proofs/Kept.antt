-- What the rules say of one function, of one of its instructions, and of one slot.
use Rattle.std.proofs.Common.{◌≡◌, ℕ, zero, suc, ◌+◌, ◌^◌, ◌<◌, ◌≤◌, Bool, true, false, ◌||◌, if◌then◌else◌, List, [], ◌∷◌, ◌++◌, length, drop, Option, Some, None, refl, sym, ◌∙◌, ap, subst, arith, append_assoc, length-append}
use Rattle.std.specs.Prelude.{nat_eq, slice_get, slice_index}
use Rattle.std.proofs.lemmas.List.{drop_at}
use Rattle.std.proofs.lemmas.List.Sums.{sum-map}
use Rattle.rd_draw.specs.Draw.{keystream_word}
use Rattle.rd_draw.proofs.Permuted.{shuffled_long, shuffled_below}
use Rattle.x86_core.specs.declared.instr.Instr.{Instr}
use Rattle.x86_core.specs.declared.instr.Decoded.TheVariants.{One}
use Rattle.x86_core.specs.Encoding.{encoding, IsInstr}
use Rattle.x86_core.specs.Decoding.{decode}
use Rattle.x86_core.proofs.Back.{decode_back}
use Rattle.x86_core.proofs.Laws.{some_bytes}
use Rattle.obj_core.specs.declared.object.Object.{Object}
use Rattle.obj_core.specs.declared.object.Func.{Func}
use Rattle.obj_core.specs.declared.object.Slot.{Slot}
use Rattle.obj_core.specs.declared.object.Link.{Link}
use Rattle.obj_core.specs.Object.{Each}
use Rattle.obj_core.specs.Slots.{slot_purpose, positions, slot_start}
use Rattle.obj_core.specs.Disassembly.{IsDisassembly, AreDisassemblies, Found, found, found_from, starts_at, spelled, size_of}
use Rattle.obj_core.specs.SymbolicMachine.{link_before}
use Rattle.obj_core.specs.WellFormed.{Violation, OfSlot, AreFew, IsWellFormed, or_else, at_least_offset, in_functions, in_slots, is_slots_own, forbidden_in, displacement, is_linked, goes_well, bad_branches, is_end, open_end, agrees_with, is_entry, is_good_slot, bad_links}
use Rattle.obj_core.proofs.Kept.{one_empty, other_empty}
use Rattle.obj_core.proofs.Fronts.{code_len}
use Rattle.obj_core.proofs.Fronts.{front_small}
use Rattle.obj_core.proofs.Spelling.{length-spelled-append}
use Rattle.guard_check.specs.Form.{refused_in, unguarded_in, breaking_in, is_good_way, guard_violation}
use Rattle.guard_check.proofs.Rows.{is_in_start, behind_first}

-- where neither of two fails, each holds
neither : (v w : Option Violation) → or_else v w ≡ None → (v ≡ None) × (w ≡ None)
neither None w h = (refl, h)
neither (Some v) w h = absurd (cc)

-- a rule that holds has no offsets where it fails
no_offset : (rule n : ℕ) (xs : List ℕ) → at_least_offset rule n xs ≡ None → xs ≡ []
no_offset rule n [] h = refl
no_offset rule n (x ∷ xs) h = absurd (cc)

-- a rule on functions holds of each
holds_at : (rule : ℕ) (fails : Func → List Instr → List ℕ) (n : ℕ) (fs : List Func) (disassemblies : List (List Instr)) → in_functions rule (λ m f instrs. fails f instrs) n fs disassemblies ≡ None → (k : ℕ) (f : Func) (instrs : List Instr) → slice_get fs k ≡ Some f → slice_get disassemblies k ≡ Some instrs → fails f instrs ≡ []
holds_at rule fails n [] disassemblies h k f instrs e d = absurd (cc)
holds_at rule fails n (g ∷ fs) [] h k f instrs e d = absurd (cc)
holds_at rule fails n (g ∷ fs) (c ∷ disassemblies) h zero f instrs e d =
    let here = no_offset rule n (fails g c) (neither (at_least_offset rule n (fails g c)) _ h).0 in
    let first : g ≡ f = cc in
    let second : c ≡ instrs = cc in
    subst (λ x. fails f x ≡ []) second (subst (λ x. fails x c ≡ []) first here)
holds_at rule fails n (g ∷ fs) (c ∷ disassemblies) h (suc k) f instrs e d = holds_at rule fails (n + 1) fs disassemblies (neither (at_least_offset rule n (fails g c)) _ h).1 k f instrs e d

-- a slot that passes
passes_by : (rule k : ℕ) (s : Slot) (rest : Option Violation) (t : Bool) → (if t then rest else Some (record { rule = rule; spot = OfSlot k; offset = 0 })) ≡ None → (t ≡ true) × (rest ≡ None)
passes_by rule k s rest true h = (refl, h)
passes_by rule k s rest false h = absurd (cc)

-- a rule on slots holds of each
slot_passes : (rule : ℕ) (passes : Slot → Bool) (n : ℕ) (ss : List Slot) → in_slots rule (λ m s. passes s) n ss ≡ None → (k : ℕ) (s : Slot) → slice_get ss k ≡ Some s → passes s ≡ true
slot_passes rule passes n [] h k s e = absurd (cc)
slot_passes rule passes n (t ∷ ss) h zero s e =
    let first : t ≡ s = cc in
    subst (λ x. passes x ≡ true) first (passes_by rule n t _ (passes t) h).0
slot_passes rule passes n (t ∷ ss) h (suc k) s e = slot_passes rule passes (n + 1) ss (passes_by rule n t _ (passes t) h).1 k s e

-- the rules on one function
pub record KeepsGuards (slots : List Slot) (f : Func) (instrs : List Instr) : Type 0 where
  pub refused : refused_in slots f instrs ≡ []
  pub unguarded : unguarded_in slots f instrs ≡ []
  pub breaking : breaking_in slots f instrs ≡ []

module _ (o : Object) (disassemblies : List (List Instr)) (kept : guard_violation o disassemblies ≡ None) where
  pub function_guarded : (n : ℕ) (f : Func) (instrs : List Instr) → slice_get o.functions n ≡ Some f → slice_get disassemblies n ≡ Some instrs → KeepsGuards o.slots f instrs
  function_guarded n f instrs e d =
      let x = neither (in_functions 1 (λ m g c. refused_in o.slots g c) 0 o.functions disassemblies) _ kept in
      let y = neither (in_functions 2 (λ m g c. unguarded_in o.slots g c) 0 o.functions disassemblies) _ x.1 in
      let z = neither (in_functions 3 (λ m g c. breaking_in o.slots g c) 0 o.functions disassemblies) _ y.1 in
      record {
        refused = holds_at 1 (λ g c. refused_in o.slots g c) 0 o.functions disassemblies x.0 n f instrs e d;
        unguarded = holds_at 2 (λ g c. unguarded_in o.slots g c) 0 o.functions disassemblies y.0 n f instrs e d;
        breaking = holds_at 3 (λ g c. breaking_in o.slots g c) 0 o.functions disassemblies z.0 n f instrs e d;
      }

  pub way_guarded : (k : ℕ) (s : Slot) → slice_get o.slots k ≡ Some s → is_good_way o disassemblies s ≡ true
  way_guarded k s e =
      let x = neither (in_functions 1 (λ m g c. refused_in o.slots g c) 0 o.functions disassemblies) _ kept in
      let y = neither (in_functions 2 (λ m g c. unguarded_in o.slots g c) 0 o.functions disassemblies) _ x.1 in
      let z = neither (in_functions 3 (λ m g c. breaking_in o.slots g c) 0 o.functions disassemblies) _ y.1 in
      slot_passes 4 (is_good_way o disassemblies) 0 o.slots z.1 k s e

-- the first slot is the entry
first_agrees : (ss : List Slot) → in_slots 7 agrees_with 0 ss ≡ None → (s : Slot) → slice_get ss 0 ≡ Some s → is_entry s ≡ true
first_agrees [] h s e = absurd (cc)
first_agrees (t ∷ ss) h s e =
    let first : t ≡ s = cc in
    subst (λ x. is_entry x ≡ true) first (passes_by 7 0 t _ (agrees_with 0 t) h).0

pub first_is_entry : (o : Object) (well : IsWellFormed o) (s : Slot) → slice_get o.slots 0 ≡ Some s → is_entry s ≡ true
first_is_entry o well s e =
    let d = well.disassemblies in
    let x = neither (in_functions 3 (λ m g c. forbidden_in (found c)) 0 o.functions d) _ well.kept in
    let y = neither (in_functions 4 (λ m g c. bad_links None (found c) (length o.slots) g.links ++ bad_branches g.links (found c) (found c)) 0 o.functions d) _ x.1 in
    let z = neither (in_functions 5 (λ m g c. open_end (found c)) 0 o.functions d) _ y.1 in
    let w = neither (in_slots 6 (λ m t. is_good_slot d t) 0 o.slots) _ z.1 in
    let v = neither (in_slots 7 agrees_with 0 o.slots) _ w.1 in
    first_agrees o.slots v.0 s e

-- no instruction of a function is one that only slots have
pub none_of_slots : (before : List Instr) (i : Instr) (after : List Instr) (at : ℕ) → forbidden_in (found_from at (before ++ i ∷ after)) ≡ [] → is_slots_own i ≡ false
none_of_slots [] i after at h = (one_empty (is_slots_own i) at _ _ h).0
none_of_slots (b ∷ bs) i after at h = none_of_slots bs i after (at + size_of b) (one_empty (is_slots_own b) at _ _ h).1

-- each branch has a link, or goes to a start
pub branch_goes : (links : List Link) (all : List Found) (before : List Instr) (i : Instr) (after : List Instr) (at off : ℕ) → off ≡ at + length (spelled before) → bad_branches links all (found_from at (before ++ i ∷ after)) ≡ [] → (is_linked links (off + size_of i) || goes_well all (off + size_of i) (displacement i)) ≡ true
branch_goes links all [] i after at off e h =
    let same : at ≡ off = omega (arith, e) in
    subst (λ n. (is_linked links (n + size_of i) || goes_well all (n + size_of i) (displacement i)) ≡ true) same
    (other_empty (is_linked links (at + size_of i) || goes_well all (at + size_of i) (displacement i)) at _ _ h).0
branch_goes links all (b ∷ bs) i after at off e h =
    branch_goes links all bs i after (at + size_of b) off (behind_first b bs at off e)
    (other_empty (is_linked links (at + size_of b) || goes_well all (at + size_of b) (displacement b)) at _ _ h).1

-- behind an instruction that is no end there is another
pub record HasNext (after : List Instr) : Type 0 where
  pub first : Instr
  pub others : List Instr
  pub split : after ≡ first ∷ others

pub goes_on : (before : List Instr) (i : Instr) (after : List Instr) (at : ℕ) → open_end (found_from at (before ++ i ∷ after)) ≡ [] → is_end i ≡ false → HasNext after
goes_on before i (j ∷ more) at h going = record { first = j; others = more; split = refl }
goes_on [] i [] at h going = let yes = (other_empty (is_end i) at [] [] h).0 in absurd (cc)
goes_on (b ∷ []) i [] at h going = goes_on [] i [] (at + size_of b) h going
goes_on (b ∷ c ∷ bs) i [] at h going = goes_on (c ∷ bs) i [] (at + size_of b) h going

-- the start behind an instruction
pub next_start : (before : List Instr) (i : Instr) (after : List Instr) (off : ℕ) → off ≡ 0 + length (spelled before) → HasNext after → starts_at (found_from 0 (before ++ i ∷ after)) (off + size_of i) ≡ true
next_start before i after off e n =
    let shift : before ++ i ∷ after ≡ (before ++ i ∷ []) ++ n.first ∷ n.others = ap (λ r. before ++ i ∷ r) n.split ∙ sym (append_assoc before (i ∷ []) (n.first ∷ n.others)) in
    let long : off + size_of i ≡ 0 + length (spelled (before ++ i ∷ [])) = omega (arith, e, length-spelled-append before (i ∷ []), length-append (encoding i) []) in
    subst (λ instrs. starts_at (found_from 0 instrs) (off + size_of i) ≡ true) (sym shift) (is_in_start (before ++ i ∷ []) n.first n.others 0 (off + size_of i) long)

-- an offset without a link
pub no_link : (ls : List Link) (e : ℕ) → link_before ls e ≡ None → is_linked ls e ≡ false
no_link [] e h = refl
no_link (l ∷ ls) e h = by_test (nat_eq (l.at + 4) e) (no_link ls e) h
  where
    by_test : (t : Bool) → (link_before ls e ≡ None → is_linked ls e ≡ false) → (if t then Some l.slot else link_before ls e) ≡ None → (t || is_linked ls e) ≡ false
    by_test true more g = absurd (cc)
    by_test false more g = more g

-- a disassembly has a function
pub record HasFunction (fs : List Func) (n : ℕ) (instrs : List Instr) : Type 0 where
  pub func : Func
  pub found : slice_get fs n ≡ Some func
  pub is_disassembly : IsDisassembly func.bytes instrs

pub function_of : (fs : List Func) (disassemblies : List (List Instr)) → AreDisassemblies fs disassemblies → (n : ℕ) (instrs : List Instr) → slice_get disassemblies n ≡ Some instrs → HasFunction fs n instrs
function_of [] [] h n instrs e = absurd (cc)
function_of [] (c ∷ disassemblies) h n instrs e = absurd h
function_of (f ∷ fs) [] h n instrs e = absurd h
function_of (f ∷ fs) ([] ∷ disassemblies) h n instrs e = absurd h
function_of (f ∷ fs) ((i ∷ is) ∷ disassemblies) h zero instrs e =
    let same : i ∷ is ≡ instrs = cc in
    record { func = f; found = refl; is_disassembly = subst (IsDisassembly f.bytes) same h.0 }
function_of (f ∷ fs) ((i ∷ is) ∷ disassemblies) h (suc n) instrs e =
    let x = function_of fs disassemblies h.1 n instrs e in
    record { func = x.func; found = x.found; is_disassembly = x.is_disassembly }

-- whether an instruction of a function starts at an offset
abbrev pub starts_in : Option (List Instr) → ℕ → Bool
starts_in None off = false
starts_in (Some instrs) off = starts_at (found instrs) off

-- each function has an instruction at its start
pub function_starts : (fs : List Func) (disassemblies : List (List Instr)) → AreDisassemblies fs disassemblies → (n : ℕ) → n < length disassemblies → starts_in (slice_get disassemblies n) 0 ≡ true
function_starts [] [] h n lt = absurd (omega (arith, lt))
function_starts [] (c ∷ disassemblies) h n lt = absurd h
function_starts (f ∷ fs) [] h n lt = absurd h
function_starts (f ∷ fs) ([] ∷ disassemblies) h n lt = absurd h
function_starts (f ∷ fs) ((i ∷ is) ∷ disassemblies) h zero lt = refl
function_starts (f ∷ fs) ((i ∷ is) ∷ disassemblies) h (suc n) lt = function_starts fs disassemblies h.1 n (omega (arith, lt))

-- bytes are instructions in one way
same_one : (i j : Instr) (m n : ℕ) → One i m ≡ One j n → i ≡ j
same_one i j m n e = cc

one_row : (xs ys : List Instr) → Each IsInstr xs → Each IsInstr ys → spelled xs ≡ spelled ys → xs ≡ ys
one_row [] [] h k e = refl
one_row [] (y ∷ ys) h k e =
    let long : 0 ≡ length (spelled (y ∷ ys)) = ap (λ (bs : List ℕ). length bs) e in
    absurd (omega (arith, long, some_bytes y, length-append (encoding y) (spelled ys)))
one_row (x ∷ xs) [] h k e =
    let long : length (spelled (x ∷ xs)) ≡ 0 = ap (λ (bs : List ℕ). length bs) e in
    absurd (omega (arith, long, some_bytes x, length-append (encoding x) (spelled xs)))
one_row (x ∷ xs) (y ∷ ys) h k e =
    let first : x ≡ y = same_one x y _ _ (sym (decode_back x (spelled xs) h.0) ∙ ap decode e ∙ decode_back y (spelled ys) k.0) in
    let size : length (encoding y) ≡ length (encoding x) = ap (λ i. length (encoding i)) (sym first) in
    let others : spelled xs ≡ spelled ys = sym (drop_at (encoding x) (spelled xs) (length (encoding x)) refl) ∙ ap (λ bs. drop (length (encoding x)) bs) e ∙ drop_at (encoding y) (spelled ys) (length (encoding x)) size in
    ap (λ i. i ∷ xs) first ∙ ap (λ r. y ∷ r) (one_row xs ys h.1 k.1 others)

pub one_disassembly : (fs : List Func) (ds es : List (List Instr)) → AreDisassemblies fs ds → AreDisassemblies fs es → ds ≡ es
one_disassembly [] [] [] h k = refl
one_disassembly [] [] (e ∷ es) h k = absurd k
one_disassembly [] (d ∷ ds) es h k = absurd h
one_disassembly (f ∷ fs) [] es h k = absurd h
one_disassembly (f ∷ fs) ([] ∷ ds) es h k = absurd h
one_disassembly (f ∷ fs) ((d ∷ dr) ∷ ds) [] h k = absurd k
one_disassembly (f ∷ fs) ((d ∷ dr) ∷ ds) ([] ∷ es) h k = absurd k
one_disassembly (f ∷ fs) ((d ∷ dr) ∷ ds) ((e ∷ er) ∷ es) h k =
    let a = h.0 in
    let b = k.0 in
    let first : d ∷ dr ≡ e ∷ er = one_row (d ∷ dr) (e ∷ er) a.instructions b.instructions (a.whole ∙ sym b.whole) in
    ap (λ r. r ∷ ds) first ∙ ap (λ r. (e ∷ er) ∷ r) (one_disassembly fs ds es h.1 k.1)

-- a function is short
pub function_short : (o : Object) → AreFew o → (n : ℕ) (f : Func) → slice_get o.functions n ≡ Some f → length f.bytes ≤ 67108864
function_short o few n f e =
    let total = sum-map (λ (g : Func). length g.bytes) o.functions in
    let code : code_len o.functions ≤ 67108864 = omega (arith, few.code, total) in
    omega (arith, front_small o.functions n f e, code)

-- slots lie low
pub slot_low : (o : Object) (k : ℕ) → length o.slots ≤ 1048576 → k < length o.slots → slot_start o k + 5 < 2 ^ 64
unfolding positions
slot_low o k few lt =
    let words = keystream_word o.slot_seed slot_purpose 0 in
    let low : slice_index (positions o) k < length o.slots = shuffled_below words (length o.slots) k 0 (omega (arith, lt, shuffled_long words (length o.slots))) in
    omega (arith, few, low)
