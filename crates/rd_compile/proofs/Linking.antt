-- Functions of a program with the routines behind them are linked to the slots of a plan: each slot that comes back by one jump.
use Rattle.std.proofs.Common.{◌≡◌, ℕ, zero, suc, ◌+◌, ◌-◌, ◌<◌, ◌≤◌, ◌^◌, inl, inr, Bool, true, false, ◌&&◌, nat_le, nat_lt}
use Rattle.std.proofs.Common.{if◌then◌else◌, List, [], ◌∷◌, ◌++◌, length, take, Option, Some, None, slice_get, refl, ap, sym, subst, ◌∙◌, arith, length-append}
use Rattle.std.specs.List.{sum_by}
use Rattle.std.proofs.lemmas.Bool.{le-leb, lt-ltb, le-ltb, lt-leb, ltb-true, and_parts}
use Rattle.ir_core.specs.declared.limit.TheConstants.{MAX_CODE}
use Rattle.low_core.specs.declared.sel.SelFun.{SelFun}
use Rattle.low_core.specs.declared.sel.Sel.{Sel}
use Rattle.low_core.specs.SelShaped.{IsFunShaped}
use Rattle.low_core.specs.SelWeights.{sel_function_weight}
use Rattle.obj_core.specs.declared.object.Func.{Func}
use Rattle.obj_core.specs.declared.object.Link.{Link}
use Rattle.obj_core.specs.declared.plan.Site.{Site}
use Rattle.obj_core.specs.declared.plan.Slot0.{Slot0}
use Rattle.obj_core.specs.Disassembly.{Found, found, size_of}
use Rattle.obj_core.specs.Object.{Each}
use Rattle.obj_core.specs.Slots.{push_purpose}
use Rattle.obj_core.specs.WellFormed.{bad_links, is_good_link, fills_zero}
use Rattle.obj_rows.specs.Assembled.{most_cuts, with_first_cuts, ends_from, site_of}
use Rattle.obj_rows.specs.Marked.{Marked, link_ending, links_from, row_size}
use Rattle.obj_rows.specs.Sound.{IsSoundFunction}
use Rattle.slot_plan.specs.Slots.{slots_of, routine_slots}
use Rattle.rt_routines.specs.Code.{routines_of}
use Rattle.rt_routines.proofs.Planned.{pointers_are, are_sound, link_once, links_end, six}
use Rattle.rt_routines.proofs.Sites.{own_or_before}
use Rattle.obj_assemble.specs.Linked.{IsLinkTo, AreLinked}
use Rattle.frame_lower.specs.Blocks.{calls_of_blocks}
use Rattle.frame_lower.specs.Chain.{first_slot}
use Rattle.frame_lower.specs.Functions.{Choices, function_row, making_of, saved_function, lowered}
use Rattle.frame_lower.specs.Given.{AreChosen, calls_of_functions}
use Rattle.frame_lower.proofs.Chosen.{made, whole, five_long}
use Rattle.frame_lower.proofs.Keeping.{KeepsRules}
use Rattle.frame_lower.proofs.LinkedOnce.{lowered_long, linked_once, lowered_there}
use Rattle.frame_lower.proofs.Members.{ends_append, ends_uncut}
use Rattle.frame_lower.proofs.Programs.{calls_more}
use Rattle.frame_lower.proofs.Ranged.{each_append}
use Rattle.frame_lower.proofs.RowKeeps.{cut_function, function_keeps}
use Rattle.frame_lower.proofs.Sizes.{function_light}
use Rattle.frame_lower.proofs.Suited.{all_there}
use Rattle.frame_lower.proofs.Totals.{first_cuts_long}
use Rattle.slot_plan.proofs.Bounds.{slots_long}
use Rattle.std.proofs.lemmas.List.Sums.{sum_by-cons}

-- good links are to slots that there are
good_links : (before : Option ℕ) (xs : List Found) (slots : ℕ) (ls : List Link) → bad_links before xs slots ls ≡ [] → Each (λ (l : Link). l.slot < slots) ls
good_links before xs slots [] e = tt
good_links before xs slots (l ∷ ls) e = by (is_good_link before xs slots l) refl e (λ f. good_links (Some l.at) xs slots ls f)
  where
    slot : (b : Option ℕ) → is_good_link b xs slots l ≡ true → l.slot < slots
    slot None good = ltb-true l.slot slots ((and_parts (fills_zero xs l.at) (nat_lt l.slot slots) good).1)
    slot (Some k) good =
        ltb-true l.slot slots ((and_parts (fills_zero xs l.at) (nat_lt l.slot slots) ((and_parts (nat_lt k l.at) (fills_zero xs l.at && nat_lt l.slot slots) good).1)).1)

    by : (b : Bool) → is_good_link before xs slots l ≡ b → (if b then bad_links (Some l.at) xs slots ls else l.at ∷ bad_links (Some l.at) xs slots ls) ≡ []
        → (bad_links (Some l.at) xs slots ls ≡ [] → Each (λ (m : Link). m.slot < slots) ls) → (l.slot < slots) × Each (λ (m : Link). m.slot < slots) ls
    by true good f rest = (slot before good, rest f)
    by false good f rest = absurd cc

-- links of a row end in it
ends_low : (off most : ℕ) (row : List Marked) → off + row_size row ≤ most → Each (λ (l : Link). l.at ≤ most) (links_from off row)
ends_low off most [] low = tt
ends_low off most (x ∷ xs) low =
    each_append (λ (l : Link). l.at ≤ most) (link_ending x.slot (off + size_of x.instr)) (links_from (off + size_of x.instr) xs)
    (one x.slot) (ends_low (off + size_of x.instr) most xs (omega (arith, low)))
  where
    one : (slot : Option ℕ) → Each (λ (l : Link). l.at ≤ most) (link_ending slot (off + size_of x.instr))
    one None = tt
    one (Some k) = ((omega (arith, low)), tt)

both_hold : (slots : ℕ) (ls : List Link) → Each (λ (l : Link). l.slot < slots) ls → Each (λ (l : Link). l.at + 4 < 2 ^ 32) ls → Each (IsLinkTo slots) ls
both_hold slots [] a b = tt
both_hold slots (l ∷ ls) a b = ((a.0, b.0), both_hold slots ls a.1 b.1)

weaker : (ls : List Link) (most : ℕ) → most ≤ 67108864 → Each (λ (l : Link). l.at ≤ most) ls → Each (λ (l : Link). l.at + 4 < 2 ^ 32) ls
weaker [] most small h = tt
weaker (l ∷ ls) most small h = (let low = h.0 in (omega (arith, low, small)), weaker ls most small h.1)

-- what holds of each function by its number holds of all
pub each_there : (P : Func → Type 0) (xs : List SelFun) (fs : List Func) → length fs ≡ length xs → ((g : ℕ) (x : SelFun) → slice_get xs g ≡ Some x → (f : Func) × (slice_get fs g ≡ Some f) × P f) → Each P fs
each_there P xs [] long each = tt
each_there P [] (f ∷ fs) long each = absurd (omega (arith, long))
each_there P (x ∷ xs) (f ∷ fs) long each =
    let first = each 0 x refl in
    let same : f ≡ first.0 = some_same f first.0 first.1 in
    (subst P (sym same) first.2, each_there P xs fs (omega (arith, long)) (λ g y there. each (suc g) y there))
  where
    some_same : (a b : Func) → let o : Option Func = Some a in o ≡ Some b → a ≡ b
    some_same a b e = cc

-- cuts change no links
links_kept : (Q : Link → Type 0) (count : ℕ) (fs : List Func) → Each (λ (f : Func). Each Q f.links) fs → Each (λ (f : Func). Each Q f.links) (with_first_cuts count fs)
links_kept Q count [] h = tt
links_kept Q count (f ∷ fs) h = (h.0, links_kept Q (count - length f.cuts) fs h.1)

sound_links : (slots : ℕ) (fs : List Func) → Each (IsSoundFunction slots) fs → Each (λ (f : Func). Each (λ (l : Link). l.at + 4 < 2 ^ 32) f.links) fs → Each (λ (f : Func). Each (IsLinkTo slots) f.links) fs
sound_links slots [] h ends = tt
sound_links slots (f ∷ fs) h ends = (both_hold slots f.links (good_links None _ slots f.links h.0.links) ends.0, sound_links slots fs h.1 ends.1)

-- one function of a program weighs no more than all, and has no more calls
pub one_weighs : (fs : List SelFun) (g : ℕ) (f : SelFun) → slice_get fs g ≡ Some f → sel_function_weight f ≤ sum_by sel_function_weight fs
one_weighs [] g f there = absurd cc
one_weighs (h ∷ fs) zero f there = let same = ap sel_function_weight (let e : h ≡ f = cc in e) in let sum = sum_by-cons sel_function_weight h fs in omega (arith, same, sum)
one_weighs (h ∷ fs) (suc g) f there = let r = one_weighs fs g f there in let sum = sum_by-cons sel_function_weight h fs in omega (arith, r, sum)

pub one_calls : (fs : List SelFun) (g : ℕ) (f : SelFun) → slice_get fs g ≡ Some f → calls_of_functions (take g fs) + calls_of_blocks f.blocks ≤ calls_of_functions fs
one_calls [] g f there = absurd cc
one_calls (h ∷ fs) zero f there = let same = ap (λ (x : SelFun). calls_of_blocks x.blocks) (let e : h ≡ f = cc in e) in let sum = calls_more h fs in omega (arith, same, sum)
one_calls (h ∷ fs) (suc g) f there = let r = one_calls fs g f there in let sum = calls_more h fs in let front = calls_more h (take g fs) in omega (arith, r, sum, front)

-- the sites of the routines' slots are in the six functions behind those of the program
routine_sites : (count main k : ℕ) (slot : Slot0) (site : Site) → slice_get (routine_slots count main) k ≡ Some slot → site_of slot ≡ Some site → (count ≤ site.function) × (site.function < count + 6)
routine_sites count main k slot site there has = by k there
  where
    some_same : (a b : Site) → let o : Option Site = Some a in o ≡ Some b → a ≡ b
    some_same a b e = cc

    at : (s : Slot0) (own : Site) → site_of s ≡ Some own → count ≤ own.function → own.function < count + 6 → s ≡ slot → (count ≤ site.function) × (site.function < count + 6)
    at s own its low high same =
        let both : Some own ≡ Some site = sym its ∙ ap site_of same ∙ has in
        let is = ap (λ (x : Site). x.function) (some_same own site both) in
        (omega (arith, low, is), omega (arith, high, is))

    by : (k : ℕ) → slice_get (routine_slots count main) k ≡ Some slot → (count ≤ site.function) × (site.function < count + 6)
    by zero e = at (Slot0.Call main (record { function = count; number = 0 })) (record { function = count; number = 0 }) refl (omega arith) (omega arith) cc
    by (suc zero) e = at (Slot0.System (record { function = count; number = 1 })) (record { function = count; number = 1 }) refl (omega arith) (omega arith) cc
    by (suc (suc zero)) e = at (Slot0.System (record { function = count + 1; number = 0 })) (record { function = count + 1; number = 0 }) refl (omega arith) (omega arith) cc
    by (suc (suc (suc zero))) e = at (Slot0.System (record { function = count + 2; number = 0 })) (record { function = count + 2; number = 0 }) refl (omega arith) (omega arith) cc
    by (suc (suc (suc (suc zero)))) e = at (Slot0.System (record { function = count + 3; number = 0 })) (record { function = count + 3; number = 0 }) refl (omega arith) (omega arith) cc
    by (suc (suc (suc (suc (suc k))))) e = absurd cc

-- a test whether a number is in a range
in_range : (low high n : ℕ) → low ≤ n → n < high → (nat_le low n && nat_lt n high) ≡ true
in_range low high n a b = ap (λ x. x && nat_lt n high) (le-leb low n a) ∙ lt-ltb n high b

behind_range : (low high n : ℕ) → high ≤ n → (nat_le low n && nat_lt n high) ≡ false
behind_range low high n b = by (nat_le low n)
  where
    by : (x : Bool) → (x && nat_lt n high) ≡ false
    by true = le-ltb n high b
    by false = refl

before_range : (low high n : ℕ) → n < low → (nat_le low n && nat_lt n high) ≡ false
before_range low high n a = ap (λ x. x && nat_lt n high) (lt-leb low n a)

counted : (xs : ℕ) (b c : Bool) → xs ≡ (if b then 1 else 0) → b ≡ c → xs ≡ (if c then 1 else 0)
counted xs b c e same = e ∙ ap (λ x. if x then 1 else 0) same

module _ (c : Choices) (sel : Sel) (slot_seed : ℕ) (chosen : AreChosen c sel slot_seed) where
  -- the links of a function
  function_links : (g : ℕ) (f : SelFun) → slice_get sel.functions g ≡ Some f → Each (IsLinkTo (length (slots_of sel))) (saved_function (function_row (making_of c g f) (first_slot sel g) f)).links
  function_links g f there =
      let shaped = all_there (IsFunShaped sel) sel.functions g f chosen.shaped.functions there in
      let weighs = chosen.shaped.weighs in
      let one = one_weighs sel.functions g f there in
      let light : sel_function_weight f ≤ MAX_CODE = omega (arith, weighs, one) in
      let calls = one_calls sel.functions g f there in
      let all = slots_long sel in
      let w = whole c sel slot_seed chosen g f (first_slot sel g) there shaped light (omega (arith, calls, all)) in
      let keeps : KeepsRules c.reg_seed (length (slots_of sel)) g (cut_function 0 (function_row (making_of c g f) (first_slot sel g) f)) =
      function_keeps (made c sel slot_seed chosen g f) c.reg_seed g (length (slots_of sel)) (first_slot sel g) 0 f w in
      let row = function_row (making_of c g f) (first_slot sel g) f in
      let five = five_long c.reg_seed push_purpose g in
      let params = shaped.few in
      let size : row_size row ≤ sel_function_weight f = function_light (making_of c g f) (omega (arith, five)) (first_slot sel g) f (omega (arith, params)) in
      let limit : MAX_CODE ≡ 67108864 = refl in
      both_hold (length (slots_of sel)) (links_from 0 row) (good_links None (found (keeps.first ∷ keeps.others)) (length (slots_of sel)) (links_from 0 row) keeps.links)
      (weaker (links_from 0 row) (row_size row) (omega (arith, size, light, limit)) (ends_low 0 (row_size row) row (omega arith)))

  program_links : Each (λ (f : Func). Each (IsLinkTo (length (slots_of sel))) f.links) (lowered c sel)
  program_links =
      each_there (λ (f : Func). Each (IsLinkTo (length (slots_of sel))) f.links) sel.functions (lowered c sel) (lowered_long c sel)
      (λ g f there. (saved_function (function_row (making_of c g f) (first_slot sel g) f), lowered_there c sel g f there, function_links g f there))

  abbrev functions : List Func
  functions = with_first_cuts most_cuts (lowered c sel)

  functions_long : length functions ≡ length sel.functions
  functions_long = first_cuts_long most_cuts (lowered c sel) ∙ lowered_long c sel

  slots_are : length c.slots.slots ≡ length (slots_of sel)
  slots_are = ap (λ (ss : List Slot0). length ss) chosen.plan.slots

  -- each slot that comes back is linked once
  linked : (k : ℕ) (slot : Slot0) (site : Site) → slice_get c.slots.slots k ≡ Some slot → site_of slot ≡ Some site → length (ends_from k 0 (functions ++ routines_of c.slots)) ≡ 1
  linked k slot site there has =
      let planned : slice_get (slots_of sel) k ≡ Some slot = ap (λ (ss : List Slot0). slice_get ss k) (sym chosen.plan.slots) ∙ there in
      let count : ℕ = length sel.functions in
      let routines = routines_of c.slots in
      let pointers : length c.slots.pointers ≡ length sel.functions = pointers_are sel chosen.shaped slot_seed c.slots chosen.plan in
      let many = functions_long in
      let are : 0 + length functions ≡ length c.slots.pointers = omega (arith, pointers, many) in
      let whole_long : length (lowered c sel) ≡ length sel.functions = lowered_long c sel in
      let both : length (ends_from k 0 (functions ++ routines)) ≡ length (ends_from k 0 (lowered c sel)) + length (ends_from k (length c.slots.pointers) routines) =
      ap length (ends_append k 0 functions routines) ∙ length-append (ends_from k 0 functions) (ends_from k (0 + length functions) routines)
      ∙ ap (λ n. length (ends_from k 0 functions) + length (ends_from k n routines)) are ∙ ap (λ l. length l + length (ends_from k (length c.slots.pointers) routines)) (ends_uncut most_cuts k 0 (lowered c sel)) in
      let first = linked_once c sel k slot site planned has in
      let second = link_once sel chosen.shaped slot_seed c.slots chosen.plan k slot site there has in
      let six_long = six c.slots in
      elim (own_or_before sel k slot site planned has) [
        | inl before ↦
            let low = before.1 in
            let a : length (ends_from k 0 (lowered c sel)) ≡ 1 = counted _ _ true first (in_range 0 (0 + length (lowered c sel)) site.function (omega arith) (omega (arith, low, whole_long))) in
            let b : length (ends_from k (length c.slots.pointers) routines) ≡ 0 = counted _ _ false second (before_range (length c.slots.pointers) (length c.slots.pointers + length routines) site.function (omega (arith, low, pointers))) in
            omega (arith, both, a, b)
        | inr own ↦
            let at = routine_sites count sel.main own.0 slot site own.2 has in
            let low = at.0 in
            let high = at.1 in
            let a : length (ends_from k 0 (lowered c sel)) ≡ 0 = counted _ _ false first (behind_range 0 (0 + length (lowered c sel)) site.function (omega (arith, low, whole_long))) in
            let b : length (ends_from k (length c.slots.pointers) routines) ≡ 1 =
            counted _ _ true second (in_range (length c.slots.pointers) (length c.slots.pointers + length routines) site.function (omega (arith, low, pointers)) (omega (arith, high, pointers, six_long))) in
            omega (arith, both, a, b)
      ]

  pub are_linked : AreLinked (functions ++ routines_of c.slots) c.slots.slots
  are_linked = record {
    inside = each_append (λ (f : Func). Each (IsLinkTo (length c.slots.slots)) f.links) functions (routines_of c.slots)
        (subst (λ n. Each (λ (f : Func). Each (IsLinkTo n) f.links) functions) (sym slots_are) (links_kept (IsLinkTo (length (slots_of sel))) most_cuts (lowered c sel) program_links))
        (sound_links (length c.slots.slots) (routines_of c.slots) (are_sound sel chosen.shaped slot_seed c.slots chosen.plan).each (links_end c.slots));
    once = linked;
  }

  pub few_functions : length functions + length (routines_of c.slots) < 2 ^ 32
  few_functions = let many = functions_long in let six_long = six c.slots in let few = chosen.shaped.few in omega (arith, many, six_long, few)
