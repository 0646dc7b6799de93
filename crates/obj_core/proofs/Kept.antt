-- What an object without a violation has at one function and at one slot.
use Rattle.std.proofs.Common.{◌≡◌, ℕ, zero, suc, ◌+◌, ◌<◌, Bool, true, false, List, [], ◌∷◌, ◌++◌, length, Option, Some, None, refl, subst, if◌then◌else◌}
use Rattle.std.specs.Prelude.{slice_get}
use Rattle.std.proofs.lemmas.Bool.{ltb-true, and_parts}
use Rattle.x86_core.specs.declared.instr.Instr.{Instr}
use Rattle.obj_core.specs.declared.object.Object.{Object}
use Rattle.obj_core.specs.declared.object.Func.{Func}
use Rattle.obj_core.specs.declared.object.Slot.{Slot}
use Rattle.obj_core.specs.declared.object.Link.{Link}
use Rattle.obj_core.specs.Disassembly.{Found, found}
use Rattle.obj_core.specs.WellFormed.{forbidden_in, fills_zero, is_good_link, bad_links, bad_branches, open_end, is_good_slot, zero_unless, is_saved_well, agrees_with, bad_cut, OfSlot, Violation, or_else, at_least_offset, in_functions, in_slots, violation}

-- where neither of two fails, each holds
neither : (v w : Option Violation) → or_else v w ≡ None → (v ≡ None) × (w ≡ None)
neither None w h = (refl, h)
neither (Some v) w h = absurd (cc)

-- a rule that holds has no offsets where it fails
no_offset : (rule n : ℕ) (xs : List ℕ) → at_least_offset rule n xs ≡ None → xs ≡ []
no_offset rule n [] h = refl
no_offset rule n (x ∷ xs) h = absurd (cc)

-- two lists that are empty together
no_more : (xs ys : List ℕ) → xs ++ ys ≡ [] → (xs ≡ []) × (ys ≡ [])
no_more [] ys h = (refl, h)
no_more (x ∷ xs) ys h = absurd (cc)

-- a rule on functions holds of each
holds_at : (rule : ℕ) (fails : Func → List Instr → List ℕ) (n : ℕ) (fs : List Func) (disassemblies : List (List Instr)) → in_functions rule (λ m f instrs. fails f instrs) n fs disassemblies ≡ None → (k : ℕ) (f : Func) (instrs : List Instr) → slice_get fs k ≡ Some f → slice_get disassemblies k ≡ Some instrs → fails f instrs ≡ []
holds_at rule fails n [] disassemblies h k f instrs e d = absurd (cc)
holds_at rule fails n (g ∷ fs) [] h k f instrs e d = absurd (cc)
holds_at rule fails n (g ∷ fs) (c ∷ disassemblies) h zero f instrs e d =
    let here = no_offset rule n (fails g c) (neither (at_least_offset rule n (fails g c)) _ h).0 in
    let first : g ≡ f = cc in
    let second : c ≡ instrs = cc in
    subst (λ x. fails f x ≡ []) second (subst (λ x. fails x c ≡ []) first here)
holds_at rule fails n (g ∷ fs) (c ∷ disassemblies) h (suc k) f instrs e d = holds_at rule fails (n + 1) fs disassemblies (neither (at_least_offset rule n (fails g c)) _ h).1 k f instrs e d

-- a slot that passes
passes_by : (rule k : ℕ) (s : Slot) (rest : Option Violation) (t : Bool) → (if t then rest else Some (record { rule = rule; spot = OfSlot k; offset = 0 })) ≡ None → (t ≡ true) × (rest ≡ None)
passes_by rule k s rest true h = (refl, h)
passes_by rule k s rest false h = absurd (cc)

-- a rule on slots holds of each
slot_passes : (rule : ℕ) (passes : Slot → Bool) (n : ℕ) (ss : List Slot) → in_slots rule (λ m s. passes s) n ss ≡ None → (k : ℕ) (s : Slot) → slice_get ss k ≡ Some s → passes s ≡ true
slot_passes rule passes n [] h k s e = absurd (cc)
slot_passes rule passes n (t ∷ ss) h zero s e =
    let first : t ≡ s = cc in
    subst (λ x. passes x ≡ true) first (passes_by rule n t _ (passes t) h).0
slot_passes rule passes n (t ∷ ss) h (suc k) s e = slot_passes rule passes (n + 1) ss (passes_by rule n t _ (passes t) h).1 k s e

-- an empty list by a test has no element by it
pub one_empty : (t : Bool) (n : ℕ) (xs ys : List ℕ) → (if t then n ∷ xs else ys) ≡ [] → (t ≡ false) × (ys ≡ [])
one_empty true n xs ys h = absurd (cc)
one_empty false n xs ys h = (refl, h)

-- the same with the answers exchanged
pub other_empty : (t : Bool) (n : ℕ) (xs ys : List ℕ) → (if t then ys else n ∷ xs) ≡ [] → (t ≡ true) × (ys ≡ [])
other_empty true n xs ys h = (refl, h)
other_empty false n xs ys h = absurd (cc)

-- a link that is good: it fills a branch, and its slot exists
pub good_parts : (before : Option ℕ) (xs : List Found) (slots : ℕ) (l : Link) → is_good_link before xs slots l ≡ true → (fills_zero xs l.at ≡ true) × (l.slot < slots)
good_parts None xs slots l e = let h = and_parts _ _ e in (h.0, ltb-true l.slot slots h.1)
good_parts (Some b) xs slots l e = let h = and_parts _ _ (and_parts _ _ e).1 in (h.0, ltb-true l.slot slots h.1)

-- the first of some links, and the others
pub good_first : (before : Option ℕ) (xs : List Found) (slots : ℕ) (l : Link) (ls : List Link) → bad_links before xs slots (l ∷ ls) ≡ [] → (is_good_link before xs slots l ≡ true) × (bad_links (Some l.at) xs slots ls ≡ [])
good_first before xs slots l ls e = other_empty (is_good_link before xs slots l) l.at _ _ e

-- the rules on one function
pub record KeepsRules (slots : ℕ) (f : Func) (instrs : List Instr) : Type 0 where
  pub own : forbidden_in (found instrs) ≡ []
  pub links : bad_links None (found instrs) slots f.links ≡ []
  pub branches : bad_branches f.links (found instrs) (found instrs) ≡ []
  pub ends : open_end (found instrs) ≡ []
  pub cuts : bad_cut 0 (found instrs) f.cuts ≡ []

module _ (o : Object) (disassemblies : List (List Instr)) (kept : violation o disassemblies ≡ None) where
  pub function_keeps : (n : ℕ) (f : Func) (instrs : List Instr) → slice_get o.functions n ≡ Some f → slice_get disassemblies n ≡ Some instrs → KeepsRules (length o.slots) f instrs
  function_keeps n f instrs e d =
      let x = neither (in_functions 3 (λ m g c. forbidden_in (found c)) 0 o.functions disassemblies) _ kept in
      let y = neither (in_functions 4 (λ m g c. bad_links None (found c) (length o.slots) g.links ++ bad_branches g.links (found c) (found c)) 0 o.functions disassemblies) _ x.1 in
      let z = neither (in_functions 5 (λ m g c. open_end (found c)) 0 o.functions disassemblies) _ y.1 in
      let w = neither (in_slots 6 (λ m s. is_good_slot disassemblies s) 0 o.slots) _ z.1 in
      let v = neither (in_slots 7 agrees_with 0 o.slots) _ w.1 in
      let t = neither (in_functions 8 (λ m g c. zero_unless (is_saved_well o.reg_seed m g c)) 0 o.functions disassemblies) _ v.1 in
      let both = no_more _ _ (holds_at 4 (λ g c. bad_links None (found c) (length o.slots) g.links ++ bad_branches g.links (found c) (found c)) 0 o.functions disassemblies y.0 n f instrs e d) in
      record {
        own = holds_at 3 (λ g c. forbidden_in (found c)) 0 o.functions disassemblies x.0 n f instrs e d;
        links = both.0;
        branches = both.1;
        ends = holds_at 5 (λ g c. open_end (found c)) 0 o.functions disassemblies z.0 n f instrs e d;
        cuts = holds_at 9 (λ g c. bad_cut 0 (found c) g.cuts) 0 o.functions disassemblies t.1 n f instrs e d;
      }

  pub slot_keeps : (k : ℕ) (s : Slot) → slice_get o.slots k ≡ Some s → is_good_slot disassemblies s ≡ true
  slot_keeps k s e =
      let x = neither (in_functions 3 (λ m g c. forbidden_in (found c)) 0 o.functions disassemblies) _ kept in
      let y = neither (in_functions 4 (λ m g c. bad_links None (found c) (length o.slots) g.links ++ bad_branches g.links (found c) (found c)) 0 o.functions disassemblies) _ x.1 in
      let z = neither (in_functions 5 (λ m g c. open_end (found c)) 0 o.functions disassemblies) _ y.1 in
      let w = neither (in_slots 6 (λ m t. is_good_slot disassemblies t) 0 o.slots) _ z.1 in
      slot_passes 6 (is_good_slot disassemblies) 0 o.slots w.0 k s e
