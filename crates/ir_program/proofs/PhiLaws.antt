-- What phis take by the numbers of labels is what they take by their first entries.
use Rattle.std.proofs.Common.{◌≡◌, ℕ, ◌+◌, ◌<◌, Bool, true, false, List, [], ◌∷◌, ◌++◌, length, get_or, drop, map, fold, not, Option, Some, None, refl, ap, sym, ◌∙◌, if◌then◌else◌}
use Rattle.std.specs.Prelude.{option_map, option_and_then, slice_get, unwrap_or}
use Rattle.std.proofs.lemmas.List.{map-append, append_assoc}
use Rattle.std.proofs.lemmas.Option.{slice_get-map}
use Rattle.ir_core.specs.declared.instruction.Op.{Op}
use Rattle.ir_core.specs.declared.instruction.Op.TheVariants.{Phi as PhiOp}
use Rattle.ir_core.specs.declared.instruction.Entry.{Entry}
use Rattle.ir_core.specs.declared.instruction.Inst.{Inst}
use Rattle.ir_core.specs.declared.kind.Kind.{Kind}
use Rattle.ir_core.specs.declared.module.Module.{Module}
use Rattle.ir_core.specs.Names.{same_name, first_where}
use Rattle.ir_core.specs.Definitions.{is_among}
use Rattle.ir_core.specs.Step.{Choice, choices_of, choices_with}
use Rattle.ir_core.proofs.LookupLaws.{item_found}
use Rattle.ir_core.proofs.LoopLaws.{drop_item}
use Rattle.ir_context.specs.Registers.{number_of}
use Rattle.ir_context.specs.declared.origin.Origin.{Origin}
use Rattle.ir_context.specs.declared.origin.Origin.TheVariants.{Malformed}
use Rattle.ir_program.specs.declared.exit.Move.{Move}
use Rattle.ir_program.specs.declared.phi.Phi.{Phi}
use Rattle.ir_context.specs.Origins.{origin_of}
use Rattle.ir_program.specs.Actions.{into_of}
use Rattle.ir_program.specs.Entries.{entry_names, with_first, firsts_in}
use Rattle.ir_program.specs.Exits.{entry_origin, move_of}
use Rattle.ir_program.specs.Phis.{with_entry, phi_of, is_phi, phi_row, origin_at, phi_move}
use Rattle.ir_program.proofs.EntryLaws.{first_is}

module _ (m : Module) (names : List (List ℕ)) (kind : Kind) (into : Option ℕ) where
  -- where an entry comes from
  abbrev entry_value : Entry → Origin
  entry_value e = origin_of m names kind e.value

  -- a phi by its first entries
  abbrev by_firsts : List Entry → Phi
  by_firsts firsts = record { into = into; labels = entry_names firsts; origins = map entry_value firsts }

  -- one entry more
  one_more : (firsts : List Entry) (e : Entry) → with_entry m names kind (by_firsts firsts) e ≡ by_firsts (with_first firsts e)
  one_more firsts e = of_bool (is_among (entry_names firsts) e.from)
    where
      parts : (ls ks : List (List ℕ)) (os ps : List Origin) → ls ≡ ks → os ≡ ps → let p : Phi = record { into = into; labels = ls; origins = os } in let q : Phi = record { into = into; labels = ks; origins = ps } in p ≡ q
      parts ls ks os ps a b = cc

      of_bool : (b : Bool) → (if not b then (let p : Phi = record { into = into; labels = entry_names firsts ++ e.from ∷ []; origins = map entry_value firsts ++ entry_value e ∷ [] } in p) else by_firsts firsts) ≡ by_firsts (if b then firsts else firsts ++ e ∷ [])
      of_bool true = refl
      of_bool false = parts _ _ _ _ (sym (map-append (λ (f : Entry). f.from) firsts (e ∷ []))) (sym (map-append entry_value firsts (e ∷ [])))

  -- all of them
  pub all_more : (es firsts : List Entry) → fold (with_entry m names kind) (by_firsts firsts) es ≡ by_firsts (fold with_first firsts es)
  all_more [] firsts = refl
  all_more (e ∷ es) firsts = ap (λ p. fold (with_entry m names kind) p es) (one_more firsts e) ∙ all_more es (with_first firsts e)

  -- by a number
  at_number : (firsts : List Entry) (o : Option ℕ) → origin_at (map entry_value firsts) o ≡ entry_origin m names kind (option_and_then (slice_get firsts) o)
  at_number firsts None = refl
  at_number firsts (Some k) = ap (λ x. unwrap_or x Malformed) (slice_get-map entry_value firsts k) ∙ of_option (slice_get firsts k)
    where
      of_option : (x : Option Entry) → unwrap_or (option_map entry_value x) Malformed ≡ entry_origin m names kind x
      of_option None = refl
      of_option (Some e) = refl

  -- by a label
  pub by_label : (entries : List Entry) (from : List ℕ) → origin_at (map entry_value (firsts_in entries)) (number_of (entry_names (firsts_in entries)) from) ≡ entry_origin m names kind (first_where (λ (e : Entry). same_name e.from from) entries)
  by_label entries from =
      at_number (firsts_in entries) (number_of (entry_names (firsts_in entries)) from)
      ∙ ap (entry_origin m names kind) (item_found (λ (e : Entry). e.from) (firsts_in entries) (entry_names (firsts_in entries)) from (number_of (entry_names (firsts_in entries)) from) refl refl ∙ first_is entries from)

-- what a phi takes
pub same_move : (m : Module) (names : List (List ℕ)) (from : List ℕ) (c : Choice) → phi_move from (phi_of m names c) ≡ move_of m names from c
same_move m names from c = ap (phi_move from) (all_more m names c.kind (into_of names c.into) c.entries []) ∙ by _ _ (by_label m names c.kind (into_of names c.into) c.entries from)
  where
    by : (o p : Origin) → o ≡ p → let x : Move = record { into = into_of names c.into; origin = o } in let y : Move = record { into = into_of names c.into; origin = p } in x ≡ y
    by o p e = cc

-- an instruction that is a phi
phi_more : (m : Module) (names : List (List ℕ)) (i : Inst) (is : List Inst) → is_phi i.op ≡ true → map (phi_of m names) (choices_of (i ∷ is)) ≡ phi_row m names i.result i.op ++ map (phi_of m names) (choices_of is)
phi_more m names i is e = by i.result i.op e
  where
    by : (into : Option (List ℕ)) (op : Op) → is_phi op ≡ true → map (phi_of m names) (choices_with into op (choices_of is)) ≡ phi_row m names into op ++ map (phi_of m names) (choices_of is)
    by into (PhiOp ty given) e = refl
    by into other e = absurd (cc)

-- one that isn't adds none
row_none : (m : Module) (names : List (List ℕ)) (into : Option (List ℕ)) (op : Op) → is_phi op ≡ false → phi_row m names into op ≡ []
row_none m names into (PhiOp ty given) e = absurd (cc)
row_none m names into other e = refl

-- and is followed by none
phi_none : (m : Module) (names : List (List ℕ)) (i : Inst) (is : List Inst) → is_phi i.op ≡ false → map (phi_of m names) (choices_of (i ∷ is)) ≡ []
phi_none m names i is e = by i.result i.op e
  where
    by : (into : Option (List ℕ)) (op : Op) → is_phi op ≡ false → map (phi_of m names) (choices_with into op (choices_of is)) ≡ []
    by into (PhiOp ty given) e = absurd (cc)
    by into other e = refl

-- a loop over instructions, which goes on at a phi
pub one_phi_more : (m : Module) (names : List (List ℕ)) (insts : List Inst) (k : ℕ) (i : Inst) (more : Bool) (before after all : List Phi) → after ≡ before ++ phi_row m names i.result i.op → i ≡ get_or insts k i → k < length insts → more ≡ is_phi i.op → more ≡ true
    → before ++ map (phi_of m names) (choices_of (drop k insts)) ≡ all → after ++ map (phi_of m names) (choices_of (drop (k + 1) insts)) ≡ all
one_phi_more m names insts k i more before after all added item inside known goes so_far =
    let rest = map (phi_of m names) (choices_of (drop (k + 1) insts)) in
    ap (λ ps. ps ++ rest) added ∙ append_assoc before (phi_row m names i.result i.op) rest
    ∙ ap (λ ps. before ++ ps) (sym (phi_more m names i (drop (k + 1) insts) (sym known ∙ goes)) ∙ ap (λ is. map (phi_of m names) (choices_of is)) (sym (drop_item insts k i inside item))) ∙ so_far

-- and ends at what is none
pub no_phi_more : (m : Module) (names : List (List ℕ)) (insts : List Inst) (k : ℕ) (i : Inst) (more : Bool) (before after all : List Phi) → after ≡ before ++ phi_row m names i.result i.op → i ≡ get_or insts k i → k < length insts → more ≡ is_phi i.op → more ≡ false
    → before ++ map (phi_of m names) (choices_of (drop k insts)) ≡ all → after ≡ all
no_phi_more m names insts k i more before after all added item inside known ends so_far =
    added
    ∙ ap (λ ps. before ++ ps) (row_none m names i.result i.op (sym known ∙ ends) ∙ sym (phi_none m names i (drop (k + 1) insts) (sym known ∙ ends)) ∙ ap (λ is. map (phi_of m names) (choices_of is)) (sym (drop_item insts k i inside item))) ∙ so_far
