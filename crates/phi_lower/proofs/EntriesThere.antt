-- Each phi of a typed module has an entry for each edge to its block; so the module without phis is light.
use Rattle.std.proofs.Common.{◌≡◌, ℕ, zero, suc, Bool, true, false, List, [], ◌∷◌, ◌++◌, map, fold, Option, Some, None, refl, ap, sym, ◌∙◌, subst}
use Rattle.std.specs.Prelude.{◌||◌, slice_get, if◌then◌else◌}
use Rattle.std.specs.List.{list_all, list_any, filter}
use Rattle.std.proofs.lemmas.Bool.{and_parts}
use Rattle.ir_core.specs.declared.instruction.Entry.{Entry}
use Rattle.ir_core.specs.declared.instruction.Inst.{Inst}
use Rattle.ir_core.specs.declared.instruction.Op.{Op}
use Rattle.ir_core.specs.declared.instruction.Op.TheVariants.{Phi}
use Rattle.ir_core.specs.declared.module.Block.{Block}
use Rattle.ir_core.specs.declared.module.Function.{Function}
use Rattle.ir_core.specs.declared.module.Module.{Module}
use Rattle.ir_core.specs.Names.{same_name}
use Rattle.ir_core.specs.Definitions.{is_among}
use Rattle.ir_core.specs.Typing.{labels_of}
use Rattle.ir_core.specs.Valid.{leads_to, predecessors, entries_fit, is_phi, env_of}
use Rattle.ir_core.proofs.NameSets.{same_name-sym}
use Rattle.ir_sound.specs.Typed.{no_phi, phi_typed, phis_typed, functions_typed}
use Rattle.ir_sound.proofs.SameLaws.{not_true, name_is, same_itself, some_is, none_is}
use Rattle.ir_sound.proofs.RowLaws.{found_any, first_passes}
use Rattle.ir_sound.proofs.Parts.{function_at, block_at}
use Rattle.phi_lower.specs.Lowered.{PhiPart, phis_of, phis_with, phis_in, block_of_label, targets_of, with_name}
use Rattle.phi_lower.proofs.Finds.{any_append, or_left, or_right, numbered}
use Rattle.phi_lower.proofs.WeightLaws.{HasEntry, EntriesThere}

-- an item of a list is among it
at_among : (names : List (List ℕ)) (j : ℕ) (t : List ℕ) → slice_get names j ≡ Some t → is_among names t ≡ true
at_among [] j t at = none_is t at
at_among (n ∷ ns) zero t at = or_left _ _ (ap (same_name t) (some_is n t at) ∙ same_itself t)
at_among (n ∷ ns) (suc j) t at = or_right _ _ (at_among ns j t at)

-- a target is one of the labels
with_back : (names : List (List ℕ)) (n t : List ℕ) → is_among (with_name names n) t ≡ true → (is_among names t || same_name t n) ≡ true
with_back names n t e = by_test (is_among names n) e
  where
    ends : (a b : Bool) → (a || (b || false)) ≡ true → (a || b) ≡ true
    ends true b f = refl
    ends false true f = refl
    ends false false f = f

    by_test : (b : Bool) → is_among (if b then names else names ++ n ∷ []) t ≡ true → (is_among names t || same_name t n) ≡ true
    by_test true f = or_left _ _ f
    by_test false f = ends (is_among names t) (same_name t n) (sym (any_append (same_name t) names (n ∷ [])) ∙ f)

among_back : (more names : List (List ℕ)) (t : List ℕ) → is_among (fold with_name names more) t ≡ true → (is_among names t || is_among more t) ≡ true
among_back [] names t e = or_left _ _ e
among_back (n ∷ more) names t e = by_test (is_among (with_name names n) t) refl (among_back more (with_name names n) t e)
  where
    grouped : (a b c : Bool) → (a || b) ≡ true → (a || (b || c)) ≡ true
    grouped true b c f = refl
    grouped false true c f = refl
    grouped false false c f = not_true f

    later : (a b c : Bool) → c ≡ true → (a || (b || c)) ≡ true
    later true b c f = refl
    later false true c f = refl
    later false false c f = f

    by_test : (b : Bool) → is_among (with_name names n) t ≡ b → (b || is_among more t) ≡ true → (is_among names t || (same_name t n || is_among more t)) ≡ true
    by_test true f g = grouped (is_among names t) (same_name t n) (is_among more t) (with_back names n t f)
    by_test false f g = later (is_among names t) (same_name t n) (is_among more t) g

-- the other way around
any_sym : (names : List (List ℕ)) (t : List ℕ) → list_any (λ to. same_name to t) names ≡ is_among names t
any_sym [] t = refl
any_sym (n ∷ ns) t = ap (λ b. b || list_any (λ to. same_name to t) ns) (same_name-sym n t) ∙ ap (λ b. same_name t n || b) (any_sym ns t)

-- a block that leads to a label is one of its predecessors
of_predecessors : (P : List ℕ → Bool) (leads : Block → Bool) (blocks : List Block) (k : ℕ) (b : Block) → list_all P (map (λ (p : Block). p.label) (filter leads blocks)) ≡ true → slice_get blocks k ≡ Some b → leads b ≡ true → P b.label ≡ true
of_predecessors P leads [] k b all at e = none_is b at
of_predecessors P leads (c ∷ cs) zero b all at e =
    let same = some_is c b at in
    subst (λ (x : Block). P x.label ≡ true) same (by_test (leads c) (ap leads same ∙ e) all)
  where
    by_test : (t : Bool) → t ≡ true → list_all P (map (λ (p : Block). p.label) (if t then c ∷ filter leads cs else filter leads cs)) ≡ true → P c.label ≡ true
    by_test true f g = (and_parts (P c.label) (list_all P (map (λ (p : Block). p.label) (filter leads cs))) g).0
    by_test false f g = not_true f
of_predecessors P leads (c ∷ cs) (suc k) b all at e = of_predecessors P leads cs k b (by_test (leads c) all) at e
  where
    by_test : (t : Bool) → list_all P (map (λ (p : Block). p.label) (if t then c ∷ filter leads cs else filter leads cs)) ≡ true → list_all P (map (λ (p : Block). p.label) (filter leads cs)) ≡ true
    by_test true g = (and_parts (P c.label) (list_all P (map (λ (p : Block). p.label) (filter leads cs))) g).1
    by_test false g = g

-- phis of a typed block
phi_with : (from : List (List ℕ)) (i : Inst) (op : Op) (is : List Inst) (k : ℕ) (p : PhiPart) → i.op ≡ op → phis_typed from (i ∷ is) ≡ true → (phis_typed from is ≡ true → (j : ℕ) → slice_get (phis_of is) j ≡ Some p → entries_fit from p.entries ≡ true) → slice_get (phis_with i.result op (phis_of is)) k ≡ Some p → entries_fit from p.entries ≡ true
phi_with from i (Phi ty entries) is zero p e typed go at =
    let one = and_parts (phi_typed from i.op) (if is_phi i.op then phis_typed from is else no_phi is) typed in
    ap (λ (q : PhiPart). entries_fit from q.entries) (sym (some_is (record { into = i.result; ty = ty; entries = entries }) p at)) ∙ ap (phi_typed from) (sym e) ∙ one.0
phi_with from i (Phi ty entries) is (suc k) p e typed go at =
    let one = and_parts (phi_typed from i.op) (if is_phi i.op then phis_typed from is else no_phi is) typed in
    go (ap (λ o. if is_phi o then phis_typed from is else no_phi is) (sym e) ∙ one.1) k at
phi_with from i op is k p e typed go at = none_is p at

phi_fits : (from : List (List ℕ)) (is : List Inst) (k : ℕ) (p : PhiPart) → phis_typed from is ≡ true → slice_get (phis_of is) k ≡ Some p → entries_fit from p.entries ≡ true
phi_fits from [] k p typed at = none_is p at
phi_fits from (i ∷ is) k p typed at = phi_with from i i.op is k p refl typed (λ t j a. phi_fits from is j p t a) at

-- an entry for each edge
pub entries_there : (m : Module) (typed : functions_typed m m.functions ≡ true) (number : ℕ) (f : Function) → slice_get m.functions number ≡ Some f → (k : ℕ) (b : Block) → slice_get f.blocks k ≡ Some b → EntriesThere f.blocks b
entries_there m typed number f at_function k b at_block j t at_target place p at_phi = of_block (block_of_label f.blocks t) refl at_phi
  where
    labels : is_among (labels_of b.end) t ≡ true
    labels = among_back (labels_of b.end) [] t (at_among (targets_of b.end) j t at_target)

    of_block : (o : Option Block) → block_of_label f.blocks t ≡ o → slice_get (phis_in o) place ≡ Some p → HasEntry b.label p
    of_block None e at = none_is p at
    of_block (Some c) e at =
        let n = numbered (λ (x : Block). same_name x.label t) f.blocks c e in
        let g = found_any (λ (x : Block). same_name x.label t) f.blocks (first_passes (λ (x : Block). same_name x.label t) f.blocks c e) in
        let named : c.label ≡ t = ap (λ (x : Block). x.label) (some_is c g.item (sym e ∙ g.first)) ∙ name_is g.item.label t g.passes in
        let parts = block_at m (env_of f) f n.number c (function_at m number f typed at_function).blocks n.at_number in
        let fits = phi_fits (predecessors f.blocks c.label) c.insts place p parts.phis at in
        let all = (and_parts (list_all (λ (l : List ℕ). list_any (λ (x : Entry). same_name x.from l) p.entries) (predecessors f.blocks c.label)) (list_all (λ (x : Entry). is_among (predecessors f.blocks c.label) x.from) p.entries) fits).0 in
        let leads : leads_to c.label b ≡ true = any_sym (labels_of b.end) c.label ∙ ap (is_among (labels_of b.end)) named ∙ labels in
        let there = of_predecessors (λ (l : List ℕ). list_any (λ (x : Entry). same_name x.from l) p.entries) (leads_to c.label) f.blocks k b all at_block leads in
        let entry = found_any (λ (x : Entry). same_name x.from b.label) p.entries there in
        (entry.item, entry.first)
