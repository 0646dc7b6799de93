-- What a function without faults has by its edges: labels that are known, and an entry block to which none goes.
use Rattle.std.proofs.Common.{◌≡◌, ℕ, suc, Bool, true, false, List, [], ◌∷◌, ◌++◌, map, take, Some, refl, ap, sym, ◌∙◌}
use Rattle.std.specs.Prelude.{◌&&◌, ◌||◌, not, slice_get, if◌then◌else◌}
use Rattle.std.specs.List.{list_all, list_any, filter, flat_map}
use Rattle.std.proofs.lemmas.Bool.{and_parts, and_from}
use Rattle.ir_core.specs.declared.instruction.Op.{Op}
use Rattle.ir_core.specs.declared.instruction.Op.TheVariants.{Phi}
use Rattle.ir_core.specs.declared.instruction.Case.{Case}
use Rattle.ir_core.specs.declared.instruction.Inst.{Inst}
use Rattle.ir_core.specs.declared.instruction.Term.{Term}
use Rattle.ir_core.specs.declared.instruction.Term.TheVariants.{Ret, RetValue, Br, BrIf, Switch, Unreachable}
use Rattle.ir_core.specs.declared.module.Block.{Block}
use Rattle.ir_core.specs.declared.module.Param.{Param}
use Rattle.ir_core.specs.declared.module.Function.{Function}
use Rattle.ir_core.specs.declared.module.Module.{Module}
use Rattle.ir_core.specs.Names.{same_name}
use Rattle.ir_core.specs.Mentions.{Mention, OfType, OfLabel, of_operand, of_typed, of_op, of_cases, of_end, of_block, of_function}
use Rattle.ir_core.specs.Definitions.{local_mark, label_names, is_among}
use Rattle.ir_core.specs.Typing.{labels_of}
use Rattle.ir_core.specs.Built.{op_built, result_named, inst_built, type_built}
use Rattle.ir_core.specs.Valid.{leads_to, predecessors, entries_fit, entries_agree, is_phi, phi_fits}
use Rattle.ir_core.specs.Refusals.{inside, unless_among, unknown_in}
use Rattle.ir_sound.specs.WellTyped.{Each}
use Rattle.ir_sound.specs.Typed.{has_label, no_phi, phi_typed, phis_typed, labels_known}
use Rattle.ir_sound.proofs.NoFaults.{each_empty, not_empty}
use Rattle.ir_sound.proofs.RowLaws.{Each_parts, Each_rows, all_at, all_from}
use Rattle.ir_sound.proofs.SameLaws.{name_is, not_true, same_itself}

-- a mention of what a function has
abbrev IsKnown : Module → Function → Mention → Type 0
IsKnown m f mention = unknown_in m (inside f) mention ≡ []

-- a name that is missed nowhere is there
among : (names : List (List ℕ)) (name : List ℕ) → unless_among names name (local_mark name) ≡ [] → is_among names name ≡ true
among names name e = by_test (is_among names name) e
  where
    by_test : (b : Bool) → (if b then [] else local_mark name ∷ []) ≡ [] → b ≡ true
    by_test true f = refl
    by_test false f = not_empty (local_mark name) [] f

-- a label among those of blocks is that of one
label_there : (blocks : List Block) (label : List ℕ) → is_among (map (λ (b : Block). b.label) blocks) label ≡ true → list_any (has_label label) blocks ≡ true
label_there [] label e = e
label_there (b ∷ bs) label e = by_test (same_name label b.label) refl e (label_there bs label)
  where
    by_test : (c : Bool) → same_name label b.label ≡ c → (c || is_among (map (λ (q : Block). q.label) bs) label) ≡ true → (is_among (map (λ (q : Block). q.label) bs) label ≡ true → list_any (has_label label) bs ≡ true) → list_any (has_label label) (b ∷ bs) ≡ true
    by_test true f g go = ap (λ c. c || list_any (has_label label) bs) (ap (λ n. same_name n label) (sym (name_is label b.label f)) ∙ same_itself label)
    by_test false f g go = or_second (same_name b.label label) (list_any (has_label label) bs) (go g)
      where
        or_second : (p q : Bool) → q ≡ true → (p || q) ≡ true
        or_second true q h = refl
        or_second false q h = h

-- a label that is mentioned
label_known : (m : Module) (f : Function) (label : List ℕ) → IsKnown m f (OfLabel label) → list_any (has_label label) f.blocks ≡ true
label_known m f label e = label_there f.blocks label (among (label_names f) label e)

-- labels of cases
cases_known : (m : Module) (f : Function) (cases : List Case) → Each (IsKnown m f) (of_cases cases) → list_all (λ to. list_any (has_label to) f.blocks) (map (λ (c : Case). c.to) cases) ≡ true
cases_known m f [] all = refl
cases_known m f (c ∷ cs) all =
    let p = Each_parts (IsKnown m f) (of_typed c.ty c.value ++ OfLabel c.to ∷ []) (of_cases cs) all in
    let q = Each_parts (IsKnown m f) (of_typed c.ty c.value) (OfLabel c.to ∷ []) p.0 in
    and_from _ _ (label_known m f c.to q.1.0) (cases_known m f cs p.1)

-- those to which a terminator leads
pub ends_known : (m : Module) (f : Function) (end : Term) → Each (IsKnown m f) (of_end end) → list_all (λ to. list_any (has_label to) f.blocks) (labels_of end) ≡ true
ends_known m f Ret all = refl
ends_known m f (RetValue ty a) all = refl
ends_known m f (Br to) all = and_from _ _ (label_known m f to all.0) refl
ends_known m f (BrIf condition taken other) all =
    let p = (Each_parts (IsKnown m f) (of_operand condition) (OfLabel taken ∷ OfLabel other ∷ []) all).1 in
    and_from _ _ (label_known m f taken p.0) (and_from _ _ (label_known m f other p.1.0) refl)
ends_known m f (Switch ty a default cases) all =
    let p = (Each_parts (IsKnown m f) (of_typed ty a) (OfLabel default ∷ of_cases cases) all).1 in
    and_from _ _ (label_known m f default p.0) (cases_known m f cases p.1)
ends_known m f Unreachable all = refl

-- so in each block of a function that mentions nothing unknown
pub blocks_known : (m : Module) (f : Function) → flat_map (unknown_in m (inside f)) (of_function f) ≡ [] → Each (λ (b : Block). labels_known f.blocks b ≡ true) f.blocks
blocks_known m f none =
    let K : Mention → Type 0 = IsKnown m f in
    let all = each_empty (unknown_in m (inside f)) (of_function f) none in
    of_blocks f.blocks (Each_rows K of_block f.blocks (Each_parts K (map (λ (p : Param). OfType p.ty) f.params) (flat_map of_block f.blocks) all.1).1)
  where
    of_blocks : (bs : List Block) → Each (λ (b : Block). Each (IsKnown m f) (of_block b)) bs → Each (λ (b : Block). labels_known f.blocks b ≡ true) bs
    of_blocks [] known = tt
    of_blocks (b ∷ bs) known = (ends_known m f b.end (Each_parts (IsKnown m f) (flat_map (λ (i : Inst). of_op i.op) b.insts) (of_end b.end) known.0).1, of_blocks bs known.1)

-- one place less in front
fits_less : (from : List (List ℕ)) (j : Inst) (before : List Inst) (op : Op) → phi_fits from (j ∷ before) op ≡ true → phi_fits from before op ≡ true
fits_less from j before (Phi ty entries) e =
    let p = and_parts (list_all (λ (i : Inst). is_phi i.op) (j ∷ before)) (entries_fit from entries && entries_agree entries) e in
    and_from _ _ (and_parts (is_phi j.op) (list_all (λ (i : Inst). is_phi i.op) before) p.0).1 p.1
fits_less from j before op e = refl

-- behind what is no phi there is none
none_behind : (from : List (List ℕ)) (j : Inst) (before : List Inst) (op : Op) → is_phi j.op ≡ false → phi_fits from (j ∷ before) op ≡ true → not (is_phi op) ≡ true
none_behind from j before (Phi ty entries) other e =
    let p = and_parts (list_all (λ (i : Inst). is_phi i.op) (j ∷ before)) (entries_fit from entries && entries_agree entries) e in
    not_true (sym other ∙ (and_parts (is_phi j.op) (list_all (λ (i : Inst). is_phi i.op) before) p.0).0)
none_behind from j before op other e = refl

-- a phi with its entries
phi_one : (from : List (List ℕ)) (op : Op) → phi_fits from [] op ≡ true → phi_typed from op ≡ true
phi_one from (Phi ty entries) e = (and_parts (entries_fit from entries) (entries_agree entries) e).0
phi_one from op e = refl

-- phis that fit at each place of a block
pub phis_from : (from : List (List ℕ)) (is : List Inst) → ((k : ℕ) (i : Inst) → slice_get is k ≡ Some i → phi_fits from (take k is) i.op ≡ true) → phis_typed from is ≡ true
phis_from from [] fits = refl
phis_from from (j ∷ is) fits = and_from _ _ (phi_one from j.op (fits 0 j refl)) (by_test (is_phi j.op) refl (phis_from from is))
  where
    by_test : (b : Bool) → is_phi j.op ≡ b → (((k : ℕ) (i : Inst) → slice_get is k ≡ Some i → phi_fits from (take k is) i.op ≡ true) → phis_typed from is ≡ true) → (if b then phis_typed from is else no_phi is) ≡ true
    by_test true e go = go (λ k i at. fits_less from j (take k is) i.op (fits (suc k) i at))
    by_test false e go = all_from (λ (i : Inst). not (is_phi i.op)) is (λ k i at. none_behind from j (take k is) i.op e (fits (suc k) i at))

-- a label to which no block leads has no predecessors
no_predecessors : (label : List ℕ) (blocks : List Block) → list_all (λ (p : Block). not (leads_to label p)) blocks ≡ true → predecessors blocks label ≡ []
no_predecessors label [] none = refl
no_predecessors label (b ∷ bs) none =
    let p = and_parts (not (leads_to label b)) (list_all (λ (q : Block). not (leads_to label q)) bs) none in
    by_test (leads_to label b) p.0 (no_predecessors label bs p.1)
  where
    by_test : (c : Bool) → not c ≡ true → predecessors bs label ≡ [] → map (λ (q : Block). q.label) (if c then b ∷ filter (leads_to label) bs else filter (leads_to label) bs) ≡ []
    by_test true e rest = not_true e
    by_test false e rest = rest

-- where nothing leads, no instruction is a phi
phi_nowhere : (op : Op) (before : List Inst) → op_built op ≡ true → phi_fits [] before op ≡ true → not (is_phi op) ≡ true
phi_nowhere (Phi ty []) before built fits = not_true (and_parts (type_built ty) false built).1
phi_nowhere (Phi ty (e ∷ es)) before built fits =
    let p = and_parts (list_all (λ (i : Inst). is_phi i.op) before) (entries_fit [] (e ∷ es) && entries_agree (e ∷ es)) fits in
    not_true (and_parts (entries_fit [] (e ∷ es)) (entries_agree (e ∷ es)) p.1).0
phi_nowhere op before built fits = refl

-- so in an entry block
pub entry_no_phi : (blocks : List Block) (b : Block) → list_all (λ (p : Block). not (leads_to b.label p)) blocks ≡ true → list_all inst_built b.insts ≡ true → ((k : ℕ) (i : Inst) → slice_get b.insts k ≡ Some i → phi_fits (predecessors blocks b.label) (take k b.insts) i.op ≡ true) → no_phi b.insts ≡ true
entry_no_phi blocks b none built fits = all_from (λ (i : Inst). not (is_phi i.op)) b.insts (λ k i at.
    phi_nowhere i.op (take k b.insts) (and_parts (op_built i.op) (result_named i.op i.result) (all_at inst_built b.insts k i built at)).0
    (ap (λ from. phi_fits from (take k b.insts) i.op) (sym (no_predecessors b.label blocks none)) ∙ fits k i at))
