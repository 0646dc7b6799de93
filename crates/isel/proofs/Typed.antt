-- A module that stands for bodies is typed, as modules with one value for each local are.
use Rattle.std.proofs.Common.{◌≡◌, ℕ, zero, suc, ◌+◌, ◌<◌, Bool, true, false, List, [], ◌∷◌, ◌++◌, map, length, Some, refl, ap, sym, ◌∙◌, subst, arith}
use Rattle.std.specs.Prelude.{◌&&◌, ◌||◌, not, slice_get, option_map, if◌then◌else◌}
use Rattle.std.specs.List.{list_all, flat_map, enumerate_from}
use Rattle.std.proofs.lemmas.Bool.{and_parts, and_from}
use Rattle.std.proofs.lemmas.List.{append_assoc}
use Rattle.ir_core.specs.declared.instruction.Op.{Op}
use Rattle.ir_core.specs.declared.instruction.Op.TheVariants.{Phi}
use Rattle.ir_core.specs.declared.instruction.Inst.{Inst}
use Rattle.ir_core.specs.declared.module.Block.{Block}
use Rattle.ir_core.specs.declared.module.Param.{Param}
use Rattle.ir_core.specs.declared.module.Function.{Function}
use Rattle.ir_core.specs.declared.module.GlobalVar.{GlobalVar}
use Rattle.ir_core.specs.declared.module.Module.{Module}
use Rattle.ir_core.specs.declared.ty.NamedTy.{NamedTy}
use Rattle.ir_core.specs.Names.{same_name, first_where}
use Rattle.ir_core.specs.Kinds.{kind_of}
use Rattle.ir_core.specs.Built.{named_built, name_built, is_struct_at, type_built}
use Rattle.ir_core.specs.declared.ty.Ty.{out-Ty}
use Rattle.ir_core.specs.Definitions.{is_among, repeated}
use Rattle.ir_core.specs.Mentions.{of_function, outside_functions}
use Rattle.ir_core.specs.Typing.{is_value, is_result, has_kind, kind_given, op_fits, into_fits, inst_fits, term_fits}
use Rattle.ir_core.specs.Valid.{LocalKind, param_kind, results_of, named_locals, kind_in, env_of, op_rules, names_value, alloca_fits, end_fits, cases_differ, spares_entry, leads_to, predecessors, is_phi, init_fits}
use Rattle.ir_core.specs.Refusals.{outside, inside, unknown_in}
use Rattle.ir_core.proofs.Distinct.{fresh, named-append}
use Rattle.ir_sound.specs.Typed.{no_phi, phi_typed, phis_typed, labels_known, block_typed, entry_typed, param_typed, function_typed, IsTyped}
use Rattle.ir_sound.specs.WellTyped.{Each, Present}
use Rattle.ir_sound.proofs.Callees.{op_agreed}
use Rattle.ir_sound.proofs.Labels.{blocks_known}
use Rattle.ir_sound.proofs.Locals.{Agreed}
use Rattle.ir_sound.proofs.NoFaults.{both_empty, each_empty}
use Rattle.ir_sound.proofs.RowLaws.{Each_at, all_at, all_from, first_has}
use Rattle.ir_sound.proofs.SameLaws.{differ_back, kind_itself, not_true, same_itself}
use Rattle.ir_sound.proofs.Sizes.{IsWithin, AreWithin, globals_sized}
use Rattle.ir_context.specs.Small.{IsSmall}
use Rattle.low_core.specs.Shaped.{IsModuleShaped, IsFunctionShaped, move_fits, chunk_fits, is_lean_end}
use Rattle.isel.proofs.Mentioned.{each_of, types_small}

-- a function that stands for a body: it has a block, no phi, and no switch
pub record IsMoves (f : Function) : Type 0 where
  pub some_block : 0 < length f.blocks
  pub no_phis : list_all (λ (b : Block). no_phi b.insts) f.blocks ≡ true
  pub no_switches : list_all (λ (b : Block). is_lean_end b.end) f.blocks ≡ true

-- an item of those with numbers
pub numbered_item : {X : Type 0} (p : ℕ × X → Bool) (n : ℕ) (xs : List X) (k : ℕ) (x : X) → list_all p (enumerate_from n xs) ≡ true → slice_get xs k ≡ Some x → p (n + k, x) ≡ true
numbered_item p n [] k x all at = absurd (cc)
numbered_item p n (y ∷ ys) zero x all at =
    let e : y ≡ x = cc in
    let z : n ≡ n + 0 = omega arith in
    subst (λ k. p (k, x) ≡ true) z (subst (λ w. p (n, w) ≡ true) e (and_parts (p (n, y)) (list_all p (enumerate_from (n + 1) ys)) all).0)
numbered_item p n (y ∷ ys) (suc k) x all at =
    let z : n + 1 + k ≡ n + suc k = omega arith in
    subst (λ j. p (j, x) ≡ true) z (numbered_item p (n + 1) ys k x (and_parts (p (n, y)) (list_all p (enumerate_from (n + 1) ys)) all).1 at)

-- what the shape of a module says of an instruction of it
pub record InstRules (m : Module) (f : Function) (number : ℕ) (i : Inst) : Type 0 where
  pub rules : op_rules m (env_of f) i.op ≡ true
  pub fits : op_fits m (env_of f) i.op ≡ true
  pub named : names_value i.result (kind_given i.op) ≡ true
  pub into : into_fits (env_of f) i.result (kind_given i.op) ≡ true
  pub alloca : alloca_fits number i.op ≡ true

-- and of an end
pub record EndRules (m : Module) (f : Function) (b : Block) : Type 0 where
  pub fits : term_fits m (env_of f) (kind_of f.ret) b.end ≡ true
  pub spares : spares_entry f.blocks b.end ≡ true

-- a local is the first of its name behind others
agreed_behind : (before : List LocalKind) (l : LocalKind) (ls : List LocalKind) → is_among (named_locals before) l.name ≡ false → Agreed (kind_in (before ++ l ∷ ls)) l
agreed_behind [] l ls new = ap (λ b. option_map (λ (h : LocalKind). h.kind) (if b then Some l else first_where (λ (h : LocalKind). same_name h.name l.name) ls)) (same_itself l.name)
agreed_behind (b ∷ bs) l ls new =
    ap (λ c. option_map (λ (h : LocalKind). h.kind) (if c then Some b else first_where (λ (h : LocalKind). same_name h.name l.name) (bs ++ l ∷ ls)))
    (differ_back l.name b.name (first_false (same_name l.name b.name) (is_among (named_locals bs) l.name) new))
    ∙ agreed_behind bs l ls (second_false (same_name l.name b.name) (is_among (named_locals bs) l.name) new)
  where
    first_false : (a c : Bool) → (a || c) ≡ false → a ≡ false
    first_false false c e = refl
    first_false true c e = not_true (sym e)

    second_false : (a c : Bool) → (a || c) ≡ false → c ≡ false
    second_false false c e = e
    second_false true c e = not_true (sym e)

-- parameters that differ, in front of other locals
params_are : (before : List LocalKind) (ps : List Param) (rest : List LocalKind) → repeated (named_locals before) (map (λ (p : Param). p.name) ps) ≡ [] → list_all (λ (p : Param). is_value (kind_of p.ty)) ps ≡ true
    → list_all (param_typed (kind_in (before ++ (map param_kind ps ++ rest)))) ps ≡ true
params_are before [] rest none values = refl
params_are before (p ∷ ps) rest none values =
    let l : LocalKind = param_kind p in
    let q = and_parts (is_value (kind_of p.ty)) (list_all (λ (r : Param). is_value (kind_of r.ty)) ps) values in
    let f = fresh (named_locals before) p.name (map (λ (r : Param). r.name) ps) none in
    let others = params_are (before ++ l ∷ []) ps rest (ap (λ ns. repeated ns (map (λ (r : Param). r.name) ps)) (named-append before (l ∷ [])) ∙ f.rest) q.1 in
    and_from _ _ (and_from _ _ q.0 (subst (λ o. has_kind o (kind_of p.ty) ≡ true) (sym (agreed_behind before l (map param_kind ps ++ rest) f.new)) (kind_itself (kind_of p.ty))))
    (subst (λ all. list_all (param_typed (kind_in all)) ps ≡ true) (append_assoc before (l ∷ []) (map param_kind ps ++ rest)) others)

-- a row without phis
phi_none : (from : List (List ℕ)) (op : Op) → not (is_phi op) ≡ true → phi_typed from op ≡ true
phi_none from (Phi ty entries) e = not_true e
phi_none from op e = refl

phis_none : (from : List (List ℕ)) (is : List Inst) → no_phi is ≡ true → phis_typed from is ≡ true
phis_none from [] e = refl
phis_none from (i ∷ is) e =
    let p = and_parts (not (is_phi i.op)) (no_phi is) e in
    and_from _ _ (phi_none from i.op p.0) (by (is_phi i.op) (phis_none from is p.1) p.1)
  where
    by : (b : Bool) → phis_typed from is ≡ true → no_phi is ≡ true → (if b then phis_typed from is else no_phi is) ≡ true
    by true go none = go
    by false go none = none

module _ (own : ℕ) (m : Module) (shaped : IsModuleShaped own m) where
  -- a function of it
  pub function_shaped : (number : ℕ) (f : Function) → slice_get m.functions number ≡ Some f → IsFunctionShaped own m f
  function_shaped number f at = Each_at (IsFunctionShaped own m) m.functions number f (each_of (IsFunctionShaped own m) m.functions shaped.functions) at

  -- a block of a function
  block_parts : (f : Function) → IsFunctionShaped own m f → (k : ℕ) (b : Block) → slice_get f.blocks k ≡ Some b → (list_all (move_fits m f k) b.insts ≡ true) × (end_fits m f b.end ≡ true)
  block_parts f shape k b at =
      let z : 0 + k ≡ k = omega arith in
      let fits = subst (λ j. chunk_fits m f (j, b) ≡ true) z (numbered_item (chunk_fits m f) 0 f.blocks k b shape.fits at) in
      and_parts (list_all (move_fits m f k) b.insts) (end_fits m f b.end) fits

  pub inst_rules : (f : Function) → IsFunctionShaped own m f → (k : ℕ) (b : Block) → slice_get f.blocks k ≡ Some b → (j : ℕ) (i : Inst) → slice_get b.insts j ≡ Some i → InstRules m f k i
  inst_rules f shape k b at j i there =
      let fit = all_at (move_fits m f k) b.insts j i (block_parts f shape k b at).0 there in
      let p = and_parts (op_rules m (env_of f) i.op && names_value i.result (kind_given i.op)) (into_fits (env_of f) i.result (kind_given i.op) && alloca_fits k i.op) fit in
      let q = and_parts (op_rules m (env_of f) i.op) (names_value i.result (kind_given i.op)) p.0 in
      let r = and_parts (into_fits (env_of f) i.result (kind_given i.op)) (alloca_fits k i.op) p.1 in
      record { rules = q.0; fits = op_agreed m (env_of f) i.op q.0; named = q.1; into = r.0; alloca = r.1 }

  pub end_rules : (f : Function) → IsFunctionShaped own m f → (k : ℕ) (b : Block) → slice_get f.blocks k ≡ Some b → EndRules m f b
  end_rules f shape k b at =
      let p = and_parts (term_fits m (env_of f) (kind_of f.ret) b.end) (cases_differ b.end && spares_entry f.blocks b.end) (block_parts f shape k b at).1 in
      record { fits = p.0; spares = (and_parts (cases_differ b.end) (spares_entry f.blocks b.end) p.1).1 }

  -- labels that are named are those of blocks
  pub labels_there : (number : ℕ) (f : Function) → slice_get m.functions number ≡ Some f → Each (λ (b : Block). labels_known f.blocks b ≡ true) f.blocks
  labels_there number f at =
      let missed = (both_empty (flat_map (unknown_in m outside) (outside_functions m)) (flat_map (λ (g : Function). flat_map (unknown_in m (inside g)) (of_function g)) m.functions) shaped.known).1 in
      blocks_known m f (Each_at (λ (g : Function). flat_map (unknown_in m (inside g)) (of_function g) ≡ []) m.functions number f (each_empty (λ (g : Function). flat_map (unknown_in m (inside g)) (of_function g)) m.functions missed) at)

  -- a block is typed
  block_is : (number : ℕ) (f : Function) → slice_get m.functions number ≡ Some f → IsMoves f → (k : ℕ) (b : Block) → slice_get f.blocks k ≡ Some b → block_typed m (env_of f) f b ≡ true
  block_is number f in_module moves k b at =
      let shape = function_shaped number f in_module in
      let insts = all_from (inst_fits m (env_of f)) b.insts (λ j i there. let r = inst_rules f shape k b at j i there in and_from _ _ r.fits r.into) in
      let phis = phis_none (predecessors f.blocks b.label) b.insts (all_at (λ (c : Block). no_phi c.insts) f.blocks k b moves.no_phis at) in
      let known = Each_at (λ (c : Block). labels_known f.blocks c ≡ true) f.blocks k b (labels_there number f in_module) at in
      and_from _ _ (and_from _ _ insts (end_rules f shape k b at).fits) (and_from _ _ phis known)

  -- no edge goes to the entry block
  entry_is : (f : Function) → IsFunctionShaped own m f → (blocks : List Block) → f.blocks ≡ blocks → 0 < length blocks → list_all (λ (b : Block). no_phi b.insts) blocks ≡ true → entry_typed blocks ≡ true
  entry_is f shape [] same some phis = absurd (omega (arith, some))
  entry_is f shape (b ∷ bs) same some phis =
      let spared = all_from (λ (p : Block). not (leads_to b.label p)) (b ∷ bs) (λ j p at. sym (ap (λ cs. spares_entry cs p.end) same) ∙ (end_rules f shape j p (ap (λ cs. slice_get cs j) same ∙ at)).spares) in
      and_from _ _ spared (and_parts (no_phi b.insts) (list_all (λ (c : Block). no_phi c.insts) bs) phis).0

  function_is : (number : ℕ) (f : Function) → slice_get m.functions number ≡ Some f → IsMoves f → function_typed m (env_of f) f ≡ true
  function_is number f in_module moves =
      let shape = function_shaped number f in_module in
      let own_fits = and_parts (is_result f.ret) (list_all (λ (p : Param). is_value (kind_of p.ty)) f.params) shape.typed in
      and_from _ _ (and_from _ _ own_fits.0 (params_are [] f.params (results_of f.blocks) shape.params own_fits.1))
      (and_from _ _ (entry_is f shape f.blocks refl moves.some_block moves.no_phis) (all_from (block_typed m (env_of f) f) f.blocks (λ k b at. block_is number f in_module moves k b at)))

  -- the named types nest within the limit
  types_within : AreWithin m.types
  types_within name t there =
      first_has (IsWithin m.types) (λ (u : NamedTy). same_name u.name name) m.types t (each_within m.types shaped.types_built (types_small own m shaped)) there
    where
      each_within : (ts : List NamedTy) → list_all named_built ts ≡ true → Each (λ (u : NamedTy). IsSmall m.types u.fields) ts → Each (IsWithin m.types) ts
      each_within [] built all = tt
      each_within (u ∷ ts) built all =
          let p = and_parts (named_built u) (list_all named_built ts) built in
          let q = and_parts (name_built u.name) (is_struct_at (out-Ty u.fields) && type_built u.fields) p.0 in
          (record { is_struct = (and_parts (is_struct_at (out-Ty u.fields)) (type_built u.fields) q.1).0; depth = all.0.depth }, each_within ts p.1 all.1)

  globals_fit : (gs : List GlobalVar) → Each (λ (g : GlobalVar). init_fits m g.init g.ty ≡ true) gs → list_all (λ (g : GlobalVar). init_fits m g.init g.ty) gs ≡ true
  globals_fit [] all = refl
  globals_fit (g ∷ gs) all = and_from _ _ all.0 (globals_fit gs all.1)

  -- so the module is typed
  pub shaped_typed : Each IsMoves m.functions → IsTyped m
  shaped_typed moves =
      let x : Present = record { globals = length m.globals; objects = length m.globals; functions = length m.functions } in
      record {
        functions = all_from (λ f. function_typed m (env_of f) f) m.functions (λ k f at. function_is k f at (Each_at IsMoves m.functions k f moves at));
        main = shaped.main;
        inits = shaped.inits_built;
        sizes = globals_sized m x (record { globals = omega arith; functions = refl }) types_within m.globals
            (globals_fit m.globals (each_of (λ (g : GlobalVar). init_fits m g.init g.ty ≡ true) m.globals shaped.globals));
      }
