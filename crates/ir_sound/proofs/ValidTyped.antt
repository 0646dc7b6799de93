-- A valid module is typed: what its refusals shut out is what the rules of types ask, block by block.
use Rattle.std.proofs.Common.{◌≡◌, ℕ, ◌+◌, Bool, true, List, [], ◌∷◌, ◌++◌, map, take, length, Some, refl, ap, sym, ◌∙◌, subst, arith}
use Rattle.std.specs.Prelude.{◌&&◌, not, nat_lt, ◌^◌, slice_get}
use Rattle.std.specs.List.{list_all, flat_map, enumerate_from}
use Rattle.std.proofs.lemmas.Bool.{and_parts, and_from}
use Rattle.std.proofs.Props.{props}
use Rattle.std.proofs.Math.Logic.{∥∥₁_elim}
use Rattle.ir_core.specs.declared.limit.Spot.{Spot}
use Rattle.ir_core.specs.declared.instruction.Inst.{Inst}
use Rattle.ir_core.specs.declared.module.Block.{Block}
use Rattle.ir_core.specs.declared.module.Param.{Param}
use Rattle.ir_core.specs.declared.module.Extern.{Extern}
use Rattle.ir_core.specs.declared.module.Function.{Function}
use Rattle.ir_core.specs.declared.module.GlobalVar.{GlobalVar}
use Rattle.ir_core.specs.declared.module.Module.{Module}
use Rattle.ir_core.specs.Kinds.{kind_of}
use Rattle.ir_core.specs.Definitions.{repeated, local_names}
use Rattle.ir_core.specs.Mentions.{outside_functions, of_function}
use Rattle.ir_core.specs.Built.{built_all, named_built, global_built, extern_built, function_built, name_built, type_built, init_built, result_built, param_built, blocks_built, block_built, inst_built, end_built}
use Rattle.ir_core.specs.Typing.{Env, is_value, is_result, kind_given, has_kind, inst_fits, term_fits}
use Rattle.ir_core.specs.Valid.{param_kind, inst_local, kinds_in, results_of, locals_of, env_of, op_rules, names_value, predecessors, leads_to, phi_fits, alloca_fits, inst_fits as inst_rules, cases_differ, spares_entry, end_fits, function_fits, unless, faults_in_block, faults_in_function, init_fits, declaration_fits}
use Rattle.ir_core.specs.Refusals.{IsValid, outside, inside, unknown_in}
use Rattle.ir_core.proofs.Distinct.{LocalsDiffer, locals_of_functions}
use Rattle.ir_sound.specs.Typed.{labels_known, block_typed, entry_typed, param_typed, function_typed, functions_typed, IsTyped}
use Rattle.ir_sound.specs.WellTyped.{Each}
use Rattle.ir_sound.proofs.Callees.{op_agreed}
use Rattle.ir_sound.proofs.Labels.{blocks_known, entry_no_phi, phis_from}
use Rattle.ir_sound.proofs.Limits.{types_within}
use Rattle.ir_sound.proofs.Locals.{Agreed, locals_agree, result_agreed}
use Rattle.ir_sound.proofs.NoFaults.{both_empty, each_empty, empty_at, unless_passes, unrefused}
use Rattle.ir_sound.proofs.RowLaws.{Each_at, Each_parts, Each_rows, all_from}
use Rattle.ir_sound.proofs.SameLaws.{kind_itself, not_true}
use Rattle.ir_sound.proofs.Sizes.{globals_sized}

-- all parts of what is built are
all_built : {X : Type 0} (test : X → Bool) (xs : List X) → built_all test xs ≡ true → list_all test xs ≡ true
all_built test xs e = (and_parts (nat_lt (length xs) (2 ^ 32)) (list_all test xs) e).1

-- the rules of a block, each at its place
record BlockRules (m : Module) (f : Function) (b : Block) : Type 0 where
  pub insts : (k : ℕ) (i : Inst) → slice_get b.insts k ≡ Some i → ((op_rules m (env_of f) i.op && names_value i.result (kind_given i.op)) ≡ true) × (phi_fits (predecessors f.blocks b.label) (take k b.insts) i.op ≡ true)
  pub end : term_fits m (env_of f) (kind_of f.ret) b.end ≡ true
  pub spares : spares_entry f.blocks b.end ≡ true

-- hold where the block has no fault
block_rules : (m : Module) (f : Function) (number j : ℕ) (b : Block) → faults_in_block m f number (j, b) ≡ [] → BlockRules m f b
block_rules m f number j b none =
    let faults : ℕ × Inst → List Spot = λ p. unless (inst_rules m f j b (take p.0 b.insts) p.1) (Spot.Inst number j p.0) in
    let p = both_empty (flat_map faults (enumerate_from 0 b.insts)) (unless (end_fits m f b.end) (Spot.Inst number j (length b.insts))) none in
    let end = and_parts (term_fits m (env_of f) (kind_of f.ret) b.end) (cases_differ b.end && spares_entry f.blocks b.end) (unless_passes (end_fits m f b.end) (Spot.Inst number j (length b.insts)) p.1) in
    record {
      insts = λ k i at.
          let place : 0 + k ≡ k = omega arith in
          let none_here = sym (ap (λ n. faults (n, i)) place) ∙ empty_at faults b.insts 0 k i p.0 at in
          let fits = unless_passes (inst_rules m f j b (take k b.insts) i) (Spot.Inst number j k) none_here in
          let q = and_parts (op_rules m (env_of f) i.op && names_value i.result (kind_given i.op)) (phi_fits (predecessors f.blocks b.label) (take k b.insts) i.op && alloca_fits j i.op) fits in
          (q.0, (and_parts (phi_fits (predecessors f.blocks b.label) (take k b.insts) i.op) (alloca_fits j i.op) q.1).0);
      end = end.0;
      spares = (and_parts (cases_differ b.end) (spares_entry f.blocks b.end) end.1).1;
    }

-- the rules of a function, whose locals agree with their definitions, and whose labels are known
record FunctionRules (m : Module) (f : Function) : Type 0 where
  pub own : function_fits f ≡ true
  pub blocks : (j : ℕ) (b : Block) → slice_get f.blocks j ≡ Some b → BlockRules m f b
  pub agree : Each (Agreed (env_of f)) (locals_of f)
  pub known : Each (λ (b : Block). labels_known f.blocks b ≡ true) f.blocks
  pub built : function_built f ≡ true

-- hold where nothing refuses it
function_rules : (m : Module) (number : ℕ) (f : Function) → faults_in_function m (number, f) ≡ [] → repeated [] (local_names f) ≡ [] → flat_map (unknown_in m (inside f)) (of_function f) ≡ [] → function_built f ≡ true → FunctionRules m f
function_rules m number f none differ missed built =
    let p = both_empty (unless (function_fits f) (Spot.Function number)) (flat_map (faults_in_block m f number) (enumerate_from 0 f.blocks)) none in
    record {
      own = unless_passes (function_fits f) (Spot.Function number) p.0;
      blocks = λ j b at. block_rules m f number (0 + j) b (empty_at (faults_in_block m f number) f.blocks 0 j b p.1 at);
      agree = locals_agree f differ;
      known = blocks_known m f missed;
      built = built;
    }

-- the instructions of a block
insts_typed : (m : Module) (env : Env) (is : List Inst) → Each (Agreed env) (kinds_in is) → ((k : ℕ) (i : Inst) → slice_get is k ≡ Some i → (op_rules m env i.op && names_value i.result (kind_given i.op)) ≡ true) → list_all (inst_fits m env) is ≡ true
insts_typed m env is agree rules =
    let each = Each_rows (Agreed env) inst_local is agree in
    all_from (inst_fits m env) is (λ k i at.
    let p = and_parts (op_rules m env i.op) (names_value i.result (kind_given i.op)) (rules k i at) in
    and_from _ _ (op_agreed m env i.op p.0) (result_agreed env i.result (kind_given i.op) (Each_at (λ (j : Inst). Each (Agreed env) (inst_local j)) is k i each at) p.1))

-- a block
block_is : (m : Module) (f : Function) (b : Block) → Each (Agreed (env_of f)) (kinds_in b.insts) → BlockRules m f b → labels_known f.blocks b ≡ true → block_typed m (env_of f) f b ≡ true
block_is m f b agree rules known =
    and_from _ _ (and_from _ _ (insts_typed m (env_of f) b.insts agree (λ k i at. (rules.insts k i at).0)) rules.end)
    (and_from _ _ (phis_from (predecessors f.blocks b.label) b.insts (λ k i at. (rules.insts k i at).1)) known)

-- blocks
blocks_are : (m : Module) (f : Function) → FunctionRules m f → list_all (block_typed m (env_of f) f) f.blocks ≡ true
blocks_are m f rules =
    let env = env_of f in
    let agree = Each_rows (Agreed env) (λ (b : Block). kinds_in b.insts) f.blocks (Each_parts (Agreed env) (map param_kind f.params) (results_of f.blocks) rules.agree).1 in
    all_from (block_typed m env f) f.blocks (λ j b at.
    block_is m f b (Each_at (λ (c : Block). Each (Agreed env) (kinds_in c.insts)) f.blocks j b agree at) (rules.blocks j b at) (Each_at (λ (c : Block). labels_known f.blocks c ≡ true) f.blocks j b rules.known at))

-- parameters
params_are : (env : Env) (ps : List Param) → Each (Agreed env) (map param_kind ps) → list_all (λ (p : Param). is_value (kind_of p.ty)) ps ≡ true → list_all (param_typed env) ps ≡ true
params_are env [] agree values = refl
params_are env (p ∷ ps) agree values =
    let q = and_parts (is_value (kind_of p.ty)) (list_all (λ (r : Param). is_value (kind_of r.ty)) ps) values in
    and_from _ _ (and_from _ _ q.0 (subst (λ o. has_kind o (kind_of p.ty) ≡ true) (sym agree.0) (kind_itself (kind_of p.ty)))) (params_are env ps agree.1 q.1)

-- the entry block
entry_is : (m : Module) (f : Function) (blocks : List Block) → f.blocks ≡ blocks → blocks_built blocks ≡ true → ((j : ℕ) (b : Block) → slice_get f.blocks j ≡ Some b → BlockRules m f b) → entry_typed blocks ≡ true
entry_is m f [] same built rules = not_true built
entry_is m f (b ∷ bs) same built rules =
    let at_block : (j : ℕ) (c : Block) → slice_get (b ∷ bs) j ≡ Some c → BlockRules m f c = λ j c at. rules j c (ap (λ cs. slice_get cs j) same ∙ at) in
    let spared = all_from (λ (p : Block). not (leads_to b.label p)) (b ∷ bs) (λ j p at. sym (ap (λ cs. spares_entry cs p.end) same) ∙ (at_block j p at).spares) in
    let insts = (and_parts (name_built b.label) (built_all inst_built b.insts && end_built b.end) (and_parts (block_built b) (list_all block_built bs) (all_built block_built (b ∷ bs) built)).0).1 in
    and_from _ _ spared (entry_no_phi (b ∷ bs) b spared (all_built inst_built b.insts (and_parts (built_all inst_built b.insts) (end_built b.end) insts).0)
    (λ k i at. ap (λ cs. phi_fits (predecessors cs b.label) (take k b.insts) i.op) (sym same) ∙ ((at_block 0 b refl).insts k i at).1))

-- a function
function_is : (m : Module) (f : Function) → FunctionRules m f → function_typed m (env_of f) f ≡ true
function_is m f rules =
    let env = env_of f in
    let own = and_parts (is_result f.ret) (list_all (λ (p : Param). is_value (kind_of p.ty)) f.params) rules.own in
    let built = and_parts (name_built f.name && result_built f.ret) (built_all param_built f.params && blocks_built f.blocks) rules.built in
    let params = (Each_parts (Agreed env) (map param_kind f.params) (results_of f.blocks) rules.agree).0 in
    and_from _ _ (and_from _ _ own.0 (params_are env f.params params own.1))
    (and_from _ _ (entry_is m f f.blocks refl (and_parts (built_all param_built f.params) (blocks_built f.blocks) built.1).1 rules.blocks) (blocks_are m f rules))

-- functions
functions_are : (m : Module) (k : ℕ) (fs : List Function) → flat_map (faults_in_function m) (enumerate_from k fs) ≡ [] → LocalsDiffer fs → Each (λ (f : Function). flat_map (unknown_in m (inside f)) (of_function f) ≡ []) fs → list_all function_built fs ≡ true → functions_typed m fs ≡ true
functions_are m k [] none differ missed built = refl
functions_are m k (f ∷ fs) none differ missed built =
    let p = both_empty (faults_in_function m (k, f)) (flat_map (faults_in_function m) (enumerate_from (k + 1) fs)) none in
    let b = and_parts (function_built f) (list_all function_built fs) built in
    and_from _ _ (function_is m f (function_rules m k f p.0 differ.0 missed.0 b.0)) (functions_are m (k + 1) fs p.1 differ.1 missed.1 b.1)

-- initialisers that a text could say
inits_built : (gs : List GlobalVar) → list_all global_built gs ≡ true → list_all (λ (g : GlobalVar). init_built g.init) gs ≡ true
inits_built [] built = refl
inits_built (g ∷ gs) built =
    let p = and_parts (global_built g) (list_all global_built gs) built in
    let q = and_parts (name_built g.name) (type_built g.ty && init_built g.init) p.0 in
    and_from _ _ (and_parts (type_built g.ty) (init_built g.init) q.1).1 (inits_built gs p.1)

-- initialisers fit the types of their globals
globals_fit : (m : Module) (k : ℕ) (gs : List GlobalVar) → flat_map (λ (p : ℕ × GlobalVar). unless (init_fits m p.1.init p.1.ty) (Spot.Global p.0)) (enumerate_from k gs) ≡ [] → list_all (λ (g : GlobalVar). init_fits m g.init g.ty) gs ≡ true
globals_fit m k [] none = refl
globals_fit m k (g ∷ gs) none =
    let p = both_empty (unless (init_fits m g.init g.ty) (Spot.Global k)) (flat_map (λ (q : ℕ × GlobalVar). unless (init_fits m q.1.init q.1.ty) (Spot.Global q.0)) (enumerate_from (k + 1) gs)) none in
    and_from _ _ (unless_passes (init_fits m g.init g.ty) (Spot.Global k) p.0) (globals_fit m (k + 1) gs p.1)

-- a valid module is typed
pub valid_typed : (m : Module) → IsValid m → IsTyped m
valid_typed m valid =
    let u = unrefused m valid.accepted in
    let built = and_parts (built_all named_built m.types && built_all global_built m.globals) (built_all extern_built m.externs && built_all function_built m.functions) valid.built in
    let types = (and_parts (built_all named_built m.types) (built_all global_built m.globals) built.0).0 in
    let globals = (and_parts (built_all named_built m.types) (built_all global_built m.globals) built.0).1 in
    let functions = (and_parts (built_all extern_built m.externs) (built_all function_built m.functions) built.1).1 in
    let faults = both_empty (flat_map (λ (p : ℕ × GlobalVar). unless (init_fits m p.1.init p.1.ty) (Spot.Global p.0)) (enumerate_from 0 m.globals) ++ flat_map (λ (p : ℕ × Extern). unless (declaration_fits p.1) (Spot.Extern p.0)) (enumerate_from 0 m.externs)) (flat_map (faults_in_function m) (enumerate_from 0 m.functions)) u.typed in
    let missed = (both_empty (flat_map (unknown_in m outside) (outside_functions m)) (flat_map (λ (f : Function). flat_map (unknown_in m (inside f)) (of_function f)) m.functions) u.unknown).1 in
    record {
      functions = functions_are m 0 m.functions faults.1 (locals_of_functions m u.doubled) (each_empty (λ (f : Function). flat_map (unknown_in m (inside f)) (of_function f)) m.functions missed) (all_built function_built m.functions functions);
      main = u.main;
      inits = inits_built m.globals (all_built global_built m.globals globals);
      sizes = globals_sized m (record { globals = length m.globals; objects = length m.globals; functions = length m.functions }) (record { globals = omega arith; functions = refl }) (types_within m u.limited (all_built named_built m.types types)) m.globals
          (globals_fit m 0 m.globals (both_empty (flat_map (λ (p : ℕ × GlobalVar). unless (init_fits m p.1.init p.1.ty) (Spot.Global p.0)) (enumerate_from 0 m.globals)) (flat_map (λ (p : ℕ × Extern). unless (declaration_fits p.1) (Spot.Extern p.0)) (enumerate_from 0 m.externs)) faults.0).0);
    }

-- so is one that is known to be valid and no more
pub known_typed : (m : Module) → ∥ IsValid m ∥₁ → IsTyped m
known_typed m known = ∥∥₁_elim known (hlevel props) (valid_typed m)
