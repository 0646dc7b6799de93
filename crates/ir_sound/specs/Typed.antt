-- Modules whose functions keep the rules of types, in the form that steps and passes stand on: by blocks, over one environment.
use Rattle.std.specs.Prelude.{ℕ, List, [], ◌∷◌, Bool, true, false, ◌&&◌, not, nat_eq, length, IsTrue, if◌then◌else◌}
use Rattle.std.specs.List.{list_all, list_any}
use Rattle.ir_core.specs.declared.instruction.Op.{Op}
use Rattle.ir_core.specs.declared.instruction.Op.TheVariants.{Phi}
use Rattle.ir_core.specs.declared.instruction.Inst.{Inst}
use Rattle.ir_core.specs.declared.module.Block.{Block}
use Rattle.ir_core.specs.declared.module.Param.{Param}
use Rattle.ir_core.specs.declared.module.Function.{Function}
use Rattle.ir_core.specs.declared.module.GlobalVar.{GlobalVar}
use Rattle.ir_core.specs.declared.module.Module.{Module}
use Rattle.ir_core.specs.Names.{same_name}
use Rattle.ir_core.specs.Kinds.{kind_of}
use Rattle.ir_core.specs.Shapes.{shape_of}
use Rattle.ir_core.specs.Globals.{cells_of_init}
use Rattle.ir_core.specs.Typing.{Env, is_value, has_kind, inst_fits, is_result, labels_of, term_fits}
use Rattle.ir_core.specs.Built.{init_built}
use Rattle.ir_core.specs.Valid.{env_of, leads_to, predecessors, entries_fit, is_phi}
use Rattle.ir_core.specs.Refusals.{main_of, has_main}

-- whether a block is that of a label
abbrev pub has_label : List ℕ → Block → Bool
has_label label b = same_name b.label label

-- none is a phi
abbrev pub no_phi : List Inst → Bool
no_phi insts = list_all (λ (i : Inst). not (is_phi i.op)) insts

-- a phi has an entry for each block of an edge, and none for another
abbrev pub phi_typed : List (List ℕ) → Op → Bool
phi_typed from (Phi ty entries) = entries_fit from entries
phi_typed from other = true

-- phis stand in front of all others, each with the entries of the edges
abbrev pub phis_typed : List (List ℕ) → List Inst → Bool
phis_typed from [] = true
phis_typed from (i ∷ is) = phi_typed from i.op && (if is_phi i.op then phis_typed from is else no_phi is)

-- the labels to which a block leads are those of blocks
abbrev pub labels_known : List Block → Block → Bool
labels_known blocks b = list_all (λ to. list_any (has_label to) blocks) (labels_of b.end)

-- a block of a function whose locals have these kinds
abbrev pub block_typed : Module → Env → Function → Block → Bool
block_typed m env f b =
    (list_all (inst_fits m env) b.insts && term_fits m env (kind_of f.ret) b.end)
    && (phis_typed (predecessors f.blocks b.label) b.insts && labels_known f.blocks b)

-- there is an entry block, to which no edge goes, without a phi
abbrev pub entry_typed : List Block → Bool
entry_typed [] = false
entry_typed (b ∷ bs) = list_all (λ (p : Block). not (leads_to b.label p)) (b ∷ bs) && no_phi b.insts

-- a parameter takes a value, and is the local of its name
abbrev pub param_typed : Env → Param → Bool
param_typed env p = is_value (kind_of p.ty) && has_kind (env p.name) (kind_of p.ty)

-- a function whose locals have these kinds
abbrev pub function_typed : Module → Env → Function → Bool
function_typed m env f =
    (is_result f.ret && list_all (param_typed env) f.params)
    && (entry_typed f.blocks && list_all (block_typed m env f) f.blocks)

-- each function, over the kinds of its own locals
abbrev pub functions_typed : Module → List Function → Bool
functions_typed m fs = list_all (λ f. function_typed m (env_of f) f) fs

-- a global begins with as many cells as its type has bytes
abbrev pub is_sized : Module → GlobalVar → Bool
is_sized m g = nat_eq (length (cells_of_init m g.init g.ty)) (shape_of m.types g.ty).size

-- the functions are typed, there is a `main`, and globals begin with bytes, as many as their types have
pub record IsTyped (m : Module) : Type 0 where
  pub functions : IsTrue (functions_typed m m.functions)
  pub main : IsTrue (has_main (main_of m))
  pub inits : IsTrue (list_all (λ (g : GlobalVar). init_built g.init) m.globals)
  pub sizes : IsTrue (list_all (is_sized m) m.globals)
