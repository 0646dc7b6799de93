-- The types of the globals of a valid module tell how many bytes these have, each of them and all together.
use Rattle.std.proofs.Common.{◌≡◌, ◌≤◌, List, [], ◌∷◌, length, map, refl, ap, sym, ◌∙◌, arith}
use Rattle.std.specs.List.{sum_by}
use Rattle.std.proofs.lemmas.List.Sums.{sum_by-cons}
use Rattle.ir_core.specs.declared.limit.TheConstants.{MAX_BYTES}
use Rattle.ir_core.specs.declared.memory.Object0.{Object0}
use Rattle.ir_core.specs.declared.module.GlobalVar.{GlobalVar}
use Rattle.ir_core.specs.declared.module.Module.{Module}
use Rattle.ir_core.specs.Counts.{spaced}
use Rattle.ir_core.specs.Globals.{global_object}
use Rattle.ir_core.specs.Mentions.{of_global}
use Rattle.ir_core.specs.Refusals.{IsValid}
use Rattle.ir_core.specs.Shapes.{shape_of}
use Rattle.ir_context.specs.Extents.{extent_of}
use Rattle.ir_context.specs.Small.{IsSmallMention}
use Rattle.ir_context.proofs.PathLaws.{size_is}
use Rattle.ir_globals.specs.Told.{told_cells, told_object}
use Rattle.ir_globals.proofs.FirstLaws.{first_told}
use Rattle.ir_globals.proofs.SmallLaws.{limits_kept, valid_small}
use Rattle.ir_sound.specs.WellTyped.{Each}
use Rattle.ir_sound.proofs.NoFaults.{unrefused}

-- the types of these globals are small
abbrev AreSmallGlobals : Module → List GlobalVar → Type 0
AreSmallGlobals m gs = Each (λ (g : GlobalVar). Each (IsSmallMention m.types) (of_global g)) gs

-- lists of one item more
first_same : (x y : Object0) (xs ys : List Object0) → x ∷ xs ≡ y ∷ ys → x ≡ y
first_same x y xs ys e = cc

rest_same : (x y : Object0) (xs ys : List Object0) → x ∷ xs ≡ y ∷ ys → xs ≡ ys
rest_same x y xs ys e = cc

-- a global begins with as many cells as its type tells
fills : (m : Module) (gs : List GlobalVar) → AreSmallGlobals m gs → map (told_object m) gs ≡ map (global_object m) gs
    → Each (λ (g : GlobalVar). length (told_cells m g.init g.ty) ≡ (extent_of m.types g.ty).size) gs
fills m [] small told = tt
fills m (g ∷ gs) small told =
    let here = first_same (told_object m g) (global_object m g) (map (told_object m) gs) (map (global_object m) gs) told in
    let rest = rest_same (told_object m g) (global_object m g) (map (told_object m) gs) (map (global_object m) gs) told in
    (ap (λ (x : Object0). x.size) here ∙ sym (size_is m.types g.ty small.0.0), fills m gs small.1 rest)

-- all of them take as much room as their types tell
room_is : (m : Module) (gs : List GlobalVar) → AreSmallGlobals m gs
    → sum_by (λ (g : GlobalVar). spaced (extent_of m.types g.ty).size) gs ≡ sum_by (λ (g : GlobalVar). spaced (shape_of m.types g.ty).size) gs
room_is m [] small = refl
room_is m (g ∷ gs) small =
    let here : spaced (extent_of m.types g.ty).size ≡ spaced (shape_of m.types g.ty).size = ap spaced (size_is m.types g.ty small.0.0) in
    let left = sum_by-cons (λ (g : GlobalVar). spaced (extent_of m.types g.ty).size) g gs in
    let right = sum_by-cons (λ (g : GlobalVar). spaced (shape_of m.types g.ty).size) g gs in
    let rest = room_is m gs small.1 in
    omega arith

-- a valid module
pub extents_filled : (m : Module) → IsValid m → Each (λ (g : GlobalVar). length (told_cells m g.init g.ty) ≡ (extent_of m.types g.ty).size) m.globals
extents_filled m valid = fills m m.globals (valid_small m valid).globals (first_told m valid)

pub extents_few : (m : Module) → IsValid m → sum_by (λ (g : GlobalVar). spaced (extent_of m.types g.ty).size) m.globals ≤ MAX_BYTES
extents_few m valid =
    let same = room_is m m.globals (valid_small m valid).globals in
    let limit = (limits_kept m (unrefused m valid.accepted).limited).bytes in
    omega arith
