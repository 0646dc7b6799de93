-- A program without switches keeps the rules of programs of moves, and has no switch.
use Rattle.std.proofs.Common.{◌≡◌, ℕ, ◌+◌, ◌≤◌, ◌<◌, Bool, true, List, [], ◌∷◌, length, refl, ap, ◌∙◌, subst, arith, length-append}
use Rattle.std.specs.List.{All, list_all, sum_by}
use Rattle.std.proofs.lemmas.List.Sums.{sum_by-cons}
use Rattle.ir_core.specs.declared.limit.TheConstants.{MAX_CODE}
use Rattle.ir_core.specs.declared.instruction.Term.{Term}
use Rattle.ir_core.specs.declared.instruction.Term.TheVariants.{Switch}
use Rattle.ir_core.specs.declared.module.Function.{Function}
use Rattle.ir_core.specs.declared.module.Module.{Module}
use Rattle.ir_core.specs.Definitions.{repeated}
use Rattle.ir_sound.specs.WellTyped.{Each}
use Rattle.ir_sound.proofs.RowLaws.{Each_and, Each_from, Each_more, length_map}
use Rattle.low_core.specs.declared.moves.Body.{Body}
use Rattle.low_core.specs.declared.moves.Chunk.{Chunk}
use Rattle.low_core.specs.declared.moves.Move.{Move}
use Rattle.low_core.specs.Plain.{block_of, plain}
use Rattle.low_core.specs.Shaped.{keeps_moves, IsBody, is_lean_end, IsFunctionShaped, IsModuleShaped, AreShaped}
use Rattle.low_core.specs.Weights.{function_weight, low_own, lean_own}
use Rattle.switch_lower.specs.Ways.{ways}
use Rattle.switch_lower.specs.Fresh.{padding_for}
use Rattle.switch_lower.specs.Bodies.{chunks_by, chunks_for, chunks_from, bodies_of, bodies_without_switches}
use Rattle.switch_lower.proofs.ShapeRows.{all_of, each_of, all_from}
use Rattle.switch_lower.proofs.ShapeChunks.{choice, plain_tree, chunks_have}
use Rattle.switch_lower.proofs.ShapeFunctions.{low_function, lean_function, bodies_length, functions_each}
use Rattle.switch_lower.proofs.ShapeFresh.{IsOld, HasOldNames}
use Rattle.switch_lower.proofs.ShapeLabels.{labels_in, labels_are, names_apart, apart_repeat, none_before, labels_apart}
use Rattle.switch_lower.proofs.ShapeLocals.{chunks_old}
use Rattle.switch_lower.proofs.ShapeRoom.{lean_room}
use Rattle.switch_lower.proofs.ShapeBase.{lean_symbols, lean_few, lean_main, lean_globals, lean_nested, lean_sized, lean_passed, lean_outside}
use Rattle.switch_lower.proofs.ShapeKnown.{lean_known}
use Rattle.switch_lower.proofs.ShapeFits.{lean_fits}
use Rattle.switch_lower.proofs.WeighTree.{chunks_least}
use Rattle.switch_lower.proofs.WeighBodies.{shaped_light, function_weighs, bodies_weigh}

-- an item of a sum is at most the sum
items_below : {X : Type 0} (F : X → ℕ) (most : ℕ) (xs : List X) → sum_by F xs ≤ most → Each (λ x. F x ≤ most) xs
items_below F most [] le = tt
items_below F most (x ∷ xs) le = let e = sum_by-cons F x xs in ((let z : F x ≤ most = omega arith in z), items_below F most xs (omega arith))

-- a function
function_shaped : (base : Module) (bodies : List Body) (f : Function) (b : Body) → IsFunctionShaped low_own (plain base bodies) (low_function f b) × (function_weight (low_function f b) ≤ MAX_CODE) → IsFunctionShaped lean_own (plain base (bodies_without_switches base bodies)) (lean_function f b)
function_shaped base bodies f b has =
    let low = has.0 in
    let padding = padding_for (low_function f b) in
    let new = chunks_from padding 0 b.chunks in
    let r = lean_room base.types f b in
    let k = low.room in
    let a = function_weighs f b (shaped_light (plain base bodies) (low_function f b) low) in
    let c = chunks_least (lean_function f b).blocks in
    let d : length (lean_function f b).blocks ≡ length new = length_map block_of new in
    let e : MAX_CODE ≡ 67108864 = refl in
    let g = has.1 in
    let old = Each_more (λ (x : Chunk). HasOldNames padding (block_of x)) (λ (x : Chunk). IsOld padding x.label) b.chunks (λ x h. h.label) (chunks_old f b) in
    let names = subst (λ ns. repeated [] ns ≡ []) (labels_are b.chunks) low.labels in
    let apart = labels_apart padding 0 b.chunks old (names_apart [] (labels_in b.chunks) names) (omega arith) in
    record {
      typed = low.typed;
      fits = lean_fits base bodies f b low.fits;
      labels = ap (repeated []) (labels_are new) ∙ apart_repeat [] (labels_in new) apart (none_before (labels_in new));
      params = low.params;
      room = omega arith;
    }

-- no chunk ends in a switch
chunks_lean : (padding at : ℕ) (cs : List Chunk) → list_all (λ (c : Chunk). is_lean_end c.end) (chunks_from padding at cs) ≡ true
chunks_lean padding at cs =
    all_from (λ (c : Chunk). is_lean_end c.end) (chunks_from padding at cs)
    (chunks_have padding (chunks_from padding at cs) (λ c. Unit {0}) (λ (c : Chunk). is_lean_end c.end ≡ true) (λ c u e. e)
    (λ n c ty a default cases u e are. (refl, plain_tree (λ (x : Chunk). is_lean_end x.end ≡ true) (choice padding ty a default) (λ k pred number taken other. refl) (λ k. refl) (length (ways ty cases)) (n + 1) (ways ty cases)))
    at cs (nothing cs) (λ x there. there))
  where
    nothing : (ds : List Chunk) → Each (λ (c : Chunk). Unit {0}) ds
    nothing [] = tt
    nothing (d ∷ ds) = (tt, nothing ds)

bodies_lean : (fs : List Function) (bs : List Body) → Each (λ (b : Body). list_all (λ (c : Chunk). is_lean_end c.end) b.chunks ≡ true) (bodies_of fs bs)
bodies_lean [] bs = tt
bodies_lean (f ∷ fs) [] = tt
bodies_lean (f ∷ fs) (b ∷ bs) = (chunks_lean (padding_for (low_function f b)) 0 b.chunks, bodies_lean fs bs)

-- chunks are made of moves
abbrev is_made : Chunk → Bool
is_made c = list_all (λ (x : Move). keeps_moves x.op) c.moves

chunks_made : (padding at : ℕ) (cs : List Chunk) → Each (λ c. is_made c ≡ true) cs → list_all is_made (chunks_from padding at cs) ≡ true
chunks_made padding at cs made =
    all_from is_made (chunks_from padding at cs)
    (chunks_have padding (chunks_from padding at cs) (λ c. is_made c ≡ true) (λ c. is_made c ≡ true) (λ c own e. own)
    (λ n c ty a default cases own e are. (own, plain_tree (λ x. is_made x ≡ true) (choice padding ty a default) (λ k pred number taken other. refl) (λ k. refl) (length (ways ty cases)) (n + 1) (ways ty cases)))
    at cs made (λ x there. there))

some_chunk : (padding at : ℕ) (cs : List Chunk) → 0 < length cs → 0 < length (chunks_from padding at cs)
some_chunk padding at [] some = absurd (omega arith)
some_chunk padding at (c ∷ cs) some =
    let one = chunks_for padding at c in
    let others = chunks_from padding (at + length one) cs in
    let l = length-append one others in
    let k = by_end c.end in
    omega arith
  where
    by_end : (end : Term) → 1 ≤ length (chunks_by padding at c end)
    by_end (Switch ty a default cases) = omega arith
    by_end end = omega arith

bodies_made : (fs : List Function) (bs : List Body) → Each IsBody bs → Each IsBody (bodies_of fs bs)
bodies_made [] bs made = tt
bodies_made (f ∷ fs) [] made = tt
bodies_made (f ∷ fs) (b ∷ bs) made =
    ((some_chunk (padding_for (low_function f b)) 0 b.chunks made.0.0, chunks_made (padding_for (low_function f b)) 0 b.chunks (Each_from is_made b.chunks made.0.1)), bodies_made fs bs made.1)

-- the module
module_shaped : (base : Module) (bodies : List Body) → AreShaped low_own base bodies → IsModuleShaped lean_own (plain base (bodies_without_switches base bodies))
module_shaped base bodies low =
    let m = plain base bodies in
    let w = plain base (bodies_without_switches base bodies) in
    let s = low.shaped in
    let a = bodies_weigh base bodies low in
    let k = s.weighs in
    let functions = Each_and (IsFunctionShaped low_own m) (λ (f : Function). function_weight f ≤ MAX_CODE) m.functions (each_of (IsFunctionShaped low_own m) m.functions s.functions) (items_below function_weight MAX_CODE m.functions (omega arith)) in
    record {
      types_apart = s.types_apart;
      symbols_apart = lean_symbols base bodies s.symbols_apart;
      known = lean_known base bodies s.known;
      nested = lean_nested base bodies s.nested;
      sized = lean_sized base bodies s.sized;
      few = lean_few base bodies s.few;
      passed = lean_passed base bodies s.passed;
      outside = lean_outside base bodies s.outside;
      main = lean_main base bodies s.main;
      globals = lean_globals base bodies s.globals;
      types_built = s.types_built;
      inits_built = s.inits_built;
      declared = s.declared;
      functions = all_of (IsFunctionShaped lean_own w) w.functions (functions_each (λ (f : Function). IsFunctionShaped low_own m f × (function_weight f ≤ MAX_CODE)) (IsFunctionShaped lean_own w) (function_shaped base bodies) base.functions bodies functions);
      weighs = omega arith;
    }

pub bodies_shaped : (base : Module) (bodies : List Body) → AreShaped low_own base bodies → AreShaped lean_own base (bodies_without_switches base bodies)
bodies_shaped base bodies low = record {
  one_each = bodies_length base.functions bodies low.one_each;
  made_of_moves = all_of IsBody (bodies_without_switches base bodies) (bodies_made base.functions bodies (each_of IsBody bodies low.made_of_moves));
  shaped = module_shaped base bodies low;
}

pub no_switches : (base : Module) (bodies : List Body) → All (λ (b : Body). list_all (λ (c : Chunk). is_lean_end c.end) b.chunks ≡ true) (bodies_without_switches base bodies)
no_switches base bodies = all_of (λ (b : Body). list_all (λ (c : Chunk). is_lean_end c.end) b.chunks ≡ true) (bodies_without_switches base bodies) (bodies_lean base.functions bodies)
