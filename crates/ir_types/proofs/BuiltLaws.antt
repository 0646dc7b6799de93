-- Parts of what is built are built, and there are fewer than 2^32 of them.
use Rattle.std.proofs.Common.{◌≡◌, ℕ, zero, suc, ◌<◌, ◌^◌, Bool, true, List, [], ◌∷◌, length, get_or, map, Option, Some, None, refl, ap, sym, ◌∙◌, subst, arith}
use Rattle.std.specs.List.{list_all}
use Rattle.std.proofs.lemmas.Bool.{and_parts, ltb-true}
use Rattle.ir_core.specs.declared.instruction.Entry.{Entry}
use Rattle.ir_core.specs.declared.module.Block.{Block}
use Rattle.ir_core.specs.declared.module.Function.{Function}
use Rattle.ir_core.specs.declared.module.Module.{Module}
use Rattle.ir_core.specs.Built.{IsBuilt, built_all, block_built, blocks_built, function_built}
use Rattle.ir_core.specs.Valid.{predecessors, entries_fit}
use Rattle.ir_types.specs.Flow.{row_at, rows_of, label_number}
use Rattle.ir_types.proofs.FlowLaws.{row_fits, label_known}

-- an item of a row whose items all pass
all_at : {X : Type 0} (test : X → Bool) (xs : List X) → list_all test xs ≡ true → (k : ℕ) (d : X) → k < length xs → test (get_or xs k d) ≡ true
all_at test [] all k d inside = absurd (omega arith)
all_at test (x ∷ xs) all zero d inside = (and_parts _ _ all).0
all_at test (x ∷ xs) all (suc k) d inside = all_at test xs (and_parts _ _ all).1 k d (omega arith)

-- a built row is short
pub built_short : {X : Type 0} (test : X → Bool) (xs : List X) → built_all test xs ≡ true → length xs < 2 ^ 32
built_short test xs built = ltb-true (length xs) (2 ^ 32) (and_parts _ _ built).0

-- and each item of it is built
pub built_at : {X : Type 0} (test : X → Bool) (xs : List X) → built_all test xs ≡ true → (k : ℕ) (x : X) → k < length xs → x ≡ get_or xs k x → test x ≡ true
built_at test xs built k x inside item = subst (λ y. test y ≡ true) (sym item) (all_at test xs (and_parts _ _ built).1 k x inside)

-- the blocks of a function are a built row
pub blocks_are : (bs : List Block) → blocks_built bs ≡ true → built_all block_built bs ≡ true
blocks_are [] built = absurd (cc)
blocks_are (b ∷ bs) built = built

-- a function's blocks are built
pub function_blocks : (f : Function) → function_built f ≡ true → blocks_built f.blocks ≡ true
function_blocks f built = (and_parts _ _ (and_parts _ _ built).1).1

-- the row of a block of a function
pub row_sources : (bs : List Block) (k : ℕ) (b : Block) → k < length bs → b ≡ get_or bs k b → (row : List (List ℕ)) → row ≡ row_at (rows_of bs) (label_number (map (λ (c : Block). c.label) bs) b.label) → (entries : List Entry) → entries_fit row entries ≡ entries_fit (predecessors bs b.label) entries
row_sources bs k b inside item row is entries = ap (λ r. entries_fit r entries) is ∙ of_option (label_number (map (λ (c : Block). c.label) bs) b.label) refl
  where
    of_option : (o : Option ℕ) → label_number (map (λ (c : Block). c.label) bs) b.label ≡ o → entries_fit (row_at (rows_of bs) o) entries ≡ entries_fit (predecessors bs b.label) entries
    of_option (Some t) e = row_fits bs b.label t entries e
    of_option None e = absurd (label_known bs k b inside (ap (λ (c : Block). label_number (map (λ (c : Block). c.label) bs) c.label) (sym item) ∙ e))

-- a built module's parts are built rows
pub module_parts : (m : Module) → IsBuilt m → (length m.globals < 2 ^ 32) × (length m.externs < 2 ^ 32) × (built_all function_built m.functions ≡ true)
module_parts m built =
    let left = (and_parts _ _ built).0 in
    let right = (and_parts _ _ built).1 in
    (built_short _ m.globals (and_parts _ _ left).1, built_short _ m.externs (and_parts _ _ right).0, (and_parts _ _ right).1)
