-- Functions of equal parts.
use Rattle.std.proofs.Common.{◌≡◌, ℕ, ◌+◌, List, [], ◌∷◌, length, map, refl, ap, ◌∙◌, arith}
use Rattle.std.specs.List.{sum_by}
use Rattle.ir_core.specs.declared.module.Block.{Block}
use Rattle.ir_core.specs.declared.module.Function.{Function}
use Rattle.ir_core.specs.declared.module.Module.{Module}
use Rattle.ir_core.specs.Definitions.{label_names}
use Rattle.ir_core.specs.Valid.{LocalKind}
use Rattle.low_core.specs.declared.moves.Chunk.{Chunk}
use Rattle.low_core.specs.declared.sel.SelBlock.{SelBlock}
use Rattle.low_core.specs.declared.sel.SelFun.{SelFun}
use Rattle.low_core.specs.Plain.{block_of, with_blocks}
use Rattle.low_core.specs.Weights.{allocas_room}
use Rattle.isel_rows.specs.Variables.{variables_of, registers_count}
use Rattle.isel_rows.specs.Functions.{allocas_in, blocks_selected, numbers_from, function_selected}

parts : (ps qs : List ℕ) (r s f g : ℕ) (bs cs : List SelBlock) → ps ≡ qs → r ≡ s → f ≡ g → bs ≡ cs
    → let a : SelFun = record { params = ps; registers = r; frame = f; blocks = bs } in let b : SelFun = record { params = qs; registers = s; frame = g; blocks = cs } in a ≡ b
parts ps qs r s f g bs cs a b c d = cc

-- the labels of chunks are those of their blocks
labels_are : (cs : List Chunk) → map (λ (c : Chunk). c.label) cs ≡ map (λ (b : Block). b.label) (map block_of cs)
labels_are [] = refl
labels_are (c ∷ cs) = ap (λ l. c.label ∷ l) (labels_are cs)

pub is_selected : (m : Module) (f : Function) (cs : List Chunk) (vs : List LocalKind) (labels : List (List ℕ)) (params : List ℕ) (registers frame : ℕ) (blocks : List SelBlock)
    → let g = with_blocks f (map block_of cs) in
    vs ≡ variables_of g → labels ≡ map (λ (c : Chunk). c.label) cs → params ≡ numbers_from 0 (length f.params) → registers ≡ registers_count vs g
    → frame ≡ 0 + sum_by (λ (b : Block). allocas_in m.types b.insts) (map block_of cs) → blocks ≡ blocks_selected m vs labels 0 (map block_of cs)
    → let s : SelFun = record { params = params; registers = registers; frame = frame; blocks = blocks } in s ≡ function_selected m g
is_selected m f cs vs labels params registers frame blocks are named passed counted sized made =
    let g = with_blocks f (map block_of cs) in
    let room = sum_by (λ (b : Block). allocas_in m.types b.insts) (map block_of cs) in
    let whole : 0 + room ≡ room = omega arith in
    parts params (numbers_from 0 (length f.params)) registers (registers_count (variables_of g) g) frame (allocas_room m.types g) blocks (blocks_selected m (variables_of g) (label_names g) 0 (map block_of cs))
    passed (counted ∙ ap (λ (us : List LocalKind). registers_count us g) are) (sized ∙ whole)
    (made ∙ ap (λ (us : List LocalKind). blocks_selected m us labels 0 (map block_of cs)) are
    ∙ ap (λ (ls : List (List ℕ)). blocks_selected m (variables_of g) ls 0 (map block_of cs)) (named ∙ labels_are cs))
