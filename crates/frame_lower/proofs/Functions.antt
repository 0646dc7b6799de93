-- A whole function: its front and its blocks, with links and cuts inside.
use Rattle.std.proofs.Common.{◌≡◌, ℕ, zero, suc, ◌+◌, ◌<◌, ◌≤◌, List, [], ◌∷◌, map, length, ap, sym, ◌∙◌, arith}
use Rattle.std.specs.List.{sum_by}
use Rattle.std.proofs.lemmas.List.Sums.{sum_by-cons}
use Rattle.low_core.specs.declared.sel.SelBlock.{SelBlock}
use Rattle.low_core.specs.declared.sel.SelFun.{SelFun}
use Rattle.low_core.specs.SelWeights.{sel_block_weight}
use Rattle.obj_core.specs.declared.object.Func.{Func}
use Rattle.obj_core.specs.declared.object.Link.{Link}
use Rattle.obj_core.specs.declared.object.FuncKind.{FuncKind}
use Rattle.obj_rows.specs.Marked.{Marked, row_size}
use Rattle.frame_lower.specs.declared.code.Code.{Code}
use Rattle.frame_lower.specs.Rows.{Making}
use Rattle.frame_lower.specs.Blocks.{block_bytes, blocks_row, starts_from, start_in}
use Rattle.frame_lower.specs.Functions.{front_row, function_row, saved_function}
use Rattle.frame_lower.specs.Writing.{empty_code, with_row, link_of}
use Rattle.frame_lower.proofs.Long.{row_long}
use Rattle.frame_lower.proofs.Sizes.{block_light}
use Rattle.frame_lower.proofs.Writing.{row_joined}
use Rattle.frame_lower.proofs.Written.{whole_bytes, whole_links, whole_cuts}

-- the function of code
abbrev pub function_of : Code → Func
function_of c = record { kind = FuncKind.Saved; bytes = c.bytes; links = map link_of c.links; cuts = c.cuts }

parts : (bs cs : List ℕ) (ls ms : List Link) (ks ns : List ℕ) → bs ≡ cs → ls ≡ ms → ks ≡ ns →
    let f : Func = record { kind = FuncKind.Saved; bytes = bs; links = ls; cuts = ks } in
    let g : Func = record { kind = FuncKind.Saved; bytes = cs; links = ms; cuts = ns } in f ≡ g
parts bs cs ls ms ks ns a b d = cc

pub function_written : (row : List Marked) → function_of (with_row row empty_code) ≡ saved_function row
function_written row = parts _ _ _ _ _ _ (whole_bytes row) (whole_links row) (whole_cuts row)

-- the front alone
pub front_long : (row : List Marked) → length (with_row row empty_code).bytes ≡ row_size row
front_long row = let e = row_long row empty_code in omega arith

-- front and blocks
pub function_joined : (by : Making) (slot : ℕ) (f : SelFun) →
    let front = front_row by f in
    let c = with_row front empty_code in
    with_row (blocks_row by (start_in (starts_from by (length c.bytes) f.blocks)) (length c.bytes) slot f.blocks) c ≡ with_row (function_row by slot f) empty_code
function_joined by slot f =
    let front = front_row by f in
    let c = with_row front empty_code in
    ap (λ n. with_row (blocks_row by (start_in (starts_from by n f.blocks)) n slot f.blocks) c) (front_long front)
    ∙ sym (row_joined front (blocks_row by (start_in (starts_from by (row_size front) f.blocks)) (row_size front) slot f.blocks) empty_code)

-- blocks start inside of the function
pub starts_below : (by : Making) (most at : ℕ) (bs : List SelBlock) → length by.order ≤ 5 → 0 < most → at + sum_by sel_block_weight bs < most → (n : ℕ) → start_in (starts_from by at bs) n < most
starts_below by most at [] five some below n = some
starts_below by most at (b ∷ bs) five some below zero = let w = sum_by-cons sel_block_weight b bs in omega arith
starts_below by most at (b ∷ bs) five some below (suc n) =
    starts_below by most (at + block_bytes by b) bs five some (let l = block_light by five b in let w = sum_by-cons sel_block_weight b bs in omega arith) n
