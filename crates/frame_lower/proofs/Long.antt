-- Code grows by the bytes of what is written.
use Rattle.std.proofs.Common.{◌≡◌, ◌+◌, List, [], ◌∷◌, length, sym, arith, length-append}
use Rattle.x86_core.specs.Encoding.{encoding}
use Rattle.obj_rows.specs.Marked.{Marked, row_size}
use Rattle.frame_lower.specs.declared.code.Code.{Code}
use Rattle.frame_lower.specs.Writing.{with_one, with_row}

pub row_long : (row : List Marked) (c : Code) → length (with_row row c).bytes ≡ length c.bytes + row_size row
row_long [] c = sym (omega arith)
row_long (x ∷ xs) c = let e = row_long xs (with_one x c) in let l = length-append c.bytes (encoding x.instr) in omega arith
