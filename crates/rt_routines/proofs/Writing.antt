-- Code that is written is the row that was written.
use Rattle.std.proofs.Common.{◌≡◌, ℕ, ◌+◌, List, [], ◌∷◌, ◌++◌, length, ap, sym, ◌∙◌, append_assoc, length-append}
use Rattle.std.proofs.lemmas.List.{append-nil}
use Rattle.x86_core.specs.Encoding.{encoding}
use Rattle.obj_core.specs.declared.object.Link.{Link}
use Rattle.obj_core.specs.Disassembly.{size_of, spelled}
use Rattle.obj_rows.specs.Marked.{Marked, instrs_of, link_ending, links_from}
use Rattle.rt_routines.specs.Code.{function_of}
use Rattle.rt_routines.specs.declared.code.Code.{Code}
use Rattle.rt_routines.specs.Writing.{empty_code, with_one, with_row, function_with}

-- a row behind other code
abbrev behind : Code → List Marked → Code
behind c row = record { bytes = c.bytes ++ spelled (instrs_of row); links = c.links ++ links_from (length c.bytes) row }

same_code : (xs ys : List ℕ) (ls ms : List Link) → xs ≡ ys → ls ≡ ms → let c : Code = record { bytes = xs; links = ls } in let d : Code = record { bytes = ys; links = ms } in c ≡ d
same_code xs ys ls ms e f = cc

row_behind : (row : List Marked) (c : Code) → with_row row c ≡ behind c row
row_behind [] c = same_code c.bytes (c.bytes ++ []) c.links (c.links ++ []) (sym (append-nil c.bytes)) (sym (append-nil c.links))
row_behind (x ∷ xs) c =
    let one = encoding x.instr in
    let links = link_ending x.slot (length c.bytes + size_of x.instr) in
    let long : length (c.bytes ++ one) ≡ length c.bytes + size_of x.instr = length-append c.bytes one in
    row_behind xs (with_one x c)
    ∙ same_code (c.bytes ++ one ++ spelled (instrs_of xs)) (c.bytes ++ (one ++ spelled (instrs_of xs)))
    (c.links ++ links ++ links_from (length (c.bytes ++ one)) xs) (c.links ++ (links ++ links_from (length c.bytes + size_of x.instr) xs))
    (append_assoc c.bytes one (spelled (instrs_of xs)))
    (ap (λ k. c.links ++ links ++ links_from k xs) long ∙ append_assoc c.links links (links_from (length c.bytes + size_of x.instr) xs))

-- a row that is written from the start on
pub row_written : (row : List Marked) → function_with (with_row row empty_code) ≡ function_of row
row_written row = ap function_with (row_behind row empty_code)
