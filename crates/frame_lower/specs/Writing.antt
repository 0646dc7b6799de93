-- What code that is being written comes to, one instruction after another.
use Rattle.std.specs.Prelude.{ℕ, ◌+◌, ◌-◌, List, [], ◌∷◌, ◌++◌, Bool, false, length, Option, Some, None, if◌then◌else◌}
use Rattle.x86_core.specs.Encoding.{encoding}
use Rattle.obj_core.specs.declared.object.Link.{Link}
use Rattle.obj_core.specs.Disassembly.{size_of}
use Rattle.obj_core.specs.WellFormed.{is_end}
use Rattle.obj_rows.specs.Marked.{Marked}
use Rattle.frame_lower.specs.declared.code.Code.{Code}
use Rattle.frame_lower.specs.declared.code.Linked.{Linked}

-- no byte yet
abbrev pub empty_code : Code
empty_code = record { bytes = []; links = []; cuts = []; ended = false }

-- the link of an instruction that ends at an offset
abbrev pub linked_ending : Option ℕ → ℕ → List Linked
linked_ending None end = []
linked_ending (Some k) end = record { at = end - 4; slot = k } ∷ []

-- where nothing runs past what stands before, code may be cut
abbrev pub cut_here : Bool → ℕ → List ℕ
cut_here ended at = if ended then at ∷ [] else []

-- one more instruction
abbrev pub with_one : Marked → Code → Code
with_one x c = record {
  bytes = c.bytes ++ encoding x.instr;
  links = c.links ++ linked_ending x.slot (length c.bytes + size_of x.instr);
  cuts = c.cuts ++ cut_here c.ended (length c.bytes);
  ended = is_end x.instr;
}

-- a row
abbrev pub with_row : List Marked → Code → Code
with_row [] c = c
with_row (x ∷ xs) c = with_row xs (with_one x c)

-- a link of an object
abbrev pub link_of : Linked → Link
link_of l = record { at = l.at; slot = l.slot }
