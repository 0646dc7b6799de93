-- What code that is being written comes to, one instruction after another.
use Rattle.std.specs.Prelude.{◌+◌, List, [], ◌∷◌, ◌++◌, length}
use Rattle.x86_core.specs.Encoding.{encoding}
use Rattle.obj_core.specs.declared.object.Func.{Func}
use Rattle.obj_core.specs.declared.object.FuncKind.{FuncKind}
use Rattle.obj_core.specs.Disassembly.{size_of}
use Rattle.obj_rows.specs.Marked.{Marked, link_ending}
use Rattle.rt_routines.specs.declared.code.Code.{Code}

-- no byte yet
abbrev pub empty_code : Code
empty_code = record { bytes = []; links = [] }

-- one more instruction
abbrev pub with_one : Marked → Code → Code
with_one x c = record { bytes = c.bytes ++ encoding x.instr; links = c.links ++ link_ending x.slot (length c.bytes + size_of x.instr) }

-- a row
abbrev pub with_row : List Marked → Code → Code
with_row [] c = c
with_row (x ∷ xs) c = with_row xs (with_one x c)

-- code as a function
abbrev pub function_with : Code → Func
function_with c = record { kind = FuncKind.Plain; bytes = c.bytes; links = c.links; cuts = [] }
