-- The names that are used as values, in the order in which they are mentioned.
use Rattle.std.specs.Prelude.{ℕ, List, [], ◌∷◌, ◌++◌}
use Rattle.std.specs.List.{flat_map}
use Rattle.ir_core.specs.declared.init.Elem.{Elem}
use Rattle.ir_core.specs.declared.instruction.Arg.{Arg}
use Rattle.ir_core.specs.declared.instruction.Case.{Case}
use Rattle.ir_core.specs.declared.instruction.Entry.{Entry}
use Rattle.ir_core.specs.declared.module.GlobalVar.{GlobalVar}
use Rattle.ir_core.specs.Mentions.{Mention, OfType, OfLabel, OfLocal, OfCallee, OfBase, OfSymbol, of_operand, of_op, of_end, of_init}
use Rattle.low_core.specs.declared.moves.Body.{Body}
use Rattle.low_core.specs.declared.moves.Chunk.{Chunk}
use Rattle.low_core.specs.declared.moves.Move.{Move}
use Rattle.low_core.specs.Plain.{op_of}

-- the name of a mention that is one of a value
abbrev pub symbol_of : Mention → List (List ℕ)
symbol_of (OfSymbol n) = n ∷ []
symbol_of (OfType ty) = []
symbol_of (OfLabel n) = []
symbol_of (OfLocal n) = []
symbol_of (OfCallee n) = []
symbol_of (OfBase n) = []

abbrev pub symbols_in : List Mention → List (List ℕ)
symbols_in ms = flat_map symbol_of ms

-- those of parts of a module
abbrev pub arg_symbols : Arg → List (List ℕ)
arg_symbols a = symbols_in (of_operand a.value)

abbrev pub entry_symbols : Entry → List (List ℕ)
entry_symbols e = symbols_in (of_operand e.value)

abbrev pub case_symbols : Case → List (List ℕ)
case_symbols c = symbols_in (of_operand c.value)

abbrev pub move_symbols : Move → List (List ℕ)
move_symbols x = symbols_in (of_op (op_of x.op))

abbrev pub chunk_symbols : Chunk → List (List ℕ)
chunk_symbols c = flat_map move_symbols c.moves ++ symbols_in (of_end c.end)

abbrev pub body_symbols : Body → List (List ℕ)
body_symbols b = flat_map chunk_symbols b.chunks

abbrev pub element_symbols : Elem → List (List ℕ)
element_symbols e = symbols_in (of_init e.init)

abbrev pub global_symbols : GlobalVar → List (List ℕ)
global_symbols g = symbols_in (of_init g.init)
