-- The tokens of a module.
use Rattle.std.specs.Prelude.{List, [], ◌∷◌, flat_map}
use Rattle.ir_core.specs.declared.ty.NamedTy.{NamedTy}
use Rattle.ir_core.specs.declared.module.GlobalVar.{GlobalVar}
use Rattle.ir_core.specs.declared.module.Extern.{Extern}
use Rattle.ir_core.specs.declared.module.Function.{Function}
use Rattle.ir_core.specs.declared.module.Module.{Module}
use Rattle.ir_grammar.specs.Grammar.{Grammar, give, many, ◌▸◌}
use Rattle.ir_syntax.specs.declared.item.Item.{Item}
use Rattle.ir_syntax.specs.declared.item.Item.TheVariants as item_of
use Rattle.ir_syntax.specs.Items.{item}

-- an item that is a named type
abbrev pub types_in : Item → List NamedTy
types_in (item_of.Type t) = t ∷ []
types_in _ = []

-- an item that is a global
abbrev pub globals_in : Item → List GlobalVar
globals_in (item_of.Global g) = g ∷ []
globals_in _ = []

-- an item that is a declaration
abbrev pub externs_in : Item → List Extern
externs_in (item_of.Extern e) = e ∷ []
externs_in _ = []

-- an item that is a function
abbrev pub functions_in : Item → List Function
functions_in (item_of.Function f) = f ∷ []
functions_in _ = []

-- the module of a row of items, which keeps their order
abbrev pub module_of : List Item → Module
module_of items =
    record { types = flat_map types_in items; globals = flat_map globals_in items; externs = flat_map externs_in items; functions = flat_map functions_in items }

-- module = { item }
unfoldable pub module_text : Grammar Module
module_text = give module_of ▸ many item
