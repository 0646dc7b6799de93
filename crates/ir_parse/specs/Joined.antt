-- How private calls put the parts of a module behind those that were read.
use Rattle.std.specs.Prelude.{List, ◌++◌}
use Rattle.ir_core.specs.declared.module.Module.{Module}
use Rattle.ir_grammar.specs.Reading.{Read, done, fault}
use Rattle.ir_syntax.specs.declared.item.Item.{Item}
use Rattle.ir_syntax.specs.ModuleText.{module_of}

-- two modules as one, the parts of the first in front
abbrev pub joined : Module → Module → Module
joined m n =
    record { types = m.types ++ n.types; globals = m.globals ++ n.globals; externs = m.externs ++ n.externs; functions = m.functions ++ n.functions }

-- items that were read, behind a module
abbrev pub put_items : Module → Read (List Item) → Read Module
put_items m (done is ts) = done (joined m (module_of is)) ts
put_items m (fault left) = fault left
