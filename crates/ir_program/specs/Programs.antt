-- Functions and modules with numbers in place of names.
use Rattle.std.specs.Prelude.{ℕ, List, length, map, codes}
use Rattle.ir_core.specs.declared.module.Block.{Block}
use Rattle.ir_core.specs.declared.module.Param.{Param}
use Rattle.ir_core.specs.declared.module.Function.{Function}
use Rattle.ir_core.specs.declared.module.Module.{Module}
use Rattle.ir_core.specs.Kinds.{kind_of}
use Rattle.ir_core.specs.Operands.{function_number}
use Rattle.ir_core.specs.Typing.{labels_of}
use Rattle.ir_core.specs.Valid.{locals_of, named_locals}
use Rattle.ir_program.specs.declared.program.Stretch.{Stretch}
use Rattle.ir_program.specs.declared.program.Body.{Body}
use Rattle.ir_program.specs.declared.program.Program.{Program}
use Rattle.ir_program.specs.Actions.{task_of}
use Rattle.ir_program.specs.Exits.{distinct, edge_to, exit_of}

-- the names of a function's registers
abbrev pub register_names : Function → List (List ℕ)
register_names f = named_locals (locals_of f)

-- a block among those of its function
abbrev pub stretch_of : Module → List (List ℕ) → List Block → Block → Stretch
stretch_of m names blocks b =
    let labels = distinct (labels_of b.end) in
    record { tasks = map (task_of m names) b.insts; exit = exit_of m names labels b.end; edges = map (edge_to m names b.label blocks) labels }

-- a function
abbrev pub body_of : Module → Function → Body
body_of m f = record {
  result = kind_of f.ret;
  parameters = map (λ (p : Param). kind_of p.ty) f.params;
  registers = length (register_names f);
  stretches = map (stretch_of m (register_names f) f.blocks) f.blocks;
}

-- a module
abbrev pub program_of : Module → Program
program_of m = record { bodies = map (body_of m) m.functions; main = function_number m (codes "main") }
