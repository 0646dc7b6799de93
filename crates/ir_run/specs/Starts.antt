-- The first state of a program.
use Rattle.std.specs.Prelude.{ℕ, zero, suc, ◌≡◌, ◌-◌, List, [], ◌∷◌, ◌++◌, length, map, replicate, Option, Some, None}
use Rattle.rd_num.specs.declared.width.Width.TheVariants.{W32}
use Rattle.ir_core.specs.declared.module.Module.{Module}
use Rattle.ir_core.specs.declared.memory.Value.{Value}
use Rattle.ir_core.specs.declared.memory.Value.TheVariants.{Num}
use Rattle.ir_core.specs.Memory.{Memory}
use Rattle.ir_core.specs.Stops.{Malformed, ending_of}
use Rattle.ir_core.specs.Globals.{first_objects}
use Rattle.ir_core.specs.Run.{first_arguments, source_start}
use Rattle.ir_program.specs.declared.program.Body.{Body}
use Rattle.ir_program.specs.declared.program.Program.{Program}
use Rattle.ir_program.specs.Programs.{program_of}
use Rattle.ir_run.specs.declared.state.State.{State}
use Rattle.ir_run.specs.Runs.{StartsFor}

-- the arguments for so many parameters: those of a `main` that has them
abbrev pub arguments_for : ℕ → List Value
arguments_for zero = []
arguments_for (suc zero) = Num W32 0 ∷ []
arguments_for (suc (suc n)) = first_arguments

-- the first call of a function
abbrev pub started : Body → ℕ → Memory → State
started body number memory = record {
  frame = record {
    function = number;
    block = 0;
    next = 0;
    registers = map Some (arguments_for (length body.parameters)) ++ replicate (body.registers - length (arguments_for (length body.parameters))) None;
    objects = [];
    into = None;
  };
  callers = [];
  memory = memory;
}

-- over the first objects of a module a state stands for its first one; only a module without a `main` has none
unfoldable pub Starts : Program → Memory → Option State → Type 0
Starts p memory (Some s) = (m : Module) → p ≡ program_of m → memory ≡ first_objects m → StartsFor m s
Starts p memory None = (m : Module) → p ≡ program_of m → (source_start m).ending ≡ ending_of Malformed
