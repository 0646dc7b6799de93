use Rattle.std.proofs.Common.{◌≡◌, ℕ, List, drop}
use Rattle.x86_core.specs.declared.instr.Instr.{Instr as Instruction}
use Rattle.obj_core.specs.declared.object.Func.{Func as Function}
use Rattle.obj_core.specs.WellFormed.{in_functions}
use Rattle.guard_check.specs.Checking.{disassemblies_of, rule_number, failing}
use Rattle.guard_check.proofs.check.first_in_functions.Given as goal

abbrev pub invariant-loop-n : goal.invariant-loop-n
invariant-loop-n l =
    in_functions (rule_number l.rule) (λ (m : ℕ) (g : Function) (c : List Instruction). failing l.rule l.o.slots g c) l.n (drop l.n l.functions) (disassemblies_of (drop l.n l.functions)) ≡
    in_functions (rule_number l.rule) (λ (m : ℕ) (g : Function) (c : List Instruction). failing l.rule l.o.slots g c) 0 l.functions (disassemblies_of l.functions)
