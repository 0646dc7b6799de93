-- Where a machine goes on after what an instruction does to registers and flags.
use Rattle.std.specs.Prelude.{ℕ, ◌<◌, ◌≤◌, Some}
use Rattle.behavior.specs.Ending.{Divide, Invalid, Breakpoint, NoFlag}
use Rattle.rd_num.specs.Number.{le_bytes}
use Rattle.x86_core.specs.declared.reg.Reg.TheVariants.{Rsp, R11}
use Rattle.x86_core.specs.declared.effect.Next.{Next}
use Rattle.x86_core.specs.declared.effect.Next.TheVariants as next
use Rattle.x86_core.specs.declared.effect.Change.{Change}
use Rattle.x86_core.specs.Registers.{word}
use Rattle.x86_core.specs.Effect.{plain}
use Rattle.x86_core.specs.Arithmetic.{moved}
use Rattle.x86_core.specs.Memory.{read_at, write_at}
use Rattle.x86_core.specs.Step.{State, by_access, below, called, returned, request_of, served}
use Rattle.xom_machine.specs.declared.kernel.Request.{Request}
use Rattle.xom_machine.specs.declared.kernel.Request.TheVariants.{Exits, Idles, Prints, Takes, Unknown}
use Rattle.x86_core.specs.Step as request

-- without the kernel: on to the next instruction, to another place, or a stop
abbrev pub moved_on : Next → Change → ℕ → State ℕ → State ℕ
moved_on next.Fall c after s = by_access c.access c after s
moved_on (next.Branch by) c after s = record s { place = moved after by }
moved_on (next.Call by) c after s = called (moved after by) (write_at s.segments (below s.regs) (le_bytes 8 after)) s
moved_on next.Return c after s = returned Some (read_at s.segments (word s.regs Rsp) 8) s
moved_on next.ToR11 c after s = record s { place = word s.regs R11 }
moved_on next.CallR11 c after s = called (word s.regs R11) (write_at s.segments (below s.regs) (le_bytes 8 after)) s
moved_on next.Kernel c after s = s
moved_on next.Divide c after s = record s { ending = Divide }
moved_on next.Invalid c after s = record s { ending = Invalid }
moved_on next.Breakpoint c after s = record s { ending = Breakpoint }
moved_on next.NoFlag c after s = record s { ending = NoFlag }

-- the same with the kernel
abbrev pub carried_out : Next → Change → ℕ → State ℕ → State ℕ
carried_out next.Kernel c after s = served (request_of s.regs) after after s
carried_out n c after s = moved_on n c after s

-- what a system call asks for, as the definition of the machine names it
abbrev pub asked_for : Request → request.Request
asked_for Exits = request.Exits
asked_for Idles = request.Idles
asked_for (Prints count) = request.Prints count
asked_for Takes = request.Takes
asked_for Unknown = request.Unknowns

-- a request to print is for 1 to 4,096 bytes
abbrev pub PrintsSome : Request → Type 0
PrintsSome Exits = Unit {0}
PrintsSome Idles = Unit {0}
PrintsSome (Prints count) = (0 < count) × (count ≤ 4096)
PrintsSome Takes = Unit {0}
PrintsSome Unknown = Unit {0}

-- where an instruction leads whose change of registers and flags is done
abbrev pub led : Next → ℕ → State ℕ → State ℕ
led n after s = moved_on n (plain s.regs s.flags) after s
