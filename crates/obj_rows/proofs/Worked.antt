-- A small object as rows: what is spelled, linked and run.
use Rattle.std.proofs.Common.{◌≡◌, lit≤, false, List, [], ◌∷◌, ◌++◌, refl}
use Rattle.std.specs.Prelude.{replicate, pos}
use Rattle.behavior.specs.Ending.{Ended, Divide}
use Rattle.behavior.specs.System.{iter}
use Rattle.x86_core.specs.declared.reg.Reg.TheVariants.{Rax, Rcx, Rdi}
use Rattle.x86_core.specs.declared.flags.Flag.TheVariants.{Zero}
use Rattle.x86_core.specs.declared.instr.Size.{Size}
use Rattle.x86_core.specs.declared.instr.Cond.{Cond}
use Rattle.x86_core.specs.declared.instr.Instr.TheVariants.{MovImm32, Div, Jcc, Jmp, Ud2}
use Rattle.x86_core.specs.Effect.{effect_of}
use Rattle.x86_core.specs.Decoding.{decode}
use Rattle.x86_core.specs.Step.{moment_of, request_of}
use Rattle.x86_rows.specs.Straight.{Core}
use Rattle.obj_core.specs.declared.object.Object.{Object}
use Rattle.obj_core.specs.declared.object.Func.{Func}
use Rattle.obj_core.specs.declared.object.FuncKind.{FuncKind}
use Rattle.obj_core.specs.declared.object.Slot.{Slot}
use Rattle.obj_core.specs.declared.object.Place.{Place}
use Rattle.obj_core.specs.Disassembly.{spelled}
use Rattle.obj_core.specs.SymbolicMachine.{symbolic_step}
use Rattle.obj_rows.specs.Marked.{Marked, unlinked, linked, all_unlinked, instrs_of, row_size, links_from, Stands, IsFunction}
use Rattle.obj_rows.specs.Standing.{Outside, standing, shown}
use Rattle.obj_rows.proofs.Rows.{stands_whole, stands_first}
use Rattle.obj_rows.proofs.Runs.{row_through, row_stops}

-- two constants, a branch over a division, and a jump to the exit
abbrev constants : List Marked
constants = all_unlinked (MovImm32 Rdi 7 ∷ MovImm32 Rax 60 ∷ [])

abbrev others : List Marked
others = unlinked (Jcc Cond.E (pos 3)) ∷ unlinked (Div false Size.W64 Rcx) ∷ linked (Jmp (pos 0)) 1 ∷ unlinked Ud2 ∷ []

abbrev main : List Marked
main = constants ++ others

abbrev function : Func
function = record {
  kind = FuncKind.Plain;
  bytes =
      191 ∷ 7 ∷ 0 ∷ 0 ∷ 0
      ∷ 184 ∷ 60 ∷ 0 ∷ 0 ∷ 0
      ∷ 15 ∷ 132 ∷ 3 ∷ 0 ∷ 0 ∷ 0
      ∷ 72 ∷ 247 ∷ 241
      ∷ 233 ∷ 0 ∷ 0 ∷ 0 ∷ 0
      ∷ 15 ∷ 11 ∷ [];
  links = record { at = 20; slot = 1 } ∷ [];
  cuts = [];
}

abbrev object : Object
object = record { slot_seed = 1; reg_seed = 2; functions = function ∷ []; slots = Slot.Entry 0 ∷ Slot.System (record { function = 0; offset = 24 }) ∷ []; ro = []; rw = [] }

main_spelled : spelled (instrs_of main) ≡ function.bytes
main_spelled = refl

-- the jump ends at 24, so its displacement is at 20
main_links : links_from 0 main ≡ function.links
main_links = refl

main_size : row_size main ≡ 26
main_size = refl

-- so the object's function is this row
main_is : IsFunction object 0 main
main_is = record {
  function = function;
  there = refl;
  bytes = refl;
  links = refl;
  is_row = ((lit≤ tt, tt), ((lit≤ tt, tt), ((lit≤ tt, tt), ((tt, tt), ((lit≤ tt, refl), ((tt, tt), tt))))));
}

-- the jump stands behind the division
jump_stands : Stands main 19 (linked (Jmp (pos 0)) 1 ∷ [])
jump_stands = record { before = constants ++ (unlinked (Jcc Cond.E (pos 3)) ∷ unlinked (Div false Size.W64 Rcx) ∷ []); behind = unlinked Ud2 ∷ []; split = refl; offset = refl }

-- registers and flags are 0
abbrev start : Core
start = record { regs = replicate 16 0; flags = record { c = Zero; z = Zero; s = Zero; o = Zero }; segments = [] }

abbrev out : Outside
out = record { left = []; printed = []; taken = 0 }

-- both constants, and then the division by 0
two_steps : iter (symbolic_step object) 2 (standing out (Place.Code 0 0) start) ≡ standing out (Place.Code 0 10) (record start { regs = 60 ∷ replicate 6 0 ++ 7 ∷ replicate 8 0 })
unfolding decode effect_of
two_steps = refl

-- the same by the laws
two_by_law : iter (symbolic_step object) 2 (standing out (Place.Code 0 0) start) ≡ standing out (Place.Code 0 10) (record start { regs = 60 ∷ replicate 6 0 ++ 7 ∷ replicate 8 0 })
unfolding effect_of
two_by_law = row_through object 0 main main_is out constants 0 start (record start { regs = 60 ∷ replicate 6 0 ++ 7 ∷ replicate 8 0 }) (stands_first main 0 constants others (stands_whole main)) refl

stops_by_law : moment_of (iter (symbolic_step object) 6 (standing out (Place.Code 0 0) start)) ≡ shown out Divide
unfolding effect_of
stops_by_law = row_stops object 0 main main_is out main 0 start Divide (stands_whole main) refl

four_steps : moment_of (iter (symbolic_step object) 4 (standing out (Place.Code 0 0) start)) ≡ shown out Divide
unfolding decode effect_of
four_steps = refl

-- from the jump to the exit
exit : moment_of (iter (symbolic_step object) 2 (standing out (Place.Code 0 19) (record start { regs = 60 ∷ replicate 6 0 ++ 7 ∷ replicate 8 0 }))) ≡ shown out (Ended 7)
unfolding decode effect_of request_of
exit = refl
