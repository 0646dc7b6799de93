-- What is noted of a row of instructions.
use Rattle.std.specs.Prelude.{◌≡◌, ℕ, ◌+◌, ◌<◌, ◌≤◌, false, ◌||◌, ◌&&◌, nat_eq, if◌then◌else◌, List, Some, None}
use Rattle.x86_core.specs.declared.instr.Instr.{Instr}
use Rattle.x86_core.specs.declared.reg.Reg.{Reg}
use Rattle.x86_core.specs.Registers.{number_of}
use Rattle.obj_core.specs.Disassembly.{found, starts_at}
use Rattle.obj_core.specs.Saved.{registers_of, is_push_or_pop, is_among, occurs}
use Rattle.obj_core.specs.WellFormed.{displacement, is_zero, is_slots_own, is_end, fills_zero, stops_at, forbidden_in, open_end}
use Rattle.obj_check.specs.declared.instr_at.InstrAt.{InstrAt}
use Rattle.obj_check.specs.declared.notes.Notes.{Notes}
use Rattle.obj_check.specs.Marked.{room, marked}
use Rattle.obj_check.specs.Least.{lesser_of, least_with}

-- there is room for the offsets up to a size, and for the registers
pub record HasRoom (size : ℕ) (c : Notes) : Type 0 where
  pub starts : size < room c.starts
  pub zeros : size < room c.zeros
  pub stops : size < room c.stops
  pub registers : 16 ≤ room c.registers

pub record KeepsRoom (old new : Notes) : Type 0 where
  pub starts : room new.starts ≡ room old.starts
  pub zeros : room new.zeros ≡ room old.zeros
  pub stops : room new.stops ≡ room old.stops
  pub registers : room new.registers ≡ room old.registers

-- what is noted is what the rules ask of these instructions
pub record AreNotesOf (row : List Instr) (c : Notes) : Type 0 where
  pub starts : (k : ℕ) → marked c.starts k ≡ starts_at (found row) k
  pub zeros : (k : ℕ) → marked c.zeros (k + 4) ≡ fills_zero (found row) k
  pub stops : (k : ℕ) → marked c.stops k ≡ stops_at (found row) k
  pub registers : (r : Reg) → marked c.registers (number_of r) ≡ occurs r row
  pub transfer : c.transfer ≡ least_with None (forbidden_in (found row))
  pub last_open : c.last_open ≡ least_with None (open_end (found row))

-- one instruction more is noted
pub record AddsNote (old : Notes) (p : InstrAt) (new : Notes) : Type 0 where
  pub starts : (k : ℕ) → marked new.starts k ≡ (nat_eq p.at k || marked old.starts k)
  pub zeros : (k : ℕ) → marked new.zeros k ≡ ((nat_eq p.end k && is_zero (displacement p.instr)) || marked old.zeros k)
  pub stops : (k : ℕ) → marked new.stops k ≡ ((nat_eq p.end k && is_end p.instr) || marked old.stops k)
  pub registers : (r : Reg) → marked new.registers (number_of r) ≡ ((if is_push_or_pop p.instr then false else is_among r (registers_of p.instr)) || marked old.registers (number_of r))
  pub transfer : new.transfer ≡ (if is_slots_own p.instr then lesser_of old.transfer p.at else old.transfer)
  pub last_open : new.last_open ≡ (if is_end p.instr then None else Some p.at)
