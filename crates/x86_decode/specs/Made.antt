-- The instruction of a row and its operands, by kinds of rows.
use Rattle.x86_core.specs.declared.reg.Reg.{Reg}
use Rattle.x86_core.specs.declared.instr.Mem.{Mem}
use Rattle.x86_core.specs.declared.instr.Instr.{Instr}
use Rattle.x86_decode.specs.declared.operand.TwoRegisters.{TwoRegisters}
use Rattle.x86_decode.specs.declared.operand.Memory.{Memory}

-- of two registers, the reg field first
abbrev pub made_of : TwoRegisters → Reg → Reg → Instr
made_of (TwoRegisters.Mov w) r m = Instr.Mov w m r
made_of (TwoRegisters.Alu op w) r m = Instr.Alu op w m r
made_of (TwoRegisters.Imul w) r m = Instr.Imul w r m
made_of (TwoRegisters.Widen kind) r m = Instr.Widen kind r m
made_of (TwoRegisters.Cmov c) r m = Instr.Cmov c r m

-- of a register and a place in memory
abbrev pub made_at : Memory → Reg → Mem → Instr
made_at (Memory.Load size) r m = Instr.Load size r m
made_at (Memory.Store size) r m = Instr.Store size m r
made_at Memory.Lea r m = Instr.Lea r m
