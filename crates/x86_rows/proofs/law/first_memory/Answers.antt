use Rattle.x86_rows.proofs.First.{data_disjoint, data_stack, ro_byte, rw_byte, ro_readable, rw_readable, rw_writable}
use Rattle.x86_rows.proofs.law.first_memory.Goals as goal

pub returns-clause-apart : goal.returns-clause-apart
returns-clause-apart c = data_disjoint

pub returns-clause-stack : goal.returns-clause-stack
returns-clause-stack c = data_stack

pub returns-clause-ro_bytes : goal.returns-clause-ro_bytes
returns-clause-ro_bytes c = ro_byte

pub returns-clause-rw_bytes : goal.returns-clause-rw_bytes
returns-clause-rw_bytes c = rw_byte

pub returns-clause-ro_reads : goal.returns-clause-ro_reads
returns-clause-ro_reads c = ro_readable

pub returns-clause-rw_reads : goal.returns-clause-rw_reads
returns-clause-rw_reads c = rw_readable

pub returns-clause-rw_writes : goal.returns-clause-rw_writes
returns-clause-rw_writes c = rw_writable
