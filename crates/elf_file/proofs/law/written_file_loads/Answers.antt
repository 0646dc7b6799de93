use Rattle.elf_file.proofs.Written.{written_loads}
use Rattle.elf_file.proofs.law.written_file_loads.Goals as goal

pub returns : goal.returns
returns c = written_loads
