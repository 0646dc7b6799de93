use Rattle.elf_file.proofs.Once.{refused_loads_not}
use Rattle.elf_file.proofs.law.refused_file_loads_not.Goals as goal

pub returns : goal.returns
returns c = refused_loads_not
