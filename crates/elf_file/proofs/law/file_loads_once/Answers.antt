use Rattle.elf_file.proofs.Once.{loads_once}
use Rattle.elf_file.proofs.law.file_loads_once.Goals as goal

pub returns : goal.returns
returns c = loads_once
