use Rattle.elf_file.proofs.Written.{page_up-least}
use Rattle.elf_file.proofs.law.next_page_is_least.Goals as goal

pub returns : goal.returns
returns c = page_up-least
