use Rattle.elf_file.proofs.Sound.{loads_sound}
use Rattle.elf_file.proofs.law.loaded_image_is_sound.Goals as goal

pub returns : goal.returns
returns c = loads_sound
