use Rattle.std.proofs.Common.{ap, ◌∙◌}
use Rattle.elf_file.specs.Elf.{elf_bytes}
use Rattle.rd_top.proofs.Alike.{hides}
use Rattle.rd_top.proofs.making.laid_bytes.Goals as goal

pub returns : goal.returns
returns c =
    let image = c.in_ok-image.ensures in
    record {
      spelled = c.in_ok-bytes.ensures ∙ ap elf_bytes image.layout;
      hides = hides c.in_ok-image.image c.args.object.now.object c.args.layout_seed image.layout image.shows image.replies image.data_of image.lockstep;
    }
