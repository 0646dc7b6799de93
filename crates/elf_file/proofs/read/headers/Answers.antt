use Rattle.std.proofs.Common.{◌+◌, ◌*◌, ◌∙◌, ap}
use Rattle.std.proofs.lemmas.List.{take_rest}
use Rattle.elf_file.specs.Rules.{program_header}
use Rattle.elf_file.proofs.Headers.{one_header_more}
use Rattle.elf_file.proofs.read.headers.Goals as goal

pub loop-i-preserved : goal.loop-i-preserved
loop-i-preserved c =
    let offset = 64 + 56 * c.loop-i.i in
    let bytes = c.args.bytes.now in
    one_header_more c.half_at-count.result c.loop-i.i bytes c.loop-i.all c.add.new.self c.header_at.result _ c.loop-i-test.true (c.header_at.ensures ∙ ap program_header (take_rest bytes offset)) c.in_ok-add.ensures.put c.loop-i.invariant
