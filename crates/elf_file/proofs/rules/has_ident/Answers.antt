use Rattle.elf_file.proofs.Ident.{ident_tested}
use Rattle.elf_file.proofs.rules.has_ident.Goals as goal

pub returns-then-bytes-ge-HEADER_LEN : goal.returns-then-bytes-ge-HEADER_LEN
returns-then-bytes-ge-HEADER_LEN c = ident_tested c.args.bytes.now c.starts_with.result c.if-bytes-ge-HEADER_LEN.true c.starts_with.ensures.value
