use Rattle.std.proofs.Common.{◌≡◌, ◌++◌, length, ◌∙◌, ap}
use Rattle.elf_file.specs.Elf.{header_bytes, program_headers_bytes, headers_end, elf_bytes}
use Rattle.elf_file.proofs.Lengths.{headers_lead, whole_file}
use Rattle.elf_file.proofs.write.write.Goals as goal

pub put_contents-requires-clause-end : goal.put_contents-requires-clause-end
put_contents-requires-clause-end c =
    let ss = c.as_slice-segments.result.now in
    let entry = c.args.image.now.entry in
    let header : c.put_header.new.file ≡ header_bytes entry (length ss) = c.in_ok-put_header.ensures ∙ ap (λ x. x ++ header_bytes entry (length ss)) c.new-file.ensures in
    headers_lead entry (length ss) (headers_end (length ss)) ss c.put_program_headers.new.file (c.in_ok-put_program_headers.ensures ∙ ap (λ x. x ++ program_headers_bytes (headers_end (length ss)) ss) header)

pub returns : goal.returns
unfolding elf_bytes
returns c =
    let ss = c.as_slice-segments.result.now in
    let entry = c.args.image.now.entry in
    let header : c.put_header.new.file ≡ header_bytes entry (length ss) = c.in_ok-put_header.ensures ∙ ap (λ x. x ++ header_bytes entry (length ss)) c.new-file.ensures in
    let file : c.put_contents.new.file ≡ elf_bytes (record { entry = entry; segments = ss }) = whole_file entry ss c.put_header.new.file c.put_program_headers.new.file c.put_contents.new.file header c.in_ok-put_program_headers.ensures c.in_ok-put_contents.ensures in
    file ∙ ap (λ x. elf_bytes (record { entry = entry; segments = x })) c.as_slice-segments.ensures
