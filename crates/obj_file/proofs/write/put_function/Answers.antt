use Rattle.std.proofs.Common.{◌++◌, length, ◌∙◌, ap, append_assoc}
use Rattle.obj_core.specs.Object.{field, kind_number, links_bytes, cuts_bytes}
use Rattle.obj_file.proofs.Joined.{put_then}
use Rattle.obj_file.proofs.write.put_function.Goals as goal

pub returns : goal.returns
returns c =
    let f = c.args.function.now in
    let one = field (kind_number f.kind) in
    let two = one ++ field (length f.bytes) in
    let three = two ++ field (length f.links) in
    let e2 = put_then _ one (field (length f.bytes)) _ _ c.in_ok-put_kind.ensures c.in_ok-put_length.ensures in
    let e3 = put_then _ two (field (length f.links)) _ _ e2 c.in_ok-put_length-2.ensures in
    let four = three ++ field (length f.cuts) in
    let e4 = put_then _ three (field (length f.cuts)) _ _ e3 c.in_ok-put_length-3.ensures in
    let e5 = put_then _ four f.bytes _ _ e4 (c.in_ok-append.ensures.put ∙ ap (λ x. c.put_length-3.new.out ++ x) c.as_slice.ensures) in
    let e6 = put_then _ (four ++ f.bytes) (links_bytes f.links) _ _ e5 (c.in_ok-put_links.ensures ∙ ap (λ x. c.append.new.self ++ links_bytes x) c.as_slice-2.ensures) in
    put_then _ ((four ++ f.bytes) ++ links_bytes f.links) (cuts_bytes f.cuts) _ _ e6 (c.in_ok-put_cuts.ensures ∙ ap (λ x. c.put_links.new.out ++ cuts_bytes x) c.as_slice-3.ensures) ∙ ap (λ x. c.args.out.now ++ (four ++ x)) (append_assoc f.bytes (links_bytes f.links) (cuts_bytes f.cuts))
