use Rattle.std.proofs.Common.{ℕ, Bool, List, ◌&&◌, ap, ◌∙◌}
use Rattle.obj_core.specs.Slots.{name_purpose}
use Rattle.obj_core.specs.Saved.{begins_with, prologue, five_of}
use Rattle.obj_core.specs.Disassembly.{disassembly_of}
use Rattle.obj_check.specs.Orders.{used_in, are_colored}
use Rattle.obj_check.proofs.Colors.{colors_are}
use Rattle.obj_check.proofs.saved.is_saved.Goals as goal

pub returns : goal.returns
returns c =
    let bytes = c.args.function.now.bytes in
    let used = used_in c.args.notes.now.registers in
    let begin = prologue c.args.reg_seed c.args.n in
    let front = c.as_slice.ensures ∙ c.in_ok-front.ensures in
    let names = c.as_slice-2.ensures ∙ c.in_ok-names.ensures.order in
    c.begins_and_uses.ensures ∙
    ap (λ (bs : List ℕ). begins_with bs c.as_slice-3.result.now && are_colored c.as_slice-2.result.now used) front ∙
    ap (λ (order : List ℕ). begins_with begin c.as_slice-3.result.now && are_colored order used) names ∙
    ap (λ (bs : List ℕ). begins_with begin bs && are_colored (five_of c.args.reg_seed name_purpose c.args.n) used) c.as_slice-3.ensures ∙
    ap (λ (b : Bool). begins_with begin bytes && b) (colors_are c.args.reg_seed c.args.n (disassembly_of bytes) used c.requires.notes.registers)
