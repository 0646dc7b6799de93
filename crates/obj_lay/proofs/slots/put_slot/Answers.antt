use Rattle.std.proofs.Common.{◌+◌, [], ◌∷◌, ◌∙◌, ap, refl}
use Rattle.obj_core.specs.declared.object.CodeAt.{CodeAt}
use Rattle.obj_core.specs.declared.code.CodeBuilder.{CodeBuilder}
use Rattle.obj_core.specs.Slots.{slot_base}
use Rattle.obj_core.specs.Placement.{displacement_bytes, overlaid, start_of}
use Rattle.obj_core.specs.Plans.{planned}
use Rattle.obj_lay.proofs.Written.{with_bytes, five_made, ten_made, plain_put}
use Rattle.obj_lay.proofs.slots.put_slot.Goals as goal

pub returns-in-Entry : goal.returns-in-Entry
returns-in-Entry c =
    let b = c.args.builder.now in
    let way = λ (x : CodeAt). 0xE9 ∷ displacement_bytes (planned c.args.plan.now x) (slot_base + c.args.at + 5) in
    rw c.in-Entry.is (
    c.put_branch.ensures ∙
    ap (λ (x : CodeAt). with_bytes b (overlaid b.bytes c.args.at (way x))) c.start.ensures ∙
    five_made b c.args.at c.requires.blank c.requires.inside (way (start_of c.in-Entry.target)) refl)

pub returns-in-Jump : goal.returns-in-Jump
returns-in-Jump c =
    let b = c.args.builder.now in
    let way = λ (x : CodeAt). 0xE9 ∷ displacement_bytes (planned c.args.plan.now x) (slot_base + c.args.at + 5) in
    rw c.in-Jump.is (
    c.put_branch-in-Jump.ensures ∙
    ap (λ (x : CodeAt). with_bytes b (overlaid b.bytes c.args.at (way x))) c.start-in-Jump.ensures ∙
    five_made b c.args.at c.requires.blank c.requires.inside (way (start_of c.in-Jump.target)) refl)

pub returns-in-Call : goal.returns-in-Call
returns-in-Call c =
    let b = c.args.builder.now in
    let to = planned c.args.plan.now c.in-Call.back in
    let way = λ (x : CodeAt). 0xE8 ∷ displacement_bytes (planned c.args.plan.now x) (slot_base + c.args.at + 5) in
    let back = 0xE9 ∷ displacement_bytes to (slot_base + (c.args.at + 5) + 5) in
    rw c.in-Call.is (
    c.put_branch-in-Call-2.ensures ∙
    ap (λ (d : CodeBuilder). with_bytes d (overlaid d.bytes (c.args.at + 5) back)) c.put_branch-in-Call.ensures ∙
    ap (λ (x : CodeAt). with_bytes b (overlaid (overlaid b.bytes c.args.at (way x)) (c.args.at + 5) back)) c.start-in-Call.ensures ∙
    ten_made b c.args.at c.requires.blank c.requires.inside (way (start_of c.in-Call.target)) to refl)

pub returns-in-Indirect : goal.returns-in-Indirect
returns-in-Indirect c =
    let b = c.args.builder.now in
    let to = planned c.args.plan.now c.in-Indirect.back in
    rw c.in-Indirect.is (
    c.put_branch-in-Indirect.ensures ∙
    ap (λ (d : CodeBuilder). with_bytes d (overlaid d.bytes (c.args.at + 5) (0xE9 ∷ displacement_bytes to (slot_base + (c.args.at + 5) + 5)))) (c.bytes.ensures ∙ plain_put b c.args.at (0x90 ∷ 0x90 ∷ 0x41 ∷ 0xFF ∷ 0xD3 ∷ []) c.requires.start c.requires.runs c.requires.inside refl) ∙
    ten_made b c.args.at c.requires.blank c.requires.inside (0x90 ∷ 0x90 ∷ 0x41 ∷ 0xFF ∷ 0xD3 ∷ []) to refl)

pub returns-in-System : goal.returns-in-System
returns-in-System c =
    let b = c.args.builder.now in
    let to = planned c.args.plan.now c.in-System.back in
    rw c.in-System.is (
    c.put_branch-in-System.ensures ∙
    ap (λ (d : CodeBuilder). with_bytes d (overlaid d.bytes (c.args.at + 5) (0xE9 ∷ displacement_bytes to (slot_base + (c.args.at + 5) + 5)))) (c.bytes-in-System.ensures ∙ plain_put b c.args.at (0x0F ∷ 0x05 ∷ 0x90 ∷ 0x90 ∷ 0x90 ∷ []) c.requires.start c.requires.runs c.requires.inside refl) ∙
    ten_made b c.args.at c.requires.blank c.requires.inside (0x0F ∷ 0x05 ∷ 0x90 ∷ 0x90 ∷ 0x90 ∷ []) to refl)
