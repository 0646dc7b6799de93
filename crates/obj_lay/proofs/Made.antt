-- The parts of a layout, put together.
use Rattle.std.proofs.Common.{◌≡◌, ℕ, ◌+◌, ◌*◌, List, ◌++◌, ◌∙◌, ap}
use Rattle.std.specs.Prelude.{slice_index}
use Rattle.x86_core.specs.declared.image.Segment.{Segment}
use Rattle.x86_core.specs.declared.image.Image.{Image}
use Rattle.x86_core.specs.Data.{segment}
use Rattle.obj_core.specs.declared.object.Object.{Object}
use Rattle.obj_core.specs.declared.code.CodePlan.{CodePlan}
use Rattle.obj_core.specs.Slots.{slot_base, positions}
use Rattle.obj_core.specs.Placement.{code_base, inverse}
use Rattle.obj_core.specs.Plans.{planned, IsPlan}
use Rattle.obj_core.specs.Layout.{present, trampolines, trampoline_bytes, code_bytes, layout}
use Rattle.obj_lay.proofs.Slotting.{planned_slots}

-- a segment, unless it is empty
abbrev given : Segment → List Segment
given s = present s.start s.bytes s.rights.0

abbrev image : ℕ → List Segment → Image
image entry segments = record { entry = entry; segments = segments }

pub made : (o : Object) (seed : ℕ) (plan : CodePlan) (at : List ℕ) (entry : ℕ) (slots code : Segment) (all : List Segment) → IsPlan plan o seed → at ≡ positions o
    → entry ≡ slot_base + 16 * slice_index at 0
    → slots ≡ segment slot_base (trampolines (planned plan) at o.slots (inverse at)) 1
    → code ≡ segment (code_base seed) (code_bytes o seed) 1
    → all ≡ present slots.start slots.bytes slots.rights.0 ++ (present 0x20000000 o.ro 4 ++ (present 0x30000000 o.rw 6 ++ present code.start code.bytes code.rights.0))
    → image entry all ≡ layout o seed
unfolding layout
made o seed plan at entry slots code all is at_is entry_is slots_are code_is all_are =
    let slots_here : slots ≡ segment slot_base (trampoline_bytes o seed) 1 = slots_are ∙ ap (λ bs. segment slot_base bs 1) (planned_slots plan o seed at is at_is) in
    ap (λ n. image n all) (entry_is ∙ ap (λ (a : List ℕ). slot_base + 16 * slice_index a 0) at_is) ∙
    ap (image (slot_base + 16 * slice_index (positions o) 0)) (
    all_are ∙
    ap (λ (s : Segment). given s ++ (present 0x20000000 o.ro 4 ++ (present 0x30000000 o.rw 6 ++ given code))) slots_here ∙
    ap (λ (s : Segment). present slot_base (trampoline_bytes o seed) 1 ++ (present 0x20000000 o.ro 4 ++ (present 0x30000000 o.rw 6 ++ given s))) code_is)
