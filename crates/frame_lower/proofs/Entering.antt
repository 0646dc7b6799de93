-- The way into a function: its five registers are pushed, and room is made below them.
use Rattle.std.proofs.Common.{◌≡◌, ℕ, ◌+◌, ◌-◌, ◌*◌, ◌%◌, ◌^◌, ◌<◌, ◌≤◌, ◌⊎◌, inl, inr, List, ◌∷◌, ◌++◌, length, refl, ◌∙◌, ap, arith}
use Rattle.std.specs.Prelude.{pos}
use Rattle.x86_core.specs.declared.flags.Flags.{Flags}
use Rattle.x86_core.specs.declared.reg.Reg.TheVariants.{Rsp}
use Rattle.x86_core.specs.declared.image.Segment.{Segment}
use Rattle.x86_core.specs.declared.instr.Wide.{Wide}
use Rattle.x86_core.specs.declared.instr.ImmOp.{ImmOp}
use Rattle.x86_core.specs.declared.instr.Instr.{Instr}
use Rattle.x86_core.specs.declared.instr.Instr.TheVariants.{AluImm}
use Rattle.x86_core.specs.Effect.{effect_of}
use Rattle.x86_rows.specs.Addresses.{byte_at, SameShape}
use Rattle.x86_rows.specs.Straight.{Through, ran, exec}
use Rattle.x86_rows.specs.Saving.{IsStack, AreSaved}
use Rattle.x86_rows.specs.Saving as saving
use Rattle.x86_rows.proofs.Rows.{exec-through, exec-first}
use Rattle.x86_rows.proofs.Saving.{pushes}
use Rattle.frame_rows.specs.Words.{Words, in_order, core_of}
use Rattle.frame_lower.specs.Chain.{upward}
use Rattle.frame_lower.specs.Rows.{push_row}
use Rattle.frame_lower.proofs.Order.{pushes_upward, upward_long, upward_spare}

-- room of so many bytes is made
abbrev pub makes_room : ℕ → Instr
makes_room room = AluImm ImmOp.Sub Wide.W64 Rsp (pos room)

-- rsp is lower by them
record Lowered (w : Words) (f : Flags) (ss : List Segment) (room base : ℕ) : Type 0 where
  flags : Flags
  runs : ran (makes_room room) (core_of w f ss) ≡ Through (core_of (record w { rsp = base }) flags ss)

lowered_raw : (w : Words) (f : Flags) (ss : List Segment) (room : ℕ) → Lowered w f ss room ((w.rsp % 2 ^ 64 + 2 ^ 64 - room % 2 ^ 64) % 2 ^ 64)
unfolding effect_of
lowered_raw w f ss room = record { flags = _; runs = refl }

lowered : (w : Words) (f : Flags) (ss : List Segment) (room base : ℕ) → w.rsp ≡ base + room → base + room < 2 ^ 64 → Lowered w f ss room base
lowered w f ss room base is below =
    let e : (w.rsp % 2 ^ 64 + 2 ^ 64 - room % 2 ^ 64) % 2 ^ 64 ≡ base = omega (arith, is, below) in
    let x = lowered_raw w f ss room in
    record { flags = x.flags; runs = x.runs ∙ ap (λ n. Through (core_of (record w { rsp = n }) x.flags ss)) e }

-- each pushed register's word stands above the room, every other byte is as it was, and the row leads to what stands behind it
pub record Enters (order : List ℕ) (room : ℕ) (w : Words) (f : Flags) (ss : List Segment) (base : ℕ) : Type 0 where
  pub flags : Flags
  pub segments : List Segment
  pub runs : (behind : List Instr) → exec (push_row order ++ makes_room room ∷ behind) (core_of w f ss) ≡ exec behind (core_of (record w { rsp = base }) flags segments)
  pub shape : SameShape ss segments
  pub saved : AreSaved segments (upward order) (base + room) (in_order w)
  pub outside : (p : ℕ) → (p < base + room) ⊎ (base + room + 8 * length order ≤ p) → byte_at segments p ≡ byte_at ss p

pub enters : (low high : ℕ) (order : List ℕ) (room : ℕ) (w : Words) (f : Flags) (ss : List Segment) (base : ℕ) → IsStack low high ss → w.rsp ≡ base + room + 8 * length order → low ≤ base + room → base + room + 8 * length order ≤ high →
    Enters order room w f ss base
enters low high order room w f ss base stack at from to =
    let long = upward_long order in
    let below = stack.below in
    let x = pushes low high (upward order) (core_of w f ss) (base + room) (upward_spare order) refl stack (omega (arith, at, long)) from (omega (arith, to, long)) in
    let w2 : Words = record w { rsp = base + room } in
    let y = lowered w2 f x.segments room base refl (omega (arith, to, below)) in
    record {
      flags = y.flags;
      segments = x.segments;
      runs = λ behind.
          ap (λ row. exec (row ++ makes_room room ∷ behind) (core_of w f ss)) (pushes_upward order) ∙
          exec-through (saving.push_row (upward order)) (makes_room room ∷ behind) (core_of w f ss) (core_of w2 f x.segments) x.gives ∙
          exec-first (makes_room room) behind (core_of w2 f x.segments) (core_of (record w { rsp = base }) y.flags x.segments) y.runs;
      shape = x.shape;
      saved = x.saved;
      outside = λ p o. x.outside p (elim o [ inl under ↦ inl under | inr above ↦ inr (omega (arith, above, long)) ]);
    }
