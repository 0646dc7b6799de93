-- One more line at the end of a text, and one less in what is left to append.
use Rattle.std.proofs.Common.{◌≡◌, ℕ, zero, suc, ◌+◌, ◌<◌, Bool, true, false, List, [], ◌∷◌, ◌++◌, length, drop, Option, Some, None, refl, sym, ap, ◌∙◌, arith, subst, slice_index_or, if◌then◌else◌, append_assoc}
use Rattle.x86_core.specs.declared.image.Segment.{Segment}
use Rattle.x86_core.specs.declared.reg.Reg.{Reg}
use Rattle.x86_core.specs.Memory.{reads}
use Rattle.x86_core.specs.Observation.{readable}
use Rattle.xom_memory.specs.Access.{readable_at}
use Rattle.watch_script.specs.ShowText.{register_line, register_lines, segment_text, segments_text}

-- what was to be appended is a line and the rest
moved_on : (text text2 whole line rest all : List ℕ) → all ≡ line ++ rest → text2 ≡ text ++ line → text ++ all ≡ whole → text2 ++ rest ≡ whole
moved_on text text2 whole line rest all parts put h =
    ap (λ t. t ++ rest) put ∙ (append_assoc text line rest ∙ (sym (ap (λ t. text ++ t) parts) ∙ h))

register_next : (rs : List Reg) (i : ℕ) (d : Reg) (regs : List ℕ) → i < length rs → register_lines (drop i rs) regs ≡ register_line regs (slice_index_or rs i d) ++ register_lines (drop (suc i) rs) regs
unfolding register_lines
register_next [] i d regs h = absurd (omega arith)
register_next (r ∷ rs) zero d regs h = refl
register_next (r ∷ rs) (suc i) d regs h = register_next rs i d regs (omega arith)

pub one_register_more : (rs : List Reg) (i : ℕ) (d : Reg) (regs text text2 whole : List ℕ) → i < length rs → text2 ≡ text ++ register_line regs (slice_index_or rs i d) → text ++ register_lines (drop i rs) regs ≡ whole → text2 ++ register_lines (drop (i + 1) rs) regs ≡ whole
one_register_more rs i d regs text text2 whole h put e =
    let next : suc i ≡ i + 1 = omega arith in
    subst (λ k. text2 ++ register_lines (drop k rs) regs ≡ whole) next
    (moved_on text text2 whole (register_line regs (slice_index_or rs i d)) (register_lines (drop (suc i) rs) regs) (register_lines (drop i rs) regs) (register_next rs i d regs h) put e)

abbrev with_first : Option Segment → List Segment → List Segment
with_first None ss = ss
with_first (Some s) ss = s ∷ ss

readable_next : (ss : List Segment) (i : ℕ) → readable (drop i ss) ≡ with_first (readable_at ss i) (readable (drop (suc i) ss))
readable_next [] zero = refl
readable_next [] (suc i) = refl
readable_next (s ∷ ss) zero = by (reads s.rights)
  where
    by : (c : Bool) → (if c then s ∷ readable ss else readable ss) ≡ with_first (if c then Some s else None) (readable ss)
    by true = refl
    by false = refl
readable_next (s ∷ ss) (suc i) = readable_next ss i

pub one_segment_more : (ss : List Segment) (i : ℕ) (s : Segment) (text text2 whole : List ℕ) → readable_at ss i ≡ Some s → text2 ≡ text ++ segment_text s → text ++ segments_text (readable (drop i ss)) ≡ whole → text2 ++ segments_text (readable (drop (i + 1) ss)) ≡ whole
unfolding segments_text
one_segment_more ss i s text text2 whole is put e =
    let next : suc i ≡ i + 1 = omega arith in
    let parts : readable (drop i ss) ≡ s ∷ readable (drop (suc i) ss) = readable_next ss i ∙ ap (λ o. with_first o (readable (drop (suc i) ss))) is in
    subst (λ k. text2 ++ segments_text (readable (drop k ss)) ≡ whole) next
    (moved_on text text2 whole (segment_text s) (segments_text (readable (drop (suc i) ss))) (segments_text (readable (drop i ss))) (ap segments_text parts) put e)

pub no_segment_more : (ss : List Segment) (i : ℕ) (text text2 whole : List ℕ) → readable_at ss i ≡ None → text2 ≡ text → text ++ segments_text (readable (drop i ss)) ≡ whole → text2 ++ segments_text (readable (drop (i + 1) ss)) ≡ whole
no_segment_more ss i text text2 whole is same e =
    let next : suc i ≡ i + 1 = omega arith in
    let parts : readable (drop i ss) ≡ readable (drop (suc i) ss) = readable_next ss i ∙ ap (λ o. with_first o (readable (drop (suc i) ss))) is in
    subst (λ k. text2 ++ segments_text (readable (drop k ss)) ≡ whole) next (ap (λ t. t ++ segments_text (readable (drop (suc i) ss))) same ∙ subst (λ rs. text ++ segments_text rs ≡ whole) parts e)
