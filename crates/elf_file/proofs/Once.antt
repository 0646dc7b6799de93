-- A file loads as one image at most, and as none where a rule fails.
use Rattle.std.proofs.Common.{ℕ, ◌≡◌, ◌≢◌, ◌≤◌, List, sym, ◌∙◌, ap, arith}
use Rattle.x86_core.specs.declared.image.Segment.{Segment}
use Rattle.x86_core.specs.declared.image.Image.{Image}
use Rattle.elf_file.specs.Rules.{LoadsAs, FailsFirst}

pub loads_once : (bytes : List ℕ) (i j : Image) → LoadsAs bytes i → LoadsAs bytes j → i ≡ j
loads_once bytes i j a b =
    let entry : i.entry ≡ j.entry = a.entry ∙ sym b.entry in
    let segments : i.segments ≡ j.segments = a.segments ∙ sym b.segments in
    let at_entry : ℕ → Image = λ n. record { entry = n; segments = i.segments } in
    let with_segments : List Segment → Image = λ ss. record { entry = j.entry; segments = ss } in
    ap at_entry entry ∙ ap with_segments segments

none_left : (n : ℕ) → 1 ≤ n → n ≤ 9 → n ≢ 1 → n ≢ 2 → n ≢ 3 → n ≢ 4 → n ≢ 5 → n ≢ 6 → n ≢ 7 → n ≢ 8 → n ≢ 9 → ⊥
none_left n from to n1 n2 n3 n4 n5 n6 n7 n8 n9 = omega arith

pub refused_loads_not : (bytes : List ℕ) (rule : ℕ) (i : Image) → FailsFirst bytes rule → LoadsAs bytes i → ⊥
refused_loads_not bytes rule i fails loads =
    let kept = loads.rules in
    let not1 : rule ≢ 1 = λ e. fails.rule1.1 e kept.rule1 in
    let not2 : rule ≢ 2 = λ e. fails.rule2.1 e kept.rule2 in
    let not3 : rule ≢ 3 = λ e. fails.rule3.1 e kept.rule3 in
    let not4 : rule ≢ 4 = λ e. fails.rule4.1 e kept.rule4 in
    let not5 : rule ≢ 5 = λ e. fails.rule5.1 e kept.rule5 in
    let not6 : rule ≢ 6 = λ e. fails.rule6.1 e kept.rule6 in
    let not7 : rule ≢ 7 = λ e. fails.rule7.1 e kept.rule7 in
    let not8 : rule ≢ 8 = λ e. fails.rule8.1 e kept.rule8 in
    let not9 : rule ≢ 9 = λ e. fails.rule9.1 e kept.rule9 in
    let from : 1 ≤ rule = fails.from in
    let to : rule ≤ 9 = fails.to in
    none_left rule from to not1 not2 not3 not4 not5 not6 not7 not8 not9
