-- Rows of pushes and pops: what they leave on the stack, and what comes back from there.
use Rattle.std.proofs.Common.{◌≡◌, ◌≢◌, ℕ, ◌+◌, ◌*◌, ◌^◌, ◌<◌, ◌≤◌, ◌⊎◌, Bool, true, false, ◌&&◌, ◌||◌, List, [], ◌∷◌, ◌++◌, length, refl, sym, ◌∙◌, ap, subst, inl, inr, arith, lit≤}
use Rattle.std.specs.Prelude.{pos, negsuc}
use Rattle.std.proofs.lemmas.Bool.{and_from}
use Rattle.std.proofs.lemmas.List.{set-set}
use Rattle.rd_num.specs.Number.{le_bytes, le_number}
use Rattle.x86_core.specs.declared.reg.Reg.{Reg}
use Rattle.x86_core.specs.declared.reg.Reg.TheVariants.{Rsp}
use Rattle.x86_core.specs.declared.instr.Instr.TheVariants.{Push, Pop}
use Rattle.x86_core.specs.declared.image.Rights.{Rights}
use Rattle.x86_core.specs.declared.image.Segment.{Segment}
use Rattle.x86_core.specs.Registers.{word, with_word}
use Rattle.x86_core.specs.Arithmetic.{moved}
use Rattle.x86_core.specs.Memory.{covers, reads, writes, one_covers}
use Rattle.x86_core.specs.Step.{below}
use Rattle.x86_rows.specs.Addresses.{byte_at, range_at, AreDisjoint, SameShape}
use Rattle.x86_rows.specs.Straight.{Core, Through, and_on, ran, exec}
use Rattle.x86_rows.specs.Leaves.{with_regs}
use Rattle.x86_rows.specs.Saving.{IsStack, push_row, pop_row, SpareRsp, IsOneOf, AreSaved, Saves, restored}
use Rattle.x86_rows.proofs.Covers.{within_covers, range_same}
use Rattle.x86_rows.proofs.Shapes.{shape_refl, shape_trans, one_same, disjoint_same}
use Rattle.x86_rows.proofs.Writing.{write_range}
use Rattle.x86_rows.proofs.Rows.{exec-through, exec-first}
use Rattle.x86_rows.proofs.Leaves.{push, pop}
use Rattle.x86_rows.proofs.Numbers.{number_again}
use Rattle.x86_rows.proofs.Registers.{register_cases, word_same, word_other, word_again, registers_long}

-- the stack may be used as before after a write
pub stack_same : (low high : ℕ) (ss ts : List Segment) → SameShape ss ts → IsStack low high ss → IsStack low high ts
stack_same low high ss ts same s = record {
  disjoint = disjoint_same ss ts same s.disjoint;
  below = s.below;
  readable = λ p n from to some. sym (one_same reads ss ts p n same) ∙ s.readable p n from to some;
  writable = λ p n from to some. sym (one_same writes ss ts p n same) ∙ s.writable p n from to some;
}

-- what is saved stays where no byte of it changes
pub saved_same : (ss ts : List Segment) (rs : List Reg) (p : ℕ) (regs : List ℕ) → ((q : ℕ) → p ≤ q → q < p + 8 * length rs → byte_at ts q ≡ byte_at ss q) → AreSaved ss rs p regs → AreSaved ts rs p regs
saved_same ss ts [] p regs same h = tt
saved_same ss ts (r ∷ rs) p regs same h =
    (range_same ts ss 8 p (λ q from to. same q from (omega (arith, to))) ∙ h.0, saved_same ss ts rs (p + 8) regs (λ q from to. same q (omega (arith, from)) (omega (arith, to))) h.1)

-- a segment among others covers its ranges
pub covered_among : (right : Rights → Bool) (before : List Segment) (s : Segment) (after : List Segment) (p n : ℕ) → right s.rights ≡ true → covers s p n ≡ true → one_covers right (before ++ s ∷ after) p n ≡ true
covered_among right [] s after p n allowed here = ap (λ b. b || one_covers right after p n) (and_from (right s.rights) (covers s p n) allowed here)
covered_among right (t ∷ before) s after p n allowed here = either (right t.rights && covers t p n) (one_covers right (before ++ s ∷ after) p n) (covered_among right before s after p n allowed here)
  where
    either : (a b : Bool) → b ≡ true → (a || b) ≡ true
    either true b e = refl
    either false b e = e

-- so one that may be read and written serves as a stack
pub segment_is_stack : (before : List Segment) (s : Segment) (after : List Segment) → AreDisjoint (before ++ s ∷ after) → reads s.rights ≡ true → writes s.rights ≡ true → s.start + length s.bytes < 2 ^ 64 → IsStack s.start (s.start + length s.bytes) (before ++ s ∷ after)
segment_is_stack before s after apart may_read may_write below = record {
  disjoint = apart;
  below = below;
  readable = λ p n from to some. covered_among reads before s after p n may_read (within_covers s p n from to);
  writable = λ p n from to some. covered_among writes before s after p n may_write (within_covers s p n from to);
}

module _ (low high : ℕ) where
  -- one push more, below the others
  push_more : (r : Reg) (rs : List Reg) (c : Core) (p : ℕ) → r ≢ Rsp → length c.regs ≡ 16 → IsStack low high c.segments → low ≤ p → p + 8 + 8 * length rs ≤ high → Saves rs c (p + 8) → Saves (r ∷ rs) c p
  push_more r rs c p other long stack from to x =
      let c2 : Core = record c { regs = with_word c.regs Rsp (p + 8); segments = x.segments } in
      let s2 = stack_same low high c.segments x.segments x.shape stack in
      let n = word c.regs r in
      let y = write_range x.segments p (le_bytes 8 n) s2.disjoint (lit≤ tt) (s2.writable p 8 from (omega (arith, to)) (lit≤ tt)) in
      let top : word c2.regs Rsp ≡ p + 8 = word_same c.regs Rsp (p + 8) long in
      let there : below c2.regs ≡ p = let h = stack.below in ap (λ k. moved k (negsuc 7)) top ∙ omega (arith, h, to) in
      let same : word c2.regs r ≡ n = word_other c.regs Rsp r (p + 8) (λ e. other (sym e)) in
      let regs : with_word c2.regs Rsp p ≡ with_word c.regs Rsp p = set_twice c.regs (p + 8) p in
      record {
        segments = y.segments;
        gives = exec-through (push_row rs) (Push r ∷ []) c c2 x.gives ∙ ap (λ z. and_on z (exec [])) (push c2 r p n there same y) ∙ ap (λ l. Through (record c { regs = l; segments = y.segments })) regs;
        shape = shape_trans c.segments x.segments y.segments x.shape y.shape;
        saved = (y.range, saved_same x.segments y.segments rs (p + 8) c.regs (λ q above _. y.outside q (inr above)) x.saved);
        outside = λ q o. elim o [
          | inl under ↦ y.outside q (inl under) ∙ x.outside q (inl (omega (arith, under)))
          | inr above ↦ y.outside q (inr (omega (arith, above))) ∙ x.outside q (inr (omega (arith, above)))
        ];
      }
    where
      set_twice : (regs : List ℕ) (a b : ℕ) → with_word (with_word regs Rsp a) Rsp b ≡ with_word regs Rsp b
      set_twice regs a b = set-set regs 4 a b

  pub pushes : (rs : List Reg) (c : Core) (p : ℕ) → SpareRsp rs → length c.regs ≡ 16 → IsStack low high c.segments → word c.regs Rsp ≡ p + 8 * length rs → low ≤ p → p + 8 * length rs ≤ high → Saves rs c p
  pushes [] c p spare long stack top from to = record {
    segments = c.segments;
    gives = let e : word c.regs Rsp ≡ p = omega (arith, top) in ap Through (ap (with_regs c) (sym (word_again c.regs Rsp) ∙ ap (with_word c.regs Rsp) e));
    shape = shape_refl c.segments;
    saved = tt;
    outside = λ q o. refl;
  }
  pushes (r ∷ rs) c p spare long stack top from to =
      push_more r rs c p spare.0 long stack from (omega (arith, to))
      (pushes rs c (p + 8) spare.1 long stack (omega (arith, top)) (omega (arith, from)) (omega (arith, to)))

  pub pops : (rs : List Reg) (c : Core) (p : ℕ) → SpareRsp rs → length c.regs ≡ 16 → IsStack low high c.segments → word c.regs Rsp ≡ p → low ≤ p → p + 8 * length rs ≤ high → exec (pop_row rs) c ≡ Through (with_regs c (restored c.segments rs p c.regs))
  pops [] c p spare long stack top from to = refl
  pops (r ∷ rs) c p spare long stack top from to =
      let n = le_number (range_at c.segments p 8) in
      let up : moved (word c.regs Rsp) (pos 8) ≡ p + 8 = let h = stack.below in ap (λ k. moved k (pos 8)) top ∙ omega (arith, h, to) in
      let regs2 = with_word (with_word c.regs Rsp (p + 8)) r n in
      let one : ran (Pop r) c ≡ Through (with_regs c regs2) = pop c r p top stack.disjoint (stack.readable p 8 from (omega (arith, to)) (lit≤ tt)) ∙ ap (λ k. Through (with_regs c (with_word (with_word c.regs Rsp k) r n))) up in
      let top2 : word regs2 Rsp ≡ p + 8 = word_other (with_word c.regs Rsp (p + 8)) r Rsp n spare.0 ∙ word_same c.regs Rsp (p + 8) long in
      let long2 : length regs2 ≡ 16 = registers_long (with_word c.regs Rsp (p + 8)) r n ∙ registers_long c.regs Rsp (p + 8) ∙ long in
      exec-first (Pop r) (pop_row rs) c (with_regs c regs2) one ∙ pops rs (with_regs c regs2) (p + 8) spare.1 long2 stack top2 (omega (arith, from)) (omega (arith, to))

-- after the pops: there are sixteen words still
pub restored_long : (ss : List Segment) (rs : List Reg) (p : ℕ) (regs : List ℕ) → length (restored ss rs p regs) ≡ length regs
restored_long ss [] p regs = refl
restored_long ss (r ∷ rs) p regs =
    let n = le_number (range_at ss p 8) in
    restored_long ss rs (p + 8) (with_word (with_word regs Rsp (p + 8)) r n) ∙ registers_long (with_word regs Rsp (p + 8)) r n ∙ registers_long regs Rsp (p + 8)

-- rsp is behind what was taken
pub restored_top : (ss : List Segment) (rs : List Reg) (p : ℕ) (regs : List ℕ) → SpareRsp rs → length regs ≡ 16 → word regs Rsp ≡ p → word (restored ss rs p regs) Rsp ≡ p + 8 * length rs
restored_top ss [] p regs spare long top = omega (arith, top)
restored_top ss (r ∷ rs) p regs spare long top =
    let n = le_number (range_at ss p 8) in
    let regs2 = with_word (with_word regs Rsp (p + 8)) r n in
    let top2 : word regs2 Rsp ≡ p + 8 = word_other (with_word regs Rsp (p + 8)) r Rsp n spare.0 ∙ word_same regs Rsp (p + 8) long in
    let long2 : length regs2 ≡ 16 = registers_long (with_word regs Rsp (p + 8)) r n ∙ registers_long regs Rsp (p + 8) ∙ long in
    restored_top ss rs (p + 8) regs2 spare.1 long2 top2 ∙ omega arith

-- a register that isn't taken keeps its word
pub restored_other : (ss : List Segment) (rs : List Reg) (p : ℕ) (regs : List ℕ) (r : Reg) → r ≢ Rsp → (IsOneOf r rs → ⊥) → word (restored ss rs p regs) r ≡ word regs r
restored_other ss [] p regs r other none = refl
restored_other ss (s ∷ rs) p regs r other none =
    let n = le_number (range_at ss p 8) in
    restored_other ss rs (p + 8) (with_word (with_word regs Rsp (p + 8)) s n) r other (λ x. none (inr x)) ∙
    word_other (with_word regs Rsp (p + 8)) s r n (λ e. none (inl (sym e))) ∙ word_other regs Rsp r (p + 8) (λ e. other (sym e))

-- registers after one pop
abbrev after_pop : List Segment → Reg → ℕ → List ℕ → List ℕ
after_pop ss s p regs = with_word (with_word regs Rsp (p + 8)) s (le_number (range_at ss p 8))

-- the one that was taken, and another one
taken_word : (ss : List Segment) (s : Reg) (p : ℕ) (old regs : List ℕ) → length regs ≡ 16 → word old s < 2 ^ 64 → range_at ss p 8 ≡ le_bytes 8 (word old s) → word (after_pop ss s p regs) s ≡ word old s
taken_word ss s p old regs long small saved =
    word_same (with_word regs Rsp (p + 8)) s (le_number (range_at ss p 8)) (registers_long regs Rsp (p + 8) ∙ long) ∙
    ap le_number saved ∙ number_again 8 (word old s) ∙ omega (arith, small)

kept_word : (ss : List Segment) (s r : Reg) (p : ℕ) (regs : List ℕ) → r ≢ Rsp → s ≢ r → word (after_pop ss s p regs) r ≡ word regs r
kept_word ss s r p regs other differ = word_other (with_word regs Rsp (p + 8)) s r (le_number (range_at ss p 8)) differ ∙ word_other regs Rsp r (p + 8) (λ e. other (sym e))

-- a register has its old word again, if it has it already, or if it is still to come
pub restored_word : (ss : List Segment) (rs : List Reg) (p : ℕ) (old regs : List ℕ) (r : Reg) → r ≢ Rsp → length regs ≡ 16 → word old r < 2 ^ 64 → AreSaved ss rs p old → (word regs r ≡ word old r) ⊎ IsOneOf r rs → word (restored ss rs p regs) r ≡ word old r
restored_word ss [] p old regs r other long small saved (inl e) = e
restored_word ss [] p old regs r other long small saved (inr none) = absurd none
restored_word ss (s ∷ rs) p old regs r other long small saved have =
    let long2 : length (after_pop ss s p regs) ≡ 16 = registers_long (with_word regs Rsp (p + 8)) s (le_number (range_at ss p 8)) ∙ registers_long regs Rsp (p + 8) ∙ long in
    restored_word ss rs (p + 8) old (after_pop ss s p regs) r other long2 small saved.1 (elim (register_cases s r) [
      | inl same ↦
          inl (subst (λ t. word (after_pop ss s p regs) t ≡ word old t) same
          (taken_word ss s p old regs long (subst (λ t. word old t < 2 ^ 64) (sym same) small) saved.0))
      | inr differ ↦ elim have [
        | inl there ↦ inl (kept_word ss s r p regs other differ ∙ there)
        | inr later ↦ elim later [
          | inl same ↦ absurd (differ (sym same))
          | inr behind ↦ inr behind
        ]
      ]
    ])
