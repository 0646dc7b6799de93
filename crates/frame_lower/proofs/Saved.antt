-- What stands where registers were pushed, and what comes back from there.
use Rattle.std.proofs.Common.{◌≡◌, ◌≢◌, ℕ, ◌+◌, ◌^◌, ◌<◌, List, [], ◌∷◌, length, inl, inr, ◌⊎◌, sym, ◌∙◌, ap, subst, arith}
use Rattle.rd_num.specs.Number.{le_bytes, le_number}
use Rattle.x86_core.specs.declared.reg.Reg.{Reg}
use Rattle.x86_core.specs.declared.reg.Reg.TheVariants.{Rsp}
use Rattle.x86_core.specs.declared.image.Segment.{Segment}
use Rattle.x86_core.specs.Registers.{word, with_word}
use Rattle.x86_rows.specs.Addresses.{range_at}
use Rattle.x86_rows.specs.Saving.{AreSaved, IsOneOf, restored}
use Rattle.x86_rows.proofs.Numbers.{number_again}
use Rattle.x86_rows.proofs.Registers.{register_cases, word_same, word_other, registers_long}
use Rattle.frame_lower.specs.Chain.{Saved}

-- the word that a register had stands wherever it was pushed
pub saved_of : (ss : List Segment) (rs : List Reg) (p : ℕ) (regs : List ℕ) (r : Reg) (n : ℕ) → AreSaved ss rs p regs → word regs r ≡ n → Saved ss rs p r n
saved_of ss [] p regs r n are is = tt
saved_of ss (s ∷ rs) p regs r n are is = (λ e. are.0 ∙ ap (λ t. le_bytes 8 (word regs t)) e ∙ ap (le_bytes 8) is, saved_of ss rs (p + 8) regs r n are.1 is)

-- registers after one pop
abbrev taken : List Segment → Reg → ℕ → List ℕ → List ℕ
taken ss s p regs = with_word (with_word regs Rsp (p + 8)) s (le_number (range_at ss p 8))

taken_long : (ss : List Segment) (s : Reg) (p : ℕ) (regs : List ℕ) → length regs ≡ 16 → length (taken ss s p regs) ≡ 16
taken_long ss s p regs long = registers_long (with_word regs Rsp (p + 8)) s (le_number (range_at ss p 8)) ∙ registers_long regs Rsp (p + 8) ∙ long

-- a register has its word again, if it has it already, or if it is still to be given back
pub word_back : (ss : List Segment) (rs : List Reg) (p : ℕ) (regs : List ℕ) (r : Reg) (n : ℕ) → r ≢ Rsp → length regs ≡ 16 → n < 2 ^ 64 → Saved ss rs p r n → (word regs r ≡ n) ⊎ IsOneOf r rs → word (restored ss rs p regs) r ≡ n
word_back ss [] p regs r n other long small saved (inl e) = e
word_back ss [] p regs r n other long small saved (inr none) = absurd none
word_back ss (s ∷ rs) p regs r n other long small saved have =
    let regs1 = with_word regs Rsp (p + 8) in
    let m = le_number (range_at ss p 8) in
    word_back ss rs (p + 8) (taken ss s p regs) r n other (taken_long ss s p regs long) small saved.1 (elim (register_cases s r) [
      | inl same ↦
          inl (subst (λ t. word (taken ss s p regs) t ≡ n) same
          (word_same regs1 s m (registers_long regs Rsp (p + 8) ∙ long) ∙ ap le_number (saved.0 same) ∙ number_again 8 n ∙ omega (arith, small)))
      | inr differ ↦ elim have [
        | inl there ↦ inl (word_other regs1 s r m differ ∙ word_other regs Rsp r (p + 8) (λ e. other (sym e)) ∙ there)
        | inr (inl same) ↦ absurd (differ (sym same))
        | inr (inr behind) ↦ inr behind
      ]
    ])
