-- Words of several registers, and words that stand in processor registers or one above another in memory.
use Rattle.std.proofs.Common.{◌≡◌, ℕ, zero, suc, ◌+◌, ◌*◌, ◌^◌, ◌<◌, ◌≤◌, true, List, [], ◌∷◌, drop, length, Option, Ok, Err, inl, inr, ◌⊎◌, refl, ◌∙◌, ap, arith}
use Rattle.rd_num.specs.Number.{le_bytes}
use Rattle.ir_core.specs.declared.memory.Reason.TheVariants.{Unset}
use Rattle.ir_core.specs.Stops.{Left, Answer, and_then}
use Rattle.x86_core.specs.declared.reg.Reg.{Reg}
use Rattle.x86_core.specs.declared.image.Segment.{Segment}
use Rattle.x86_rows.specs.Addresses.{byte_at, range_at}
use Rattle.x86_rows.proofs.Covers.{range_same}
use Rattle.low_core.specs.SelState.{word_in, words_in}
use Rattle.frame_rows.specs.Words.{Words, held_in, with_held}
use Rattle.frame_rows.specs.Ties.{is_scratch}
use Rattle.frame_rows.proofs.Registers.{Same, scratch_written}
use Rattle.frame_rows.proofs.Meeting.{word_cases}
use Rattle.frame_lower.specs.Calls.{argument_registers}

-- registers of a program have these words
abbrev pub HaveWords : List (Option ℕ) → List ℕ → List ℕ → Type 0
HaveWords registers [] [] = Unit {0}
HaveWords registers (x ∷ xs) (n ∷ ns) = (word_in registers x ≡ Ok n) × HaveWords registers xs ns
HaveWords registers xs ns = ⊥

-- all of them have words, or one isn't set
pub record Told (registers : List (Option ℕ)) (xs : List ℕ) : Type 0 where
  pub words : List ℕ
  pub gives : words_in registers xs ≡ Ok words
  pub have : HaveWords registers xs words

pub words_cases : (registers : List (Option ℕ)) (xs : List ℕ) → Told registers xs ⊎ (words_in registers xs ≡ Err (Left Unset))
words_cases registers [] = inl (record { words = []; gives = refl; have = tt })
words_cases registers (x ∷ xs) = elim (word_cases registers x) [
  | inr e ↦ inr (ap (λ q. and_then q (λ n. and_then (words_in registers xs) (λ ns. more n ns))) e)
  | inl p ↦ elim (words_cases registers xs) [
    | inr e ↦ inr (ap (λ q. and_then q (λ n. and_then (words_in registers xs) (λ ns. more n ns))) p.1 ∙ ap (λ q. and_then q (λ ns. more p.0 ns)) e)
    | inl t ↦
        inl (record {
          words = p.0 ∷ t.words;
          gives = ap (λ q. and_then q (λ n. and_then (words_in registers xs) (λ ns. more n ns))) p.1 ∙ ap (λ q. and_then q (λ ns. more p.0 ns)) t.gives;
          have = (p.1, t.have);
        })
  ]
]
  where
    more : ℕ → List ℕ → Answer (List ℕ)
    more n ns = Ok (n ∷ ns)

-- behind the first of them too
pub have_drop : (k : ℕ) (registers : List (Option ℕ)) (xs ns : List ℕ) → HaveWords registers xs ns → HaveWords registers (drop k xs) (drop k ns)
have_drop zero registers xs ns have = have
have_drop (suc k) registers [] [] have = tt
have_drop (suc k) registers [] (n ∷ ns) have = absurd have
have_drop (suc k) registers (x ∷ xs) [] have = absurd have
have_drop (suc k) registers (x ∷ xs) (n ∷ ns) have = have_drop k registers xs ns have.1

pub have_long : (registers : List (Option ℕ)) (xs ns : List ℕ) → HaveWords registers xs ns → length ns ≡ length xs
have_long registers [] [] have = refl
have_long registers [] (n ∷ ns) have = absurd have
have_long registers (x ∷ xs) [] have = absurd have
have_long registers (x ∷ xs) (n ∷ ns) have = ap suc (have_long registers xs ns have.1)

-- words fit in registers
abbrev pub AreSmall : List ℕ → Type 0
AreSmall [] = Unit {0}
AreSmall (n ∷ ns) = (n < 2 ^ 64) × AreSmall ns

pub have_small : (registers : List (Option ℕ)) (xs ns : List ℕ) → ((x n : ℕ) → word_in registers x ≡ Ok n → n < 2 ^ 64) → HaveWords registers xs ns → AreSmall ns
have_small registers [] [] small have = tt
have_small registers [] (n ∷ ns) small have = absurd have
have_small registers (x ∷ xs) [] small have = absurd have
have_small registers (x ∷ xs) (n ∷ ns) small have = (small x n have.0, have_small registers xs ns small have.1)

pub small_drop : (k : ℕ) (ns : List ℕ) → AreSmall ns → AreSmall (drop k ns)
small_drop zero ns small = small
small_drop (suc k) [] small = tt
small_drop (suc k) (n ∷ ns) small = small_drop k ns small.1

-- processor registers have these words, as many as there are of both
abbrev pub AreHeld : Words → List Reg → List ℕ → Type 0
AreHeld w [] ns = Unit {0}
AreHeld w (t ∷ ts) [] = Unit {0}
AreHeld w (t ∷ ts) (n ∷ ns) = (held_in w t ≡ n) × AreHeld w ts ns

-- words stand one above another from an address on
abbrev pub StandAt : List Segment → ℕ → List ℕ → Type 0
StandAt ss at [] = Unit {0}
StandAt ss at (n ∷ ns) = (range_at ss at 8 ≡ le_bytes 8 n) × StandAt ss (at + 8) ns

pub stand_same : (ss ts : List Segment) (ns : List ℕ) (at : ℕ) → ((p : ℕ) → at ≤ p → p < at + 8 * length ns → byte_at ts p ≡ byte_at ss p) → StandAt ss at ns → StandAt ts at ns
stand_same ss ts [] at same stand = tt
stand_same ss ts (n ∷ ns) at same stand =
    (range_same ts ss 8 at (λ q from to. same q from (omega (arith, to))) ∙ stand.0, stand_same ss ts ns (at + 8) (λ q from to. same q (omega (arith, from)) (omega (arith, to))) stand.1)

-- all of them may be changed by rows
abbrev pub AreScratch : List Reg → Type 0
AreScratch [] = Unit {0}
AreScratch (t ∷ ts) = (is_scratch t ≡ true) × AreScratch ts

pub arguments_scratch : AreScratch argument_registers
arguments_scratch = (refl, (refl, (refl, (refl, (refl, (refl, tt))))))

pub held_same : (ts : List Reg) (ns : List ℕ) (w v : Words) → AreScratch ts → ((t : Reg) → is_scratch t ≡ true → held_in v t ≡ held_in w t) → AreHeld w ts ns → AreHeld v ts ns
held_same [] ns w v are same held = tt
held_same (t ∷ ts) [] w v are same held = tt
held_same (t ∷ ts) (n ∷ ns) w v are same held = (same t are.0 ∙ held.0, held_same ts ns w v are.1 same held.1)

-- words once processor registers were given others
abbrev pub filled : Words → List Reg → List ℕ → Words
filled w [] ns = w
filled w (t ∷ ts) [] = w
filled w (t ∷ ts) (n ∷ ns) = filled (with_held w t n) ts ns

pub same_refl : (w : Words) → Same w w
same_refl w = record { rbx = refl; rbp = refl; rsp = refl; r12 = refl; r13 = refl; r14 = refl; r15 = refl }

pub same_trans : (u v w : Words) → Same u v → Same v w → Same u w
same_trans u v w a b = record { rbx = b.rbx ∙ a.rbx; rbp = b.rbp ∙ a.rbp; rsp = b.rsp ∙ a.rsp; r12 = b.r12 ∙ a.r12; r13 = b.r13 ∙ a.r13; r14 = b.r14 ∙ a.r14; r15 = b.r15 ∙ a.r15 }

pub filled_same : (ts : List Reg) (ns : List ℕ) (w : Words) → AreScratch ts → Same w (filled w ts ns)
filled_same [] ns w are = same_refl w
filled_same (t ∷ ts) [] w are = same_refl w
filled_same (t ∷ ts) (n ∷ ns) w are = same_trans w (with_held w t n) (filled (with_held w t n) ts ns) (scratch_written w t n are.0) (filled_same ts ns (with_held w t n) are.1)

-- the six have the words that they were given
pub filled_held : (w : Words) (ns : List ℕ) → AreHeld (filled w argument_registers ns) argument_registers ns
filled_held w [] = tt
filled_held w (a ∷ []) = (refl, tt)
filled_held w (a ∷ b ∷ []) = (refl, (refl, tt))
filled_held w (a ∷ b ∷ c ∷ []) = (refl, (refl, (refl, tt)))
filled_held w (a ∷ b ∷ c ∷ d ∷ []) = (refl, (refl, (refl, (refl, tt))))
filled_held w (a ∷ b ∷ c ∷ d ∷ e ∷ []) = (refl, (refl, (refl, (refl, (refl, tt)))))
filled_held w (a ∷ b ∷ c ∷ d ∷ e ∷ f ∷ others) = (refl, (refl, (refl, (refl, (refl, (refl, tt))))))

-- other words with the same ones in the six
pub record SixSame (w v : Words) : Type 0 where
  pub rdi : v.rdi ≡ w.rdi
  pub rsi : v.rsi ≡ w.rsi
  pub rdx : v.rdx ≡ w.rdx
  pub rcx : v.rcx ≡ w.rcx
  pub r8 : v.r8 ≡ w.r8
  pub r9 : v.r9 ≡ w.r9

pub six_held : (w v : Words) (ns : List ℕ) → SixSame w v → AreHeld w argument_registers ns → AreHeld v argument_registers ns
six_held w v [] s h = tt
six_held w v (a ∷ []) s h = (s.rdi ∙ h.0, tt)
six_held w v (a ∷ b ∷ []) s h = (s.rdi ∙ h.0, (s.rsi ∙ h.1.0, tt))
six_held w v (a ∷ b ∷ c ∷ []) s h = (s.rdi ∙ h.0, (s.rsi ∙ h.1.0, (s.rdx ∙ h.1.1.0, tt)))
six_held w v (a ∷ b ∷ c ∷ d ∷ []) s h = (s.rdi ∙ h.0, (s.rsi ∙ h.1.0, (s.rdx ∙ h.1.1.0, (s.rcx ∙ h.1.1.1.0, tt))))
six_held w v (a ∷ b ∷ c ∷ d ∷ e ∷ []) s h = (s.rdi ∙ h.0, (s.rsi ∙ h.1.0, (s.rdx ∙ h.1.1.0, (s.rcx ∙ h.1.1.1.0, (s.r8 ∙ h.1.1.1.1.0, tt)))))
six_held w v (a ∷ b ∷ c ∷ d ∷ e ∷ f ∷ others) s h = (s.rdi ∙ h.0, (s.rsi ∙ h.1.0, (s.rdx ∙ h.1.1.0, (s.rcx ∙ h.1.1.1.0, (s.r8 ∙ h.1.1.1.1.0, (s.r9 ∙ h.1.1.1.1.1.0, tt))))))
