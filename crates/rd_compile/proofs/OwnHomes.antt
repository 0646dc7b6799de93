-- Words of frames are homes of their own, one for each register, and there are names for each function.
use Rattle.std.proofs.Common.{◌≡◌, ℕ, zero, suc, ◌<◌, ◌≤◌, ◌⊎◌, inl, inr, List, [], ◌∷◌, ◌++◌, length, Some, slice_get, refl, ap, sym, ◌∙◌, arith, length-append}
use Rattle.std.specs.List.{All}
use Rattle.std.proofs.lemmas.List.Elements.{All-nil, All-append, All-cons}
use Rattle.low_core.specs.declared.sel.Home.{Home}
use Rattle.low_core.specs.declared.sel.Home.TheVariants as home
use Rattle.low_core.specs.declared.sel.SelFun.{SelFun}
use Rattle.frame_lower.specs.Frames.{words_to}
use Rattle.frame_lower.specs.Given.{HavePlaces, IsInFrame, AreInFrame}
use Rattle.frame_lower.specs.Planned.{HasOwn, HaveOwn}
use Rattle.rd_compile.specs.Own.{own_words, own_homes, five_names, drawn_names}

-- a place in a list, or the one that was put behind it
last : {X : Type 0} (xs : List X) (y : X) (k : ℕ) (x : X) → slice_get (xs ++ y ∷ []) k ≡ Some x → (slice_get xs k ≡ Some x) ⊎ ((k ≡ length xs) × (y ≡ x))
last [] y zero x there = inr (refl, cc)
last [] y (suc k) x there = absurd cc
last (z ∷ xs) y zero x there = inl there
last (z ∷ xs) y (suc k) x there = elim (last xs y k x there) [ inl e ↦ inl e | inr p ↦ inr (ap suc p.0, p.1) ]

words_long : (n : ℕ) → length (own_words n) ≡ n
words_long zero = refl
words_long (suc n) = let both = length-append (own_words n) (home.Frame n ∷ []) in let r = words_long n in omega (arith, both, r)

-- each register has the word of its number
word_is : (n x : ℕ) (h : Home) → slice_get (own_words n) x ≡ Some h → home.Frame x ≡ h
word_is zero x h there = absurd cc
word_is (suc n) x h there = elim (last (own_words n) (home.Frame n) x h there) [
  | inl before ↦ word_is n x h before
  | inr p ↦ ap home.Frame (p.0 ∙ words_long n) ∙ p.1
]

-- what holds of these words holds of all
words_all : (P : Home → Type 0) (n : ℕ) → ((x : ℕ) → x < n → P (home.Frame x)) → All P (own_words n)
words_all P zero each = All-nil P
words_all P (suc n) each = All-append P (own_words n) (home.Frame n ∷ []) (words_all P n (λ x below. each x (omega (arith, below)))) (All-cons P (home.Frame n) [] (each n (omega arith)) (All-nil P))

one_own : (f : SelFun) → HasOwn f (own_words f.registers)
one_own f = record {
  long = words_long f.registers;
  in_frame = words_all IsInFrame f.registers (λ x below. tt);
  apart = λ x y h a b. number x y (word_is f.registers x h a ∙ sym (word_is f.registers y h b));
}
  where
    number : (x y : ℕ) → home.Frame x ≡ home.Frame y → x ≡ y
    number x y e = cc

pub homes_own : (fs : List SelFun) → HaveOwn fs (own_homes fs)
homes_own [] = tt
homes_own (f ∷ fs) = (one_own f, homes_own fs)

pub homes_placed : (fs : List SelFun) → HavePlaces fs (own_homes fs)
homes_placed [] = tt
homes_placed (f ∷ fs) = (words_all (λ (h : Home). words_to h ≤ f.registers) f.registers (λ x below. omega (arith, below)), homes_placed fs)

pub homes_framed : (fs : List SelFun) → AreInFrame (own_homes fs)
homes_framed [] = All-nil (λ (hs : List Home). All IsInFrame hs)
homes_framed (f ∷ fs) = All-cons (λ (hs : List Home). All IsInFrame hs) (own_words f.registers) (own_homes fs) (words_all IsInFrame f.registers (λ x below. tt)) (homes_framed fs)

pub names_long : (reg_seed n : ℕ) → length (drawn_names reg_seed n) ≡ n
names_long reg_seed zero = refl
names_long reg_seed (suc n) = let both = length-append (drawn_names reg_seed n) (five_names reg_seed n ∷ []) in let r = names_long reg_seed n in omega (arith, both, r)
