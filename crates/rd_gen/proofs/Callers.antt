-- A function's text, and the functions that are left.
use Rattle.std.proofs.Common.{◌≡◌, ℕ, suc, ◌+◌, ◌-◌, ◌/◌, ◌<◌, List, ◌++◌, sym, ap, ap₂, ◌∙◌, arith, codes, decimal}
use Rattle.std.specs.List.{flat_map, range_with_len}
use Rattle.std.proofs.lemmas.List.{append_assoc}
use Rattle.rd_gen.specs.Workload.{call_text, factor, start_text, summand}

four : (t a b c d : List ℕ) → ((t ++ a) ++ b ++ c) ++ d ≡ t ++ (a ++ (b ++ (c ++ d)))
four t a b c d =
    append_assoc ((t ++ a) ++ b) c d ∙ append_assoc (t ++ a) b (c ++ d) ∙ append_assoc t a (b ++ (c ++ d))

pub start_put : (t t1 t2 : List ℕ) (i k : ℕ) → k ≡ factor i → t1 ≡ t ++ codes "define i32 @f" ++ decimal i → t2 ≡ t1 ++ codes "(i32 %x) {\ne:\n  %a = mul i32 %x, " ++ decimal k → t2 ≡ t ++ start_text i
unfolding start_text
start_put t t1 t2 i k e one two =
    two ∙ ap₂ (λ x m. x ++ codes "(i32 %x) {\ne:\n  %a = mul i32 %x, " ++ decimal m) one e ∙
    four t (codes "define i32 @f") (decimal i) (codes "(i32 %x) {\ne:\n  %a = mul i32 %x, ") (decimal (factor i))

pub call_put : (t t1 t2 t3 : List ℕ) (i k h : ℕ) → k ≡ summand i → h ≡ i / 2 → t1 ≡ t ++ codes "\n  %b = add i32 %a, " ++ decimal k → t2 ≡ t1 ++ codes "\n  %c = call i32 @f" ++ decimal h →
    t3 ≡ t2 ++ codes "(i32 %b)\n  %d = xor i32 %c, %x\n  ret i32 %d\n}\n" → t3 ≡ t ++ call_text i
unfolding call_text
call_put t t1 t2 t3 i k h e half one two three =
    let tail : List ℕ = codes "(i32 %b)\n  %d = xor i32 %c, %x\n  ret i32 %d\n}\n" in
    let a : List ℕ = codes "\n  %b = add i32 %a, " in
    let b : List ℕ = codes "\n  %c = call i32 @f" in
    three ∙ ap (λ x. x ++ tail) (two ∙ ap₂ (λ x m. x ++ b ++ decimal m) (one ∙ ap (λ m. t ++ a ++ decimal m) e) half) ∙
    append_assoc ((t ++ a ++ decimal (summand i)) ++ b) (decimal (i / 2)) tail ∙
    four t a (decimal (summand i)) b (decimal (i / 2) ++ tail)

pub next_put : (f : ℕ → List ℕ) (t all : List ℕ) (i n : ℕ) → i < n → t ++ flat_map f (range_with_len i (n - i)) ≡ all →
    (t ++ f i) ++ flat_map f (range_with_len (i + 1) (n - (i + 1))) ≡ all
next_put f t all i n less h =
    let e : n - i ≡ suc (n - (i + 1)) = omega (arith, less) in
    append_assoc t (f i) (flat_map f (range_with_len (i + 1) (n - (i + 1)))) ∙ sym (ap (λ m. t ++ flat_map f (range_with_len i m)) e) ∙ h
