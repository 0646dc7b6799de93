-- Segments of one shape: which addresses there are, and what may be done with them, is the same.
use Rattle.std.proofs.Common.{◌≡◌, ℕ, ◌+◌, Bool, ◌&&◌, ◌||◌, nat_le, List, [], ◌∷◌, length, refl, sym, ◌∙◌, ap}
use Rattle.x86_core.specs.declared.image.Segment.{Segment}
use Rattle.x86_core.specs.declared.image.Rights.{Rights}
use Rattle.x86_core.specs.Memory.{covers, one_covers}
use Rattle.x86_rows.specs.Addresses.{has_address, AreDisjoint, SameShape}

pub shape_refl : (ss : List Segment) → SameShape ss ss
shape_refl [] = tt
shape_refl (s ∷ ss) = (refl, refl, refl, shape_refl ss)

pub shape_sym : (ss ts : List Segment) → SameShape ss ts → SameShape ts ss
shape_sym [] [] h = tt
shape_sym [] (t ∷ ts) h = absurd h
shape_sym (s ∷ ss) [] h = absurd h
shape_sym (s ∷ ss) (t ∷ ts) h = (sym h.0, sym h.1, sym h.2, shape_sym ss ts h.3)

pub shape_trans : (ss ts us : List Segment) → SameShape ss ts → SameShape ts us → SameShape ss us
shape_trans [] [] us h k = k
shape_trans [] (t ∷ ts) us h k = absurd h
shape_trans (s ∷ ss) [] us h k = absurd h
shape_trans (s ∷ ss) (t ∷ ts) [] h k = absurd k
shape_trans (s ∷ ss) (t ∷ ts) (u ∷ us) h k = (h.0 ∙ k.0, h.1 ∙ k.1, h.2 ∙ k.2, shape_trans ss ts us h.3 k.3)

pub covers_same : (s t : Segment) (at n : ℕ) → s.start ≡ t.start → length s.bytes ≡ length t.bytes → covers s at n ≡ covers t at n
covers_same s t at n start long =
    ap (λ a. nat_le a at && nat_le (at + n) (a + length s.bytes)) start ∙
    ap (λ l. nat_le t.start at && nat_le (at + n) (t.start + l)) long

pub has_same : (ss ts : List Segment) (p : ℕ) → SameShape ss ts → has_address ss p ≡ has_address ts p
has_same [] [] p h = refl
has_same [] (t ∷ ts) p h = absurd h
has_same (s ∷ ss) [] p h = absurd h
has_same (s ∷ ss) (t ∷ ts) p h =
    ap (λ b. b || has_address ss p) (covers_same s t p 1 h.0 h.1) ∙ ap (λ b. covers t p 1 || b) (has_same ss ts p h.3)

pub one_same : (right : Rights → Bool) (ss ts : List Segment) (at n : ℕ) → SameShape ss ts → one_covers right ss at n ≡ one_covers right ts at n
one_same right [] [] at n h = refl
one_same right [] (t ∷ ts) at n h = absurd h
one_same right (s ∷ ss) [] at n h = absurd h
one_same right (s ∷ ss) (t ∷ ts) at n h =
    ap (λ b. (right s.rights && b) || one_covers right ss at n) (covers_same s t at n h.0 h.1) ∙
    ap (λ r. (right r && covers t at n) || one_covers right ss at n) h.2 ∙
    ap (λ b. (right t.rights && covers t at n) || b) (one_same right ss ts at n h.3)

pub disjoint_same : (ss ts : List Segment) → SameShape ss ts → AreDisjoint ss → AreDisjoint ts
disjoint_same [] [] h apart = tt
disjoint_same [] (t ∷ ts) h apart = absurd h
disjoint_same (s ∷ ss) [] h apart = absurd h
disjoint_same (s ∷ ss) (t ∷ ts) h apart =
    (λ p here. sym (has_same ss ts p h.3) ∙ apart.0 p (covers_same s t p 1 h.0 h.1 ∙ here), disjoint_same ss ts h.3 apart.1)
