-- What derives is read, whatever follows that makes it no longer.
use Rattle.std.proofs.Common.{◌≡◌, ℕ, zero, suc, ◌≤◌, true, false, List, [], ◌∷◌, ◌++◌, length, length-append, refl, sym, ◌∙◌, ap, inl, inr, arith, append_assoc}
use Rattle.std.specs.Prelude.{◌&&◌, not}
use Rattle.ir_lex.specs.declared.token.TokenKind.{TokenKind}
use Rattle.ir_grammar.specs.Tokens.{mark, is_spellable, starts}
use Rattle.ir_grammar.specs.Brackets.{mark_shape}
use Rattle.ir_grammar.specs.Grammar.{Grammar, give, token, both, either, many, nest, loop, Row, Derives}
use Rattle.ir_grammar.specs.Reading.{null, first, next, where_null, apart, is_closing, fine, done, read_row, read}
use Rattle.ir_grammar.proofs.Sets.{and_left, and_right, not_true, starts_neither, same_sort-refl}
use Rattle.ir_grammar.proofs.Heads.{nulls, heads}
use Rattle.ir_grammar.proofs.Stops.{stops_before, begins}
use Rattle.ir_grammar.proofs.Loops.{looped, again_loop}
use Rattle.ir_grammar.proofs.Nests.{closing_is, scan_again}

-- a row, where as many may be read as there are tokens
again_row : {A : Type 0} (g : Grammar A) → null g ≡ false → apart (next g) (first g) ≡ true
    → ((v : A) (front rest : List TokenKind) → Derives g v front → starts (next g) rest ≡ false → read g (front ++ rest) ≡ done v rest)
    → (n : ℕ) (vs : List A) (front rest : List TokenKind) → length (front ++ rest) ≤ n → Row (λ (a : A) (us : List TokenKind). Derives g a us) vs front
    → starts (next g) rest ≡ false → starts (first g) rest ≡ false → read_row n (first g) (read g) (front ++ rest) ≡ done vs rest
again_row g some ok item zero [] front rest le d stop end = ap (λ x. done [] (x ++ rest)) d
again_row g some ok item (suc n) [] front rest le d stop end = rw d (rw end refl)
again_row {A} g some ok item n (v ∷ vs) front rest le (left, right, cut, d, more) stop end =
    one_by left n le cut d (λ m short. again_row g some ok item m vs right rest short more stop end)
  where
    tail_stops : starts (next g) (right ++ rest) ≡ false
    tail_stops = stops_before (next g) (many g) vs right rest ok more stop

    one_by : (left : List TokenKind) (n : ℕ) → length (front ++ rest) ≤ n → front ≡ left ++ right → Derives g v left
        → ((m : ℕ) → length (right ++ rest) ≤ m → read_row m (first g) (read g) (right ++ rest) ≡ done vs rest) → read_row n (first g) (read g) (front ++ rest) ≡ done (v ∷ vs) rest
    one_by [] n le cut d go = absurd (let none = nulls g v [] refl d in let e : true ≡ false = sym none ∙ some in cc)
    one_by (t ∷ left) zero le cut d go = absurd (let l = ap (λ x. length (x ++ rest)) cut in omega arith)
    one_by (t ∷ left) (suc n) le cut d go =
        let whole : front ++ rest ≡ (t ∷ left) ++ (right ++ rest) = ap (λ x. x ++ rest) cut ∙ append_assoc (t ∷ left) right rest in
        let l = ap length whole in
        let short : length (right ++ rest) ≤ n = omega (arith, length-append left (right ++ rest)) in
        rw whole
        (rw (heads g v t left d)
        (rw (item v (t ∷ left) (right ++ rest) d tail_stops)
        (rw (go n short) refl)))

pub again : {A : Type 0} (g : Grammar A) → fine g ≡ true → (v : A) (front rest : List TokenKind) → Derives g v front → starts (next g) rest ≡ false → read g (front ++ rest) ≡ done v rest
again (give a) ok v front rest (is, none) stop = rw none (rw is refl)
again (token s ss f) ok v front rest (t, s_is, f_is, one) stop = rw one (rw s_is (rw f_is refl))
again (both f g h) ok v front rest (a, b, left, right, cut, dg, dh, is) stop =
    let good_g = and_left (fine g) (fine h && apart (next g) (first h)) ok in
    let more = and_right (fine g) (fine h && apart (next g) (first h)) ok in
    let good_h = and_left (fine h) (apart (next g) (first h)) more in
    let split = and_right (fine h) (apart (next g) (first h)) more in
    let stops = starts_neither (next h) (where_null (null h) (next g)) rest stop in
    let middle = stops_before (next g) h b right rest split dh stops.1 in
    let whole : front ++ rest ≡ left ++ (right ++ rest) = ap (λ x. x ++ rest) cut ∙ append_assoc left right rest in
    rw whole
    (rw (again g good_g a left (right ++ rest) dg middle)
    (rw (again h good_h b right rest dh stops.0)
    (rw is refl)))
again (either g h) ok v front rest (inl d) stop =
    let good_g = and_left (fine g) (fine h && (not (null g) && apart (first g) (first h))) ok in
    let more = and_right (fine g) (fine h && (not (null g) && apart (first g) (first h))) ok in
    let last = and_right (fine h) (not (null g) && apart (first g) (first h)) more in
    let some = not_true (null g) (and_left (not (null g)) (apart (first g) (first h)) last) in
    let stops = starts_neither (next g) (next h ++ where_null (null h) (first g)) rest stop in
    rw (begins g v front rest some d) (again g good_g v front rest d stops.0)
again (either g h) ok v front rest (inr d) stop =
    let more = and_right (fine g) (fine h && (not (null g) && apart (first g) (first h))) ok in
    let good_h = and_left (fine h) (not (null g) && apart (first g) (first h)) more in
    let last = and_right (fine h) (not (null g) && apart (first g) (first h)) more in
    let split = and_right (not (null g)) (apart (first g) (first h)) last in
    let stops = starts_neither (next g) (next h ++ where_null (null h) (first g)) rest stop in
    let others = starts_neither (next h) (where_null (null h) (first g)) rest stops.1 in
    rw (stops_before (first g) h v front rest split d others.1) (again h good_h v front rest d others.0)
again (many g) ok v front rest d stop =
    let good = and_left (fine g) (not (null g) && apart (next g) (first g)) ok in
    let more = and_right (fine g) (not (null g) && apart (next g) (first g)) ok in
    let some = not_true (null g) (and_left (not (null g)) (apart (next g) (first g)) more) in
    let split = and_right (not (null g)) (apart (next g) (first g)) more in
    let stops = starts_neither (next g) (first g) rest stop in
    again_row g some split (λ w us vs. again g good w us vs) (length (front ++ rest)) v front rest (omega arith) d stops.0 stops.1
again (nest o c) ok v front rest (t, us, cut, s, k) stop =
    let last = and_right (is_spellable (mark o)) (is_spellable (mark c) && is_closing (mark_shape c)) ok in
    let closing = and_right (is_spellable (mark c)) (is_closing (mark_shape c)) last in
    rw cut (rw s (rw (same_sort-refl (mark o)) (scan_again c us rest (closing_is c closing) k)))
again (loop s g h) ok v front rest d stop =
    let k = looped s g h ok in
    let stops = starts_neither (first s) (next g ++ next h) rest stop in
    let parts = starts_neither (next g) (next h) rest stops.1 in
    again_loop s g h k (λ w us vs. again s k.good_s w us vs) (λ w us vs. again g k.good_g w us vs) (λ w us vs. again h k.good_h w us vs) v front rest d stops.0 parts.0 parts.1
