-- What a sink has got after several calls, for callers that put piece after piece.
use Rattle.std.proofs.Common.{◌≡◌, ◌∙◌, sym, refl, ap, ℕ, ◌+◌, ◌-◌, ◌^◌, ◌≤◌, min, List, [], ◌++◌, Option, Some, None, append_assoc, append-nil, arith}
use Rattle.rd_io.specs.Outside.{Gets, GetsPart, Counts, CountsPart}

-- no call at all
pub gets_nothing : (a : Option (List ℕ)) → Gets a a []
gets_nothing None = refl
gets_nothing (Some xs) = ap Some (sym (append-nil xs))

-- one piece and then another
pub gets_both : (a b c : Option (List ℕ)) (xs ys : List ℕ) → Gets a b xs → Gets b c ys → Gets a c (xs ++ ys)
gets_both None b c xs ys h k = by b h k
  where
    by : (b : Option (List ℕ)) → b ≡ None → Gets b c ys → c ≡ None
    by None e k = k
    by (Some zs) e k = absurd (cc)
gets_both (Some ws) b c xs ys h k = by b h k
  where
    by : (b : Option (List ℕ)) → b ≡ Some (ws ++ xs) → Gets b c ys → c ≡ Some (ws ++ (xs ++ ys))
    by None e k = absurd (cc)
    by (Some zs) e k = let same : zs ≡ ws ++ xs = cc in k ∙ ap (λ w. Some (w ++ ys)) same ∙ ap Some (append_assoc ws xs ys)

-- a whole piece is a part of itself
pub gets_part_whole : (a b : Option (List ℕ)) (xs : List ℕ) → Gets a b xs → GetsPart a b xs
gets_part_whole a b xs h = (xs, (([], append-nil xs), h))

-- whole pieces, and then a part of another
pub gets_part_after : (a b c : Option (List ℕ)) (xs ys : List ℕ) → Gets a b xs → GetsPart b c ys → GetsPart a c (xs ++ ys)
gets_part_after a b c xs ys h k =
    (xs ++ k.0, ((k.1.0.0, append_assoc xs k.0 k.1.0.0 ∙ ap (λ w. xs ++ w) k.1.0.1), gets_both a b c xs k.0 h k.1.1))

-- no call at all
pub counts_nothing : (a : Option ℕ) → Counts a a 0
counts_nothing None = refl
counts_nothing (Some t) = ap Some (let same : t ≡ t + min 0 (2 ^ 64 - 1 - t) = omega arith in same)

-- one piece and then another
pub counts_both : (a b c : Option ℕ) (m n : ℕ) → Counts a b m → Counts b c n → Counts a c (m + n)
counts_both None b c m n h k = by b h k
  where
    by : (b : Option ℕ) → b ≡ None → Counts b c n → c ≡ None
    by None e k = k
    by (Some u) e k = absurd (cc)
counts_both (Some t) b c m n h k = by b h k
  where
    by : (b : Option ℕ) → b ≡ Some (t + min m (2 ^ 64 - 1 - t)) → Counts b c n → c ≡ Some (t + min (m + n) (2 ^ 64 - 1 - t))
    by None e k = absurd (cc)
    by (Some u) e k =
        let same : u ≡ t + min m (2 ^ 64 - 1 - t) = cc in
        let sum : u + min n (2 ^ 64 - 1 - u) ≡ t + min (m + n) (2 ^ 64 - 1 - t) = omega arith in
        k ∙ ap Some sum

-- whole pieces, and then a part of another
pub counts_part_after : (a b c : Option ℕ) (m n : ℕ) → Counts a b m → CountsPart b c n → CountsPart a c (m + n)
counts_part_after a b c m n h k = (m + k.0, ((let within : k.0 ≤ n = k.1.0 in omega arith), counts_both a b c m k.0 h k.1.1))
