-- A page that is cut from bytes in one piece.
use Rattle.std.proofs.Common.{◌≡◌, ℕ, ◌+◌, ◌-◌, min, List, length, take, drop, ap, ◌∙◌, arith, length-drop}
use Rattle.std.proofs.lemmas.List.{take_min}

-- the rest of bytes, as far as a page goes
pub cut_page : (bytes : List ℕ) (from count : ℕ) → count ≡ min (length bytes - from) 4096 → take (from + count - from) (drop from bytes) ≡ take 4096 (drop from bytes)
cut_page bytes from count h =
    let e : from + count - from ≡ min 4096 (length (drop from bytes)) = omega (arith, length-drop from bytes) in
    ap (λ n. take n (drop from bytes)) e ∙ take_min 4096 (drop from bytes)
