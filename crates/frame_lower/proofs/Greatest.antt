-- The greatest of rows one behind the other.
use Rattle.std.proofs.Common.{◌≡◌, ℕ, ◌-◌, List, [], ◌∷◌, ◌++◌, map, max, ap, ◌∙◌, arith}
use Rattle.ir_core.specs.Counts.{greatest}
use Rattle.low_core.specs.declared.sel.SelOp.{SelOp}
use Rattle.low_core.specs.SelWeights.{arguments_of}

-- the arguments that operations pass on the stack
abbrev pub passed : List SelOp → List ℕ
passed ops = map (λ (op : SelOp). arguments_of op - 6) ops

pub most_of_both : (xs ys : List SelOp) → greatest (passed (xs ++ ys)) ≡ max (greatest (passed xs)) (greatest (passed ys))
most_of_both [] ys = zero_first (greatest (passed ys))
  where
    zero_first : (n : ℕ) → n ≡ max 0 n
    zero_first n = omega arith
most_of_both (x ∷ xs) ys =
    ap (λ n. max (arguments_of x - 6) n) (most_of_both xs ys) ∙ three (arguments_of x - 6) (greatest (passed xs)) (greatest (passed ys))
  where
    three : (a b c : ℕ) → max a (max b c) ≡ max (max a b) c
    three a b c = omega arith
