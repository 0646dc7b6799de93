-- What the objects of the outside tell: bytes, where they are told, and counts of faults.
use Rattle.std.specs.Prelude.{ℕ, Bool, List, Option}

-- files tell the content under each name, the name at which the last fault came, empty before the first, and how many calls have failed
pub record FilesTold : Type 0 where
  pub held : List ℕ → Option (List ℕ)
  pub lost : List ℕ
  pub faults : ℕ

-- a source tells the bytes that are left, whether no byte will come any more, as after the first `None`, and how many calls have failed
pub record SourceTold : Type 0 where
  pub left : Option (List ℕ)
  pub ended : Bool
  pub faults : ℕ

-- a sink tells the bytes that were put so far, their number as far as 2^64 - 1, and how many calls have failed
pub record SinkTold : Type 0 where
  pub written : Option (List ℕ)
  pub total : Option ℕ
  pub faults : ℕ
