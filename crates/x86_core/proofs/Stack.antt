-- The stack's length, without a look at its bytes.
use Rattle.std.proofs.Common.{◌≡◌, ℕ, length}
use Rattle.std.specs.Prelude.{replicate}
use Rattle.std.proofs.lemmas.List.{length-replicate}
use Rattle.x86_core.specs.Data.{stack_bytes}

copies_long : (n k : ℕ) → length (replicate n k) ≡ n
copies_long n k = length-replicate n k

pub stack_long : length stack_bytes ≡ 536875008
unfolding stack_bytes
stack_long = copies_long 536875008 0
