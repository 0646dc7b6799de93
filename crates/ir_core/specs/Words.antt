-- Numbers of which only the lowest 64 bits count.
use Rattle.std.specs.Prelude.{ℕ, ◌%◌, ◌^◌, Ok}
use Rattle.ir_core.specs.Stops.{Answer, and_then}

-- the number modulo 2^64
abbrev pub low_word : Answer ℕ → Answer ℕ
low_word a = and_then a (λ n. Ok (n % 2 ^ 64))
