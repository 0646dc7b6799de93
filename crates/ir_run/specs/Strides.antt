-- Bytes of strides, each index read where it stands.
use Rattle.std.specs.Prelude.{◌≡◌, ℕ, ◌+◌, ◌*◌, List, [], ◌∷◌, Option, Result, Ok, Err, is_ok, true}
use Rattle.ir_core.specs.declared.memory.Value.{Value}
use Rattle.ir_core.specs.Stops.{Answer, and_then}
use Rattle.ir_core.specs.Operands.{index_word}
use Rattle.ir_core.specs.declared.stop.Stop.{Stop}
use Rattle.ir_core.specs.Answers.{stop_of}
use Rattle.ir_context.specs.declared.path.Stride.{Stride}
use Rattle.ir_context.specs.Reads.{origin_value, stride_values}

-- bytes of one stride
abbrev pub stride_word : List (Option Value) → Stride → Answer ℕ
stride_word registers s = and_then (origin_value registers s.index) (λ v. and_then (index_word v) (λ n. Ok (n * s.size)))

-- bytes of many
abbrev pub stride_total : List (Option Value) → List Stride → Answer ℕ
stride_total registers [] = Ok 0
stride_total registers (s ∷ ss) = and_then (stride_word registers s) (λ n. and_then (stride_total registers ss) (λ by. Ok (n + by)))

-- whether all indices have values
abbrev pub AreRead : {T : Type 0} → List (Option Value) → List Stride → Result T Stop → Type 0
AreRead registers strides (Ok t) = is_ok (stride_values registers strides) ≡ true
AreRead registers strides (Err stop) = Err (stop_of stop) ≡ stride_values registers strides
