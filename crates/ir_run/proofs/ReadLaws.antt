-- Values that are read one behind another.
use Rattle.std.proofs.Common.{◌≡◌, ◌<◌, ℕ, ◌+◌, List, [], ◌∷◌, ◌++◌, Option, Ok, Err, true, length, drop, get_or, refl, ap, sym, ◌∙◌, append_assoc}
use Rattle.std.specs.Prelude.{is_ok}
use Rattle.std.proofs.lemmas.List.{append-nil}
use Rattle.ir_core.specs.declared.memory.Value.{Value}
use Rattle.ir_core.specs.Stops.{Stop, Answer, and_then}
use Rattle.ir_core.proofs.LoopLaws.{drop_item}
use Rattle.ir_program.specs.declared.action.Argument.{Argument}
use Rattle.ir_program.specs.declared.exit.Move.{Move}
use Rattle.ir_context.specs.declared.path.Stride.{Stride}
use Rattle.ir_context.specs.Reads.{origin_value, stride_values}
use Rattle.ir_program.specs.Reads.{argument_values}
use Rattle.ir_run.specs.Turns.{move_values}

-- values behind those that were read
abbrev pub behind : List Value → Answer (List Value) → Answer (List Value)
behind before a = and_then a (λ vs. Ok (before ++ vs))

-- one more value in front of the rest
abbrev pub in_front : Answer Value → Answer (List Value) → Answer (List Value)
in_front a rest = and_then a (λ v. and_then rest (λ vs. Ok (v ∷ vs)))

-- nothing was read yet
pub behind_nothing : (a : Answer (List Value)) → behind [] a ≡ a
behind_nothing (Ok vs) = refl
behind_nothing (Err stop) = refl

-- all was read
pub behind_all : (before : List Value) → behind before (Ok []) ≡ Ok before
behind_all before = ap Ok (append-nil before)

one_more : (before : List Value) (v : Value) (a : Answer Value) (rest : Answer (List Value)) → Ok v ≡ a → behind (before ++ v ∷ []) rest ≡ behind before (in_front a rest)
one_more before v a (Ok vs) is = ap Ok (append_assoc before (v ∷ []) vs) ∙ ap (λ b. behind before (in_front b (Ok vs))) is
one_more before v a (Err stop) is = ap (λ b. behind before (in_front b (Err stop))) is

one_stops : (before : List Value) (stop : Stop) (a : Answer Value) (rest : Answer (List Value)) → Err stop ≡ a → Err stop ≡ behind before (in_front a rest)
one_stops before stop a rest is = ap (λ b. behind before (in_front b rest)) is

module _ (registers : List (Option Value)) (arguments : List Argument) (i : ℕ) (a : Argument) (before : List Value) (inside : i < length arguments) (item : a ≡ get_or arguments i a) where
  pub more_arguments : (v : Value) → Ok v ≡ origin_value registers a.origin
      → behind (before ++ v ∷ []) (argument_values registers (drop (i + 1) arguments)) ≡ behind before (argument_values registers (drop i arguments))
  more_arguments v is = one_more before v (origin_value registers a.origin) (argument_values registers (drop (i + 1) arguments)) is
      ∙ ap (λ as'. behind before (argument_values registers as')) (sym (drop_item arguments i a inside item))

  pub argument_stops : (stop : Stop) → Err stop ≡ origin_value registers a.origin → Err stop ≡ behind before (argument_values registers (drop i arguments))
  argument_stops stop is = one_stops before stop (origin_value registers a.origin) (argument_values registers (drop (i + 1) arguments)) is
      ∙ ap (λ as'. behind before (argument_values registers as')) (sym (drop_item arguments i a inside item))

module _ (registers : List (Option Value)) (moves : List Move) (i : ℕ) (a : Move) (before : List Value) (inside : i < length moves) (item : a ≡ get_or moves i a) where
  pub more_moves : (v : Value) → Ok v ≡ origin_value registers a.origin
      → behind (before ++ v ∷ []) (move_values registers (drop (i + 1) moves)) ≡ behind before (move_values registers (drop i moves))
  more_moves v is = one_more before v (origin_value registers a.origin) (move_values registers (drop (i + 1) moves)) is
      ∙ ap (λ ms. behind before (move_values registers ms)) (sym (drop_item moves i a inside item))

  pub move_stops : (stop : Stop) → Err stop ≡ origin_value registers a.origin → Err stop ≡ behind before (move_values registers (drop i moves))
  move_stops stop is = one_stops before stop (origin_value registers a.origin) (move_values registers (drop (i + 1) moves)) is
      ∙ ap (λ ms. behind before (move_values registers ms)) (sym (drop_item moves i a inside item))

-- whether values were read
abbrev pub told_by : Answer (List Value) → Answer (Unit {0})
told_by (Ok vs) = Ok tt
told_by (Err stop) = Err stop

-- one that was read leaves what the rest tells
told_more : (v : Value) (a : Answer Value) (rest : Answer (List Value)) → Ok v ≡ a → told_by rest ≡ told_by (in_front a rest)
told_more v a (Ok vs) is = ap (λ b. told_by (in_front b (Ok vs))) is
told_more v a (Err stop) is = ap (λ b. told_by (in_front b (Err stop))) is

told_stops : (stop : Stop) (a : Answer Value) (rest : Answer (List Value)) → Err stop ≡ a → Err stop ≡ told_by (in_front a rest)
told_stops stop a rest is = ap (λ b. told_by (in_front b rest)) is

module _ (registers : List (Option Value)) (strides : List Stride) (i : ℕ) (s : Stride) (inside : i < length strides) (item : s ≡ get_or strides i s) where
  pub more_indices : (v : Value) → Ok v ≡ origin_value registers s.index → told_by (stride_values registers (drop (i + 1) strides)) ≡ told_by (stride_values registers (drop i strides))
  more_indices v is = told_more v (origin_value registers s.index) (stride_values registers (drop (i + 1) strides)) is
      ∙ ap (λ ss. told_by (stride_values registers ss)) (sym (drop_item strides i s inside item))

  pub index_stops : (stop : Stop) → Err stop ≡ origin_value registers s.index → Err stop ≡ told_by (stride_values registers (drop i strides))
  index_stops stop is = told_stops stop (origin_value registers s.index) (stride_values registers (drop (i + 1) strides)) is
      ∙ ap (λ ss. told_by (stride_values registers ss)) (sym (drop_item strides i s inside item))

-- what was told is what is
pub were_read : (a : Answer (List Value)) → Ok tt ≡ told_by a → is_ok a ≡ true
were_read (Ok vs) e = refl
were_read (Err stop) e = absurd (cc)

pub were_stopped : (stop : Stop) (a : Answer (List Value)) → Err stop ≡ told_by a → Err stop ≡ a
were_stopped stop (Ok vs) e = absurd (cc)
were_stopped stop (Err t) e = let same : stop ≡ t = cc in ap Err same
