-- Bytes of strides modulo 2^64.
use Rattle.std.proofs.Common.{◌≡◌, ◌<◌, ◌≤◌, length, drop, get_or, ℕ, zero, suc, ◌+◌, ◌*◌, ◌%◌, ◌^◌, List, [], ◌∷◌, Option, Ok, Err, true, refl, ap, sym, ◌∙◌, arith}
use Rattle.std.specs.Prelude.{is_ok}
use Rattle.std.proofs.lemmas.Nat.{mul-mod_first}
use Rattle.std.proofs.lemmas.List.{drop_all}
use Rattle.ir_core.proofs.LoopLaws.{drop_item}
use Rattle.ir_core.specs.declared.memory.Value.{Value}
use Rattle.ir_core.specs.Stops.{Stop, Answer, and_then}
use Rattle.ir_core.specs.Pointers.{moved_pointer}
use Rattle.ir_core.specs.Operands.{index_word}
use Rattle.ir_core.specs.Words.{low_word}
use Rattle.ir_context.specs.declared.origin.Origin.{Origin}
use Rattle.ir_context.specs.declared.path.Path.{Path}
use Rattle.ir_context.specs.declared.path.Stride.{Stride}
use Rattle.ir_context.specs.Reads.{origin_value, stride_values, stride_bytes, moved_along}
use Rattle.ir_run.specs.Strides.{stride_word, stride_total}

-- a product of low words
low_product : (bytes word n size : ℕ) → word ≡ n % 2 ^ 64 → (bytes + (word * size) % 2 ^ 64) % 2 ^ 64 ≡ (bytes + n * size) % 2 ^ 64
low_product bytes word n size is =
    let same : (word * size) % 2 ^ 64 ≡ (n * size) % 2 ^ 64 = ap (λ k. (k * size) % 2 ^ 64) is ∙ mul-mod_first n size (2 ^ 64) in
    ap (λ k. (bytes + k) % 2 ^ 64) same ∙ sums bytes (n * size)
  where
    sums : (a b : ℕ) → (a + b % 2 ^ 64) % 2 ^ 64 ≡ (a + b) % 2 ^ 64
    sums a b = omega arith

-- a stride that was added
pub added : (bytes word size r : ℕ) (a : Answer ℕ) → Ok word ≡ low_word a → r ≡ (bytes + (word * size) % 2 ^ 64) % 2 ^ 64
    → Ok r ≡ and_then (and_then a (λ n. Ok (n * size))) (λ n. Ok ((bytes + n) % 2 ^ 64))
added bytes word size r (Ok n) is sum = let e : word ≡ n % 2 ^ 64 = cc in ap Ok (sum ∙ low_product bytes word n size e)
added bytes word size r (Err stop) is sum = absurd (cc)

-- a word that isn't one
pub not_added : (bytes size : ℕ) (stop : Stop) (a : Answer ℕ) → Err stop ≡ low_word a → Err stop ≡ and_then (and_then a (λ n. Ok (n * size))) (λ n. Ok ((bytes + n) % 2 ^ 64))
not_added bytes size stop (Ok n) is = absurd (cc)
not_added bytes size stop (Err t) is = let same : stop ≡ t = cc in ap Err same

-- a sum of bytes, and what the rest adds to it
abbrev pub sum_from : ℕ → Answer ℕ → Answer ℕ
sum_from bytes a = and_then a (λ n. Ok ((bytes + n) % 2 ^ 64))

-- one stride more is in the sum
pub one_more_stride : (registers : List (Option Value)) (s : Stride) (ss : List Stride) (bytes more : ℕ) → Ok more ≡ sum_from bytes (stride_word registers s)
    → sum_from more (stride_total registers ss) ≡ sum_from bytes (stride_total registers (s ∷ ss))
one_more_stride registers s ss bytes more is = by (stride_word registers s) (stride_total registers ss) is
  where
    by : (a b : Answer ℕ) → Ok more ≡ sum_from bytes a → sum_from more b ≡ sum_from bytes (and_then a (λ n. and_then b (λ k. Ok (n + k))))
    by (Ok n) (Ok k) is = let e : more ≡ (bytes + n) % 2 ^ 64 = cc in ap Ok (ap (λ j. (j + k) % 2 ^ 64) e ∙ sums n k)
      where
        sums : (n k : ℕ) → ((bytes + n) % 2 ^ 64 + k) % 2 ^ 64 ≡ (bytes + (n + k)) % 2 ^ 64
        sums n k = omega arith
    by (Ok n) (Err stop) is = refl
    by (Err stop) b is = absurd (cc)

-- a stride that stops
pub stride_stops : (registers : List (Option Value)) (s : Stride) (ss : List Stride) (bytes : ℕ) (stop : Stop) → Err stop ≡ sum_from bytes (stride_word registers s)
    → Err stop ≡ sum_from bytes (stride_total registers (s ∷ ss))
stride_stops registers s ss bytes stop is = by (stride_word registers s) (stride_total registers ss) is
  where
    by : (a b : Answer ℕ) → Err stop ≡ sum_from bytes a → Err stop ≡ sum_from bytes (and_then a (λ n. and_then b (λ k. Ok (n + k))))
    by (Ok n) b is = absurd (cc)
    by (Err t) b is = is

-- the same of the stride of a number
module _ (registers : List (Option Value)) (strides : List Stride) (i : ℕ) (s : Stride) (bytes : ℕ) (inside : i < length strides) (item : s ≡ get_or strides i s) where
  pub stride_stops_at : (stop : Stop) → Err stop ≡ and_then (stride_word registers s) (λ n. Ok ((bytes + n) % 2 ^ 64))
      → Err stop ≡ and_then (stride_total registers (drop i strides)) (λ n. Ok ((bytes + n) % 2 ^ 64))
  stride_stops_at stop is =
      stride_stops registers s (drop (i + 1) strides) bytes stop is ∙ ap (λ ss. sum_from bytes (stride_total registers ss)) (sym (drop_item strides i s inside item))

  pub more_strides_at : (more : ℕ) → Ok more ≡ and_then (stride_word registers s) (λ n. Ok ((bytes + n) % 2 ^ 64))
      → and_then (stride_total registers (drop (i + 1) strides)) (λ n. Ok ((more + n) % 2 ^ 64)) ≡ and_then (stride_total registers (drop i strides)) (λ n. Ok ((bytes + n) % 2 ^ 64))
  more_strides_at more is =
      one_more_stride registers s (drop (i + 1) strides) bytes more is ∙ ap (λ ss. sum_from bytes (stride_total registers ss)) (sym (drop_item strides i s inside item))

-- an item that is there is the same whatever stands for one that isn't
any_default : (xs : List Stride) (i : ℕ) (d e : Stride) → i < length xs → get_or xs i d ≡ get_or xs i e
any_default [] i d e within = absurd (omega arith)
any_default (x ∷ xs) zero d e within = refl
any_default (x ∷ xs) (suc i) d e within = any_default xs i d e (omega arith)

-- a stride that stops, among items that are those of a path
pub stride_stops_in : (registers : List (Option Value)) (strides items : List Stride) (i bytes : ℕ) (d : Stride) (stop : Stop) → items ≡ strides → i < length items
    → Err stop ≡ and_then (stride_word registers (get_or items i d)) (λ n. Ok ((bytes + n) % 2 ^ 64))
    → Err stop ≡ and_then (stride_total registers (drop i strides)) (λ n. Ok ((bytes + n) % 2 ^ 64))
stride_stops_in registers strides items i bytes d stop same inside is =
    stride_stops_at registers items i (get_or items i d) bytes inside (any_default items i d (get_or items i d) inside) stop is
    ∙ ap (λ ss. sum_from bytes (stride_total registers (drop i ss))) same

-- no stride is left
pub no_more_strides : (registers : List (Option Value)) (strides : List Stride) (i bytes : ℕ) → length strides ≤ i → bytes < 2 ^ 64 → Ok bytes ≡ sum_from bytes (stride_total registers (drop i strides))
no_more_strides registers strides i bytes past small =
    let same : bytes ≡ (bytes + 0) % 2 ^ 64 = omega arith in
    ap Ok same ∙ ap (λ ss. sum_from bytes (stride_total registers ss)) (sym (drop_all i strides past))

-- where all indices have values, their bytes are those of the values
pub total_of_values : (registers : List (Option Value)) (ss : List Stride) → is_ok (stride_values registers ss) ≡ true
    → stride_total registers ss ≡ and_then (stride_values registers ss) (stride_bytes ss)
total_of_values registers [] read = refl
total_of_values registers (s ∷ ss) read = by (origin_value registers s.index) (stride_values registers ss) (total_of_values registers ss) read
  where
    by : (a : Answer Value) (b : Answer (List Value)) → (is_ok b ≡ true → stride_total registers ss ≡ and_then b (stride_bytes ss))
        → is_ok (and_then a (λ v. and_then b (λ vs. Ok (v ∷ vs)))) ≡ true
        → and_then (and_then a (λ v. and_then (index_word v) (λ n. Ok (n * s.size)))) (λ n. and_then (stride_total registers ss) (λ k. Ok (n + k)))
        ≡ and_then (and_then a (λ v. and_then b (λ vs. Ok (v ∷ vs)))) (stride_bytes (s ∷ ss))
    by (Ok v) (Ok vs) go read = word (index_word v) (stride_total registers ss) (go refl)
      where
        word : (w t : Answer ℕ) → t ≡ stride_bytes ss vs → and_then (and_then w (λ n. Ok (n * s.size))) (λ n. and_then t (λ k. Ok (n + k))) ≡ and_then w (λ n. and_then (stride_bytes ss vs) (λ k. Ok (n * s.size + k)))
        word (Ok n) t e = ap (λ u. and_then u (λ k. Ok (n * s.size + k))) e
        word (Err stop) t e = refl
    by (Ok v) (Err stop) go read = absurd (cc)
    by (Err stop) b go read = absurd (cc)

-- a pointer that moves along a path, whose base and indices have values
pub moves_along : (registers : List (Option Value)) (base : Origin) (path : Path) (v : Value) (r : Answer Value) (bytes : ℕ)
    → Ok v ≡ origin_value registers base → is_ok (stride_values registers path.strides) ≡ true → Ok bytes ≡ sum_from path.constant (stride_total registers path.strides)
    → ((n : ℕ) → n % 2 ^ 64 ≡ bytes → r ≡ moved_pointer n v) → r ≡ moved_along registers base path
moves_along registers base path v r bytes based read sum moved = by (stride_values registers path.strides) (stride_total registers path.strides) (total_of_values registers path.strides read) read sum
    ∙ ap (λ a. and_then a (λ x. and_then (stride_values registers path.strides) (λ vs. and_then (stride_bytes path.strides vs) (λ n. moved_pointer (path.constant + n) x)))) based
  where
    by : (a : Answer (List Value)) (t : Answer ℕ) → t ≡ and_then a (stride_bytes path.strides) → is_ok a ≡ true → Ok bytes ≡ sum_from path.constant t
        → r ≡ and_then a (λ vs. and_then (stride_bytes path.strides vs) (λ n. moved_pointer (path.constant + n) v))
    by (Ok vs) t e read sum = go (stride_bytes path.strides vs) (sum ∙ ap (sum_from path.constant) e)
      where
        go : (b : Answer ℕ) → Ok bytes ≡ sum_from path.constant b → r ≡ and_then b (λ n. moved_pointer (path.constant + n) v)
        go (Ok n) sum = let is : (path.constant + n) % 2 ^ 64 ≡ bytes = cc in moved (path.constant + n) is
        go (Err stop) sum = absurd (cc)
    by (Err stop) t e read sum = absurd (cc)

-- one whose indices stop
pub stops_along : (registers : List (Option Value)) (base : Origin) (path : Path) (v : Value) (stop : Stop) → Ok v ≡ origin_value registers base
    → Err stop ≡ stride_values registers path.strides → Err stop ≡ moved_along registers base path
stops_along registers base path v stop based stops =
    ap (λ a. and_then a (λ vs. and_then (stride_bytes path.strides vs) (λ n. moved_pointer (path.constant + n) v))) stops
    ∙ ap (λ a. and_then a (λ x. and_then (stride_values registers path.strides) (λ vs. and_then (stride_bytes path.strides vs) (λ n. moved_pointer (path.constant + n) x)))) based

-- or whose bytes do
pub sum_stops_along : (registers : List (Option Value)) (base : Origin) (path : Path) (v : Value) (stop : Stop) → Ok v ≡ origin_value registers base
    → is_ok (stride_values registers path.strides) ≡ true → Err stop ≡ sum_from path.constant (stride_total registers path.strides) → Err stop ≡ moved_along registers base path
sum_stops_along registers base path v stop based read sum = by (stride_values registers path.strides) (stride_total registers path.strides) (total_of_values registers path.strides read) read sum
    ∙ ap (λ a. and_then a (λ x. and_then (stride_values registers path.strides) (λ vs. and_then (stride_bytes path.strides vs) (λ n. moved_pointer (path.constant + n) x)))) based
  where
    by : (a : Answer (List Value)) (t : Answer ℕ) → t ≡ and_then a (stride_bytes path.strides) → is_ok a ≡ true → Err stop ≡ sum_from path.constant t
        → Err stop ≡ and_then a (λ vs. and_then (stride_bytes path.strides vs) (λ n. moved_pointer (path.constant + n) v))
    by (Ok vs) t e read sum = go (stride_bytes path.strides vs) (sum ∙ ap (sum_from path.constant) e)
      where
        go : (b : Answer ℕ) → Err stop ≡ sum_from path.constant b → Err stop ≡ and_then b (λ n. moved_pointer (path.constant + n) v)
        go (Ok n) sum = absurd (cc)
        go (Err t) sum = let same : stop ≡ t = cc in ap Err same
    by (Err t) u e read sum = absurd (cc)
