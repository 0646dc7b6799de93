-- The words of a stream, and the order that they give to the numbers below n.
use Rattle.std.specs.Prelude.{ℕ, zero, suc, ◌≡◌, ◌<◌, ◌+◌, ◌-◌, ◌%◌, List, ◌++◌, length, slice_index}
use Rattle.std.specs.List.{swap, range_with_len}
use Rattle.rd_num.specs.Number.{le_bytes}
use Rattle.rand_chacha.specs.ChaCha.{word_at, key_of}

-- the key of a stream as 32 bytes: purpose, index, seed, and zeros
abbrev pub seed_bytes : ℕ → ℕ → ℕ → List ℕ
seed_bytes seed purpose index = le_bytes 4 purpose ++ (le_bytes 4 index ++ (le_bytes 8 seed ++ le_bytes 16 0))

-- the same as eight words
unfoldable pub stream_key : ℕ → ℕ → ℕ → List ℕ
stream_key seed purpose index = key_of (seed_bytes seed purpose index)

-- the word of ChaCha20 at a place of stream 0
unfoldable pub stream_word : List ℕ → ℕ → ℕ
stream_word key place = word_at 10 key 0 place

-- a stream as contracts see it: its key, and the place of the next word
pub record Stream : Type 0 where
  pub key : List ℕ
  pub place : ℕ

-- the word at a place of the stream that seed, purpose and index name
abbrev pub keystream_word : ℕ → ℕ → ℕ → ℕ → ℕ
keystream_word seed purpose index place = stream_word (stream_key seed purpose index) place

-- from place i down to place 1, each exchanged with the place that the next word gives it; `drawn` words were taken before
abbrev pub swapped_down : (ℕ → ℕ) → ℕ → ℕ → List ℕ → List ℕ
swapped_down words zero drawn xs = xs
swapped_down words (suc i) drawn xs = swapped_down words i (drawn + 1) (swap xs (suc i) (words drawn % (suc i + 1)))

-- the numbers below n, shuffled
unfoldable pub shuffled : (ℕ → ℕ) → ℕ → List ℕ
shuffled words n = swapped_down words (n - 1) 0 (range_with_len 0 n)

-- no two places hold the same
abbrev pub AreDistinct : List ℕ → Type 0
AreDistinct xs = (i j : ℕ) → i < length xs → j < length xs → slice_index xs i ≡ slice_index xs j → i ≡ j
