-- Worked words and orders, so that a wrong key, place or exchange in the definitions doesn't check.
use Rattle.std.proofs.Common.{◌≡◌, [], ◌∷◌, refl}
use Rattle.rand_core.specs.Steps.{u32_at}
use Rattle.rand_chacha.specs.Block.{quarter_round, column_round, diagonal_round, double_rounds, block_word}
use Rattle.rd_draw.specs.Draw.{stream_key, stream_word, keystream_word, shuffled}

-- the first word of the zero key: RFC 8439, appendix A.1, test vector 1
pub first_word : keystream_word 0 0 0 0 ≡ 0xade0b876
unfolding u32_at quarter_round column_round diagonal_round double_rounds block_word stream_key stream_word
first_word = refl

-- seed, purpose and index stand at places of their own, and a second block follows the first
pub later_word : keystream_word 0x0102030405060708 9 10 16 ≡ 0x97a32729
unfolding u32_at quarter_round column_round diagonal_round double_rounds block_word stream_key stream_word
later_word = refl

-- four words order five numbers
pub five_numbers : shuffled (keystream_word 0 0 0) 5 ≡ 2 ∷ 1 ∷ 3 ∷ 0 ∷ 4 ∷ []
unfolding u32_at quarter_round column_round diagonal_round double_rounds block_word stream_key stream_word shuffled
five_numbers = refl
