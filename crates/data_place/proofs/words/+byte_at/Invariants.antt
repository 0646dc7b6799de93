use Rattle.data_place.proofs.words.+byte_at.Given as goal

-- the bytes below the one that is asked for
abbrev pub decreases-byte_at : goal.decreases-byte_at
decreases-byte_at l = l.k
