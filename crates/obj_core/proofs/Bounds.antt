-- The limits of rule 1, as numbers.
use Rattle.std.proofs.Common.{◌≡◌, refl}
use Rattle.obj_core.specs.WellFormed.{most_functions, most_pieces, most_slots, most_code, most_data}

functions_limit : most_functions ≡ 4112
functions_limit = refl

pieces_limit : most_pieces ≡ 131072
pieces_limit = refl

slots_limit : most_slots ≡ 1048576
slots_limit = refl

code_limit : most_code ≡ 67108864
code_limit = refl

data_limit : most_data ≡ 67108864
data_limit = refl
