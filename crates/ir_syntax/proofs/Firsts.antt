-- What classes begin with.
use Rattle.std.proofs.Common.{◌≡◌, [], ◌∷◌, ◌++◌, refl}
use Rattle.ir_grammar.specs.Tokens.{mark}
use Rattle.ir_grammar.specs.Reading.{first}
use Rattle.ir_syntax.specs.Types.{simple_type, array_type, plain_struct, packed_struct, struct_type, type_at, ty}

pub first_type : first ty ≡ first simple_type ++ mark 91 ∷ mark 123 ∷ mark 60 ∷ []
unfolding ty type_at simple_type array_type struct_type plain_struct packed_struct
first_type = refl
