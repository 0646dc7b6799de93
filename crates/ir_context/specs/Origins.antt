-- Where the values of operands come from.
use Rattle.std.specs.Prelude.{ℕ, List, [], ◌∷◌, map, Option, Some, None, Ok, Err}
use Rattle.ir_core.specs.declared.operand.Operand.{Operand}
use Rattle.ir_core.specs.declared.operand.Operand.TheVariants.{Int, Bool as Truth, Null as NullWord, Undef, Poison, Local as LocalName, Global, Const}
use Rattle.ir_core.specs.declared.operand.Place0.{Place0}
use Rattle.ir_core.specs.declared.operand.Index0.{Index0}
use Rattle.ir_core.specs.declared.instruction.Arg.{Arg}
use Rattle.ir_core.specs.declared.module.Module.{Module}
use Rattle.ir_core.specs.declared.memory.Value.{Value}
use Rattle.ir_core.specs.declared.memory.Value.TheVariants.{Null, At}
use Rattle.ir_core.specs.Stops.{Answer}
use Rattle.ir_core.specs.declared.kind.Kind.{Kind}
use Rattle.ir_core.specs.Kinds.{kind_of, truth, zero_of}
use Rattle.ir_core.specs.Operands.{global_number, function_number, named_value, int_value}
use Rattle.ir_context.specs.Registers.{number_of}
use Rattle.ir_context.specs.declared.origin.Origin.{Origin}
use Rattle.ir_context.specs.declared.origin.Origin.TheVariants.{Known, Register, Unset, Malformed}
use Rattle.ir_context.specs.declared.path.Path.{Path}
use Rattle.ir_context.specs.declared.path.Stride.{Stride}
use Rattle.ir_context.specs.Paths.{path_of}

-- a value that is known, where there is one
abbrev pub known : Answer Value → Origin
known (Ok v) = Known v
known (Err stop) = Malformed

-- a local by the number of its name; a name without one is that of no local
abbrev pub register_of : Option ℕ → Origin
register_of (Some k) = Register k
register_of None = Unset

-- a literal index
abbrev pub index_origin : Index0 → Origin
index_origin i = known (int_value (kind_of i.ty) i.value)

-- a place in a global, where all of its indices are known
abbrev pub place_in : ℕ → ℕ → List Stride → Origin
place_in g by [] = Known (At g by)
place_in g by (s ∷ ss) = Malformed

-- where there are a global and a path
abbrev pub place_of : Option ℕ → Option Path → Origin
place_of (Some g) (Some p) = place_in g p.constant p.strides
place_of (Some g) None = Malformed
place_of None p = Malformed

-- a constant place
abbrev pub constant_origin : Module → Place0 → Origin
constant_origin m p = place_of (global_number m p.base) (path_of m.types p.source (map index_origin p.indices))

-- an operand of a kind, where locals have these names
abbrev pub origin_of : Module → List (List ℕ) → Kind → Operand → Origin
origin_of m names kind (Int n) = known (int_value kind n)
origin_of m names kind (Truth b) = Known (truth b)
origin_of m names kind NullWord = Known Null
origin_of m names kind Undef = known (zero_of kind)
origin_of m names kind Poison = known (zero_of kind)
origin_of m names kind (LocalName name) = register_of (number_of names name)
origin_of m names kind (Global name) = known (named_value (global_number m name) (function_number m name))
origin_of m names kind (Const place) = constant_origin m place

-- an argument or an index by itself
abbrev pub arg_origin : Module → List (List ℕ) → Arg → Origin
arg_origin m names a = origin_of m names (kind_of a.ty) a.value
