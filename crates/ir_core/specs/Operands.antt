-- What operands are in a call.
use Rattle.std.specs.Prelude.{ℕ, ◌+◌, ◌*◌, ◌%◌, ◌^◌, List, [], ◌∷◌, Option, Some, None, Ok, Err, ℤ, option_map}
use Rattle.ir_core.specs.declared.ty.Ty.{Ty}
use Rattle.ir_core.specs.declared.operand.Operand.{Operand}
use Rattle.ir_core.specs.declared.operand.Operand.TheVariants.{Int, Bool as Truth, Null as NullWord, Undef, Poison, Local as LocalName, Global, Const}
use Rattle.ir_core.specs.declared.operand.Place0.{Place0}
use Rattle.ir_core.specs.declared.operand.Index0.{Index0}
use Rattle.ir_core.specs.declared.instruction.Arg.{Arg}
use Rattle.ir_core.specs.declared.module.Module.{Module}
use Rattle.ir_core.specs.declared.memory.Value.{Value}
use Rattle.ir_core.specs.declared.memory.Value.TheVariants.{Num, Null, At, Fun}
use Rattle.ir_core.specs.declared.memory.Reason.TheVariants.{Unset}
use Rattle.ir_core.specs.Names.{same_name, number_where, first_where}
use Rattle.ir_core.specs.Stops.{Left, Answer, and_then, found_or, Malformed}
use Rattle.ir_core.specs.Kinds.{Kind, NoValue, Number, Pointer, kind_of, literal, signed_word, truth, zero_of}
use Rattle.ir_core.specs.Shapes.{shape_of}
use Rattle.ir_core.specs.State.{Local}

-- a local that was given no value yet stops the run
abbrev pub local_value : List Local → List ℕ → Answer Value
local_value locals name = found_or (Left Unset) (option_map (λ (l : Local). l.value) (first_where (λ (l : Local). same_name l.name name) locals))

-- the number of a global
abbrev pub global_number : Module → List ℕ → Option ℕ
global_number m name = number_where (λ g. same_name g.name name) m.globals

-- the number of a function
abbrev pub function_number : Module → List ℕ → Option ℕ
function_number m name = number_where (λ f. same_name f.name name) m.functions

-- the start of a global, or a function
abbrev pub named_value : Option ℕ → Option ℕ → Answer Value
named_value (Some g) function = Ok (At g 0)
named_value None (Some f) = Ok (Fun f)
named_value None None = Err Malformed

-- a literal as a number of a kind
abbrev pub int_value : Kind → ℤ → Answer Value
int_value (Number w) n = Ok (Num w (literal w n))
int_value Pointer n = Err Malformed
int_value NoValue n = Err Malformed

-- an index as a number of bytes or elements modulo 2^64, below zero too
abbrev pub index_word : Value → Answer ℕ
index_word (Num w n) = Ok (signed_word w n)
index_word v = Err Malformed

-- how many bytes a row of indices leads from a pointer to a type: the first counts whole ones of it, the others go into it
abbrev pub bytes_to : Module → Ty → List ℕ → Answer ℕ
bytes_to m source [] = Ok 0
bytes_to m source (i ∷ is) = found_or Malformed (option_map (λ at. i * (shape_of m.types source).size + at) ((shape_of m.types source).part is))

-- the indices of a constant place
abbrev pub literal_indices : List Index0 → Answer (List ℕ)
literal_indices [] = Ok []
literal_indices (i ∷ is) = and_then (int_value (kind_of i.ty) i.value) (λ v. and_then (index_word v) (λ n. and_then (literal_indices is) (λ ns. Ok (n ∷ ns))))

-- a place in a global that is known before the run
abbrev pub constant_place : Module → Place0 → Answer Value
constant_place m p =
    and_then (found_or Malformed (global_number m p.base)) (λ g.
    and_then (literal_indices p.indices) (λ is. and_then (bytes_to m p.source is) (λ by. Ok (At g (by % 2 ^ 64)))))

-- the value of an operand of a kind; undef and poison are zeros
abbrev pub value_of : Module → List Local → Kind → Operand → Answer Value
value_of m locals kind (Int n) = int_value kind n
value_of m locals kind (Truth b) = Ok (truth b)
value_of m locals kind NullWord = Ok Null
value_of m locals kind Undef = zero_of kind
value_of m locals kind Poison = zero_of kind
value_of m locals kind (LocalName name) = local_value locals name
value_of m locals kind (Global name) = named_value (global_number m name) (function_number m name)
value_of m locals kind (Const place) = constant_place m place

-- arguments and indices, the first one read first
abbrev pub values_of : Module → List Local → List Arg → Answer (List Value)
values_of m locals [] = Ok []
values_of m locals (arg ∷ args) = and_then (value_of m locals (kind_of arg.ty) arg.value) (λ v. and_then (values_of m locals args) (λ vs. Ok (v ∷ vs)))

-- indices that were read
abbrev pub index_words : List Value → Answer (List ℕ)
index_words [] = Ok []
index_words (v ∷ vs) = and_then (index_word v) (λ n. and_then (index_words vs) (λ ns. Ok (n ∷ ns)))
