-- Numbers that are known are of their width, and literals that lead into structs are known.
use Rattle.std.proofs.Common.{◌≡◌, ℕ, ◌+◌, ◌-◌, ◌%◌, ◌^◌, Bool, true, false, List, [], ◌∷◌, map, Option, Some, None, Ok, refl, ap, ◌∙◌, arith, if◌then◌else◌}
use Rattle.std.specs.Prelude.{ℤ, pos, negsuc, nat_lt}
use Rattle.std.proofs.lemmas.Nat.{pow_pos}
use Rattle.std.proofs.lemmas.Bool.{ltb-true}
use Rattle.rd_num.specs.declared.width.Width.TheVariants.{W1, W8, W16, W32, W64}
use Rattle.rd_num.specs.Number.{bits}
use Rattle.ir_core.specs.declared.kind.Kind.{Kind}
use Rattle.ir_core.specs.declared.kind.Kind.TheVariants.{NoValue, Number, Pointer}
use Rattle.ir_core.specs.declared.operand.Operand.{Operand}
use Rattle.ir_core.specs.declared.operand.Operand.TheVariants.{Int, Bool as Truth, Null as NullWord, Undef, Poison, Local as LocalName, Global, Const}
use Rattle.ir_core.specs.declared.instruction.Arg.{Arg}
use Rattle.ir_core.specs.declared.module.Module.{Module}
use Rattle.ir_core.specs.declared.memory.Value.TheVariants.{Num}
use Rattle.ir_core.specs.Stops.{Answer}
use Rattle.ir_core.specs.Kinds.{kind_of, signed_word, truth, zero_of}
use Rattle.ir_core.specs.Operands.{int_value, global_number, function_number, named_value}
use Rattle.ir_core.specs.Typing.{literal_field, known_operand, known_arg}
use Rattle.ir_core.proofs.Fits.{literal_fits}
use Rattle.ir_context.specs.Registers.{number_of}
use Rattle.ir_context.specs.declared.origin.Origin.{Origin}
use Rattle.ir_context.specs.declared.origin.Origin.TheVariants.{Known}
use Rattle.ir_context.specs.declared.path.Path.{Path}
use Rattle.ir_context.specs.declared.path.Stride.{Stride}
use Rattle.ir_context.specs.Paths.{path_of}
use Rattle.ir_context.specs.Origins.{known, register_of, place_in, place_of, index_origin, origin_of, arg_origin}
use Rattle.ir_context.specs.Reads.{IsWide, AreWide}
use Rattle.ir_context.proofs.LeadLaws.{IsNumber, KnownAs}

-- a literal
pub wide_int : (kind : Kind) (n : ℤ) → IsWide (known (int_value kind n))
wide_int NoValue n = tt
wide_int (Number w) n = literal_fits w n
wide_int Pointer n = tt

-- zeros
wide_zero : (kind : Kind) → IsWide (known (zero_of kind))
wide_zero NoValue = tt
wide_zero (Number w) = pow_pos (bits w)
wide_zero Pointer = tt

-- a truth value
wide_truth : (b : Bool) → IsWide (Known (truth b))
wide_truth true = omega arith
wide_truth false = omega arith

-- a local
wide_register : (o : Option ℕ) → IsWide (register_of o)
wide_register (Some k) = tt
wide_register None = tt

-- a global or a function
wide_named : (g f : Option ℕ) → IsWide (known (named_value g f))
wide_named (Some g) f = tt
wide_named None (Some f) = tt
wide_named None None = tt

-- a place
wide_place_in : (g by : ℕ) (strides : List Stride) → IsWide (place_in g by strides)
wide_place_in g by [] = tt
wide_place_in g by (s ∷ ss) = tt

wide_place : (g : Option ℕ) (p : Option Path) → IsWide (place_of g p)
wide_place (Some g) (Some p) = wide_place_in g p.constant p.strides
wide_place (Some g) None = tt
wide_place None p = tt

-- any operand
pub wide_origin : (m : Module) (names : List (List ℕ)) (kind : Kind) (a : Operand) → IsWide (origin_of m names kind a)
wide_origin m names kind (Int n) = wide_int kind n
wide_origin m names kind (Truth b) = wide_truth b
wide_origin m names kind NullWord = tt
wide_origin m names kind Undef = wide_zero kind
wide_origin m names kind Poison = wide_zero kind
wide_origin m names kind (LocalName name) = wide_register (number_of names name)
wide_origin m names kind (Global name) = wide_named (global_number m name) (function_number m name)
wide_origin m names kind (Const place) = wide_place (global_number m place.base) (path_of m.types place.source (map index_origin place.indices))

-- indices
pub wide_args : (m : Module) (names : List (List ℕ)) (args : List Arg) → AreWide (map (arg_origin m names) args)
wide_args m names [] = tt
wide_args m names (a ∷ as') = (wide_origin m names (kind_of a.ty) a.value, wide_args m names as')

-- a literal of 32 bits that isn't below zero as a signed number
number_known : (n : ℕ) → nat_lt n (2 ^ 31) ≡ true → IsNumber n (known (int_value (Number W32) (pos n)))
number_known n e =
    let below = ltb-true n (2 ^ 31) e in
    let low : n % 2 ^ 32 ≡ n = omega arith in
    record {
      value = Num W32 (n % 2 ^ 32);
      known = refl;
      word = ap (λ k. let a : Answer ℕ = Ok (signed_word W32 k) in a) low ∙ ap (λ b. let a : Answer ℕ = Ok (if b then n else (n + (2 ^ 64 - 2 ^ 32))) in a) e;
      low = omega arith;
    }

-- what is known of a literal
pub literal_known : (ks : List (Option ℕ)) (os : List Origin) (kind : Kind) (n : ℤ) → KnownAs ks os → KnownAs (literal_field kind n ∷ ks) (known (int_value kind n) ∷ os)
literal_known ks os NoValue n rest = rest
literal_known ks os Pointer n rest = rest
literal_known ks os (Number W1) n rest = rest
literal_known ks os (Number W8) n rest = rest
literal_known ks os (Number W16) n rest = rest
literal_known ks os (Number W64) n rest = rest
literal_known ks os (Number W32) (negsuc n) rest = rest
literal_known ks os (Number W32) (pos n) rest = by (nat_lt n (2 ^ 31)) refl
  where
    by : (b : Bool) → nat_lt n (2 ^ 31) ≡ b → KnownAs ((if b then Some n else None) ∷ ks) (known (int_value (Number W32) (pos n)) ∷ os)
    by true e = (number_known n e, rest)
    by false e = rest

-- what is known of an operand
operand_known : (m : Module) (names : List (List ℕ)) (ks : List (Option ℕ)) (os : List Origin) (kind : Kind) (a : Operand) → KnownAs ks os → KnownAs (known_operand kind a ∷ ks) (origin_of m names kind a ∷ os)
operand_known m names ks os kind (Int n) rest = literal_known ks os kind n rest
operand_known m names ks os kind other rest = rest

-- of indices
pub args_known : (m : Module) (names : List (List ℕ)) (args : List Arg) → KnownAs (map known_arg args) (map (arg_origin m names) args)
args_known m names [] = tt
args_known m names (a ∷ as') = operand_known m names (map known_arg as') (map (arg_origin m names) as') (kind_of a.ty) a.value (args_known m names as')
