-- Where operands come from, in a module that is shaped: words, globals that there are, functions to which pointers may arise, and variables.
use Rattle.std.proofs.Common.{◌≡◌, ℕ, ◌+◌, ◌%◌, ◌^◌, ◌<◌, Bool, true, false, List, [], ◌∷◌, length, map, Option, Some, None, slice_get, refl, arith}
use Rattle.std.specs.Prelude.{ℤ}
use Rattle.rd_num.specs.declared.width.Width.{Width}
use Rattle.rd_num.specs.declared.width.Width.TheVariants.{W1, W8, W16, W32, W64}
use Rattle.rd_num.specs.Number.{bits}
use Rattle.ir_core.specs.declared.instruction.Arg.{Arg}
use Rattle.ir_core.specs.declared.kind.Kind.{Kind}
use Rattle.ir_core.specs.declared.kind.Kind.TheVariants.{NoValue, Number, Pointer}
use Rattle.ir_core.specs.declared.memory.Value.{Value}
use Rattle.ir_core.specs.declared.memory.Value.TheVariants.{Num, Null, At, Fun}
use Rattle.ir_core.specs.declared.module.GlobalVar.{GlobalVar}
use Rattle.ir_core.specs.declared.module.Module.{Module}
use Rattle.ir_core.specs.declared.operand.Index0.{Index0}
use Rattle.ir_core.specs.declared.operand.Operand.{Operand}
use Rattle.ir_core.specs.declared.operand.Operand.TheVariants.{Int, Bool as Truth, Null as NullWord, Undef, Poison, Local as LocalName, Global, Const}
use Rattle.ir_core.specs.declared.ty.Ty.{Ty}
use Rattle.ir_core.specs.Kinds.{kind_of, literal, truth, zero_of}
use Rattle.ir_core.specs.Mentions.{of_operand, of_args, of_typed}
use Rattle.ir_core.specs.Names.{same_name}
use Rattle.ir_core.specs.Operands.{global_number, function_number, named_value, int_value}
use Rattle.ir_core.specs.Valid.{LocalKind, named_locals}
use Rattle.ir_core.proofs.Fits.{literal_fits}
use Rattle.ir_sound.specs.WellTyped.{Each}
use Rattle.ir_sound.proofs.RowLaws.{number_below, length_map, Each_both, Each_parts}
use Rattle.ir_context.specs.declared.origin.Origin.{Origin}
use Rattle.ir_context.specs.declared.origin.Origin.TheVariants.{Known, Register, Unset, Malformed}
use Rattle.ir_context.specs.declared.path.Path.{Path}
use Rattle.ir_context.specs.declared.path.Stride.{Stride}
use Rattle.ir_context.specs.Origins.{known, register_of, place_in, place_of, index_origin, origin_of, arg_origin}
use Rattle.ir_context.specs.Paths.{empty_path, farther, with_stride, path_of}
use Rattle.ir_context.specs.Registers.{number_of}
use Rattle.isel_rows.specs.Rows.{path_taken}
use Rattle.isel_rows.specs.Selected.{is_taken}
use Rattle.isel.proofs.Mentioned.{IsFine}
use Rattle.isel.proofs.ShapePaths.{path_has}

-- a number of a width is a word
pub number_word : (w : Width) (n : ℕ) → n < 2 ^ bits w → n < 2 ^ 64
number_word W1 n small = omega (arith, small)
number_word W8 n small = omega (arith, small)
number_word W16 n small = omega (arith, small)
number_word W32 n small = omega (arith, small)
number_word W64 n small = small

module _ (m : Module) (vs : List LocalKind) where
  -- a value that is known
  abbrev pub ValueStands : Value → Type 0
  ValueStands (Num w n) = n < 2 ^ 64
  ValueStands Null = Unit {0}
  ValueStands (At g by) = (g < length m.globals) × (by < 2 ^ 64)
  ValueStands (Fun f) = slice_get (map (is_taken m) m.functions) f ≡ Some true

  -- an origin
  abbrev pub OriginStands : Origin → Type 0
  OriginStands (Known v) = ValueStands v
  OriginStands (Register k) = k < length vs
  OriginStands Unset = Unit {0}
  OriginStands Malformed = Unit {0}

  -- an index that is read, and a path
  abbrev pub StrideStands : Stride → Type 0
  StrideStands s = OriginStands s.index × (s.size < 2 ^ 64)

  -- a path of such indices
  abbrev pub PathStands : Path → Type 0
  PathStands p = (p.constant < 2 ^ 64) × Each StrideStands p.strides

  -- so many bytes more
  farther_stands : (n by : ℕ) (p : Path) → PathStands p → PathStands (farther by p)
  farther_stands n by p stands = ((let z : (p.constant + by) % 2 ^ 64 < 2 ^ 64 = omega arith in z), stands.1)

  -- one more index that is read
  stride_stands : (n : ℕ) (o : Origin) (size : ℕ) (p : Path) → OriginStands o → size < 2 ^ 64 → PathStands p → PathStands (with_stride o size p)
  stride_stands n o size p index small stands = (stands.0, Each_both StrideStands p.strides (record { index = o; size = size } ∷ []) stands.1 ((index, small), tt))

  empty_stands : PathStands empty_path
  empty_stands = ((let z : 0 < 2 ^ 64 = omega arith in z), tt)

  -- each path that is found stands
  pub path_stands : (ty : Ty) (os : List Origin) (p : Path) → Each OriginStands os → path_of m.types ty os ≡ Some p → PathStands p
  path_stands ty os p stand e = path_has OriginStands (λ n q. PathStands q) empty_stands farther_stands stride_stands m.types ty os p stand e

  -- the path that is taken
  pub taken_stands : (o : Option Path) → ((p : Path) → o ≡ Some p → PathStands p) → PathStands (path_taken o)
  taken_stands (Some p) go = go p refl
  taken_stands None go = empty_stands

  -- by the operand
  int_stands : (kind : Kind) (n : ℤ) → OriginStands (known (int_value kind n))
  int_stands NoValue n = tt
  int_stands (Number w) n = number_word w (literal w n) (literal_fits w n)
  int_stands Pointer n = tt

  -- zeros
  zero_stands : (kind : Kind) → OriginStands (known (zero_of kind))
  zero_stands NoValue = tt
  zero_stands (Number w) = let z : 0 < 2 ^ 64 = omega arith in z
  zero_stands Pointer = tt

  -- truth values
  truth_stands : (b : Bool) → OriginStands (Known (truth b))
  truth_stands true = let z : 1 < 2 ^ 64 = omega arith in z
  truth_stands false = let z : 0 < 2 ^ 64 = omega arith in z

  -- a local, where there is one
  pub register_stands : (o : Option ℕ) → ((k : ℕ) → o ≡ Some k → k < length vs) → OriginStands (register_of o)
  register_stands (Some k) go = go k refl
  register_stands None go = tt

  -- a global or a function
  named_stands : (g f : Option ℕ) → ((k : ℕ) → g ≡ Some k → k < length m.globals) → ((k : ℕ) → f ≡ Some k → slice_get (map (is_taken m) m.functions) k ≡ Some true) → OriginStands (known (named_value g f))
  named_stands (Some g) f first second = (first g refl, (let z : 0 < 2 ^ 64 = omega arith in z))
  named_stands None (Some f) first second = second f refl
  named_stands None None first second = tt

  -- literal indices
  indices_stand : (is : List Index0) → Each OriginStands (map index_origin is)
  indices_stand [] = tt
  indices_stand (i ∷ is) = (int_stands (kind_of i.ty) i.value, indices_stand is)

  -- a constant place
  place_stands : (g : Option ℕ) (o : Option Path) → ((k : ℕ) → g ≡ Some k → k < length m.globals) → ((p : Path) → o ≡ Some p → PathStands p) → OriginStands (place_of g o)
  place_stands (Some g) (Some p) first second = of_strides p.strides
    where
      of_strides : (ss : List Stride) → OriginStands (place_in g p.constant ss)
      of_strides [] = (first g refl, (second p refl).0)
      of_strides (s ∷ ss) = tt
  place_stands (Some g) None first second = tt
  place_stands None o first second = tt

  -- the number of a name is one of the variables'
  pub variable_below : (name : List ℕ) (k : ℕ) → number_of (named_locals vs) name ≡ Some k → k < length vs
  variable_below name k e =
      let a = number_below (λ (n : List ℕ). same_name n name) (named_locals vs) k e in
      let l = length_map (λ (v : LocalKind). v.name) vs in
      omega (arith, a, l)

  -- the number of a global is one of the module's
  global_below : (name : List ℕ) (k : ℕ) → global_number m name ≡ Some k → k < length m.globals
  global_below name k e = number_below (λ (g : GlobalVar). same_name g.name name) m.globals k e

  -- any operand
  pub operand_stands : (kind : Kind) (a : Operand) → Each (IsFine m) (of_operand a) → OriginStands (origin_of m (named_locals vs) kind a)
  operand_stands kind (Int n) fine = int_stands kind n
  operand_stands kind (Truth b) fine = truth_stands b
  operand_stands kind NullWord fine = tt
  operand_stands kind Undef fine = zero_stands kind
  operand_stands kind Poison fine = zero_stands kind
  operand_stands kind (LocalName name) fine = register_stands (number_of (named_locals vs) name) (variable_below name)
  operand_stands kind (Global name) fine = named_stands (global_number m name) (function_number m name) (global_below name) fine.0
  operand_stands kind (Const place) fine =
      place_stands (global_number m place.base) (path_of m.types place.source (map index_origin place.indices)) (global_below place.base)
      (λ p e. path_stands place.source (map index_origin place.indices) p (indices_stand place.indices) e)

  -- arguments and indices
  pub args_stand : (args : List Arg) → Each (IsFine m) (of_args args) → Each OriginStands (map (arg_origin m (named_locals vs)) args)
  args_stand [] fine = tt
  args_stand (a ∷ args) fine =
      let p = Each_parts (IsFine m) (of_typed a.ty a.value) (of_args args) fine in
      (operand_stands (kind_of a.ty) a.value p.0.1, args_stand args p.1)
