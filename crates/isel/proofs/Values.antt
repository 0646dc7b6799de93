-- The values of operands: where they come from, of which kind they are, and that they can arise.
use Rattle.std.proofs.Common.{◌≡◌, ℕ, ◌<◌, ◌^◌, Bool, true, false, List, [], ◌∷◌, map, length, Option, Some, None, Ok, refl, ap, sym, ◌∙◌, subst, arith}
use Rattle.std.specs.Prelude.{slice_get, ℤ}
use Rattle.std.specs.List.{list_all}
use Rattle.std.proofs.lemmas.Bool.{and_parts}
use Rattle.rd_num.specs.Number.{bits}
use Rattle.ir_core.specs.declared.operand.Operand.{Operand}
use Rattle.ir_core.specs.declared.operand.Operand.TheVariants.{Int, Bool as Truth, Null as NullWord, Undef, Poison, Local as LocalName, Global, Const}
use Rattle.ir_core.specs.declared.instruction.Arg.{Arg}
use Rattle.ir_core.specs.declared.module.Module.{Module}
use Rattle.ir_core.specs.declared.memory.Value.{Value}
use Rattle.ir_core.specs.declared.memory.Value.TheVariants.{Num, Null, At, Fun}
use Rattle.ir_core.specs.declared.memory.Reason.TheVariants.{Unset as UnsetReason}
use Rattle.ir_core.specs.declared.kind.Kind.{Kind}
use Rattle.ir_core.specs.declared.kind.Kind.TheVariants.{NoValue, Number, Pointer}
use Rattle.ir_core.specs.Kinds.{kind_of, truth, zero_of}
use Rattle.ir_core.specs.Memory.{Memory}
use Rattle.ir_core.specs.Mentions.{of_operand, of_typed, of_args}
use Rattle.ir_core.specs.Operands.{global_number, function_number, named_value, int_value, value_of, values_of}
use Rattle.ir_core.specs.State.{Frame}
use Rattle.ir_core.specs.Stops.{Left, Answer, and_then, found_or}
use Rattle.ir_core.specs.Typing.{operand_fits}
use Rattle.ir_core.specs.Valid.{named_locals, env_of}
use Rattle.ir_sound.specs.WellTyped.{Each, Properly, IsOfKind, present}
use Rattle.ir_sound.proofs.Operands.{value_gives}
use Rattle.ir_sound.proofs.RowLaws.{Each_parts, number_below, item_at}
use Rattle.ir_context.specs.Registers.{register, number_of}
use Rattle.ir_context.specs.declared.origin.Origin.{Origin}
use Rattle.ir_context.specs.declared.origin.Origin.TheVariants.{Known, Register, Unset, Malformed}
use Rattle.ir_context.specs.declared.path.Path.{Path}
use Rattle.ir_context.specs.declared.path.Stride.{Stride}
use Rattle.ir_context.specs.Origins.{known, register_of, place_in, place_of, origin_of, arg_origin}
use Rattle.ir_context.specs.Reads.{origin_value, origin_values}
use Rattle.ir_context.proofs.OperandLaws.{operand_read}
use Rattle.low_core.specs.Flat.{Bytes}
use Rattle.low_core.specs.Plan.{Plan, Content}
use Rattle.low_core.specs.Contents.{Addresses}
use Rattle.low_core.specs.Bridge.{Setting, CallMemory, IsKnown, Bridges}
use Rattle.low_core.specs.SelState.{SelFrame}
use Rattle.flat_memory.proofs.Named.{names_law}
use Rattle.isel_rows.specs.Variables.{variables_of}
use Rattle.isel.proofs.Beside.{IsCallBeside, setting_of}
use Rattle.isel.proofs.Mentioned.{IsFine, all_small, fields_small}
use Rattle.isel.proofs.Premises.{Premises, CallTyped}
use Rattle.isel.proofs.Straight.{gave}
use Rattle.isel.proofs.Words.{HasPlace, IsPlanned}
use Rattle.low_core.specs.Weights.{lean_own}

-- a value of a kind that an operand has
pub record HasValue (m : Module) (g : Setting) (objects : Memory) (at : Addresses) (values : List (Option Value)) (kind : Kind) (o : Origin) (v : Value) : Type 0 where
  pub is : origin_value values o ≡ Ok v
  pub planned : IsPlanned g.plan at o
  pub of_kind : IsOfKind (present m objects) kind v
  pub known : IsKnown (length objects) g.taken v

-- a value that is known before a run
abbrev pub IsConstant : Module → List Bool → Value → Type 0
IsConstant m taken (Num w n) = Unit {0}
IsConstant m taken Null = Unit {0}
IsConstant m taken (At o by) = o < length m.globals
IsConstant m taken (Fun f) = slice_get taken f ≡ Some true

-- such a value of a kind can arise
constant_known : (m : Module) (g : Setting) (objects : Memory) (kind : Kind) (v : Value) → IsConstant m g.taken v → IsOfKind (present m objects) kind v → IsKnown (length objects) g.taken v
constant_known m g objects (Number w) (Num u n) constant is = subst (λ k. n < 2 ^ bits k) (sym is.0) is.1
constant_known m g objects Pointer Null constant is = tt
constant_known m g objects Pointer (At o d) constant is = is
constant_known m g objects Pointer (Fun f) constant is = constant
constant_known m g objects kind v constant is = absurd is

module _ (m : Module) (plan : Plan) (contents : List Content) (p : Premises m plan contents) where
  abbrev g : Setting
  g = setting_of m plan contents

  -- what is known in front
  abbrev Constant : Origin → Type 0
  Constant (Known v) = IsConstant m g.taken v
  Constant other = Unit {0}

  int_constant : (kind : Kind) (n : ℤ) → Constant (known (int_value kind n))
  int_constant (Number w) n = tt
  int_constant Pointer n = tt
  int_constant NoValue n = tt

  zero_constant : (kind : Kind) → Constant (known (zero_of kind))
  zero_constant (Number w) = tt
  zero_constant Pointer = tt
  zero_constant NoValue = tt

  truth_constant : (b : Bool) → Constant (Known (truth b))
  truth_constant true = tt
  truth_constant false = tt

  register_constant : (o : Option ℕ) → Constant (register_of o)
  register_constant (Some k) = tt
  register_constant None = tt

  named_constant : (n f : Option ℕ) → ((k : ℕ) → n ≡ Some k → k < length m.globals) → ((k : ℕ) → f ≡ Some k → slice_get g.taken k ≡ Some true) → Constant (known (named_value n f))
  named_constant (Some k) f few taken = few k refl
  named_constant None (Some k) few taken = taken k refl
  named_constant None None few taken = tt

  in_constant : (n by : ℕ) (ss : List Stride) → n < length m.globals → Constant (place_in n by ss)
  in_constant n by [] few = few
  in_constant n by (s ∷ ss) few = tt

  place_constant : (n : Option ℕ) (path : Option Path) → ((k : ℕ) → n ≡ Some k → k < length m.globals) → Constant (place_of n path)
  place_constant (Some k) (Some path) few = in_constant k path.constant path.strides (few k refl)
  place_constant (Some k) None few = tt
  place_constant None path few = tt

  global_few : (name : List ℕ) (k : ℕ) → global_number m name ≡ Some k → k < length m.globals
  global_few name k e = number_below _ m.globals k e

  origin_constant : (names : List (List ℕ)) (kind : Kind) (a : Operand) → Each (IsFine m) (of_operand a) → Constant (origin_of m names kind a)
  origin_constant names kind (Int n) fine = int_constant kind n
  origin_constant names kind (Truth b) fine = truth_constant b
  origin_constant names kind NullWord fine = tt
  origin_constant names kind Undef fine = zero_constant kind
  origin_constant names kind Poison fine = zero_constant kind
  origin_constant names kind (LocalName name) fine = register_constant (number_of names name)
  origin_constant names kind (Global name) fine = named_constant (global_number m name) (function_number m name) (global_few name) fine.0
  origin_constant names kind (Const place) fine = place_constant (global_number m place.base) _ (global_few place.base)

  module _ (calls : List CallMemory) (objects : Memory) (at : Addresses) (bytes : Bytes) (tied : Bridges g calls objects at bytes) where
    -- what is known has its place
    constant_planned : (v : Value) → IsConstant m g.taken v → HasPlace plan at v
    constant_planned (Num w n) c = tt
    constant_planned Null c = tt
    constant_planned (At o by) c =
        let count = p.globals in
        let many = p.fits.globals in
        let a = item_at plan.globals o (omega arith) in
        let x = item_at contents o (omega arith) in
        (a.0, (a.1, ((names_law g calls objects at bytes p.setting tied).global o a.0 x.0 (record { address = a.1; content = x.1 })).0))
    constant_planned (Fun f) c =
        let a = item_at plan.functions f (p.setting.known f c) in
        (a.0, (a.1, ((names_law g calls objects at bytes p.setting tied).function f a.0 c a.1).0))

    module _ (f : Frame) (h : SelFrame) (c : IsCallBeside m g objects at f h) (typed : CallTyped m c.fn objects f) where
      abbrev pub names : List (List ℕ)
      names = named_locals (variables_of c.fn)

      -- an origin with a value
      origin_has : (kind : Kind) (o : Origin) (v : Value) → Constant o → IsOfKind (present m objects) kind v → origin_value c.holds.values o ≡ Ok v → HasValue m g objects at c.holds.values kind o v
      origin_has kind (Known u) v constant of_kind is =
          let same : u ≡ v = cc in
          record { is = is; planned = constant_planned u constant; of_kind = of_kind; known = constant_known m g objects kind v (subst (IsConstant m g.taken) same constant) of_kind }
      origin_has kind (Register k) v constant of_kind is = record { is = is; planned = tt; of_kind = of_kind; known = c.holds.known k v (there (register c.holds.values k) is) }
        where
          there : (o : Option Value) → found_or (Left UnsetReason) o ≡ Ok v → o ≡ Some v
          there (Some u) e = let same : u ≡ v = cc in ap Some same
          there None e = absurd (cc)
      origin_has kind Unset v constant of_kind is = absurd (cc)
      origin_has kind Malformed v constant of_kind is = absurd (cc)

      -- an operand that fits and has a value
      pub operand_has : (kind : Kind) (a : Operand) (v : Value) → operand_fits m (env_of c.fn) kind a ≡ true → Each (IsFine m) (of_operand a) → value_of m f.locals kind a ≡ Ok v → HasValue m g objects at c.holds.values kind (origin_of m names kind a) v
      operand_has kind a v fits fine is =
          let read = operand_read m (env_of c.fn) names kind a (fields_small lean_own m p.shaped) (all_small m (of_operand a) fine) fits c.holds.values f.locals c.holds.stand in
          let of_kind = subst (Properly (IsOfKind (present m objects) kind)) is (value_gives m (present m objects) (env_of c.fn) f.locals typed.covered typed.locals kind a fits) in
          origin_has kind (origin_of m names kind a) v (origin_constant names kind a fine) of_kind (read ∙ is)

      -- rows of values, each of its kind
      abbrev pub HaveValues : List Arg → List Value → Type 0
      HaveValues [] [] = Unit {0}
      HaveValues [] (v ∷ vs) = ⊥
      HaveValues (a ∷ as') [] = ⊥
      HaveValues (a ∷ as') (v ∷ vs) = HasValue m g objects at c.holds.values (kind_of a.ty) (arg_origin m names a) v × HaveValues as' vs

      -- arguments or indices that pass a test by which they fit
      pub args_have : (test : Arg → Bool) (args : List Arg) (vs : List Value) → ((a : Arg) → test a ≡ true → operand_fits m (env_of c.fn) (kind_of a.ty) a.value ≡ true) → list_all test args ≡ true → Each (IsFine m) (of_args args)
          → values_of m f.locals args ≡ Ok vs → HaveValues args vs
      args_have test [] [] by fits fine is = tt
      args_have test [] (v ∷ vs) by fits fine is = absurd (cc)
      args_have test (a ∷ as') vs by fits fine is =
          let q = and_parts (test a) (list_all test as') fits in
          let r = Each_parts (IsFine m) (of_typed a.ty a.value) (of_args as') fine in
          let first = gave (value_of m f.locals (kind_of a.ty) a.value) (λ v. and_then (values_of m f.locals as') (λ ws. Ok (v ∷ ws))) vs is in
          let rest = gave (values_of m f.locals as') (λ ws. answer_values (first.value ∷ ws)) vs first.then in
          let same : first.value ∷ rest.value ≡ vs = cc in
          subst (HaveValues (a ∷ as')) same (operand_has (kind_of a.ty) a.value first.value (by a q.0) r.0.1 first.first, args_have test as' rest.value by q.1 r.1 rest.first)
        where
          answer_values : List Value → Answer (List Value)
          answer_values l = Ok l

      -- their origins have them
      pub origins_have : (args : List Arg) (vs : List Value) → HaveValues args vs → origin_values c.holds.values (map (arg_origin m names) args) ≡ Ok vs
      origins_have [] [] have = refl
      origins_have [] (v ∷ vs) have = absurd have
      origins_have (a ∷ as') [] have = absurd have
      origins_have (a ∷ as') (v ∷ vs) have =
          ap (λ x. and_then x (λ u. and_then (origin_values c.holds.values (map (arg_origin m names) as')) (λ us. Ok (u ∷ us)))) have.0.is
          ∙ ap (λ x. and_then x (λ us. Ok (v ∷ us))) (origins_have as' vs have.1)
