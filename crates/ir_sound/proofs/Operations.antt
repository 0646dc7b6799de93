-- Instructions that fit give a value of the kind that they say.
use Rattle.std.proofs.Common.{◌≡◌, ℕ, ◌+◌, ◌/◌, ◌%◌, ◌^◌, Bool, true, false, List, [], ◌∷◌, map, None, Ok, Err, refl, sym, subst, arith}
use Rattle.std.specs.Prelude.{◌&&◌, not, nat_eq, slice_get, if◌then◌else◌}
use Rattle.std.proofs.lemmas.Bool.{and_parts}
use Rattle.std.proofs.Math.Nat.{mod-lt}
use Rattle.rd_num.specs.declared.width.Width.{Width}
use Rattle.rd_num.specs.declared.width.Width.TheVariants.{W1, W64}
use Rattle.ir_core.specs.declared.ty.Ty.{Ty}
use Rattle.ir_core.specs.declared.operand.Operand.{Operand}
use Rattle.ir_core.specs.declared.instruction.BinOp.{BinOp}
use Rattle.ir_core.specs.declared.instruction.BinOp.TheVariants.{Udiv, Sdiv, Urem, Srem, And, Or, Xor}
use Rattle.ir_core.specs.declared.instruction.Pred.{Pred}
use Rattle.ir_core.specs.declared.instruction.Pred.TheVariants.{Eq, Ne, Ult, Ule, Ugt, Uge}
use Rattle.ir_core.specs.declared.instruction.CastOp.{CastOp}
use Rattle.ir_core.specs.declared.instruction.CastOp.TheVariants.{Trunc, Zext, Sext}
use Rattle.ir_core.specs.declared.instruction.Op.{Op}
use Rattle.ir_core.specs.declared.instruction.Op.TheVariants.{Bin, Compare, Cast, Select, Freeze, Load, Gep}
use Rattle.ir_core.specs.declared.instruction.Arg.{Arg}
use Rattle.ir_core.specs.declared.module.Module.{Module}
use Rattle.ir_core.specs.declared.memory.Value.{Value}
use Rattle.ir_core.specs.declared.memory.Value.TheVariants.{Num, Null, At, Fun}
use Rattle.ir_core.specs.declared.memory.Reason.TheVariants.{Order, Gep as WasGep}
use Rattle.ir_core.specs.Stops.{Divide, Left, Answer, and_then}
use Rattle.ir_core.specs.declared.kind.Kind.{Kind}
use Rattle.ir_core.specs.declared.kind.Kind.TheVariants.{NoValue, Number, Pointer}
use Rattle.ir_core.specs.Kinds.{kind_of, same_kind, truth}
use Rattle.ir_core.specs.Arithmetic.{divides_by_zero, overflows, signed_quotient, signed_remainder, or_divide, binary, compared}
use Rattle.ir_core.specs.Memory.{Memory, load_at}
use Rattle.ir_core.specs.Pointers.{is_inside, apart_if, pointers_equal, reaches, pointers_ordered, pointers_compared, moved_pointer}
use Rattle.ir_core.specs.State.{Local}
use Rattle.ir_core.specs.Operands.{index_word, bytes_to, value_of, values_of, index_words}
use Rattle.ir_core.specs.Step.{binary_value, compared_value, cast_value, selected, result_of}
use Rattle.ir_core.specs.Typing.{Env, is_value, is_number, is_index, operand_fits, known_operand, known_arg, bin_fits, cast_fits, op_fits, kind_given, leads_from}
use Rattle.std.specs.List.{list_all}
use Rattle.ir_core.specs.declared.operand.Operand.TheVariants.{Int}
use Rattle.ir_core.proofs.Fits as fits
use Rattle.ir_sound.specs.WellTyped.{Each, Properly, Present, IsOfKind, IsObject, IsLocal}
use Rattle.ir_sound.proofs.AnswerLaws.{gives_more, if_gives, then_gives}
use Rattle.ir_sound.proofs.Leads.{Agree}
use Rattle.ir_sound.proofs.Objects.{load_gives}
use Rattle.ir_sound.proofs.Operands.{AgreesOne, Anything, Beside, Covers, agree_with, bytes_give, literal_gives, truth_is, value_gives, values_give}
use Rattle.ir_sound.proofs.SameLaws.{kind_is, not_true}

-- an answer of arithmetic is a number or the stop of a division
divide_gives : (P : ℕ → Type 0) (wrong : Bool) (n : ℕ) → (or_divide wrong n ≡ Ok n → P n) → Properly P (or_divide wrong n)
divide_gives P true n p = tt
divide_gives P false n p = p refl

-- so has each operation, with what is known of its answer
binary_gives : (op : BinOp) (w : Width) (a b : ℕ) → Properly (λ n. binary op w a b ≡ Ok n) (binary op w a b)
binary_gives Udiv w a b = divide_gives (λ n. binary Udiv w a b ≡ Ok n) (divides_by_zero b) (a / b) (λ e. e)
binary_gives Urem w a b = divide_gives (λ n. binary Urem w a b ≡ Ok n) (divides_by_zero b) (a % b) (λ e. e)
binary_gives Sdiv w a b = of_bools (divides_by_zero b) (overflows w a b) (signed_quotient w a b)
  where
    of_bools : (c d : Bool) (n : ℕ) → let r : Answer ℕ = if c then Err Divide else or_divide d n in Properly (λ k. r ≡ Ok k) r
    of_bools true d n = tt
    of_bools false true n = tt
    of_bools false false n = refl
binary_gives Srem w a b = of_bools (divides_by_zero b) (overflows w a b) (signed_remainder w a b)
  where
    of_bools : (c d : Bool) (n : ℕ) → let r : Answer ℕ = if c then Err Divide else or_divide d n in Properly (λ k. r ≡ Ok k) r
    of_bools true d n = tt
    of_bools false true n = tt
    of_bools false false n = refl
binary_gives op w a b = refl

-- two numbers by an operation
bin_gives : (x : Present) (op : BinOp) (kind : Kind) (u v : Value) → is_number kind ≡ true → IsOfKind x kind u → IsOfKind x kind v → Properly (IsOfKind x kind) (binary_value op kind u v)
bin_gives x op (Number w) (Num p a) (Num q b) number one two =
    then_gives (λ n. binary op w a b ≡ Ok n) (IsOfKind x (Number w)) (binary op w a b) (λ n. Ok (Num w n)) (binary_gives op w a b)
    (λ n e. (refl, fits.binary_fits op w a b n one.1 two.1 e))
bin_gives x op (Number w) (Num p a) Null number one two = absurd two
bin_gives x op (Number w) (Num p a) (At o d) number one two = absurd two
bin_gives x op (Number w) (Num p a) (Fun f) number one two = absurd two
bin_gives x op (Number w) Null v number one two = absurd one
bin_gives x op (Number w) (At o d) v number one two = absurd one
bin_gives x op (Number w) (Fun f) v number one two = absurd one
bin_gives x op NoValue u v number one two = not_true number
bin_gives x op Pointer u v number one two = not_true number

-- an operation's kind is one of numbers
bin_number : (op : BinOp) (kind : Kind) → bin_fits op kind ≡ true → is_number kind ≡ true
bin_number op (Number w) fits = refl
bin_number And NoValue fits = fits
bin_number Or NoValue fits = fits
bin_number Xor NoValue fits = fits
bin_number op NoValue fits = fits
bin_number And Pointer fits = fits
bin_number Or Pointer fits = fits
bin_number Xor Pointer fits = fits
bin_number op Pointer fits = fits

-- where pointers are known to be apart
apart_gives : (b : Bool) → Properly {A = Bool} Anything (apart_if b)
apart_gives true = tt
apart_gives false = tt

-- whether two pointers are the same
equal_gives : (x : Present) (m : Memory) (u v : Value) → IsOfKind x Pointer u → IsOfKind x Pointer v → Properly {A = Bool} Anything (pointers_equal m u v)
equal_gives x m (Num w n) v p q = absurd p
equal_gives x m Null (Num w n) p q = absurd q
equal_gives x m Null Null p q = tt
equal_gives x m Null (Fun g) p q = tt
equal_gives x m Null (At o d) p q = apart_gives (is_inside m o d)
equal_gives x m (Fun f) (Num w n) p q = absurd q
equal_gives x m (Fun f) Null p q = tt
equal_gives x m (Fun f) (Fun g) p q = tt
equal_gives x m (Fun f) (At o d) p q = apart_gives (is_inside m o d)
equal_gives x m (At o d) (Num w n) p q = absurd q
equal_gives x m (At o d) Null p q = apart_gives (is_inside m o d)
equal_gives x m (At o d) (Fun g) p q = apart_gives (is_inside m o d)
equal_gives x m (At o d) (At r e) p q = if_gives Anything (nat_eq o r) (Ok (nat_eq d e)) (apart_if (is_inside m o d && is_inside m r e)) tt (apart_gives (is_inside m o d && is_inside m r e))

-- their order
ordered_gives : (pred : Pred) (m : Memory) (u v : Value) → Properly {A = Bool} Anything (pointers_ordered pred m u v)
ordered_gives pred m (At o d) (At r e) = if_gives Anything (nat_eq o r && (reaches (slice_get m o) d && reaches (slice_get m o) e)) (Ok (compared pred W64 d e)) (Err (Left Order)) tt tt
ordered_gives pred m u v = tt

-- a comparison of them
pointers_give : (x : Present) (pred : Pred) (m : Memory) (u v : Value) → IsOfKind x Pointer u → IsOfKind x Pointer v → Properly {A = Bool} Anything (pointers_compared pred m u v)
pointers_give x Eq m u v p q = equal_gives x m u v p q
pointers_give x Ne m u v p q = then_gives Anything Anything (pointers_equal m u v) (λ same. Ok (not same)) (equal_gives x m u v p q) (λ b r. tt)
pointers_give x Ult m u v p q = ordered_gives Ult m u v
pointers_give x Ule m u v p q = ordered_gives Ule m u v
pointers_give x Ugt m u v p q = ordered_gives Ugt m u v
pointers_give x Uge m u v p q = ordered_gives Uge m u v
pointers_give x pred m u v p q = tt

-- a comparison
compare_gives : (x : Present) (m : Memory) (pred : Pred) (kind : Kind) (u v : Value) → is_value kind ≡ true → IsOfKind x kind u → IsOfKind x kind v → Properly (IsOfKind x (Number W1)) (compared_value m pred kind u v)
compare_gives x m pred (Number w) (Num p a) (Num q b) value one two = truth_is x (compared pred w a b)
compare_gives x m pred (Number w) (Num p a) Null value one two = absurd two
compare_gives x m pred (Number w) (Num p a) (At o d) value one two = absurd two
compare_gives x m pred (Number w) (Num p a) (Fun f) value one two = absurd two
compare_gives x m pred (Number w) Null v value one two = absurd one
compare_gives x m pred (Number w) (At o d) v value one two = absurd one
compare_gives x m pred (Number w) (Fun f) v value one two = absurd one
compare_gives x m pred NoValue u v value one two = not_true value
compare_gives x m pred Pointer u v value one two = then_gives Anything (IsOfKind x (Number W1)) (pointers_compared pred m u v) (λ holds. Ok (truth holds)) (pointers_give x pred m u v one two) (λ b r. truth_is x b)

-- a cast
cast_gives : (x : Present) (op : CastOp) (from to : Kind) (v : Value) → cast_fits op from to ≡ true → IsOfKind x from v → Properly (IsOfKind x to) (cast_value op from to v)
cast_gives x op (Number f) (Number t) (Num w n) fit is = (refl, fits.cast_fits op f t n)
cast_gives x op (Number f) (Number t) Null fit is = absurd is
cast_gives x op (Number f) (Number t) (At o d) fit is = absurd is
cast_gives x op (Number f) (Number t) (Fun g) fit is = absurd is
cast_gives x Trunc NoValue to v fit is = not_true fit
cast_gives x Zext NoValue to v fit is = not_true fit
cast_gives x Sext NoValue to v fit is = not_true fit
cast_gives x Trunc Pointer to v fit is = not_true fit
cast_gives x Zext Pointer to v fit is = not_true fit
cast_gives x Sext Pointer to v fit is = not_true fit
cast_gives x Trunc (Number f) NoValue v fit is = not_true fit
cast_gives x Zext (Number f) NoValue v fit is = not_true fit
cast_gives x Sext (Number f) NoValue v fit is = not_true fit
cast_gives x Trunc (Number f) Pointer v fit is = not_true fit
cast_gives x Zext (Number f) Pointer v fit is = not_true fit
cast_gives x Sext (Number f) Pointer v fit is = not_true fit

-- of two values of a kind, one
select_gives : (x : Present) (kind : Kind) (c u v : Value) → IsOfKind x (Number W1) c → IsOfKind x kind u → IsOfKind x kind v → Properly (IsOfKind x kind) (selected c u v)
select_gives x kind (Num w n) u v is one two = by_test (nat_eq n 0)
  where
    by_test : (b : Bool) → IsOfKind x kind (if b then v else u)
    by_test true = two
    by_test false = one
select_gives x kind Null u v is one two = absurd is
select_gives x kind (At o d) u v is one two = absurd is
select_gives x kind (Fun f) u v is one two = absurd is

-- a pointer that was moved
moved_gives : (x : Present) (by : ℕ) (v : Value) → IsOfKind x Pointer v → Properly (IsOfKind x Pointer) (moved_pointer by v)
moved_gives x by (At o d) p = (p.0, mod-lt (d + by) (omega arith))
moved_gives x by Null p = if_gives (IsOfKind x Pointer) (nat_eq (by % 2 ^ 64) 0) (Ok Null) (Err (Left WasGep)) tt tt
moved_gives x by (Fun f) p = if_gives (IsOfKind x Pointer) (nat_eq (by % 2 ^ 64) 0) (Ok (Fun f)) (Err (Left WasGep)) p tt
moved_gives x by (Num w n) p = absurd p

-- an index is a number, whose word agrees with what is known of it
abbrev IsIndex : Arg → Value → Type 0
IsIndex a v = Properly (AgreesOne (known_arg a)) (index_word v)

-- a value of an index's kind has a word
word_gives : (x : Present) (kind : Kind) (v : Value) → is_index kind ≡ true → IsOfKind x kind v → Properly {A = ℕ} Anything (index_word v)
word_gives x (Number w) (Num u n) index is = tt
word_gives x (Number w) Null index is = absurd is
word_gives x (Number w) (At o d) index is = absurd is
word_gives x (Number w) (Fun f) index is = absurd is
word_gives x NoValue v index is = not_true index
word_gives x Pointer v index is = not_true index

-- the words of indices
words_give : (args : List Arg) (vs : List Value) → Beside IsIndex args vs → Properly (Agree (map known_arg args)) (index_words vs)
words_give [] [] p = tt
words_give [] (v ∷ vs) p = absurd p
words_give (a ∷ args) [] p = absurd p
words_give (a ∷ args) (v ∷ vs) p =
    let A : List ℕ → Type 0 = Agree (map known_arg (a ∷ args)) in
    then_gives (AgreesOne (known_arg a)) A (index_word v) (λ n. and_then (index_words vs) (λ ns. Ok (n ∷ ns))) p.0
    (λ n q. then_gives (Agree (map known_arg args)) A (index_words vs) (λ ns. Ok (n ∷ ns)) (words_give args vs p.1) (λ ns r. agree_with (known_arg a) (map known_arg args) n ns q r))

-- an instruction that gives a value and changes nothing else
abbrev pub is_plain : Op → Bool
is_plain (Bin op ty a b) = true
is_plain (Compare pred ty a b) = true
is_plain (Cast op from a to) = true
is_plain (Select condition ty a ty2 b) = true
is_plain (Freeze ty a) = true
is_plain (Load ty p) = true
is_plain (Gep ty p indices) = true
is_plain other = false

module _ (m : Module) (x : Present) (env : Env) (locals : List Local) (c : Covers m x) (all : Each (IsLocal x env) locals) where
  -- an index that is no literal
  other_gives : (kind : Kind) (a : Operand) → is_index kind ≡ true → operand_fits m env kind a ≡ true → known_operand kind a ≡ None → Properly (λ v. Properly (AgreesOne (known_operand kind a)) (index_word v)) (value_of m locals kind a)
  other_gives kind a index fits none =
      gives_more (IsOfKind x kind) (λ v. Properly (AgreesOne (known_operand kind a)) (index_word v)) (value_of m locals kind a) (value_gives m x env locals c all kind a fits)
      (λ v p. subst (λ o. Properly (AgreesOne o) (index_word v)) (sym none) (word_gives x kind v index p))

  -- an index of an instruction
  index_gives : (kind : Kind) (a : Operand) → is_index kind ≡ true → operand_fits m env kind a ≡ true → Properly (λ v. Properly (AgreesOne (known_operand kind a)) (index_word v)) (value_of m locals kind a)
  index_gives kind (Int n) index fits = literal_gives kind n index
  index_gives kind a index fits = other_gives kind a index fits refl

  -- the place to which indices lead
  gep_gives : (ty : Ty) (p : Operand) (indices : List Arg) → op_fits m env (Gep ty p indices) ≡ true → (objects : Memory) → Properly (IsOfKind x Pointer) (result_of m objects locals (Gep ty p indices))
  gep_gives ty p indices fits objects =
      let test : Arg → Bool = λ a. is_index (kind_of a.ty) && operand_fits m env (kind_of a.ty) a.value in
      let parts = and_parts (operand_fits m env Pointer p) (list_all test indices && leads_from m.types ty (map known_arg indices)) fits in
      let both = and_parts (list_all test indices) (leads_from m.types ty (map known_arg indices)) parts.1 in
      let K : Value → Type 0 = IsOfKind x Pointer in
      then_gives K K (value_of m locals Pointer p) (λ v. and_then (values_of m locals indices) (λ is. and_then (index_words is) (λ ns. and_then (bytes_to m ty ns) (λ by. moved_pointer by v)))) (value_gives m x env locals c all Pointer p parts.0)
      (λ v q. then_gives (Beside IsIndex indices) K (values_of m locals indices) (λ is. and_then (index_words is) (λ ns. and_then (bytes_to m ty ns) (λ by. moved_pointer by v)))
      (values_give m locals IsIndex test (λ a fit. let two = and_parts (is_index (kind_of a.ty)) (operand_fits m env (kind_of a.ty) a.value) fit in index_gives (kind_of a.ty) a.value two.0 two.1) indices both.0)
      (λ is r. then_gives (Agree (map known_arg indices)) K (index_words is) (λ ns. and_then (bytes_to m ty ns) (λ by. moved_pointer by v)) (words_give indices is r)
      (λ ns t. then_gives Anything K (bytes_to m ty ns) (λ by. moved_pointer by v) (bytes_give m ty (map known_arg indices) ns t both.1) (λ by w. moved_gives x by v q))))

  -- gives one of the kind that it says
  pub result_gives : (objects : Memory) → Each (IsObject x) objects → (op : Op) → is_plain op ≡ true → op_fits m env op ≡ true → Properly (IsOfKind x (kind_given op)) (result_of m objects locals op)
  result_gives objects held (Bin op ty a b) plain fits =
      let parts = and_parts (bin_fits op (kind_of ty)) (operand_fits m env (kind_of ty) a && operand_fits m env (kind_of ty) b) fits in
      let both = and_parts _ _ parts.1 in
      let K : Value → Type 0 = IsOfKind x (kind_of ty) in
      then_gives K K (value_of m locals (kind_of ty) a) (λ u. and_then (value_of m locals (kind_of ty) b) (λ v. binary_value op (kind_of ty) u v)) (value_gives m x env locals c all (kind_of ty) a both.0)
      (λ u p. then_gives K K (value_of m locals (kind_of ty) b) (λ v. binary_value op (kind_of ty) u v) (value_gives m x env locals c all (kind_of ty) b both.1)
      (λ v q. bin_gives x op (kind_of ty) u v (bin_number op (kind_of ty) parts.0) p q))
  result_gives objects held (Compare pred ty a b) plain fits =
      let parts = and_parts (is_value (kind_of ty)) (operand_fits m env (kind_of ty) a && operand_fits m env (kind_of ty) b) fits in
      let both = and_parts (operand_fits m env (kind_of ty) a) (operand_fits m env (kind_of ty) b) parts.1 in
      let K : Value → Type 0 = IsOfKind x (kind_of ty) in
      let R : Value → Type 0 = IsOfKind x (Number W1) in
      then_gives K R (value_of m locals (kind_of ty) a) (λ u. and_then (value_of m locals (kind_of ty) b) (λ v. compared_value objects pred (kind_of ty) u v)) (value_gives m x env locals c all (kind_of ty) a both.0)
      (λ u p. then_gives K R (value_of m locals (kind_of ty) b) (λ v. compared_value objects pred (kind_of ty) u v) (value_gives m x env locals c all (kind_of ty) b both.1)
      (λ v q. compare_gives x objects pred (kind_of ty) u v parts.0 p q))
  result_gives objects held (Cast op from a to) plain fits =
      let parts = and_parts (cast_fits op (kind_of from) (kind_of to)) (operand_fits m env (kind_of from) a) fits in
      then_gives (IsOfKind x (kind_of from)) (IsOfKind x (kind_of to)) (value_of m locals (kind_of from) a) (λ v. cast_value op (kind_of from) (kind_of to) v) (value_gives m x env locals c all (kind_of from) a parts.1)
      (λ v p. cast_gives x op (kind_of from) (kind_of to) v parts.0 p)
  result_gives objects held (Select condition ty a ty2 b) plain fits =
      let parts = and_parts (operand_fits m env (Number W1) condition) ((is_value (kind_of ty) && same_kind (kind_of ty) (kind_of ty2)) && (operand_fits m env (kind_of ty) a && operand_fits m env (kind_of ty2) b)) fits in
      let more = and_parts (is_value (kind_of ty) && same_kind (kind_of ty) (kind_of ty2)) (operand_fits m env (kind_of ty) a && operand_fits m env (kind_of ty2) b) parts.1 in
      let both = and_parts (operand_fits m env (kind_of ty) a) (operand_fits m env (kind_of ty2) b) more.1 in
      let same = kind_is (kind_of ty) (kind_of ty2) (and_parts (is_value (kind_of ty)) (same_kind (kind_of ty) (kind_of ty2)) more.0).1 in
      let K : Value → Type 0 = IsOfKind x (kind_of ty) in
      then_gives (IsOfKind x (Number W1)) K (value_of m locals (Number W1) condition) (λ w. and_then (value_of m locals (kind_of ty) a) (λ u. and_then (value_of m locals (kind_of ty2) b) (λ v. selected w u v)))
      (value_gives m x env locals c all (Number W1) condition parts.0)
      (λ w o. then_gives K K (value_of m locals (kind_of ty) a) (λ u. and_then (value_of m locals (kind_of ty2) b) (λ v. selected w u v)) (value_gives m x env locals c all (kind_of ty) a both.0)
      (λ u p. then_gives (IsOfKind x (kind_of ty2)) K (value_of m locals (kind_of ty2) b) (λ v. selected w u v) (value_gives m x env locals c all (kind_of ty2) b both.1)
      (λ v q. select_gives x (kind_of ty) w u v o p (subst (λ k. IsOfKind x k v) (sym same) q))))
  result_gives objects held (Freeze ty a) plain fits =
      value_gives m x env locals c all (kind_of ty) a (and_parts (is_value (kind_of ty)) (operand_fits m env (kind_of ty) a) fits).1
  result_gives objects held (Load ty p) plain fits =
      let parts = and_parts (is_value (kind_of ty)) (operand_fits m env Pointer p) fits in
      then_gives (IsOfKind x Pointer) (IsOfKind x (kind_of ty)) (value_of m locals Pointer p) (λ v. load_at objects (kind_of ty) v) (value_gives m x env locals c all Pointer p parts.1)
      (λ v q. load_gives x objects held (kind_of ty) v parts.0)
  result_gives objects held (Gep ty p indices) plain fits = gep_gives ty p indices fits objects
  result_gives objects held op plain fits = not_true plain
