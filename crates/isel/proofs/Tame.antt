-- Answers that bring a run to no stop but one at which it is left.
use Rattle.std.proofs.Common.{◌≡◌, ℕ, Bool, true, false, List, [], ◌∷◌, length, Option, Some, None, Ok, Err, refl}
use Rattle.std.specs.Prelude.{ℤ, nat_eq, slice_get, option_map, if◌then◌else◌}
use Rattle.behavior.specs.Ending.{is_left}
use Rattle.ir_core.specs.declared.ty.Ty.{Ty}
use Rattle.ir_core.specs.declared.operand.Operand.{Operand}
use Rattle.ir_core.specs.declared.operand.Operand.TheVariants.{Int, Bool as Truth, Null as NullWord, Undef, Poison, Local as LocalName, Global, Const}
use Rattle.ir_core.specs.declared.operand.Index0.{Index0}
use Rattle.ir_core.specs.declared.instruction.Arg.{Arg}
use Rattle.ir_core.specs.declared.instruction.CastOp.{CastOp}
use Rattle.ir_core.specs.declared.instruction.Pred.{Pred}
use Rattle.ir_core.specs.declared.instruction.Pred.TheVariants.{Eq, Ne, Ult, Ule, Ugt, Uge, Slt, Sle, Sgt, Sge}
use Rattle.ir_core.specs.declared.module.Module.{Module}
use Rattle.ir_core.specs.declared.memory.Value.{Value}
use Rattle.ir_core.specs.declared.memory.Value.TheVariants.{Num, Null, At, Fun}
use Rattle.ir_core.specs.declared.memory.Object0.{Object0}
use Rattle.ir_core.specs.declared.memory.Cell.{Cell}
use Rattle.ir_core.specs.declared.memory.Cell.TheVariants.{Piece}
use Rattle.ir_core.specs.declared.memory.Reason.TheVariants as reason
use Rattle.ir_core.specs.declared.kind.Kind.{Kind}
use Rattle.ir_core.specs.declared.kind.Kind.TheVariants.{NoValue, Number, Pointer}
use Rattle.rd_num.specs.declared.width.Width.{Width}
use Rattle.ir_core.specs.Kinds.{kind_of, zero_of}
use Rattle.ir_core.specs.Memory.{Memory, Range, range_of, readable_range, unless_constant, writable_range, cells_at, cells_of, any_unset, numbers, number_read, pointer_read, same_cells, pointer_cells, value_read, kind_size, load_at, store_at, filled, overlaps, copied}
use Rattle.ir_core.specs.Names.{same_name, first_where}
use Rattle.ir_core.specs.Operands.{global_number, function_number, named_value, int_value, index_word, bytes_to, literal_indices, value_of, values_of, index_words}
use Rattle.ir_core.specs.Pointers.{is_inside, apart_if, pointers_equal, pointers_ordered, pointers_compared, moved_pointer}
use Rattle.ir_core.specs.State.{Local}
use Rattle.ir_core.specs.Step.{compared_value, cast_value, selected}
use Rattle.ir_core.specs.Stops.{Left, Malformed, Answer, and_then, found_or, ending_of}

-- an answer without another stop
abbrev pub IsTame : {A : Type 0} → Answer A → Type 0
IsTame (Ok a) = Unit {0}
IsTame (Err stop) = is_left (ending_of stop) ≡ true

-- one after another
pub then_tame : {A B : Type 0} (a : Answer A) (rest : A → Answer B) → IsTame a → ((x : A) → IsTame (rest x)) → IsTame (and_then a rest)
then_tame (Ok x) rest first others = others x
then_tame (Err stop) rest first others = first

-- what may be missing
found_tame : {A : Type 0} (o : Option A) → IsTame (found_or Malformed o)
found_tame (Some a) = tt
found_tame None = refl

int_tame : (kind : Kind) (n : ℤ) → IsTame (int_value kind n)
int_tame (Number w) n = tt
int_tame Pointer n = refl
int_tame NoValue n = refl

index_tame : (v : Value) → IsTame (index_word v)
index_tame (Num w n) = tt
index_tame Null = refl
index_tame (At o d) = refl
index_tame (Fun f) = refl

pub bytes_tame : (m : Module) (ty : Ty) (ns : List ℕ) → IsTame (bytes_to m ty ns)
bytes_tame m ty [] = tt
bytes_tame m ty (n ∷ ns) = found_tame _

literals_tame : (is : List Index0) → IsTame (literal_indices is)
literals_tame [] = tt
literals_tame (i ∷ is) =
    then_tame (int_value (kind_of i.ty) i.value) (λ v. and_then (index_word v) (λ n. and_then (literal_indices is) (λ ns. Ok (n ∷ ns)))) (int_tame (kind_of i.ty) i.value)
    (λ v. then_tame (index_word v) (λ n. and_then (literal_indices is) (λ ns. Ok (n ∷ ns))) (index_tame v)
    (λ n. then_tame (literal_indices is) (λ ns. Ok (n ∷ ns)) (literals_tame is) (λ ns. tt)))

local_tame : (o : Option Local) → IsTame (found_or (Left reason.Unset) (option_map (λ (l : Local). l.value) o))
local_tame (Some l) = tt
local_tame None = refl

zero_tame : (kind : Kind) → IsTame (zero_of kind)
zero_tame (Number w) = tt
zero_tame Pointer = tt
zero_tame NoValue = refl

named_tame : (g f : Option ℕ) → IsTame (named_value g f)
named_tame (Some n) f = tt
named_tame None (Some n) = tt
named_tame None None = refl

-- operands
pub value_tame : (m : Module) (locals : List Local) (kind : Kind) (a : Operand) → IsTame (value_of m locals kind a)
value_tame m locals kind (Int n) = int_tame kind n
value_tame m locals kind (Truth b) = tt
value_tame m locals kind NullWord = tt
value_tame m locals kind Undef = zero_tame kind
value_tame m locals kind Poison = zero_tame kind
value_tame m locals kind (LocalName name) = local_tame (first_where (λ (l : Local). same_name l.name name) locals)
value_tame m locals kind (Global name) = named_tame (global_number m name) (function_number m name)
value_tame m locals kind (Const p) =
    then_tame (found_or Malformed (global_number m p.base)) _ (found_tame (global_number m p.base))
    (λ g. then_tame (literal_indices p.indices) _ (literals_tame p.indices) (λ is. then_tame (bytes_to m p.source is) _ (bytes_tame m p.source is) (λ by. tt)))

-- arguments and indices
pub values_tame : (m : Module) (locals : List Local) (args : List Arg) → IsTame (values_of m locals args)
values_tame m locals [] = tt
values_tame m locals (a ∷ as') =
    then_tame (value_of m locals (kind_of a.ty) a.value) _ (value_tame m locals (kind_of a.ty) a.value)
    (λ v. then_tame (values_of m locals as') _ (values_tame m locals as') (λ vs. tt))

pub words_tame : (vs : List Value) → IsTame (index_words vs)
words_tame [] = tt
words_tame (v ∷ vs) = then_tame (index_word v) _ (index_tame v) (λ n. then_tame (index_words vs) _ (words_tame vs) (λ ns. tt))

-- pointers
unmoved_tame : (b : Bool) (v : Value) → IsTame (if b then Ok v else Err (Left reason.Gep))
unmoved_tame true v = tt
unmoved_tame false v = refl

pub moved_tame : (by : ℕ) (v : Value) → IsTame (moved_pointer by v)
moved_tame by (At o d) = tt
moved_tame by Null = unmoved_tame _ Null
moved_tame by (Fun f) = unmoved_tame _ (Fun f)
moved_tame by (Num w n) = refl

apart_tame : (b : Bool) → IsTame (apart_if b)
apart_tame true = tt
apart_tame false = refl

same_place_tame : (same same_offset known : Bool) → IsTame (if same then Ok same_offset else apart_if known)
same_place_tame true same_offset known = tt
same_place_tame false same_offset known = apart_tame known

equal_tame : (m : Memory) (u v : Value) → IsTame (pointers_equal m u v)
equal_tame m Null Null = tt
equal_tame m Null (Fun g) = tt
equal_tame m Null (At p e) = apart_tame (is_inside m p e)
equal_tame m (Fun f) Null = tt
equal_tame m (Fun f) (Fun g) = tt
equal_tame m (Fun f) (At p e) = apart_tame (is_inside m p e)
equal_tame m (At o d) Null = apart_tame (is_inside m o d)
equal_tame m (At o d) (Fun g) = apart_tame (is_inside m o d)
equal_tame m (At o d) (At p e) = same_place_tame _ _ _
equal_tame m u v = refl

order_tame : (b holds : Bool) → IsTame (if b then Ok holds else Err (Left reason.Order))
order_tame true holds = tt
order_tame false holds = refl

ordered_tame : (pred : Pred) (m : Memory) (u v : Value) → IsTame (pointers_ordered pred m u v)
ordered_tame pred m (At o d) (At p e) = order_tame _ _
ordered_tame pred m u v = refl

pub pointers_tame : (pred : Pred) (m : Memory) (u v : Value) → IsTame (pointers_compared pred m u v)
pointers_tame Eq m u v = equal_tame m u v
pointers_tame Ne m u v = then_tame (pointers_equal m u v) _ (equal_tame m u v) (λ same. tt)
pointers_tame Ult m u v = ordered_tame Ult m u v
pointers_tame Ule m u v = ordered_tame Ule m u v
pointers_tame Ugt m u v = ordered_tame Ugt m u v
pointers_tame Uge m u v = ordered_tame Uge m u v
pointers_tame Slt m u v = refl
pointers_tame Sle m u v = refl
pointers_tame Sgt m u v = refl
pointers_tame Sge m u v = refl

-- values of operations
pub compared_tame : (m : Memory) (pred : Pred) (kind : Kind) (u v : Value) → IsTame (compared_value m pred kind u v)
compared_tame m pred (Number w) (Num a x) (Num b y) = tt
compared_tame m pred Pointer u v = then_tame (pointers_compared pred m u v) _ (pointers_tame pred m u v) (λ holds. tt)
compared_tame m pred kind u v = refl

pub cast_tame : (op : CastOp) (from to : Kind) (v : Value) → IsTame (cast_value op from to v)
cast_tame op (Number from) (Number to) (Num w n) = tt
cast_tame op from to v = refl

pub selected_tame : (c u v : Value) → IsTame (selected c u v)
selected_tame (Num w n) u v = tt
selected_tame c u v = refl

-- memory
live_tame : (live inside : Bool) (r : Range) → IsTame (if live then (if inside then Ok r else Err (Left reason.Bounds)) else Err (Left reason.Dead))
live_tame true true r = tt
live_tame true false r = refl
live_tame false inside r = refl

range_tame : (o d count : ℕ) (x : Option Object0) → IsTame (range_of o d count x)
range_tame o d count None = refl
range_tame o d count (Some x) = live_tame x.live _ _

readable_tame : (m : Memory) (count : ℕ) (p : Value) → IsTame (readable_range m count p)
readable_tame m count (At o d) = range_tame o d count (slice_get m o)
readable_tame m count (Num w n) = refl
readable_tame m count Null = refl
readable_tame m count (Fun f) = refl

constant_tame : (constant : Bool) (r : Range) → IsTame (if constant then Err (Left reason.Constant) else Ok r)
constant_tame true r = refl
constant_tame false r = tt

writable_tame : (m : Memory) (count : ℕ) (p : Value) → IsTame (writable_range m count p)
writable_tame m count p = then_tame (readable_range m count p) unless_constant (readable_tame m count p) (λ r. constant_tame r.held.constant r)

number_tame : (w : Width) (ns : Option (List ℕ)) → IsTame (number_read w ns)
number_tame w (Some ns) = tt
number_tame w None = refl

mixed_tame : (b : Bool) (v : Value) → IsTame (if b then Ok v else Err (Left reason.Mixed))
mixed_tame true v = tt
mixed_tame false v = refl

pointer_tame : (cs : List Cell) → IsTame (pointer_read cs)
pointer_tame (Piece v k ∷ cs) = mixed_tame (same_cells (Piece v k ∷ cs) (pointer_cells v)) v
pointer_tame cs = mixed_tame (same_cells cs (cells_of Null)) Null

read_tame : (kind : Kind) (cs : List Cell) → IsTame (value_read kind cs)
read_tame NoValue cs = refl
read_tame (Number w) cs = number_tame w (numbers cs)
read_tame Pointer cs = pointer_tame cs

unset_tame : (b : Bool) (q : Answer Value) → IsTame q → IsTame (if b then Err (Left reason.Unset) else q)
unset_tame true q tame = refl
unset_tame false q tame = tame

pub load_tame : (m : Memory) (kind : Kind) (p : Value) → IsTame (load_at m kind p)
load_tame m kind p =
    then_tame (readable_range m (kind_size kind) p) (λ r. if any_unset (cells_at r (kind_size kind)) then Err (Left reason.Unset) else value_read kind (cells_at r (kind_size kind))) (readable_tame m (kind_size kind) p)
    (λ r. unset_tame (any_unset (cells_at r (kind_size kind))) (value_read kind (cells_at r (kind_size kind))) (read_tame kind (cells_at r (kind_size kind))))

pub store_tame : (m : Memory) (v p : Value) → IsTame (store_at m v p)
store_tame m v p = then_tame (writable_range m (length (cells_of v)) p) _ (writable_tame m (length (cells_of v)) p) (λ r. tt)

unless_none_tame : (none : Bool) (m : Memory) (q : Answer Memory) → IsTame q → IsTame (if none then Ok m else q)
unless_none_tame true m q tame = tt
unless_none_tame false m q tame = tame

pub filled_tame : (m : Memory) (p : Value) (byte count : ℕ) → IsTame (filled m p byte count)
filled_tame m p byte count = unless_none_tame (nat_eq count 0) m _ (then_tame (writable_range m count p) _ (writable_tame m count p) (λ r. tt))

overlap_tame : (b : Bool) (m : Memory) → IsTame (if b then Err (Left reason.Overlap) else Ok m)
overlap_tame true m = refl
overlap_tame false m = tt

pub copied_tame : (m : Memory) (to from : Value) (count : ℕ) → IsTame (copied m to from count)
copied_tame m to from count =
    unless_none_tame (nat_eq count 0) m _
    (then_tame (readable_range m count from) _ (readable_tame m count from)
    (λ a. then_tame (writable_range m count to) _ (writable_tame m count to) (λ b. overlap_tame (overlaps count a b) _)))
