-- An edge that isn't taken leaves the meaning: a value that is missing, or a module that isn't valid.
use Rattle.std.proofs.Common.{◌≡◌, ℕ, true, List, [], ◌∷◌, Option, Some, None, Ok, Err, refl}
use Rattle.behavior.specs.Ending.{is_left}
use Rattle.ir_core.specs.declared.operand.Operand.{Operand}
use Rattle.ir_core.specs.declared.operand.Operand.TheVariants.{Int, Bool as Truth, Null as NullWord, Undef, Poison, Local as LocalName, Global, Const}
use Rattle.ir_core.specs.declared.operand.Place0.{Place0}
use Rattle.ir_core.specs.declared.operand.Index0.{Index0}
use Rattle.ir_core.specs.declared.instruction.Entry.{Entry}
use Rattle.ir_core.specs.declared.ty.Ty.{Ty}
use Rattle.ir_core.specs.declared.module.Module.{Module}
use Rattle.ir_core.specs.declared.memory.Value.{Value}
use Rattle.ir_core.specs.declared.memory.Value.TheVariants.{Num, Null, At, Fun}
use Rattle.std.specs.Prelude.{ℤ}
use Rattle.ir_core.specs.declared.memory.Reason.TheVariants.{Unset}
use Rattle.ir_core.specs.Stops.{Left, Malformed, ending_of, Answer, and_then, found_or}
use Rattle.ir_core.specs.declared.kind.Kind.{Kind}
use Rattle.ir_core.specs.declared.kind.Kind.TheVariants.{NoValue, Number, Pointer}
use Rattle.ir_core.specs.Kinds.{kind_of, zero_of}
use Rattle.ir_core.specs.State.{Local}
use Rattle.ir_core.specs.Operands.{named_value, int_value, index_word, bytes_to, literal_indices, constant_place, value_of, global_number, function_number}
use Rattle.ir_core.specs.Step.{Choice, chosen, given_at_once}
use Rattle.ir_core.specs.Names.{same_name, first_where}

-- a stop of this answer leaves the meaning
abbrev pub Lefts : {A : Type 0} → Answer A → Type 0
Lefts (Ok a) = Unit {0}
Lefts (Err stop) = is_left (ending_of stop) ≡ true

pub then_lefts : {A B : Type 0} (a : Answer A) (rest : A → Answer B) → Lefts a → ((x : A) → Lefts (rest x)) → Lefts (and_then a rest)
then_lefts (Ok x) rest l go = go x
then_lefts (Err stop) rest l go = l

pub found_lefts : {A : Type 0} (o : Option A) → Lefts (found_or Malformed o)
found_lefts (Some x) = tt
found_lefts None = refl

unset_lefts : (o : Option Value) → Lefts (found_or (Left Unset) o)
unset_lefts (Some x) = tt
unset_lefts None = refl

named_lefts : (g f : Option ℕ) → Lefts (named_value g f)
named_lefts (Some g) f = tt
named_lefts None (Some f) = tt
named_lefts None None = refl

zero_lefts : (kind : Kind) → Lefts (zero_of kind)
zero_lefts NoValue = refl
zero_lefts (Number w) = tt
zero_lefts Pointer = tt

int_lefts : (kind : Kind) (n : ℤ) → Lefts (int_value kind n)
int_lefts NoValue n = refl
int_lefts (Number w) n = tt
int_lefts Pointer n = refl

word_lefts : (v : Value) → Lefts (index_word v)
word_lefts (Num w n) = tt
word_lefts Null = refl
word_lefts (At o d) = refl
word_lefts (Fun f) = refl

indices_lefts : (is : List Index0) → Lefts (literal_indices is)
indices_lefts [] = tt
indices_lefts (i ∷ is) =
    then_lefts (int_value (kind_of i.ty) i.value) _ (int_lefts (kind_of i.ty) i.value)
    (λ v. then_lefts (index_word v) _ (word_lefts v) (λ n. then_lefts (literal_indices is) _ (indices_lefts is) (λ ns. tt)))

bytes_lefts : (m : Module) (source : Ty) (ns : List ℕ) → Lefts (bytes_to m source ns)
bytes_lefts m source [] = tt
bytes_lefts m source (n ∷ ns) = found_lefts _

place_lefts : (m : Module) (p : Place0) → Lefts (constant_place m p)
place_lefts m p =
    then_lefts (found_or Malformed (global_number m p.base)) _ (found_lefts (global_number m p.base))
    (λ g. then_lefts (literal_indices p.indices) _ (indices_lefts p.indices) (λ is. then_lefts (bytes_to m p.source is) _ (bytes_lefts m p.source is) (λ by. tt)))

pub value_lefts : (m : Module) (locals : List Local) (kind : Kind) (a : Operand) → Lefts (value_of m locals kind a)
value_lefts m locals kind (Int n) = int_lefts kind n
value_lefts m locals kind (Truth b) = tt
value_lefts m locals kind NullWord = tt
value_lefts m locals kind Undef = zero_lefts kind
value_lefts m locals kind Poison = zero_lefts kind
value_lefts m locals kind (LocalName name) = unset_lefts _
value_lefts m locals kind (Global name) = named_lefts (global_number m name) (function_number m name)
value_lefts m locals kind (Const place) = place_lefts m place

pub given_lefts : (m : Module) (locals : List Local) (from : List ℕ) (cs : List Choice) → Lefts (given_at_once m locals from cs)
given_lefts m locals from [] = tt
given_lefts m locals from (c ∷ cs) =
    then_lefts (chosen m locals from c) _ (then_lefts (found_or Malformed (first_where (λ (e : Entry). same_name e.from from) c.entries)) _ (found_lefts _) (λ e. value_lefts m locals c.kind e.value))
    (λ v. then_lefts (given_at_once m locals from cs) _ (given_lefts m locals from cs) (λ more. tt))
