-- Operands that fit a kind are values of it.
use Rattle.std.proofs.Common.{◌≡◌, ℕ, ◌+◌, ◌*◌, ◌-◌, ◌%◌, ◌^◌, ◌<◌, ◌≤◌, Bool, true, false, List, [], ◌∷◌, length, map, Option, Some, None, Ok, refl, ap, sym, ◌∙◌, subst, arith}
use Rattle.std.specs.Prelude.{◌&&◌, ◌||◌, ℤ, pos, nat_lt, option_map, is_some, if◌then◌else◌}
use Rattle.std.proofs.lemmas.Bool.{and_parts, ltb-true}
use Rattle.std.proofs.Math.Nat.{mod-lt, mod-eq_of_lt}
use Rattle.rd_num.specs.declared.width.Width.{Width}
use Rattle.rd_num.specs.declared.width.Width.TheVariants.{W1, W8, W16, W32, W64}
use Rattle.ir_core.specs.declared.ty.Ty.{Ty}
use Rattle.ir_core.specs.declared.operand.Operand.{Operand}
use Rattle.ir_core.specs.declared.operand.Operand.TheVariants.{Int, Bool as Truth, Null as NullWord, Undef, Poison, Local as LocalName, Global, Const}
use Rattle.ir_core.specs.declared.operand.Place0.{Place0}
use Rattle.ir_core.specs.declared.operand.Index0.{Index0}
use Rattle.ir_core.specs.declared.instruction.Arg.{Arg}
use Rattle.ir_core.specs.declared.module.Module.{Module}
use Rattle.ir_core.specs.declared.memory.Value.{Value}
use Rattle.ir_core.specs.declared.memory.Value.TheVariants.{Num, Null, At, Fun}
use Rattle.rd_num.specs.Number.{bits}
use Rattle.ir_core.specs.declared.memory.Reason.TheVariants.{Unset}
use Rattle.ir_core.specs.Names.{same_name, first_where}
use Rattle.ir_core.specs.Stops.{Left, Malformed, and_then, found_or}
use Rattle.ir_core.specs.declared.kind.Kind.{Kind}
use Rattle.ir_core.specs.declared.kind.Kind.TheVariants.{NoValue, Number, Pointer}
use Rattle.ir_core.specs.Kinds.{kind_of, same_kind, literal, signed_word, truth, zero_of}
use Rattle.ir_core.specs.Shapes.{shape_of}
use Rattle.ir_core.specs.State.{Local}
use Rattle.ir_core.specs.Operands.{local_value, global_number, function_number, named_value, int_value, index_word, bytes_to, literal_indices, constant_place, value_of, values_of}
use Rattle.ir_core.specs.Typing.{Env, is_value, is_index, has_kind, int_fits, literal_field, known_index, place_fits, operand_fits, arg_fits, kinds_of, leads_from}
use Rattle.std.specs.List.{list_all}
use Rattle.ir_core.proofs.Fits.{literal_fits}
use Rattle.ir_sound.specs.WellTyped.{Each, Properly, Present, IsOfKind, IsLocal}
use Rattle.ir_sound.proofs.AnswerLaws.{gives_more, then_gives}
use Rattle.ir_sound.proofs.Leads.{Agree, Exists, leads_part}
use Rattle.ir_sound.proofs.RowLaws.{number_below}
use Rattle.ir_sound.proofs.SameLaws.{has_kind_is, kind_is, name_is, not_true, some_is}

-- a local has a value of its kind, or none
pub local_gives : (x : Present) (env : Env) (kind : Kind) (locals : List Local) (name : List ℕ) → env name ≡ Some kind → Each (IsLocal x env) locals → Properly (IsOfKind x kind) (local_value locals name)
local_gives x env kind [] name known all = tt
local_gives x env kind (l ∷ ls) name known all = by_test (same_name l.name name) refl (local_gives x env kind ls name known all.1)
  where
    by_test : (b : Bool) → same_name l.name name ≡ b → Properly (IsOfKind x kind) (local_value ls name) → Properly (IsOfKind x kind) (found_or (Left Unset) (option_map (λ (k : Local). k.value) (if b then Some l else first_where (λ (k : Local). same_name k.name name) ls)))
    by_test true e go = subst (λ k. IsOfKind x k l.value) (some_is all.0.0 kind (sym all.0.1 ∙ ap env (name_is l.name name e) ∙ known)) all.0.2
    by_test false e go = go

-- a literal
int_gives : (x : Present) (kind : Kind) (n : ℤ) → int_fits kind n ≡ true → Properly (IsOfKind x kind) (int_value kind n)
int_gives x (Number w) n fits = (refl, literal_fits w n)
int_gives x Pointer n fits = not_true fits
int_gives x NoValue n fits = not_true fits

-- a truth value
pub truth_is : (x : Present) (b : Bool) → IsOfKind x (Number W1) (truth b)
truth_is x true = (refl, omega arith)
truth_is x false = (refl, omega arith)

-- a value of a width is a number
pub number_of : (x : Present) (w : Width) (v : Value) → IsOfKind x (Number w) v → (n : ℕ) × (v ≡ Num w n) × (n < 2 ^ bits w)
number_of x w (Num u n) is = (n, ap (λ k. Num k n) is.0, is.1)
number_of x w Null is = absurd is
number_of x w (At o d) is = absurd is
number_of x w (Fun f) is = absurd is

-- zeros
zero_gives : (x : Present) (kind : Kind) → is_value kind ≡ true → Properly (IsOfKind x kind) (zero_of kind)
zero_gives x (Number W1) fits = (refl, omega arith)
zero_gives x (Number W8) fits = (refl, omega arith)
zero_gives x (Number W16) fits = (refl, omega arith)
zero_gives x (Number W32) fits = (refl, omega arith)
zero_gives x (Number W64) fits = (refl, omega arith)
zero_gives x Pointer fits = tt
zero_gives x NoValue fits = not_true fits

-- the globals and functions of a module are there
pub record Covers (m : Module) (x : Present) : Type 0 where
  pub globals : length m.globals ≤ x.objects
  pub functions : x.functions ≡ length m.functions

-- a global or a function
named_gives : (x : Present) (g f : Option ℕ) → ((n : ℕ) → g ≡ Some n → n < x.objects) → ((n : ℕ) → f ≡ Some n → n < x.functions) → (is_some g || is_some f) ≡ true → Properly (IsOfKind x Pointer) (named_value g f)
named_gives x (Some g) f in_globals in_functions known = (in_globals g refl, omega arith)
named_gives x None (Some f) in_globals in_functions known = in_functions f refl
named_gives x None None in_globals in_functions known = not_true known

-- the number of a global is that of an object
pub global_below : (m : Module) (x : Present) → Covers m x → (name : List ℕ) (n : ℕ) → global_number m name ≡ Some n → n < x.objects
global_below m x c name n e = let h = number_below _ m.globals n e in let g = c.globals in omega arith

-- that of a function is one of the module's
pub function_below : (m : Module) (x : Present) → Covers m x → (name : List ℕ) (n : ℕ) → function_number m name ≡ Some n → n < x.functions
function_below m x c name n e = let h = number_below _ m.functions n e in let g = c.functions in omega arith

-- any answer that isn't malformed
abbrev pub Anything : {A : Type 0} → A → Type 0
Anything a = Unit {0}

-- what is known of an index is so of its word
abbrev pub AgreesOne : Option ℕ → ℕ → Type 0
AgreesOne (Some k) n = n ≡ k
AgreesOne None n = Unit {0}

-- and of one in front of others
pub agree_with : (k : Option ℕ) (ks : List (Option ℕ)) (n : ℕ) (ns : List ℕ) → AgreesOne k n → Agree ks ns → Agree (k ∷ ks) (n ∷ ns)
agree_with (Some k) ks n ns one all = (one, all)
agree_with None ks n ns one all = all

-- the others agree
agree_rest : (k : Option ℕ) (ks : List (Option ℕ)) (n : ℕ) (ns : List ℕ) → Agree (k ∷ ks) (n ∷ ns) → Agree ks ns
agree_rest (Some k) ks n ns all = all.1
agree_rest None ks n ns all = all

-- a literal of 32 bits that isn't below zero is read as it stands
pub word_agrees : (w : Width) (n : ℤ) → AgreesOne (literal_field (Number w) n) (signed_word w (literal w n))
word_agrees W32 (pos k) = by_test (nat_lt k (2 ^ 31)) refl
  where
    by_test : (b : Bool) → nat_lt k (2 ^ 31) ≡ b → AgreesOne (if b then Some k else None) (signed_word W32 (k % 2 ^ 32))
    by_test false e = tt
    by_test true e =
        let below = ltb-true k (2 ^ 31) e in
        let same : k % 2 ^ 32 ≡ k = mod-eq_of_lt (omega arith) in
        ap (λ n. signed_word W32 n) same ∙ ap (λ b. if b then k else (k + (2 ^ 64 - 2 ^ 32))) e
word_agrees w n = tt

-- the word of a literal
pub literal_gives : (kind : Kind) (n : ℤ) → is_index kind ≡ true → Properly (λ v. Properly (AgreesOne (literal_field kind n)) (index_word v)) (int_value kind n)
literal_gives (Number w) n index = word_agrees w n
literal_gives NoValue n index = not_true index
literal_gives Pointer n index = not_true index

-- the indices of a constant place
literals_give : (is : List Index0) → list_all (λ (i : Index0). is_index (kind_of i.ty) && int_fits (kind_of i.ty) i.value) is ≡ true → Properly (Agree (map known_index is)) (literal_indices is)
literals_give [] fits = tt
literals_give (i ∷ is) fits =
    let parts = and_parts (is_index (kind_of i.ty) && int_fits (kind_of i.ty) i.value) (list_all (λ (j : Index0). is_index (kind_of j.ty) && int_fits (kind_of j.ty) j.value) is) fits in
    let index = (and_parts (is_index (kind_of i.ty)) (int_fits (kind_of i.ty) i.value) parts.0).0 in
    let A : List ℕ → Type 0 = Agree (map known_index (i ∷ is)) in
    then_gives (λ v. Properly (AgreesOne (known_index i)) (index_word v)) A (int_value (kind_of i.ty) i.value) (λ v. and_then (index_word v) (λ n. and_then (literal_indices is) (λ ns. Ok (n ∷ ns))))
    (literal_gives (kind_of i.ty) i.value index)
    (λ v p. then_gives (AgreesOne (known_index i)) A (index_word v) (λ n. and_then (literal_indices is) (λ ns. Ok (n ∷ ns))) p
    (λ n q. then_gives (Agree (map known_index is)) A (literal_indices is) (λ ns. Ok (n ∷ ns)) (literals_give is parts.1)
    (λ ns r. agree_with (known_index i) (map known_index is) n ns q r)))

-- something that is there is found
exists_gives : {A : Type 0} (o : Option A) → Exists o → Properly Anything (found_or Malformed o)
exists_gives (Some a) e = tt
exists_gives None e = absurd e

-- also after a change
exists_map : {A B : Type 0} (f : A → B) (o : Option A) → Exists o → Exists (option_map f o)
exists_map f (Some x) e = tt
exists_map f None e = e

-- how far indices lead
pub bytes_give : (m : Module) (ty : Ty) (known : List (Option ℕ)) (ns : List ℕ) → Agree known ns → leads_from m.types ty known ≡ true → Properly Anything (bytes_to m ty ns)
bytes_give m ty [] [] agree e = tt
bytes_give m ty [] (n ∷ ns) agree e = absurd agree
bytes_give m ty (Some k ∷ ks) [] agree e = absurd agree
bytes_give m ty (None ∷ ks) [] agree e = absurd agree
bytes_give m ty (k ∷ ks) (n ∷ ns) agree e =
    exists_gives (option_map (λ at. n * (shape_of m.types ty).size + at) ((shape_of m.types ty).part ns))
    (exists_map (λ at. n * (shape_of m.types ty).size + at) ((shape_of m.types ty).part ns) (leads_part m.types ty ks ns (agree_rest k ks n ns agree) e))

-- what is there
present_gives : {A : Type 0} (P : A → Type 0) (o : Option A) → is_some o ≡ true → ((a : A) → o ≡ Some a → P a) → Properly P (found_or Malformed o)
present_gives P (Some a) e has = has a refl
present_gives P None e has = not_true e

-- a constant place
place_gives : (m : Module) (x : Present) → Covers m x → (p : Place0) → place_fits m p ≡ true → Properly (IsOfKind x Pointer) (constant_place m p)
place_gives m x c p fits =
    let indices = list_all (λ (i : Index0). is_index (kind_of i.ty) && int_fits (kind_of i.ty) i.value) p.indices in
    let parts = and_parts (is_some (global_number m p.base)) (indices && leads_from m.types p.source (map known_index p.indices)) fits in
    let both = and_parts indices (leads_from m.types p.source (map known_index p.indices)) parts.1 in
    let K : Value → Type 0 = IsOfKind x Pointer in
    then_gives (λ g. g < x.objects) K (found_or Malformed (global_number m p.base)) (λ g. and_then (literal_indices p.indices) (λ is. and_then (bytes_to m p.source is) (λ by. Ok (At g (by % 2 ^ 64)))))
    (present_gives (λ g. g < x.objects) (global_number m p.base) parts.0 (global_below m x c p.base))
    (λ g q. then_gives (Agree (map known_index p.indices)) K (literal_indices p.indices) (λ is. and_then (bytes_to m p.source is) (λ by. Ok (At g (by % 2 ^ 64)))) (literals_give p.indices both.0)
    (λ is r. then_gives Anything K (bytes_to m p.source is) (λ by. Ok (At g (by % 2 ^ 64))) (bytes_give m p.source (map known_index p.indices) is r both.1)
    (λ by t. (q, mod-lt by (let l : 0 < 2 ^ 64 = omega arith in l)))))

-- an operand that fits has a value of the kind, unless it is a local without one
pub value_gives : (m : Module) (x : Present) (env : Env) (locals : List Local) → Covers m x → Each (IsLocal x env) locals → (kind : Kind) (a : Operand) → operand_fits m env kind a ≡ true → Properly (IsOfKind x kind) (value_of m locals kind a)
value_gives m x env locals c all kind (Int n) fits = int_gives x kind n fits
value_gives m x env locals c all kind (Truth b) fits = subst (λ k. IsOfKind x k (truth b)) (sym (kind_is kind (Number W1) fits)) (truth_is x b)
value_gives m x env locals c all kind NullWord fits = subst (λ k. IsOfKind x k Null) (sym (kind_is kind Pointer fits)) tt
value_gives m x env locals c all kind Undef fits = zero_gives x kind fits
value_gives m x env locals c all kind Poison fits = zero_gives x kind fits
value_gives m x env locals c all kind (LocalName name) fits =
    local_gives x env kind locals name (has_kind_is (env name) kind (and_parts (is_value kind) (has_kind (env name) kind) fits).1) all
value_gives m x env locals c all kind (Global name) fits =
    let parts = and_parts (same_kind kind Pointer) (is_some (global_number m name) || is_some (function_number m name)) fits in
    subst (λ k. Properly (IsOfKind x k) (named_value (global_number m name) (function_number m name))) (sym (kind_is kind Pointer parts.0))
    (named_gives x (global_number m name) (function_number m name) (global_below m x c name) (function_below m x c name) parts.1)
value_gives m x env locals c all kind (Const p) fits =
    let parts = and_parts (same_kind kind Pointer) (place_fits m p) fits in
    subst (λ k. Properly (IsOfKind x k) (constant_place m p)) (sym (kind_is kind Pointer parts.0)) (place_gives m x c p parts.1)

-- two rows, one beside the other
abbrev pub Beside : {A B : Type 0} → (A → B → Type 0) → List A → List B → Type 0
Beside R [] [] = Unit {0}
Beside R (a ∷ as') (b ∷ bs) = R a b × Beside R as' bs
Beside R [] (b ∷ bs) = ⊥
Beside R (a ∷ as') [] = ⊥

-- arguments, each with a property
pub values_give : (m : Module) (locals : List Local) (R : Arg → Value → Type 0) (test : Arg → Bool) → ((a : Arg) → test a ≡ true → Properly (R a) (value_of m locals (kind_of a.ty) a.value)) → (args : List Arg) → list_all test args ≡ true → Properly (Beside R args) (values_of m locals args)
values_give m locals R test one [] fits = tt
values_give m locals R test one (a ∷ args) fits =
    let parts = and_parts (test a) (list_all test args) fits in
    then_gives (R a) (Beside R (a ∷ args)) (value_of m locals (kind_of a.ty) a.value) (λ v. and_then (values_of m locals args) (λ vs. Ok (v ∷ vs))) (one a parts.0)
    (λ v p. then_gives (Beside R args) (Beside R (a ∷ args)) (values_of m locals args) (λ vs. Ok (v ∷ vs)) (values_give m locals R test one args parts.1) (λ vs q. (p, q)))

-- values of kinds
abbrev pub AreOfKinds : Present → List Kind → List Value → Type 0
AreOfKinds x ks vs = Beside (IsOfKind x) ks vs

-- arguments are values of their kinds
pub args_give : (m : Module) (x : Present) (env : Env) (locals : List Local) → Covers m x → Each (IsLocal x env) locals → (args : List Arg) → list_all (arg_fits m env) args ≡ true → Properly (AreOfKinds x (kinds_of args)) (values_of m locals args)
args_give m x env locals c all args fits =
    gives_more (Beside (λ (a : Arg) v. IsOfKind x (kind_of a.ty) v) args) (AreOfKinds x (kinds_of args)) (values_of m locals args)
    (values_give m locals (λ (a : Arg) v. IsOfKind x (kind_of a.ty) v) (arg_fits m env)
    (λ a fit. value_gives m x env locals c all (kind_of a.ty) a.value (and_parts (is_value (kind_of a.ty)) (operand_fits m env (kind_of a.ty) a.value) fit).1) args fits)
    (by_kind args)
  where
    by_kind : (bs : List Arg) (vs : List Value) → Beside (λ (a : Arg) v. IsOfKind x (kind_of a.ty) v) bs vs → AreOfKinds x (kinds_of bs) vs
    by_kind [] [] p = tt
    by_kind (b ∷ bs) (v ∷ vs) p = (p.0, by_kind bs vs p.1)
    by_kind [] (v ∷ vs) p = absurd p
    by_kind (b ∷ bs) [] p = absurd p
