-- A call of a function begins with its parameters bound.
use Rattle.std.proofs.Common.{◌≡◌, ◌≤◌, ℕ, suc, ◌+◌, ◌-◌, Bool, true, false, List, [], ◌∷◌, ◌++◌, Option, Some, None, length, map, replicate, refl, ap, sym, ◌∙◌, arith, subst, length-append}
use Rattle.std.specs.Prelude.{option_map, option_and_then, if◌then◌else◌}
use Rattle.std.proofs.lemmas.List.{length-replicate, length-map}
use Rattle.std.proofs.lemmas.Bool.{and_parts}
use Rattle.ir_core.specs.declared.module.Param.{Param}
use Rattle.ir_core.specs.declared.module.Function.{Function}
use Rattle.ir_core.specs.declared.memory.Value.{Value}
use Rattle.ir_core.specs.Names.{same_name, first_where}
use Rattle.ir_core.specs.declared.kind.Kind.{Kind}
use Rattle.ir_core.specs.Kinds.{same_kind, kind_of}
use Rattle.ir_core.specs.State.{Local}
use Rattle.ir_core.specs.Calls.{bound, same_kinds, is_called_as}
use Rattle.ir_core.specs.Valid.{LocalKind, param_kind, results_of, named_locals}
use Rattle.ir_context.specs.Registers.{StandFor, register, given, number_of}
use Rattle.ir_context.proofs.RegisterLaws.{stands_first}
use Rattle.ir_program.specs.Programs.{register_names}

-- the registers with which a call begins
abbrev pub first_registers : ℕ → List Value → List (Option Value)
first_registers count values = map Some values ++ replicate (count - length values) None

-- one parameter in front of others
one_bound : (p : Param) (v : Value) (ps : List Param) (more : List (List ℕ)) (vs : List Value) (k : ℕ) (q : List ℕ) (b : Bool) (o : Option ℕ)
    → given (bound ps vs) q ≡ option_and_then (register (map Some vs ++ replicate k None)) o
    → option_map (λ (l : Local). l.value) (if b then Some (record { name = p.name; value = v }) else first_where (λ (l : Local). same_name l.name q) (bound ps vs))
    ≡ option_and_then (register (Some v ∷ (map Some vs ++ replicate k None))) (if b then Some 0 else option_map (λ n. suc n) o)
one_bound p v ps more vs k q true o is = refl
one_bound p v ps more vs k q false None is = is
one_bound p v ps more vs k q false (Some i) is = is

-- parameters that have values
bound_stands : (params : List Param) (more : List (List ℕ)) (values : List Value) (k : ℕ) → length values ≤ length params
    → StandFor (map (λ (p : Param). p.name) params ++ more) (map Some values ++ replicate k None) (bound params values)
bound_stands [] more [] k few = stands_first more k
bound_stands [] more (v ∷ vs) k few = absurd (omega arith)
bound_stands (p ∷ ps) more [] k few = stands_first (map (λ (q : Param). q.name) (p ∷ ps) ++ more) k
bound_stands (p ∷ ps) more (v ∷ vs) k few =
    λ (q : List ℕ). one_bound p v ps more vs k q (same_name p.name q) (number_of (map (λ (p : Param). p.name) ps ++ more) q) (bound_stands ps more vs k (omega arith) q)

-- the parameters come first
names_split : (params : List Param) (rest : List LocalKind) → named_locals (map param_kind params ++ rest) ≡ map (λ (p : Param). p.name) params ++ named_locals rest
names_split [] rest = refl
names_split (p ∷ ps) rest = ap (λ ns. p.name ∷ ns) (names_split ps rest)

-- rows that are the same are of one length
pub as_many : (js ks : List Kind) → same_kinds js ks ≡ true → length js ≡ length ks
as_many [] [] e = refl
as_many [] (k ∷ ks) e = absurd (cc)
as_many (j ∷ js) [] e = absurd (cc)
as_many (j ∷ js) (k ∷ ks) e = ap (λ n. suc n) (as_many js ks (and_parts (same_kind j k) (same_kinds js ks) e).1)

-- a function that is called as it is has as many parameters as there are arguments
pub parameters_are : (f : Function) (ret : Kind) (kinds : List Kind) → is_called_as f ret kinds ≡ true → length f.params ≡ length kinds
parameters_are f ret kinds e = sym (length-map f.params (λ (p : Param). kind_of p.ty)) ∙ as_many (map (λ (p : Param). kind_of p.ty) f.params) kinds (and_parts (same_kind (kind_of f.ret) ret) (same_kinds (map (λ (p : Param). kind_of p.ty) f.params) kinds) e).1

-- the first registers of a call
pub entered_stands : (f : Function) (values : List Value) → length values ≤ length f.params
    → StandFor (register_names f) (first_registers (length (register_names f)) values) (bound f.params values)
entered_stands f values few =
    let P : List (List ℕ) → Type 0 = λ names. StandFor names (first_registers (length (register_names f)) values) (bound f.params values) in
    subst P (sym (names_split f.params (results_of f.blocks))) (bound_stands f.params (named_locals (results_of f.blocks)) values (length (register_names f) - length values) few)

pub entered_long : (f : Function) (values : List Value) → length values ≤ length f.params → length (first_registers (length (register_names f)) values) ≡ length (register_names f)
entered_long f values few =
    let all : length (register_names f) ≡ length (map (λ (p : Param). p.name) f.params ++ named_locals (results_of f.blocks)) = ap length (names_split f.params (results_of f.blocks)) in
    let parts : length (map (λ (p : Param). p.name) f.params ++ named_locals (results_of f.blocks)) ≡ length (map (λ (p : Param). p.name) f.params) + length (named_locals (results_of f.blocks)) = length-append (map (λ (p : Param). p.name) f.params) (named_locals (results_of f.blocks)) in
    let params : length (map (λ (p : Param). p.name) f.params) ≡ length f.params = length-map f.params (λ (p : Param). p.name) in
    let made : length (first_registers (length (register_names f)) values) ≡ length (map Some values) + length (replicate (length (register_names f) - length values) None) = length-append (map Some values) (replicate (length (register_names f) - length values) None) in
    let given_many : length (map Some values) ≡ length values = length-map values (λ (v : Value). Some v) in
    let empty_many : length (replicate (length (register_names f) - length values) None) ≡ length (register_names f) - length values = length-replicate {A = Option Value} (length (register_names f) - length values) None in
    omega arith
