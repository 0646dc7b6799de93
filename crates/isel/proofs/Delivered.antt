-- A result that goes to a local where that has a name, and to its register: the register holds the result's word then.
use Rattle.std.proofs.Common.{◌≡◌, ℕ, ◌+◌, ◌<◌, ◌≤◌, Bool, List, length, Option, Some, None, slice_get, refl, ap, sym, ◌∙◌, subst, arith}
use Rattle.ir_core.specs.declared.memory.Value.{Value}
use Rattle.ir_core.specs.State.{Local, with_local}
use Rattle.ir_core.specs.Valid.{LocalKind, named_locals}
use Rattle.ir_context.specs.Registers.{number_of}
use Rattle.low_core.specs.Contents.{Addresses, word_of}
use Rattle.low_core.specs.Bridge.{IsKnown}
use Rattle.low_core.specs.SelState.{with_register}
use Rattle.low_core.specs.SelStep.{with_result}
use Rattle.flat_memory.proofs.Lists.{get_set_same, get_set_other, length_set}
use Rattle.isel_rows.specs.Calls.{register_into}
use Rattle.isel_rows.specs.Rows.{register_or_idle, result_register}
use Rattle.isel.proofs.Beside.{Holds}
use Rattle.isel.proofs.Holding.{holds_given}

-- there are as many registers as before
pub count_result : (r : Option ℕ) (word : ℕ) (registers : List (Option ℕ)) → length (with_result r word registers) ≡ length registers
count_result (Some r) word registers = length_set registers r (Some word)
count_result None word registers = refl

-- a local that takes a value is a variable
abbrev pub IsVariableOf : List LocalKind → Option (List ℕ) → Type 0
IsVariableOf vs into = (name : List ℕ) → into ≡ Some name → (k : ℕ) × (number_of (named_locals vs) name ≡ Some k) × (k < length vs)

-- variables hold their values once a result was delivered
pub holds_result : (objects : ℕ) (taken : List Bool) (at : Addresses) (vs : List LocalKind) (locals : List Local) (registers : List (Option ℕ)) (into : Option (List ℕ)) (v : Value)
    → Holds objects taken at (named_locals vs) locals registers → IsVariableOf vs into → length vs + 8 ≤ length registers → IsKnown objects taken v
    → Holds objects taken at (named_locals vs) (with_local into v locals) (with_result (register_into vs into) (word_of at v) registers)
holds_result objects taken at vs locals registers None v x variable room known = x
holds_result objects taken at vs locals registers (Some name) v x variable room known =
    let k : ℕ = (variable name refl).0 in
    let number : number_of (named_locals vs) name ≡ Some k = (variable name refl).1 in
    let low : k < length vs = (variable name refl).2 in
    let is : result_register vs (Some name) ≡ k = ap (register_or_idle vs) number in
    let word : ℕ = word_of at v in
    subst (λ o. Holds objects taken at (named_locals vs) (with_local (Some name) v locals) (with_result o word registers)) (sym number)
    (holds_given objects taken at vs locals registers (with_register registers k word) (Some name) v x variable
    (ap (slice_get (with_register registers k word)) is ∙ get_set_same registers k (Some word) (omega (arith, low, room)))
    (λ j u other e. get_set_other registers k j (Some word) (λ same. other (sym same ∙ sym is)) ∙ x.words j u e) known)
