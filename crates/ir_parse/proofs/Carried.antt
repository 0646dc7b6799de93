-- A fault inside a part is a fault of the whole.
use Rattle.std.proofs.Common.{◌≡◌, ℕ, Result, Ok, Err, sym, subst}
use Rattle.std.specs.Result.{IsErrAnd}
use Rattle.ir_grammar.specs.declared.cursor.Stop.{Stop}
use Rattle.ir_grammar.specs.declared.cursor.Stop.TheVariants as stop
use Rattle.ir_grammar.specs.Reading.{Read, fault, Gives}

-- reading stopped so
abbrev pub Stops : {A : Type 0} → Stop → Read A → Type 0
Stops s x = Gives {X = Unit {0}} (λ _. fault 0) (Err s) x

carried_stop : {Y A B : Type 0} (view : Y → Read B) (s : Stop) (x : Read A) (y : Read B) → Stops s x → ((left : ℕ) → x ≡ fault left → y ≡ fault left)
    → Gives view (Err s) y
carried_stop view (stop.Stray left) x y g f = f left g
carried_stop view stop.NoMemory x y g f = tt

pub carried : {Y A B : Type 0} (view : Y → Read B) (r : Result Y Stop) (s : Stop) (x : Read A) (y : Read B) → IsErrAnd r (λ e. e ≡ s) → Stops s x
    → ((left : ℕ) → x ≡ fault left → y ≡ fault left) → Gives view r y
carried view (Ok v) s x y k g f = absurd k
carried view (Err e) s x y k g f = subst (λ e. Gives view (Err e) y) (sym k) (carried_stop view s x y g f)
