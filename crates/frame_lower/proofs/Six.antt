-- Six registers one after another, as far as there are arguments or parameters for them.
use Rattle.std.proofs.Common.{◌≡◌, ℕ, List, [], ◌∷◌, drop, refl}
use Rattle.x86_core.specs.declared.reg.Reg.{Reg}
use Rattle.x86_core.specs.declared.reg.Reg.TheVariants.{Rdi, Rsi, Rdx, Rcx, R8, R9}
use Rattle.frame_rows.specs.declared.spot.Spot.{Spot}
use Rattle.obj_rows.specs.Marked.{all_unlinked}
use Rattle.frame_lower.specs.declared.code.Code.{Code}
use Rattle.frame_lower.specs.Calls.{argument_registers, into_registers, from_registers}
use Rattle.frame_lower.specs.Writing.{with_row}

-- what one register gets of those that are left
abbrev pub got : (ℕ → Spot) → Reg → List ℕ → Code → Code
got homes t args c = with_row (all_unlinked (into_registers homes (t ∷ []) args)) c

abbrev pub gave : (ℕ → Spot) → Reg → List ℕ → Code → Code
gave homes t params c = with_row (all_unlinked (from_registers homes (t ∷ []) params)) c

pub six_got : (homes : ℕ → Spot) (args : List ℕ) (c : Code) →
    got homes R9 (drop 5 args) (got homes R8 (drop 4 args) (got homes Rcx (drop 3 args) (got homes Rdx (drop 2 args) (got homes Rsi (drop 1 args) (got homes Rdi (drop 0 args) c)))))
    ≡ with_row (all_unlinked (into_registers homes argument_registers args)) c
six_got homes [] c = refl
six_got homes (a1 ∷ []) c = refl
six_got homes (a1 ∷ a2 ∷ []) c = refl
six_got homes (a1 ∷ a2 ∷ a3 ∷ []) c = refl
six_got homes (a1 ∷ a2 ∷ a3 ∷ a4 ∷ []) c = refl
six_got homes (a1 ∷ a2 ∷ a3 ∷ a4 ∷ a5 ∷ []) c = refl
six_got homes (a1 ∷ a2 ∷ a3 ∷ a4 ∷ a5 ∷ a6 ∷ others) c = refl

pub six_gave : (homes : ℕ → Spot) (params : List ℕ) (c : Code) →
    gave homes R9 (drop 5 params) (gave homes R8 (drop 4 params) (gave homes Rcx (drop 3 params) (gave homes Rdx (drop 2 params) (gave homes Rsi (drop 1 params) (gave homes Rdi (drop 0 params) c)))))
    ≡ with_row (all_unlinked (from_registers homes argument_registers params)) c
six_gave homes [] c = refl
six_gave homes (a1 ∷ []) c = refl
six_gave homes (a1 ∷ a2 ∷ []) c = refl
six_gave homes (a1 ∷ a2 ∷ a3 ∷ []) c = refl
six_gave homes (a1 ∷ a2 ∷ a3 ∷ a4 ∷ []) c = refl
six_gave homes (a1 ∷ a2 ∷ a3 ∷ a4 ∷ a5 ∷ []) c = refl
six_gave homes (a1 ∷ a2 ∷ a3 ∷ a4 ∷ a5 ∷ a6 ∷ others) c = refl
