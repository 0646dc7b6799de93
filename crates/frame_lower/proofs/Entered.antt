-- What a call does in a program of registers: the function that is called, by its number or by its address.
use Rattle.std.proofs.Common.{◌≡◌, ℕ, suc, ◌+◌, ◌*◌, Bool, true, false, ◌&&◌, nat_eq, if◌then◌else◌, List, [], ◌∷◌, length, Option, Some, None, Err, refl, ◌∙◌, ap, subst, arith}
use Rattle.std.specs.Prelude.{slice_get, option_map}
use Rattle.std.proofs.lemmas.Bool.{and_parts, eq-eqb, eqb-true, ne_eqb}
use Rattle.std.proofs.lemmas.Option.{slice_get_within, slice_get-get_or}
use Rattle.ir_core.specs.Stops.{Answer, Malformed, and_then, found_or}
use Rattle.ir_core.specs.Stops as stop
use Rattle.low_core.specs.declared.sel.SelFun.{SelFun}
use Rattle.low_core.specs.declared.sel.Sel.{Sel}
use Rattle.low_core.specs.Plan.{FramePlan, Plan, Content}
use Rattle.low_core.specs.SelState.{SelFrame, SelState, SelTurn, first_sel_frame}
use Rattle.low_core.specs.SelStep.{begins, enters, function_at}
use Rattle.obj_core.specs.declared.object.Object.{Object}
use Rattle.frame_lower.specs.Chain.{no_function, function_in}
use Rattle.frame_lower.specs.Frames.{kept_bytes}
use Rattle.frame_lower.specs.Rows.{Making}
use Rattle.frame_lower.specs.Suits.{Suits}

-- a function that has an address is taken
pub address_taken : (at : ℕ) (taken : List Bool) (places : List ℕ) (g : ℕ) → function_at at taken places ≡ Some g → (slice_get taken g ≡ Some true) × (slice_get places g ≡ Some at)
address_taken at [] places g e = absurd (cc)
address_taken at (t ∷ ts) [] g e = absurd (cc)
address_taken at (t ∷ ts) (p ∷ ps) g e = by_test (t && nat_eq p at) refl (λ j h. address_taken at ts ps j h) e
  where
    others : (o : Option ℕ) (k : ℕ) → ((j : ℕ) → function_at at ts ps ≡ Some j → (slice_get ts j ≡ Some true) × (slice_get ps j ≡ Some at)) → function_at at ts ps ≡ o → option_map suc o ≡ Some k →
        (slice_get (t ∷ ts) k ≡ Some true) × (slice_get (p ∷ ps) k ≡ Some at)
    others None k below f e = absurd (cc)
    others (Some j) k below f e =
        let same : suc j ≡ k = cc in
        let h = below j f in
        (subst (λ i. slice_get (t ∷ ts) i ≡ Some true) same h.0, subst (λ i. slice_get (p ∷ ps) i ≡ Some at) same h.1)

    by_test : (b : Bool) → (t && nat_eq p at) ≡ b → ((j : ℕ) → function_at at ts ps ≡ Some j → (slice_get ts j ≡ Some true) × (slice_get ps j ≡ Some at)) → (if b then Some 0 else option_map suc (function_at at ts ps)) ≡ Some g →
        (slice_get (t ∷ ts) g ≡ Some true) × (slice_get (p ∷ ps) g ≡ Some at)
    by_test true both below e =
        let zero_is : 0 ≡ g = cc in
        let x = and_parts t (nat_eq p at) both in
        let same : p ≡ at = eqb-true p at x.1 in
        (subst (λ i. slice_get (t ∷ ts) i ≡ Some true) zero_is (ap Some x.0), subst (λ i. slice_get (p ∷ ps) i ≡ Some at) zero_is (ap Some same))
    by_test false other below e = others (function_at at ts ps) g below refl e

module _ (o : Object) (sel : Sel) (plan : Plan) (contents : List Content) (by : ℕ → Making) (live : ℕ → ℕ → ℕ → ℕ → Type 0) (suits : Suits o sel plan contents by live) where
  -- its frame
  abbrev pub planned : ℕ → FramePlan
  planned g = record { bytes = (by g).room + kept_bytes; allocas = 8 * (by g).words }

  -- a function that is taken is one of the program's
  pub taken_is : (g : ℕ) → slice_get sel.taken g ≡ Some true → slice_get sel.functions g ≡ Some (function_in sel g)
  taken_is g taken =
      let inside = slice_get_within sel.taken g true taken in
      let told = suits.is_sel.told in
      slice_get-get_or sel.functions g no_function (omega (arith, inside, told))

  module _ (s : SelState) (f : SelFrame) (callers : List SelFrame) (into : Option ℕ) (ns : List ℕ) (g : ℕ) (is_callee : slice_get sel.functions g ≡ Some (function_in sel g)) where
    abbrev new : SelFrame
    new = first_sel_frame g (function_in sel g) (planned g) f.base ns into

    found : (wrong : stop.Stop) → enters wrong sel plan s f callers into ns g ≡ (if nat_eq (length (function_in sel g).params) (length ns) then begins s f callers new else Err wrong)
    found wrong =
        let go : SelFun → FramePlan → Answer SelTurn = λ fn p. if nat_eq (length fn.params) (length ns) then begins s f callers (first_sel_frame g fn p f.base ns into) else Err wrong in
        ap (λ q. and_then (found_or Malformed q) (λ fn. and_then (found_or Malformed (slice_get plan.frames g)) (go fn))) is_callee ∙
        ap (λ q. and_then (found_or Malformed q) (go (function_in sel g))) (suits.frames g (function_in sel g) is_callee)

    -- with as many arguments as it has parameters it begins
    pub enters_is : (wrong : stop.Stop) → length (function_in sel g).params ≡ length ns → enters wrong sel plan s f callers into ns g ≡ begins s f callers new
    enters_is wrong same = found wrong ∙ ap (λ b. if b then begins s f callers new else Err wrong) (eq-eqb (length (function_in sel g).params) (length ns) same)

    -- with another number it doesn't
    pub enters_not : (wrong : stop.Stop) → (length (function_in sel g).params ≡ length ns → ⊥) → enters wrong sel plan s f callers into ns g ≡ Err wrong
    enters_not wrong other = found wrong ∙ ap (λ b. if b then begins s f callers new else Err wrong) (ne_eqb (length (function_in sel g).params) (length ns) other)
