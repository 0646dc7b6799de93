-- The function with which a run begins is selected so that it gives a result.
use Rattle.std.proofs.Common.{◌≡◌, ℕ, ◌+◌, Bool, true, false, List, [], ◌∷◌, length, map, Option, Some, None, slice_get, refl, ap, sym, ◌∙◌, subst, inl, inr, ◌⊎◌}
use Rattle.std.specs.Prelude.{◌||◌, codes, option_and_then}
use Rattle.std.proofs.lemmas.Bool.{and_parts}
use Rattle.rd_num.specs.declared.width.Width.TheVariants.{W32}
use Rattle.ir_core.specs.declared.instruction.Term.{Term}
use Rattle.ir_core.specs.declared.instruction.Term.TheVariants.{Ret, RetValue, Br, BrIf, Switch, Unreachable}
use Rattle.ir_core.specs.declared.kind.Kind.{Kind}
use Rattle.ir_core.specs.declared.kind.Kind.TheVariants.{Number, Pointer}
use Rattle.ir_core.specs.declared.module.Block.{Block}
use Rattle.ir_core.specs.declared.module.Function.{Function}
use Rattle.ir_core.specs.declared.module.Module.{Module}
use Rattle.ir_core.specs.declared.module.Param.{Param}
use Rattle.ir_core.specs.Calls.{same_kinds}
use Rattle.ir_core.specs.Definitions.{label_names}
use Rattle.ir_core.specs.Kinds.{kind_of, same_kind}
use Rattle.ir_core.specs.Names.{same_name}
use Rattle.ir_core.specs.Operands.{function_number}
use Rattle.ir_core.specs.Refusals.{is_main, main_of, has_main}
use Rattle.ir_core.specs.Typing.{Env, term_fits}
use Rattle.ir_core.specs.Valid.{LocalKind, env_of}
use Rattle.ir_sound.specs.WellTyped.{Each}
use Rattle.ir_sound.proofs.RowLaws.{length_map}
use Rattle.ir_sound.proofs.SameLaws.{not_true, kind_is, kinds_are}
use Rattle.low_core.specs.declared.sel.SelBlock.{SelBlock}
use Rattle.low_core.specs.SelShaped.{GivesResult, IsMain}
use Rattle.isel_rows.specs.Variables.{variables_of, number_or_first}
use Rattle.isel_rows.specs.Rows.{closing_of}
use Rattle.isel_rows.specs.Functions.{allocas_in, blocks_selected, function_selected}
use Rattle.isel_rows.specs.Selected.{module_selected}
use Rattle.isel.proofs.ShapeForms.{all_of}
use Rattle.isel.proofs.ShapeCalls.{first_by_number, numbers_length, selected_at}
use Rattle.isel.proofs.ShapeKnown.{BlockKnown}

-- where the function stands
pub record MainAt (m : Module) : Type 0 where
  pub number : ℕ
  pub fn : Function
  pub named : function_number m (codes "main") ≡ Some number
  pub there : slice_get m.functions number ≡ Some fn
  pub main : is_main fn ≡ true

-- there is one
pub main_at : (m : Module) → has_main (main_of m) ≡ true → MainAt m
main_at m has = of_number (function_number m (codes "main")) refl (sym (ap has_main (first_by_number (λ (f : Function). same_name f.name (codes "main")) m.functions)) ∙ has)
  where
    of_function : (number : ℕ) (o : Option Function) → function_number m (codes "main") ≡ Some number → slice_get m.functions number ≡ o → has_main o ≡ true → MainAt m
    of_function number (Some f) named there e = record { number = number; fn = f; named = named; there = there; main = e }
    of_function number None named there e = not_true e

    of_number : (o : Option ℕ) → function_number m (codes "main") ≡ o → has_main (option_and_then (slice_get m.functions) o) ≡ true → MainAt m
    of_number (Some number) named e = of_function number (slice_get m.functions number) named refl e
    of_number None named e = not_true e

-- its parameters: none or two
main_params : (m : Module) (fn : Function) → is_main fn ≡ true → (length (function_selected m fn).params ≡ 0) ⊎ (length (function_selected m fn).params ≡ 2)
main_params m fn main =
    let kinds : List Kind = map (λ (p : Param). kind_of p.ty) fn.params in
    let p = and_parts (same_kind (kind_of fn.ret) (Number W32)) (same_kinds kinds [] || same_kinds kinds (Number W32 ∷ Pointer ∷ [])) main in
    by_test (same_kinds kinds []) refl p.1
  where
    params : List Kind
    params = map (λ (p : Param). kind_of p.ty) fn.params

    long : (ks : List Kind) → same_kinds params ks ≡ true → length (function_selected m fn).params ≡ length ks
    long ks e = numbers_length 0 (length fn.params) ∙ sym (length_map (λ (p : Param). kind_of p.ty) fn.params) ∙ ap length (kinds_are params ks e)

    by_test : (b : Bool) → same_kinds params [] ≡ b → (b || same_kinds params (Number W32 ∷ Pointer ∷ [])) ≡ true → (length (function_selected m fn).params ≡ 0) ⊎ (length (function_selected m fn).params ≡ 2)
    by_test true e f = inl (long [] e)
    by_test false e f = inr (long (Number W32 ∷ Pointer ∷ []) f)

-- its ends: a return has a result
end_gives : (m : Module) (variables : List LocalKind) (labels : List (List ℕ)) (env : Env) (kind : Kind) (end : Term) → kind ≡ Number W32 → term_fits m env kind end ≡ true → GivesResult (closing_of m variables labels end).end
end_gives m variables labels env kind Ret is typed = not_true (subst (λ k. term_fits m env k Ret ≡ true) is typed)
end_gives m variables labels env kind (RetValue ty a) is typed = tt
end_gives m variables labels env kind (Br to) is typed = tt
end_gives m variables labels env kind (BrIf condition taken other) is typed = tt
end_gives m variables labels env kind (Switch ty a default cases) is typed = tt
end_gives m variables labels env kind Unreachable is typed = tt

-- so do the ends of all blocks
blocks_give : (m : Module) (fn : Function) → kind_of fn.ret ≡ Number W32 → (at : ℕ) (bs : List Block) → Each (BlockKnown m fn) bs → Each (λ (b : SelBlock). GivesResult b.end) (blocks_selected m (variables_of fn) (label_names fn) at bs)
blocks_give m fn is at [] known = tt
blocks_give m fn is at (b ∷ bs) known = (end_gives m (variables_of fn) (label_names fn) (env_of fn) (kind_of fn.ret) b.end is known.0.fits, blocks_give m fn is (at + allocas_in m.types b.insts) bs known.1)

-- what is selected for it
pub main_selected : (m : Module) (fn : Function) → is_main fn ≡ true → Each (BlockKnown m fn) fn.blocks → IsMain (function_selected m fn)
main_selected m fn main known =
    let kinds : List Kind = map (λ (p : Param). kind_of p.ty) fn.params in
    let p = and_parts (same_kind (kind_of fn.ret) (Number W32)) (same_kinds kinds [] || same_kinds kinds (Number W32 ∷ Pointer ∷ [])) main in
    record {
      params = main_params m fn main;
      results = all_of (λ (b : SelBlock). GivesResult b.end) (function_selected m fn).blocks (blocks_give m fn (kind_is (kind_of fn.ret) (Number W32) p.0) 0 fn.blocks known);
    }

-- and it stands where the program begins
pub main_there : (m : Module) (x : MainAt m) → slice_get (module_selected m).functions (module_selected m).main ≡ Some (function_selected m x.fn)
main_there m x = ap (λ o. slice_get (module_selected m).functions (number_or_first o)) x.named ∙ selected_at m x.number x.fn x.there
