use Rattle.std.proofs.Common.{◌≡◌, ◌++◌, ◌∙◌, ℕ, List, ap, subst, append_assoc}
use Rattle.std.specs.Prelude.{OnOk, codes}
use Rattle.ir_print.specs.Instructions.{access_text, indices_text}
use Rattle.ir_print.proofs.instruction.put_gep.Goals as goal

pub returns : goal.returns
returns c =
    let word : List ℕ = codes "getelementptr " in
    let access : List ℕ = access_text c.args.ty.now c.args.pointer.now in
    let indices : List ℕ = indices_text c.args.indices.now in
    let e : c.put_access.new.text ++ indices ≡ c.args.text.now ++ ((word ++ access) ++ indices) =
    ap (λ t. t ++ indices) (c.in_ok-put_access.ensures ∙ ap (λ t. t ++ access) c.in_ok-append.ensures.put ∙ append_assoc c.args.text.now word access) ∙ append_assoc c.args.text.now (word ++ access) indices in
    subst (λ t. OnOk c.put_indices.result (c.put_indices.new.text ≡ t)) e c.put_indices.ensures
