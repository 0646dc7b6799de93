use Rattle.std.proofs.Common.{◌≡◌, ℕ, List, length, map, ap, ◌∙◌}
use Rattle.ir_core.specs.declared.kind.Kind.{Kind}
use Rattle.ir_core.specs.declared.module.Function.{Function}
use Rattle.ir_core.specs.declared.module.Module.{Module}
use Rattle.ir_core.specs.declared.module.Param.{Param}
use Rattle.ir_core.specs.Kinds.{kind_of}
use Rattle.ir_program.specs.declared.program.Body.{Body}
use Rattle.ir_program.specs.declared.program.Stretch.{Stretch}
use Rattle.ir_program.specs.Programs.{register_names, stretch_of}
use Rattle.ir_program.proofs.program.make_body.Goals as goal

-- bodies of equal parts
parts : (k l : Kind) (ks ls : List Kind) (n o : ℕ) (ss ts : List Stretch) → k ≡ l → ks ≡ ls → n ≡ o → ss ≡ ts → let b : Body = record { result = k; parameters = ks; registers = n; stretches = ss } in let d : Body = record { result = l; parameters = ls; registers = o; stretches = ts } in b ≡ d
parts k l ks ls n o ss ts a b d e = cc

-- the blocks of a function in the names of its registers
abbrev stretches_of : Module → Function → List Stretch
stretches_of m f = map (stretch_of m (register_names f) f.blocks) f.blocks

pub returns : goal.returns
returns c =
    parts _ _ _ _ _ _ _ _ c.of.ensures
    (c.in_ok-parameters.ensures ∙ ap (map (λ (p : Param). kind_of p.ty)) c.as_slice.ensures)
    (c.len.ensures ∙ ap length (c.locals.ensures ∙ ap register_names c.in_ok-scope.ensures))
    (c.in_ok-stretches.ensures ∙ ap (stretches_of c.args.context.now) c.in_ok-scope.ensures)
