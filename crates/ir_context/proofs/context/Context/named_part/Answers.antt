use Rattle.std.proofs.Common.{◌≡◌, ap, subst}
use Rattle.std.specs.Prelude.{IfOk}
use Rattle.std.specs.Option.{option_copied}
use Rattle.ir_core.specs.declared.ty.Ty.{Ty}
use Rattle.ir_core.specs.declared.ty.Ty.TheOpen.{Ty-F}
use Rattle.ir_core.specs.Valid.{named_fields}
use Rattle.ir_context.specs.Paths.{led, into_type}
use Rattle.ir_context.proofs.context.Context.named_part.Goals as goal

pub returns-in-Some : goal.returns-in-Some
returns-in-Some c =
    subst (λ (l : Ty-F Ty). IfOk c.part.result (λ part. led (option_copied part) c.part.new.path ≡ into_type c.args.self.now.types l c.args.index c.args.path.now))
    (ap named_fields c.in-Some.ensures) c.part.ensures
