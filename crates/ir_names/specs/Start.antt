-- The parameters of `main`.
use Rattle.std.specs.Prelude.{List, [], ◌∷◌, Bool, ◌||◌, map}
use Rattle.rd_num.specs.declared.width.Width.TheVariants.{W32}
use Rattle.ir_core.specs.declared.module.Param.{Param}
use Rattle.ir_core.specs.declared.kind.Kind.TheVariants.{Number, Pointer}
use Rattle.ir_core.specs.Kinds.{kind_of}
use Rattle.ir_core.specs.Calls.{same_kinds}

-- none, or a number and a pointer
abbrev pub main_takes : List Param → Bool
main_takes params =
    let kinds = map (λ (p : Param). kind_of p.ty) params in
    same_kinds kinds [] || same_kinds kinds (Number W32 ∷ Pointer ∷ [])
