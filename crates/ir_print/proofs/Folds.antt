-- The texts of two kinds of initialisers, one level down.
use Rattle.std.proofs.Common.{◌≡◌, ℕ, List, ◌++◌, map, sym, ap, ◌∙◌}
use Rattle.std.specs.Prelude.{codes}
use Rattle.ir_core.specs.declared.init.Init.{fold-roll-Init}
use Rattle.ir_core.specs.declared.init.Init.TheVariants.{Zero, Packed, rolls-Zero, rolls-Packed}
use Rattle.ir_core.specs.declared.init.Init.TheOpen.{Init-F}
use Rattle.ir_core.specs.declared.init.Elem.{Elem}
use Rattle.ir_print.specs.Types.{braced}
use Rattle.ir_print.specs.Initialisers.{init_level, element_level, init_text, element_text}

pub zero_text : init_text Zero ≡ codes "zeroinitializer"
zero_text = ap init_text (sym rolls-Zero) ∙ fold-roll-Init (List ℕ) (List ℕ) init_level element_level Init-F.Zero

pub packed_text : (es : List Elem) → init_text (Packed es) ≡ codes "<" ++ braced (map element_text es) ++ codes ">"
packed_text es = ap init_text (sym (rolls-Packed es)) ∙ fold-roll-Init (List ℕ) (List ℕ) init_level element_level (Init-F.Packed es)
