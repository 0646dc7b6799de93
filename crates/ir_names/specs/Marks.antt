-- The bytes of marks.
use Rattle.std.specs.Prelude.{ℕ}
use Rattle.ir_names.specs.declared.marked.Mark.{Mark}
use Rattle.ir_names.specs.declared.marked.Mark.TheVariants.{Local, Global}

-- `%` and `@`
abbrev pub mark_byte : Mark → ℕ
mark_byte Local = 37
mark_byte Global = 64
