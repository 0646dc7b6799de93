-- How many operations a step of a program without switches becomes at most.
use Rattle.std.specs.Prelude.{ℕ, ◌+◌, length, map}
use Rattle.ir_core.specs.Counts.{greatest}
use Rattle.low_core.specs.declared.sel.SelBlock.{SelBlock}
use Rattle.low_core.specs.declared.sel.SelFun.{SelFun}
use Rattle.low_core.specs.declared.sel.Sel.{Sel}

-- the greatest number of operations of a block, and its end
abbrev pub longest : Sel → ℕ
longest sel = greatest (map (λ (f : SelFun). greatest (map (λ (b : SelBlock). length b.ops) f.blocks)) sel.functions) + 1
