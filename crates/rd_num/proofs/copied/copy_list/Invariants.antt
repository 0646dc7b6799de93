use Rattle.std.proofs.Common.{◌≡◌, take}
use Rattle.rd_num.proofs.copied.copy_list.Given as goal

-- the items so far are copied
abbrev pub invariant-loop-item : goal.invariant-loop-item
invariant-loop-item g l = l.all ≡ take l.item-index l.items
