use Rattle.ir_types.proofs.parts.+into_part.Given as goal

-- names that can still be replaced
abbrev pub decreases-into_part : goal.decreases-into_part
decreases-into_part l = l.names
