use Rattle.std.proofs.Common.{ℕ, List, map, take, Bor}
use Rattle.isel_rows.proofs.ProgramLaws.{AreTheNames}
use Rattle.isel_rows.proofs.symbols.each_once.Given as goal

abbrev pub invariant-loop-name : goal.invariant-loop-name
invariant-loop-name l = AreTheNames l.all (map (λ (k : Bor (List ℕ)). k.now) (take l.name-index l.names))
