use Rattle.std.proofs.Common.{◌≡◌, ◌+◌, ◌≤◌, ◌++◌, map, drop}
use Rattle.std.specs.List.{sum_by}
use Rattle.ir_core.specs.declared.limit.TheConstants.{MAX_BYTES}
use Rattle.data_place.specs.Starts.{room_of, space_of, starts_from}
use Rattle.data_place.proofs.starts.addresses.Given as goal

-- the starts so far, with those of the globals that are left, are all
abbrev pub invariant-loop-g : goal.invariant-loop-g
invariant-loop-g l = record {
  few : l.ends.ro + l.ends.rw + sum_by (space_of l.context) (drop l.g-index l.globals) ≤ MAX_BYTES;
  rest : l.all ++ starts_from l.ends.ro l.ends.rw (map (room_of l.context) (drop l.g-index l.globals)) ≡ starts_from 0 0 (map (room_of l.context) l.globals);
}
