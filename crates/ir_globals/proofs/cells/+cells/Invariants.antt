-- what is left to be put
use Rattle.std.proofs.Common.{◌≡◌, ◌≤◌, ◌-◌, ◌++◌, map, drop, length}
use Rattle.ir_core.specs.Globals.{end_to_end, spread}
use Rattle.ir_globals.specs.Told.{told_part}
use Rattle.ir_globals.proofs.cells.+cells.Given as goal

abbrev pub invariant-put_elements-loop-e : goal.invariant-put_elements-loop-e
invariant-put_elements-loop-e l =
    l.cells.items ++ end_to_end (map (told_part l.context) (drop l.e-index l.elements)) ≡ l.fn.cells.items ++ end_to_end (map (told_part l.context) l.elements)

abbrev pub invariant-put_fields-loop-e : goal.invariant-put_fields-loop-e
invariant-put_fields-loop-e l = record {
  start : l.start ≤ length l.cells.items;
  cells : l.cells.items ++ spread (length l.cells.items - l.start) l.size (map (told_part l.context) (drop l.e-index l.elements)) ≡ l.fn.cells.items ++ spread 0 l.size (map (told_part l.context) l.elements);
}
