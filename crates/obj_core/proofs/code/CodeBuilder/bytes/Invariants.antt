use Rattle.std.proofs.Common.{ℕ, ◌≡◌, ◌+◌, ◌-◌, ◌<◌, ◌≤◌, drop}
use Rattle.obj_core.specs.Runs.{address_at, put_at}
use Rattle.obj_core.proofs.code.CodeBuilder.bytes.Given as goal

-- the bytes that are left give the whole, and the run tells the addresses of the places before its end
abbrev pub invariant-loop-i : goal.invariant-loop-i
invariant-loop-i l = record {
  start : l.self.start ≡ l.fn.self.start;
  runs : l.self.runs ≡ l.fn.self.runs;
  left : put_at l.self.runs l.self.start l.self.bytes (l.at + l.i) (drop l.i l.bytes) ≡ put_at l.fn.self.runs l.fn.self.start l.fn.self.bytes l.at l.bytes;
  here : (p : ℕ) → l.at + l.i ≤ p → p < l.run.end → address_at l.self.runs p ≡ l.run.start + (p - l.run.front);
}
