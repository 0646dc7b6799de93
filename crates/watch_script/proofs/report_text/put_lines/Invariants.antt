use Rattle.std.proofs.Common.{◌≡◌, ◌++◌, drop}
use Rattle.watch_script.specs.Events.{last_after}
use Rattle.watch_script.specs.Report.{reply_lines}
use Rattle.watch_script.proofs.report_text.put_lines.Given as goal

-- what is put so far, and the lines that are left, are all
abbrev pub invariant-loop-i : goal.invariant-loop-i
invariant-loop-i l = record {
  text : l.text ++ reply_lines (drop l.i l.events) (drop l.i l.replies) ≡ l.fn.text ++ reply_lines l.events l.replies;
  last : last_after l.last (drop l.i l.events) ≡ last_after 0 l.events;
}
