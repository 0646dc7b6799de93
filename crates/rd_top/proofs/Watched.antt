-- What a watched run did, as the run of its image tells it.
use Rattle.std.proofs.Common.{◌≡◌, ℕ, ◌≤◌, ◌++◌, List, [], Some, Ok, Err, ap, ◌∙◌, arith}
use Rattle.rd_io.specs.Told.{SourceTold}
use Rattle.rd_io.specs.declared.RunFault.{RunFault}
use Rattle.rd_io.specs.declared.RunFault.TheVariants as fault
use Rattle.x86_core.specs.declared.image.Image.{Image}
use Rattle.x86_core.specs.Step.{State}
use Rattle.x86_core.specs.Machine.{machine_run}
use Rattle.xom_machine.specs.Standing.{ending_of}
use Rattle.watch_script.specs.declared.event.Event.{Event}
use Rattle.watch_script.specs.declared.report.Report.{Report}
use Rattle.watch_script.specs.declared.reply.Reply.{Reply}
use Rattle.watch_script.specs.Events.{last_after}
use Rattle.watch_script.specs.Report.{IsReport, last_of, replies_of, told_text, report_of, reply_lines, end_line}
use Rattle.watch_script.specs.Watching.{WatchedOf, InputCharged}
use Rattle.rd_top.specs.Machines.{watched_course, report_on}
use Rattle.rd_top.specs.Reports.{StopsWithin, Reported}
use Rattle.rd_top.specs.World.{WhereTold}

-- a report's text is that of what it tells
text_is : (image : Image) (events : List Event) (xs : List ℕ) (report : Report) → IsReport (machine_run image xs) events report → told_text report ≡ report_on image events xs
unfolding report_of
text_is image events xs report h =
    let answers : List Reply = replies_of (machine_run image xs) [] events in
    let last : State ℕ = last_of (machine_run image xs) events in
    ap (λ es. reply_lines es report.replies ++ end_line (last_after 0 es) (ending_of report.outcome) report.printed) h.reads ∙
    (ap (λ rs. reply_lines events rs ++ end_line (last_after 0 events) (ending_of report.outcome) report.printed) h.answers ∙
    (ap (λ e. reply_lines events answers ++ end_line (last_after 0 events) e report.printed) h.outcome ∙
    ap (λ n. reply_lines events answers ++ end_line (last_after 0 events) last.ending n) h.printed))

module _ (image : Image) (events : List Event) (input input2 : SourceTold) where
  -- the text of what was told
  pub reported_text : (report : Report) (text : List ℕ) → text ≡ told_text report → WatchedOf image events input.left input2.left (Ok report) → Reported (watched_course image events) (last_after 0 events) (report_on image events) input input2 (Ok text)
  unfolding watched_course
  reported_text report text is h xs e = (is ∙ text_is image events xs report (h xs e).0, (h xs e).1)

  -- a watched run that was cut off gives no text
  pub not_reported : (T : Type 0) (e : RunFault) → InputCharged {T = T} input.faults input2.faults (Err e) → WatchedOf image events input.left input2.left (Err e) → Reported (watched_course image events) (last_after 0 events) (report_on image events) input input2 (Err e)
  unfolding watched_course
  not_reported T fault.Input charged h =
      (charged.0, λ xs e. let c = h xs e in record { steps = c.taken; early = c.early; asks = c.asks; took = c.took })
  not_reported T fault.Output charged h = charged
  not_reported T fault.NoMemory charged h = λ xs e. let c = h xs e in record { steps = c.taken; within = c.within; took = c.took }

  -- all reads were made, and then memory was wanting
  pub all_taken : (report : Report) → WatchedOf image events input.left input2.left (Ok report) → WhereTold input (λ xs. StopsWithin (watched_course image events) (last_after 0 events) xs input2)
  unfolding watched_course
  all_taken report h xs e = record { steps = last_after 0 events; within = omega arith; took = (h xs e).1 }
