-- The replies to a script's events, and the report's text, as functions of the states of a run with these events.
use Rattle.std.specs.Prelude.{◌≡◌, ℕ, ◌-◌, ◌^◌, min, if◌then◌else◌, List, [], ◌∷◌, ◌++◌, length, codes, decimal, Option, Some, None}
use Rattle.hex.specs.Hex.{encode_lower}
use Rattle.behavior.specs.Ending.{Ending}
use Rattle.x86_core.specs.Memory.{writes, is_allowed}
use Rattle.x86_core.specs.Observation.{observe, reply_to}
use Rattle.x86_core.specs.Step.{State}
use Rattle.x86_core.specs.Run.{Act}
use Rattle.xom_machine.specs.Standing.{ending_of}
use Rattle.watch_script.specs.declared.event.Event.{Event}
use Rattle.watch_script.specs.declared.event.Event.TheVariants.{Read, Write}
use Rattle.watch_script.specs.declared.reply.Reply.{Reply}
use Rattle.watch_script.specs.declared.reply.Reply.TheVariants.{Bytes, Written, Refused}
use Rattle.watch_script.specs.declared.report.Report.{Report}
use Rattle.watch_script.specs.Acts.{acts_to}
use Rattle.watch_script.specs.Events.{after_of, at_of, last_after}
use Rattle.watch_script.specs.ShowText.{word_text, ending_text}

abbrev pub reply_of : Option (List ℕ) → Reply
reply_of (Some bytes) = Bytes bytes
reply_of None = Refused

-- what an event is answered in a state: a read by what is seen, a write by whether one segment that may be written covers it
abbrev pub reply_in : {P : Type 0} → Event → State P → Reply
reply_in (Read after at len) s = reply_of (reply_to (observe s) at len)
reply_in (Write after at bytes) s = if is_allowed writes s.segments at (length bytes) then Written else Refused

-- a reply to each event behind others, in the state by its number of steps and behind the events before it
abbrev pub replies_of : {P : Type 0} → (List Act → State P) → List Event → List Event → List Reply
replies_of run before [] = []
replies_of run before (e ∷ es) = reply_in e (run (acts_to (after_of e) before)) ∷ replies_of run (before ++ e ∷ []) es

-- a number as far as 2^64 - 1
abbrev pub capped : ℕ → ℕ
capped n = min n (2 ^ 64 - 1)

-- the state behind the last event
abbrev pub last_of : {P : Type 0} → (List Act → State P) → List Event → State P
last_of run events = run (acts_to (last_after 0 events) events)

-- a report tells the replies, and the outcome and the number of printed bytes behind the last event
pub record IsReport {P : Type 0} (run : List Act → State P) (events : List Event) (report : Report) : Type 0 where
  pub reads : report.events ≡ events
  pub answers : report.replies ≡ replies_of run [] events
  pub outcome : ending_of report.outcome ≡ (last_of run events).ending
  pub printed : report.printed ≡ capped (length (last_of run events).printed)

abbrev pub reply_text : Reply → List ℕ
reply_text (Bytes bytes) = encode_lower bytes
reply_text Written = codes "written"
reply_text Refused = codes "refused"

-- STEPS ADDRESS BYTES, STEPS ADDRESS written, or STEPS ADDRESS refused
unfoldable pub reply_line : Event → Reply → List ℕ
reply_line e r = decimal (after_of e) ++ 32 ∷ (word_text (at_of e) ++ 32 ∷ (reply_text r ++ 10 ∷ []))

-- a line for each event that has a reply
abbrev pub reply_lines : List Event → List Reply → List ℕ
reply_lines [] rs = []
reply_lines (e ∷ es) [] = []
reply_lines (e ∷ es) (r ∷ rs) = reply_line e r ++ reply_lines es rs

-- end STEPS OUTCOME out COUNT
unfoldable pub end_line : ℕ → Ending → ℕ → List ℕ
end_line steps ending printed = codes "end " ++ (decimal steps ++ 32 ∷ (ending_text ending ++ (codes " out " ++ (decimal printed ++ 10 ∷ []))))

-- the text of a report
abbrev pub told_text : Report → List ℕ
told_text r = reply_lines r.events r.replies ++ end_line (last_after 0 r.events) (ending_of r.outcome) r.printed

-- the text of the report on a run with the script's events
unfoldable pub report_of : {P : Type 0} → (List Act → State P) → List Event → List ℕ
report_of run events =
    reply_lines events (replies_of run [] events) ++ end_line (last_after 0 events) (last_of run events).ending (capped (length (last_of run events).printed))
