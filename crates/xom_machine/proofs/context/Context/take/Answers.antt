use Rattle.std.proofs.Common.{ℕ, List, Option, refl, ap}
use Rattle.rd_io.specs.Told.{SourceTold}
use Rattle.xom_machine.specs.declared.context.Context.{Context}
use Rattle.xom_machine.specs.Whole.{over}
use Rattle.xom_machine.specs.Standing.{streams, streams_told}
use Rattle.xom_machine.proofs.Served.{whole_same, done, done_unasked, wanted, asked_in_vain, take_done, take_end, take_refused, take_asks, take_lost}
use Rattle.xom_machine.proofs.context.Context.take.Goals as goal

pub returns-in-Ok-Some : goal.returns-in-Ok-Some
returns-in-Ok-Some g c =
    let t = rw c.in-Ok-Some.field-0-is at c.in-Ok-Some.ensures in
    record {
      ran = λ sink. done _ _ _ _ _ _ (ap (λ (x : Context). over x c.take.new.self) c.answer.ensures)
          (take_done (over c.args.self.now c.args.memory.now) c.args.after _ _ _ sink.written sink.total _ _ _ refl (cc (c.get.ensures, t.0)) t.1.bytes);
      charged = λ sink. (t.1.cause, refl);
    }

pub returns-in-Ok-None : goal.returns-in-Ok-None
returns-in-Ok-None g c =
    let t = rw c.in-Ok-None.field-0-is at c.in-Ok-None.ensures in
    record {
      ran = λ sink. done _ _ _ _ _ _ (whole_same _ _ _ _ c.answer-in-Ok-None.ensures t.1.0)
          (take_end (over c.args.self.now c.args.memory.now) c.args.after _ _ _ sink.written sink.total _ refl (cc (c.get.ensures, t.0)) t.1.1.bytes);
      charged = λ sink. (t.1.1.cause, refl);
    }

pub returns-in-Err-Refused : goal.returns-in-Err-Refused
returns-in-Err-Refused g c =
    let t = rw c.in-Err-Refused.field-0-is at c.in-Err-Refused.ensures in
    record {
      ran = λ sink. done_unasked _ _ _ _ _ _ (whole_same _ _ _ _ c.answer-in-Err-Refused.ensures t.1.0) (take_refused (over c.args.self.now c.args.memory.now) c.args.after (cc (c.get.ensures, t.0)))
          (ap (λ (s : SourceTold). streams_told s sink) t.1.1);
      charged = λ sink. (ap (λ (s : SourceTold). s.faults) t.1.1, refl);
    }

pub returns-in-Err-NoMemory : goal.returns-in-Err-NoMemory
returns-in-Err-NoMemory g c =
    let t = rw c.in-Err-NoMemory.field-0-is at c.in-Err-NoMemory.ensures in
    record {
      ran = λ sink. wanted _ _ _ _ _ (ap (over c.args.self.now) t.1.0) (ap (λ (s : SourceTold). streams_told s sink) t.1.1);
      charged = λ sink. (ap (λ (s : SourceTold). s.faults) t.1.1, refl);
    }

pub returns-in-Err-Failed : goal.returns-in-Err-Failed
returns-in-Err-Failed g c =
    let t = rw c.in-Err-Failed.field-0-is at c.in-Err-Failed.ensures in
    record {
      ran = λ sink. asked_in_vain _ _ _ _ _ (ap (over c.args.self.now) t.1.0) (take_asks (over c.args.self.now c.args.memory.now) c.args.after (cc (c.get.ensures, t.0)))
          (ap (λ (l : Option (List ℕ)). streams l sink.written sink.total) (take_lost _ _ _ _ t.1.1.bytes));
      charged = λ sink. (t.1.1.cause.0, t.1.1.cause.1, refl);
    }
