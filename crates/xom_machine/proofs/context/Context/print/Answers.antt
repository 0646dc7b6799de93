use Rattle.std.proofs.Common.{◌≡◌, ℕ, ◌<◌, ◌≤◌, List, None, ◌∙◌, ap, arith, subst, length, take}
use Rattle.std.specs.Prelude.{replicate}
use Rattle.std.proofs.lemmas.List.{length-replicate, length-take-le}
use Rattle.x86_core.specs.Memory.{read_at}
use Rattle.x86_core.specs.Step.{Prints, served}
use Rattle.xom_machine.specs.declared.context.Context.{Context}
use Rattle.xom_machine.specs.Whole.{over}
use Rattle.xom_machine.specs.Standing.{streams_told}
use Rattle.xom_machine.specs.Calls.{Ran}
use Rattle.xom_machine.proofs.Served.{done_alone, print_refused}
use Rattle.xom_machine.proofs.context.Context.print.Goals as goal

-- the room, before bytes are read into it
abbrev room : ℕ → List ℕ
room n = replicate n 0

size : (n : ℕ) → length (room n) ≡ n
size n = length-replicate n 0

count_of : (n k : ℕ) → k ≤ n → length (take k (room n)) ≡ k
count_of n k h = length-take-le k (room n) (omega (arith, size n))

pub whole_as_front-bytes : goal.whole_as_front-bytes
whole_as_front-bytes g c = omega (arith, size g.row.N, c.requires.room, c.requires.small)

pub returns-in-Ok-clause-ran : goal.returns-in-Ok-clause-ran
returns-in-Ok-clause-ran g c = λ source.
    let count : length c.read_into.new.out ≡ c.args.count = c.read_into.auto.out ∙ count_of g.row.N c.args.count c.requires.room in
    subst (λ n. Ran {T = Unit {0}} (served (Prints n) c.args.after c.args.after) (over c.args.self.now c.args.memory.now) (over c.put.new.self c.args.memory.now)
    (streams_told source (g.O.Sink.told c.args.sink.now)) (streams_told source (g.O.Sink.told c.put.new.sink)) c.put.result)
    count (c.put.ensures.ran source)

pub returns-in-Err-clause-ran : goal.returns-in-Err-clause-ran
returns-in-Err-clause-ran g c = λ source.
    let count : length (take c.args.count (room g.row.N)) ≡ c.args.count = count_of g.row.N c.args.count c.requires.room in
    let some : 0 < length (take c.args.count (room g.row.N)) = omega (arith, count, c.requires.some) in
    let none : read_at c.args.memory.now c.get.result c.args.count ≡ None = subst (λ n. read_at c.args.memory.now c.get.result n ≡ None) count (c.in-Err.ensures.some some) in
    done_alone _ _ _ _ _ (ap (λ (x : Context). over x c.args.memory.now) c.answer.ensures) (print_refused (over c.args.self.now c.args.memory.now) c.args.after c.args.count (cc (c.get.ensures, none)))
