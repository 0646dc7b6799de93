use Rattle.std.proofs.Common.{◌≡◌, ℕ, ◌<◌, ◌≤◌, List, Some, None, ◌∙◌, sym, ap, arith, subst, length, take}
use Rattle.std.specs.Prelude.{replicate}
use Rattle.std.proofs.lemmas.List.{length-replicate, length-take-le}
use Rattle.x86_core.specs.declared.image.Segment.{Segment}
use Rattle.x86_core.specs.Memory.{read_at}
use Rattle.x86_core.specs.Observation.{readable}
use Rattle.watch_script.specs.declared.reply.Reply.TheVariants.{Bytes, Refused}
use Rattle.watch_script.specs.Report.{reply_of}
use Rattle.watch_script.proofs.Watches.{read_readable}
use Rattle.watch_script.proofs.watch.reply.Goals as goal

-- the room, before bytes are read into it
abbrev room : ℕ → List ℕ
room n = replicate n 0

size : (n : ℕ) → length (room n) ≡ n
size n = length-replicate n 0

count_of : (n k : ℕ) → k ≤ n → length (take k (room n)) ≡ k
count_of n k h = length-take-le k (room n) (omega (arith, size n))

answered : (ss memory : List Segment) (at n m : ℕ) (own out : List ℕ) → memory ≡ ss → m ≡ n → read_at memory at m ≡ Some out → own ≡ out → Bytes own ≡ reply_of (read_at (readable ss) at n)
answered ss memory at n m own out is e r o = ap Bytes o ∙ sym (ap reply_of (read_readable ss at n ∙ ap (λ s. read_at s at n) (sym is) ∙ subst (λ k. read_at memory at k ≡ Some out) e r))

refused : (ss memory : List Segment) (at n m : ℕ) → memory ≡ ss → m ≡ n → read_at memory at m ≡ None → Refused ≡ reply_of (read_at (readable ss) at n)
refused ss memory at n m is e r = sym (ap reply_of (read_readable ss at n ∙ ap (λ s. read_at s at n) (sym is) ∙ subst (λ k. read_at memory at k ≡ None) e r))

pub whole_as_front-bytes : goal.whole_as_front-bytes
whole_as_front-bytes g c = omega (arith, size g.row.N, c.requires.room, c.requires.small)

pub returns-in_ok-own-in-Ok : goal.returns-in_ok-own-in-Ok
returns-in_ok-own-in-Ok g c =
    let count : length (take c.args.len (room g.row.N)) ≡ c.args.len = count_of g.row.N c.args.len c.requires.room in
    let some : 0 < length (take c.args.len (room g.row.N)) = omega (arith, count, c.requires.some) in
    answered c.args.machine.now.memory c.memory.result.now c.args.at c.args.len (length (take c.args.len (room g.row.N))) c.in_ok-own-in-Ok.own c.read_into.new.out c.memory.ensures count (c.in-Ok.ensures.some some) c.in_ok-own-in-Ok.ensures

pub returns-in-Err : goal.returns-in-Err
returns-in-Err g c =
    let count : length (take c.args.len (room g.row.N)) ≡ c.args.len = count_of g.row.N c.args.len c.requires.room in
    let some : 0 < length (take c.args.len (room g.row.N)) = omega (arith, count, c.requires.some) in
    refused c.args.machine.now.memory c.memory.result.now c.args.at c.args.len (length (take c.args.len (room g.row.N))) c.memory.ensures count (c.in-Err.ensures.some some)
