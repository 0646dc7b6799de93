use Rattle.std.proofs.Common.{◌≡◌, ℕ, ◌+◌, ◌-◌, ◌≤◌, length, take, drop, List, arith, ap, sym, ◌∙◌, append-nil, subst}
use Rattle.std.proofs.lemmas.List.{take_rest}
use Rattle.ir_lex.specs.First.{found_in}
use Rattle.ir_lex.specs.declared.first.Found.{Found}
use Rattle.ir_lex.specs.declared.first.Found.TheVariants.{Gap, Token, Stray}
use Rattle.ir_lex.specs.declared.token.Token as the_token
use Rattle.ir_lex.proofs.Rows.{ReadTo, ReadOn, read_on, stops_here, stop_scans_not}
use Rattle.ir_lex.proofs.Few.{few_tokens}
use Rattle.ir_lex.proofs.lex.Goals as goal

-- what is found behind a place, as the code takes the rest of the text
on : (text : List ℕ) (place : ℕ) (tokens : List the_token.Token) (found : Found) → place ≤ length text → ReadTo text place tokens
    → found ≡ found_in (take (length text - place) (drop place text)) → (found ≡ Stray → ⊥) → ReadOn text place tokens found
on text place tokens found low read e some = read_on text place tokens found low read (e ∙ ap found_in (take_rest text place)) some

pub returns-in-Ok-Stray-clause-fault : goal.returns-in-Ok-Stray-clause-fault
returns-in-Ok-Stray-clause-fault c =
    let text = c.args.text.now in
    let at = c.loop-place.place in
    let none = rw c.in-Ok-Stray.field-0-is at c.in-Ok-Stray.ensures ∙ ap found_in (take_rest text at) in
    let stop = stops_here text at c.loop-place.tokens c.loop-place-test.true c.loop-place.invariant.read none in
    (stop, λ tokens. stop_scans_not text at tokens stop)

pub overflow_add-place : goal.overflow_add-place
overflow_add-place c =
    let old = c.loop-place.invariant in
    let found = rw c.in-Ok-Gap.field-0-is at c.in-Ok-Gap.ensures in
    let next = on c.args.text.now c.loop-place.place c.loop-place.tokens (Gap c.in-Ok-Gap.len) old.within old.read found (λ e. cc) in
    omega arith

pub loop-place-smaller-in-Ok-Gap : goal.loop-place-smaller-in-Ok-Gap
loop-place-smaller-in-Ok-Gap c =
    let old = c.loop-place.invariant in
    let found = rw c.in-Ok-Gap.field-0-is at c.in-Ok-Gap.ensures in
    let next = on c.args.text.now c.loop-place.place c.loop-place.tokens (Gap c.in-Ok-Gap.len) old.within old.read found (λ e. cc) in
    omega arith

pub loop-place-preserved-in-Ok-Gap : goal.loop-place-preserved-in-Ok-Gap
loop-place-preserved-in-Ok-Gap c =
    let old = c.loop-place.invariant in
    let found = rw c.in-Ok-Gap.field-0-is at c.in-Ok-Gap.ensures in
    let next = on c.args.text.now c.loop-place.place c.loop-place.tokens (Gap c.in-Ok-Gap.len) old.within old.read found (λ e. cc) in
    record { within = next.within; read = subst (ReadTo c.args.text.now (c.loop-place.place + c.in-Ok-Gap.len)) (append-nil c.loop-place.tokens) next.read }

pub overflow_add-place-in-Ok : goal.overflow_add-place-in-Ok
overflow_add-place-in-Ok c =
    let old = c.loop-place.invariant in
    let found = rw c.in-Ok-Token.field-0-is at c.in-Ok-Token.ensures in
    let next = on c.args.text.now c.loop-place.place c.loop-place.tokens (Token c.in-Ok-Token.kind c.in-Ok-Token.len) old.within old.read found (λ e. cc) in
    omega arith

pub loop-place-smaller : goal.loop-place-smaller
loop-place-smaller c =
    let old = c.loop-place.invariant in
    let found = rw c.in-Ok-Token.field-0-is at c.in-Ok-Token.ensures in
    let next = on c.args.text.now c.loop-place.place c.loop-place.tokens (Token c.in-Ok-Token.kind c.in-Ok-Token.len) old.within old.read found (λ e. cc) in
    omega arith

pub loop-place-preserved : goal.loop-place-preserved
loop-place-preserved c =
    let old = c.loop-place.invariant in
    let found = rw c.in-Ok-Token.field-0-is at c.in-Ok-Token.ensures in
    let next = on c.args.text.now c.loop-place.place c.loop-place.tokens (Token c.in-Ok-Token.kind c.in-Ok-Token.len) old.within old.read found (λ e. cc) in
    record { within = next.within; read = subst (ReadTo c.args.text.now (c.loop-place.place + c.in-Ok-Token.len)) (sym c.in-Ok.ensures.put) next.read }

pub returns-clause-few : goal.returns-clause-few
returns-clause-few c =
    let few = few_tokens c.args.text.now c.loop-place.place c.loop-place.tokens c.loop-place.invariant.read in
    let within = c.loop-place.invariant.within in
    omega arith
