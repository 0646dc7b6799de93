use Rattle.std.proofs.Common.{◌≡◌, arith, sym, ◌∙◌, ap, ◌+◌, ◌*◌, get_or, true}
use Rattle.std.specs.Char.{is_ascii_digit}
use Rattle.ir_lex.proofs.Numbers.{below_power, digit-value, next-fits, next-value, next-digits}
use Rattle.ir_lex.proofs.number.magnitude.Goals as goal

pub overflow_mul-n : goal.overflow_mul-n
overflow_mul-n c = omega (arith, below_power c.loop-d.n c.loop-d.d-index 37 c.loop-d.invariant.fits (omega arith))

pub overflow_add-n : goal.overflow_add-n
overflow_add-n c =
    let b = get_or c.args.digits.now c.loop-d.d-index 0 in
    let d = digit-value b (sym c.is_ascii_digit.ensures.value ∙ c.if-not-is_ascii_digit.false) in
    omega (arith, below_power c.loop-d.n c.loop-d.d-index 37 c.loop-d.invariant.fits (omega arith))

pub loop-d-preserved : goal.loop-d-preserved
loop-d-preserved c =
    let i = c.loop-d.d-index in
    let ds = c.args.digits.now in
    let old = c.loop-d.invariant in
    let digit : is_ascii_digit (get_or ds i 0) ≡ true = sym c.is_ascii_digit.ensures.value ∙ c.if-not-is_ascii_digit.false in
    let d = digit-value (get_or ds i 0) digit in
    record {
      fits = next-fits c.loop-d.n i c.from.result old.fits (omega arith);
      value = ap (λ x. c.loop-d.n * 10 + x) c.from.ensures ∙ next-value c.loop-d.n i ds c.loop-d-test.true old.value digit;
      digits = next-digits i ds c.loop-d-test.true old.digits digit;
    }

pub returns-clause-small : goal.returns-clause-small
returns-clause-small c = below_power c.loop-d.n c.loop-d.d-index 38 c.loop-d.invariant.fits (omega arith)
