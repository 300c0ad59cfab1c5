use Rattle.std.proofs.Common.{◌∙◌, inl, inr, sym, arith}
use Rattle.std.proofs.lemmas.Bool.{eqb-true, eqb-false}
use Rattle.bc_script.proofs.Numbers.{none_in, goes_on, stops, ended}
use Rattle.bc_plain.proofs.line.number_of.Goals as goal

pub returns-then-is_empty : goal.returns-then-is_empty
returns-then-is_empty c = none_in c.args.word.now (eqb-true _ _ (sym c.is_empty.ensures ∙ c.if-is_empty.true))

pub returns-then-not-is_ascii_digit : goal.returns-then-not-is_ascii_digit
returns-then-not-is_ascii_digit c = stops c.args.word.now c.loop-byte.byte-index c.loop-byte.value c.loop-byte-test.true c.loop-byte.invariant (inl (sym c.is_ascii_digit.ensures.value ∙ c.if-not-is_ascii_digit.true))

pub returns-in_err-checked_mul : goal.returns-in_err-checked_mul
returns-in_err-checked_mul c = rw c.from_residual.ensures (stops c.args.word.now c.loop-byte.byte-index c.loop-byte.value c.loop-byte-test.true c.loop-byte.invariant (inr (λ fits. c.in_err-checked_mul.ensures (omega arith))))

pub returns-in_err-value : goal.returns-in_err-value
returns-in_err-value c = rw c.from_residual-in_err-value.ensures (stops c.args.word.now c.loop-byte.byte-index c.loop-byte.value c.loop-byte-test.true c.loop-byte.invariant (inr (λ fits. c.in_err-value.ensures (let is = c.in_ok-checked_mul.ensures.1 in omega arith))))

pub returns : goal.returns
returns c = ended c.args.word.now c.loop-byte.byte-index c.loop-byte.value (eqb-false _ _ (sym c.is_empty.ensures ∙ c.if-is_empty.false)) c.loop-byte-test.false c.loop-byte.invariant

pub loop-byte-preserved : goal.loop-byte-preserved
loop-byte-preserved c =
    let product = c.in_ok-checked_mul.ensures in
    let sum = c.in_ok-value.ensures in
    goes_on c.args.word.now c.loop-byte.byte-index c.loop-byte.value c.in_ok-value.value c.loop-byte-test.true c.loop-byte.invariant
    (sym c.is_ascii_digit.ensures.value ∙ c.if-not-is_ascii_digit.false) (omega (arith, product.1, sum.1)) (omega (arith, sum.0, sum.1))
