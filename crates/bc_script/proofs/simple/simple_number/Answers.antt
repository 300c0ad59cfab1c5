use Rattle.std.proofs.Common.{◌∙◌, sym, refl, arith}
use Rattle.bc_script.proofs.Digits.{none_read, one_read, room, number_at_end, number_and_space}
use Rattle.bc_script.proofs.simple.simple_number.Goals as goal

pub loop-at-init : goal.loop-at-init
loop-at-init c = record { within = omega arith; read = none_read c.args.text.now }

pub overflow_mul-value : goal.overflow_mul-value
overflow_mul-value c =
    let most = c.min-most.ensures in
    let less = room c.loop-at.at c.loop-at.value (omega arith) c.loop-at.invariant.read.small in
    omega arith

pub overflow_add-value : goal.overflow_add-value
overflow_add-value c =
    let most = c.min-most.ensures in
    let less = room c.loop-at.at c.loop-at.value (omega arith) c.loop-at.invariant.read.small in
    omega arith

pub loop-at-preserved : goal.loop-at-preserved
loop-at-preserved c =
    let most = c.min-most.ensures in
    record {
      within = omega arith;
      read = one_read c.args.text.now c.loop-at.at c.loop-at.value _ (omega arith) (omega arith) c.loop-at.invariant.read (sym c.is_ascii_digit.ensures.value ∙ c.if-is_ascii_digit.true) refl;
    }

pub returns-then-at-text : goal.returns-then-at-text
returns-then-at-text c = number_at_end c.args.text.now c.loop-at.at c.loop-at.value c.if-at-eq0.false c.if-at-text.true c.loop-at.invariant.read

pub returns : goal.returns
returns c =
    let within = c.loop-at.invariant.within in
    let most = c.min-most.ensures in
    number_and_space c.args.text.now c.loop-at.at c.loop-at.value c.if-at-eq0.false (omega (arith, within, most, c.if-at-text.false)) c.loop-at.invariant.read c.if-text-at-ne32.false
