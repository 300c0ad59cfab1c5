use Rattle.std.proofs.Common.{◌≡◌, ◌∙◌, inl, inr, sym, arith, length}
use Rattle.std.specs.List.{position_or_len}
use Rattle.std.proofs.lemmas.Bool.{eq-eqb, ne_eqb}
use Rattle.bc_script.specs.Line.{is_space}
use Rattle.bc_script.proofs.Fronts.{digit_comes, digit_no_space, ends_at, more_no_space, no_number, word_ends}
use Rattle.bc_script.proofs.parse.front_number.Goals as goal

pub loop-at-preserved : goal.loop-at-preserved
loop-at-preserved c =
    let text = c.args.text.now in
    let digit = sym c.is_ascii_digit.ensures.value ∙ c.if-not-is_ascii_digit.false in
    let product = c.in_ok-checked_mul.ensures in
    let sum = c.in_ok-value.ensures in
    record {
      before = more_no_space text c.loop-at.at c.loop-at.invariant.before (digit_no_space _ digit);
      value = digit_comes text c.loop-at.at c.loop-at.value c.in_ok-value.value c.loop-at-test.true c.loop-at.invariant.before c.loop-at.invariant.value
          digit (omega (arith, product.1, sum.1)) (omega (arith, sum.0, sum.1));
    }

pub returns-then-byte-eq32 : goal.returns-then-byte-eq32
returns-then-byte-eq32 c =
    let text = c.args.text.now in
    let at = ends_at text c.loop-at.at (omega arith) c.loop-at.invariant.before (λ lt. eq-eqb _ 32 c.if-byte-eq32.true) in
    (word_ends text c.loop-at.at c.loop-at.value c.requires at c.loop-at.invariant.value, sym at)

pub returns-then-not-is_ascii_digit : goal.returns-then-not-is_ascii_digit
returns-then-not-is_ascii_digit c =
    no_number c.args.text.now c.loop-at.at c.loop-at.value c.loop-at-test.true c.loop-at.invariant.before c.loop-at.invariant.value
    (ne_eqb _ 32 c.if-byte-eq32.false) (inl (sym c.is_ascii_digit.ensures.value ∙ c.if-not-is_ascii_digit.true))

pub returns-in_err-checked_mul : goal.returns-in_err-checked_mul
returns-in_err-checked_mul c =
    let digit = sym c.is_ascii_digit.ensures.value ∙ c.if-not-is_ascii_digit.false in
    rw c.from_residual.ensures (no_number c.args.text.now c.loop-at.at c.loop-at.value c.loop-at-test.true c.loop-at.invariant.before c.loop-at.invariant.value
    (digit_no_space _ digit) (inr (λ fits. c.in_err-checked_mul.ensures (omega arith))))

pub returns-in_err-value : goal.returns-in_err-value
returns-in_err-value c =
    let digit = sym c.is_ascii_digit.ensures.value ∙ c.if-not-is_ascii_digit.false in
    rw c.from_residual-in_err-value.ensures (no_number c.args.text.now c.loop-at.at c.loop-at.value c.loop-at-test.true c.loop-at.invariant.before c.loop-at.invariant.value
    (digit_no_space _ digit) (inr (λ fits. c.in_err-value.ensures (let is = c.in_ok-checked_mul.ensures.1 in omega arith))))

pub returns : goal.returns
returns c =
    let text = c.args.text.now in
    let at = ends_at text c.loop-at.at (omega arith) c.loop-at.invariant.before (λ lt. absurd (omega arith)) in
    let whole : length text ≡ position_or_len is_space text = omega arith in
    (word_ends text c.loop-at.at c.loop-at.value c.requires at c.loop-at.invariant.value, whole)
