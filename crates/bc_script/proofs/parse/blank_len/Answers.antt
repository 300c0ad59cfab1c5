use Rattle.std.proofs.Common.{sym, ap, not, arith, length}
use Rattle.std.proofs.lemmas.List.Sums.{position_or_len_is}
use Rattle.std.proofs.lemmas.Bool.{ne_eqb}
use Rattle.bc_script.specs.Line.{is_space}
use Rattle.bc_script.proofs.parse.blank_len.Goals as goal

pub returns-then-byte-ne32-clause-place : goal.returns-then-byte-ne32-clause-place
returns-then-byte-ne32-clause-place c =
    sym (position_or_len_is (λ b. not (is_space b)) c.args.text.now c.loop-at.at 0 (omega arith) (λ k lt. ap not (c.loop-at.invariant k lt)) (λ _. ap not (ne_eqb _ 32 c.if-byte-ne32.true)))

pub returns-clause-place : goal.returns-clause-place
returns-clause-place c =
    sym (position_or_len_is (λ b. not (is_space b)) c.args.text.now (length c.args.text.now) 0 (omega arith) (λ k lt. ap not (c.loop-at.invariant k (omega arith))) (λ lt. absurd (omega arith)))
