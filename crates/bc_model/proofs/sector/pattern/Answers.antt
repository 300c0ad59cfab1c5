use Rattle.std.proofs.Common.{◌≡◌, sym, ◌∙◌, ap, take, length, arith, ◌*◌}
use Rattle.std.proofs.Math.Seq.{take-length}
use Rattle.bc_model.specs.Pattern.{pattern, words}
use Rattle.bc_model.proofs.Patterns.{one_pair}
use Rattle.bc_model.proofs.sector.pattern.Goals as goal

pub loop-pair-preserved : goal.loop-pair-preserved
loop-pair-preserved c = (
  omega arith,
  one_pair c.args.stamp c.args.sector c.loop-pair.pair c.loop-pair.value c.put_word.new.value c.put_word-in-loop-pair.new.value _ _ c.to_le_bytes-even.ensures c.to_le_bytes-odd.ensures c.loop-pair.invariant.1 c.put_word.ensures c.put_word-in-loop-pair.ensures,
)

pub returns : goal.returns
unfolding pattern
returns c =
    let n : length c.loop-pair.value ≡ 16 * c.loop-pair.pair = omega (arith, c.loop-pair.invariant.0) in
    let p : c.loop-pair.pair ≡ 32 = omega arith in
    sym (take-length c.loop-pair.value) ∙ ap (λ k. take k c.loop-pair.value) n ∙ c.loop-pair.invariant.1 ∙ ap (λ k. words c.args.stamp c.args.sector k) p
