use Rattle.std.proofs.Common.{inl, inr, sym, subst, arith}
use Rattle.std.proofs.lemmas.Bool.{cases_eq}
use Rattle.bc_plain_pair.specs.Uses.{StandsAlone}
use Rattle.bc_plain_pair.proofs.Aparts.{all_apart, not_all}
use Rattle.bc_plain_pair.proofs.uses.are_apart.Goals as goal

pub returns-then-not-stands_alone : goal.returns-then-not-stands_alone
returns-then-not-stands_alone c = not_all c.args.g.now c.args.nodes.now c.loop-i.i c.if-not-stands_alone.ensures

pub loop-i-preserved : goal.loop-i-preserved
loop-i-preserved c = λ k low. elim (cases_eq k c.loop-i.i) [
  | inl same ↦ subst (StandsAlone c.args.g.now c.args.nodes.now) (sym same) c.if-not-stands_alone.ensures
  | inr other ↦ c.loop-i.invariant k (omega (arith, low, other))
]

pub returns : goal.returns
returns c = let end = c.loop-i-test.false in all_apart c.args.g.now c.args.nodes.now (λ i low. c.loop-i.invariant i (omega (arith, low, end)))
