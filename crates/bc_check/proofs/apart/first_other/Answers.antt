use Rattle.std.proofs.Common.{inl, inr, arith, sym, subst}
use Rattle.std.proofs.lemmas.Bool.{cases_eq}
use Rattle.bc_check.specs.Apart.{AreSameIn}
use Rattle.bc_check.proofs.Runs.{differs, agrees}
use Rattle.bc_check.proofs.apart.first_other.Goals as goal

pub returns-then-ne : goal.returns-then-ne
returns-then-ne c = (c.loop-k-test.true, differs c.args.one.now c.args.other.now c.loop-k.k (sym c.if-ne.ensures), c.loop-k.invariant)

pub loop-k-preserved : goal.loop-k-preserved
loop-k-preserved c = λ j low.
    elim (cases_eq j c.loop-k.k) [
      | inl same ↦ subst (λ n. AreSameIn c.args.one.now c.args.other.now n) (sym same) (agrees c.args.one.now c.args.other.now c.loop-k.k (sym c.if-ne.ensures))
      | inr other ↦ c.loop-k.invariant j (omega (arith, low, other))
    ]
