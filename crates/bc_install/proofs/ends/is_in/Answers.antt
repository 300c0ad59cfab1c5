use Rattle.std.proofs.Common.{refl}
use Rattle.bc_install.proofs.Each.{in_at, not_next}
use Rattle.bc_install.proofs.ends.is_in.Goals as goal

pub returns-then-other-number : goal.returns-then-other-number
returns-then-other-number c = (
  λ _. in_at c.args.list.now c.loop-other.other-index c.args.number _ c.loop-other-test.true
      c.if-other-number.true,
  λ there. refl,
)

pub loop-other-preserved : goal.loop-other-preserved
loop-other-preserved c = not_next c.args.list.now c.loop-other.other-index c.args.number
    c.loop-other-test.true c.loop-other.invariant c.if-other-number.false
