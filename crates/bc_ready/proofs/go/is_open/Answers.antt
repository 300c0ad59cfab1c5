use Rattle.std.proofs.Common.{refl}
use Rattle.bc_ready.proofs.Checks.{open_there}
use Rattle.bc_ready.proofs.go.is_open.Goals as goal

pub returns-then-o-bucket : goal.returns-then-o-bucket
returns-then-o-bucket c = (
  λ yes. open_there c.args.fill.now c.loop-o.o-index c.args.bucket _ c.loop-o-test.true
      c.if-o-bucket.true,
  λ some. refl,
)
