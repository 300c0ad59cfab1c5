use Rattle.std.proofs.Common.{ap}
use Rattle.std.specs.Prelude.{ℕ}
use Rattle.bc_pair.proofs.Makings.{with_state}
use Rattle.bc_pair.specs.Made.{adopted_backing}
use Rattle.bc_pair.proofs.adopt.adopted_backing.Goals as goal

pub returns : goal.returns
returns c = ap (λ (n : ℕ). record (adopted_backing c.args.c.now c.args.b.now) { flags = n }) (with_state c.args.b.now.flags c.requires)
