use Rattle.bc_pair.proofs.Makings.{with_sync}
use Rattle.bc_pair.specs.Made.{adopted_cache}
use Rattle.bc_pair.proofs.adopt.adopted_cache.Goals as goal

pub returns : goal.returns
returns c =
    let version = c.version_in_use.ensures in
    let flags = with_sync c.args.c.now.flags c.requires in
    λ i. record (adopted_cache c.args.c.now c.args.l.now) { version = version i; flags = flags i }
