use Rattle.bc_plain_pair.proofs.Lives.{LiveBelow}
use Rattle.bc_plain_pair.proofs.uses.live_buckets.Given as goal

abbrev pub invariant-loop-sector : goal.invariant-loop-sector
invariant-loop-sector l = LiveBelow l.v.geometry l.v.reading l.sector l.buckets.items
