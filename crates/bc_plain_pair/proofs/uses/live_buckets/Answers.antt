use Rattle.std.proofs.Common.{sym, subst}
use Rattle.bc_plain_pair.proofs.Lives.{LiveBelow, are_live, live_more, none_yet}
use Rattle.bc_plain_pair.proofs.uses.live_buckets.Goals as goal

pub loop-sector-init : goal.loop-sector-init
loop-sector-init c = subst (LiveBelow c.args.v.now.geometry c.args.v.now.reading 0) (sym c.new-buckets.ensures.items) (none_yet c.args.v.now.geometry c.args.v.now.reading)

pub loop-sector-preserved : goal.loop-sector-preserved
loop-sector-preserved c =
    live_more c.args.v.now.geometry c.args.v.now.reading c.loop-sector.sector c.loop-sector.buckets.items _ c.live_bucket.result c.loop-sector.invariant c.live_bucket.ensures c.in_ok-add_found.ensures

pub returns : goal.returns
returns c = are_live c.args.v.now c.args.size c.loop-sector.sector c.args.keys.now c.loop-sector.buckets.items c.requires.keys c.requires.ends c.loop-sector-test.false c.loop-sector.invariant
