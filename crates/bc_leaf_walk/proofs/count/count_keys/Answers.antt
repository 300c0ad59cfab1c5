use Rattle.std.proofs.Common.{refl}
use Rattle.bc_leaf_walk.proofs.Cutting.{keys_next}
use Rattle.bc_leaf_walk.proofs.count.count_keys.Goals as goal

pub loop-i-preserved : goal.loop-i-preserved
loop-i-preserved c = (
  c.count_key.ensures.each,
  keys_next c.args.buckets.now c.args.before c.args.keys.now.keys c.args.keys.now.keys c.loop-i.i
      c.key.result c.args.walk.now c.loop-i.walk c.count_key.new.walk refl c.key.ensures.key
      c.loop-i.invariant.1 c.count_key.ensures.counted,
)
