use Rattle.std.proofs.Common.{◌+◌, arith}
use Rattle.bc_leaf_walk.proofs.Cutting.{counted_next}
use Rattle.bc_key.specs.Key.{start_of}
use Rattle.bc_leaf_walk.proofs.count.count_key.Goals as goal

pub loop-sector-preserved : goal.loop-sector-preserved
loop-sector-preserved c =
    let low = c.loop-sector.invariant.1 in
    let piece = c.count_piece-sector.ensures.piece in
    let count = piece.2 in (
      c.count_piece-sector.ensures.each,
      omega (arith, low),
      c.count_piece-sector.ensures.within,
      counted_next c.args.buckets.now c.args.before c.args.key.now c.in-Some.ptr
          (start_of c.args.key.now) c.loop-sector.sector
          (c.loop-sector.sector + c.count_piece-sector.result) c.args.walk.now c.loop-sector.walk
          c.count_piece-sector.new.walk c.loop-sector.invariant.3 piece.0 piece.1
          (omega (arith, count)) piece.3 piece.4,
    )
