use Rattle.std.proofs.Common.{◌/◌, max, refl, ap, ◌∙◌}
use Rattle.bc_leaf_walk.proofs.Cutting.{piece_is}
use Rattle.bc_leaf_walk.proofs.count.count_piece.Goals as goal

pub returns-clause-piece : goal.returns-clause-piece
returns-clause-piece c = (
  record { first = c.args.sector; count = c.piece_len-count.result; bucket = c.max.result },
  refl,
  refl,
  piece_is c.from-size.result c.args.buckets.now.size c.args.before c.args.key.now c.args.ptr
      c.args.sector c.place-place.result c.piece_len-count.result c.max.result
      (c.from-size.ensures ∙ c.bucket_sectors.ensures.size) c.requires.pointer
      c.place-place.ensures c.requires.covers c.piece_len-count.ensures.some
      c.piece_len-count.ensures.bucket c.piece_len-count.ensures.around
      (c.max.ensures ∙ ap (max (c.place-place.result / c.from-size.result)) c.from.ensures),
  c.count_at.ensures,
)
