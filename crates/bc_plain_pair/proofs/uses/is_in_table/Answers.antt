use Rattle.std.proofs.Common.{subst}
use Rattle.std.specs.Bool.{MatchBool}
use Rattle.bc_image.specs.Pointers.{PointsInto}
use Rattle.bc_jset.specs.Entries.{FoundEntry}
use Rattle.bc_plain_pair.proofs.uses.is_in_table.Goals as goal

pub returns : goal.returns
returns c =
    subst (λ (e : FoundEntry). MatchBool c.points_into.result (PointsInto c.args.g.now e.item.uuid_bucket c.args.bucket) (PointsInto c.args.g.now e.item.uuid_bucket c.args.bucket → ⊥)) c.newest.ensures c.points_into.ensures
