use Rattle.std.proofs.Common.{◌≡◌, Some}
use Rattle.bc_key.specs.Key.{pointer_of}
use Rattle.bc_plain_pair.proofs.Aparts.{points_by}
use Rattle.bc_plain_pair.proofs.uses.points_into.Goals as goal

pub returns-in-Some : goal.returns-in-Some
returns-in-Some c =
    let at : pointer_of c.args.key.now ≡ Some c.in-Some.ptr = cc in
    points_by c.args.g.now c.args.key.now c.args.bucket c.bucket_at.result c.in-Some.ptr at c.bucket_at.ensures
