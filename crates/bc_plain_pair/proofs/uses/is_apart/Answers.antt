use Rattle.std.proofs.Common.{◌≡◌, ℕ, None, Some, subst}
use Rattle.std.specs.Bool.{MatchBool}
use Rattle.bc_image.specs.Pointers.{PointsInto}
use Rattle.bc_key.specs.Key.{pointer_of}
use Rattle.bc_key.specs.declared.key.Key.{Key}
use Rattle.bc_record.specs.Places.{bucket_at}
use Rattle.bc_plain_pair.proofs.Aparts.{apart_by, points_nowhere}
use Rattle.bc_plain_pair.proofs.uses.is_apart.Goals as goal

pub returns-in_default : goal.returns-in_default
returns-in_default c = let none : pointer_of c.args.one.now.key ≡ None = cc in points_nowhere c.args.g.now c.args.one.now c.args.other.now none

pub returns : goal.returns
returns c =
    let at : pointer_of c.args.one.now.key ≡ Some c.in-Some.ptr = cc in
    apart_by c.args.g.now c.args.one.now c.args.other.now c.in-Some.ptr c.points_into.result at
    (subst (λ (k : Key). MatchBool c.points_into.result (PointsInto c.args.g.now k (bucket_at c.args.g.now c.in-Some.ptr.offset)) (PointsInto c.args.g.now k (bucket_at c.args.g.now c.in-Some.ptr.offset) → ⊥)) c.key-second.ensures
    (subst (λ (b : ℕ). MatchBool c.points_into.result (PointsInto c.args.g.now c.key-second.result.now b) (PointsInto c.args.g.now c.key-second.result.now b → ⊥)) c.bucket_at.ensures c.points_into.ensures))
