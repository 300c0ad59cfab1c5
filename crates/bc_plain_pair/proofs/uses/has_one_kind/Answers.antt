use Rattle.std.proofs.Common.{inl, inr, ap, sym, subst, arith}
use Rattle.std.proofs.lemmas.Bool.{cases_eq}
use Rattle.bc_disk.specs.declared.geometry.Geometry.{Geometry}
use Rattle.bc_plain_pair.specs.Uses.{HasOneKind}
use Rattle.bc_plain_pair.proofs.UseCounts.{not_one_kind, one_kind}
use Rattle.bc_plain_pair.proofs.uses.has_one_kind.Goals as goal

pub returns-then-kinds-gt1 : goal.returns-then-kinds-gt1
returns-then-kinds-gt1 c = λ all.
    not_one_kind c.args.v.now.geometry c.args.v.now.reading c.loop-bucket.bucket c.count_uses-kinds.result c.count_uses-kinds.ensures c.if-kinds-gt1.true (all c.loop-bucket.bucket)

pub loop-bucket-preserved : goal.loop-bucket-preserved
loop-bucket-preserved c = λ k low. elim (cases_eq k c.loop-bucket.bucket) [
  | inl same ↦ subst (HasOneKind c.args.v.now.geometry c.args.v.now.reading) (sym same)
      (one_kind c.args.v.now.geometry c.args.v.now.reading c.loop-bucket.bucket c.count_uses-kinds.result c.count_uses-kinds.ensures c.if-kinds-gt1.false)
  | inr other ↦ c.loop-bucket.invariant k (omega (arith, low, other))
]

pub returns : goal.returns
returns c = λ bucket a b x y.
    let inside = c.requires.within a bucket x in
    let end = c.loop-bucket-test.false in
    let same = ap (λ (g : Geometry). g.nbuckets) c.geometry.ensures in
    c.loop-bucket.invariant bucket (omega (arith, inside, end, same)) a b x y
