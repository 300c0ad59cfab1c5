use Rattle.std.proofs.Common.{List, Bool, subst}
use Rattle.bc_bucket.specs.declared.bucket.Bucket.{Bucket}
use Rattle.bc_alloc.specs.Reserves.{Reserves}
use Rattle.bc_alloc.specs.Victims.{AreFirst, IsCandidate, IsOpen}
use Rattle.bc_alloc.specs.Inside.{reserves_in}
use Rattle.bc_alloc.proofs.Raising.{victims}
use Rattle.bc_alloc.proofs.reserves.Reserves.victims.Goals as goal

pub returns-clause-victims : goal.returns-clause-victims
returns-clause-victims c =
    let vs = c.find_first.new.taken.items in
    let by_records = subst (λ (xs : List Bucket). AreFirst (IsOpen xs c.deref.result.now) xs c.wanted-most.result vs) c.records.ensures c.find_first.ensures.first in
    let by_flags = subst (λ (fs : List Bool). AreFirst (IsOpen c.args.b.now.records fs) c.args.b.now.records c.wanted-most.result vs) c.deref.ensures.value by_records in
    let of_fields = victims (reserves_in c.self.inside) c.args.b.now c.self.inside.listed.items c.wanted-most.result vs c.self.invariant.flagged by_flags in
    let whole = subst (λ (r : Reserves). AreFirst (IsCandidate r c.args.b.now) c.args.b.now.records c.wanted-most.result vs) c.self.view_is of_fields in
    subst (λ n. AreFirst (IsCandidate c.args.self.now c.args.b.now) c.args.b.now.records n vs) c.wanted-most.ensures whole
