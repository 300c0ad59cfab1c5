use Rattle.std.proofs.Common.{List, length, ap, subst, arith}
use Rattle.bc_bucket.specs.declared.bucket.Bucket.{Bucket}
use Rattle.bc_alloc.specs.Victims.{AreFirst, IsCandidate}
use Rattle.bc_alloc.proofs.Raising.{seen_as}
use Rattle.bc_plain.proofs.Reserved.{victims}
use Rattle.bc_plain.proofs.reserves.PlainReserves.victims.Goals as goal

pub returns : goal.returns
returns c =
    let records = c.args.b.now.records in
    let flags = c.in_ok-flags.flags.items in
    let vs = c.in_ok-chosen.chosen.items in
    let same = ap (λ (xs : List Bucket). length xs) c.records.ensures in
    let found = seen_as records c.records-2.result.now flags c.deref.result.now c.wanted.result vs c.records-2.ensures c.deref.ensures.value c.in_ok-chosen.ensures in
    subst (λ n. AreFirst (IsCandidate c.args.self.now c.args.b.now) records n vs) c.wanted.ensures
    (victims c.args.self.now c.args.b.now flags c.wanted.result vs (λ k lt. c.in_ok-flags.ensures.each k (omega arith)) found)
