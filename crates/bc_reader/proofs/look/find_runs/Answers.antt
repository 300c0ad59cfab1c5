use Rattle.std.proofs.Common.{◌+◌, subst}
use Rattle.bc_fetch.specs.bc_machine.declared.part.BucketsPart.{BucketsPart}
use Rattle.bc_reader.specs.Look.{IsSeenBy, NotSeenBy}
use Rattle.bc_reader.proofs.Finding.{found_in, is_there, not_in}
use Rattle.bc_reader.proofs.look.find_runs.Goals as goal

pub unreachable-requires-in_default-find : goal.unreachable-requires-in_default-find
unreachable-requires-in_default-find g c = is_there c.args.hand.now c.args.number c.args.first
    c.args.count c.in-Some.leaves c.in-Some.is c.requires.both c.in_default-find.ensures

pub returns-in-Ok-clause-ok : goal.returns-in-Ok-clause-ok
returns-in-Ok-clause-ok g c = (
  found_in c.args.hand.now c.args.number c.args.first c.args.count c.in-Some.leaves c.in-Some.is
      c.requires.both c.in-Some-buckets.part c.in-Some-buckets.is c.in-Some-find.slot
      c.leaf-leaf.result.now c.in-Some-find.ensures c.leaf-leaf.ensures c.in-Ok.seen
      (subst (λ (p : BucketsPart). IsSeenBy c.leaf-leaf.result.now p.buckets c.args.first
      (c.args.first + c.args.count) c.in-Ok.seen) c.get.ensures c.in-Ok.ensures.ok.0),
  c.in-Ok.ensures.ok.1,
)

pub returns-in-Err-clause-err : goal.returns-in-Err-clause-err
returns-in-Err-clause-err g c = not_in c.args.hand.now c.args.number c.args.first c.args.count
    c.in-Some.leaves c.in-Some.is c.requires.both c.in-Some-buckets.part c.in-Some-buckets.is
    c.in-Some-find.slot c.leaf-leaf.result.now c.in-Some-find.ensures c.leaf-leaf.ensures
    c.args.sectors c.in-Err.error
    (subst (λ (p : BucketsPart). NotSeenBy c.leaf-leaf.result.now p.buckets c.args.first
    (c.args.first + c.args.count) c.args.sectors c.in-Err.error) c.get.ensures c.in-Err.ensures.err)
