use Rattle.std.proofs.Common.{ap, ◌∙◌}
use Rattle.bc_write_back.proofs.of_bc_insert.Putting.{one_some}
use Rattle.bc_write_back.specs.bc_machine.declared.part.BucketsPart.{BucketsPart}
use Rattle.bc_bypass.proofs.backed.bucket_sectors_in.Goals as goal

pub returns-clause-size : goal.returns-clause-size
returns-clause-size g c = λ parts number first count three. c.bucket_sectors.ensures.size
    ∙ ap (λ (p : BucketsPart). p.buckets.size)
    (c.get.ensures ∙ one_some c.args.hand.now.buckets c.in-Some.part three.buckets c.in-Some.is
    three.are_buckets)
