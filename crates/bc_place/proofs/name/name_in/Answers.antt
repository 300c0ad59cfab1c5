use Rattle.std.proofs.Common.{ap, ◌∙◌}
use Rattle.bc_bucket.specs.declared.bucket.Bucket.{Bucket}
use Rattle.bc_place.proofs.Marking.{names_in}
use Rattle.bc_place.proofs.name.name_in.Goals as goal

pub returns : goal.returns
returns c = c.touch.ensures ∙ names_in c.args.bucket c.args.count c.get-used.result.used
    c.args.buckets.now c.unpin_each.new.buckets c.mark.new.self c.requires c.unpin_each.ensures
    (ap (λ (b : Bucket). b.used) c.get-used.ensures) c.mark.ensures
