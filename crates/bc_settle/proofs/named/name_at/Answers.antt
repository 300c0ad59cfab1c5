use Rattle.std.proofs.Common.{◌∙◌}
use Rattle.bc_settle.proofs.Naming.{names_at}
use Rattle.bc_settle.proofs.named.name_at.Goals as goal

pub returns : goal.returns
returns c = c.touch.ensures ∙ names_at c.args.bucket c.args.count c.args.buckets.now
    c.unpin_each.new.buckets c.mark_clean.new.buckets c.requires c.unpin_each.ensures
    c.mark_clean.ensures
