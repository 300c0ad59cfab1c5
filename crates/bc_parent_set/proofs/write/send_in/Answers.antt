use Rattle.std.proofs.Common.{sym, ◌∙◌}
use Rattle.bc_parent_set.proofs.Sent.{same_in, sent_in}
use Rattle.bc_parent_set.proofs.write.send_in.Goals as goal

pub returns : goal.returns
returns g c p d is at = sent_in g.C.Disk.facts c.args.plan.now c.send-sent.result.2
    c.send-sent.result.0 c.send-sent.result.1 c.get_mut.result.now p c.in-Some-take.cache d
    c.args.hand.now c.send-sent.new.spine c.send-sent.new.disk
    (c.get_mut.ensures.part ∙ same_in c.args.hand.now.spine c.in-Some.spine p
    (sym c.take.ensures.value ∙ c.in-Some.is) is)
    (same_in c.args.hand.now.cache c.in-Some-take.cache d
    (sym c.take-2.ensures.value ∙ c.in-Some-take.is) at)
    c.send-sent.ensures.sent c.send-sent.ensures.kept c.send-sent.ensures.fits
    c.send-sent.ensures.tree
