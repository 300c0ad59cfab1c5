use Rattle.std.proofs.Common.{subst}
use Rattle.bc_change.specs.bc_hand.Seats.{MayDo}
use Rattle.bc_parent_set.specs.Write.{sent_by}
use Rattle.bc_parent_set.proofs.write.commit_sent.Goals as goal

pub called-requires-clause-may : goal.called-requires-clause-may
called-requires-clause-may g c = subst (λ r. MayDo g.C.Disk.facts g.B.Disk.facts c.args.seat.now
    (sent_by c.args.at c.args.what c.args.values r)) c.in-Ok.is c.requires.may

pub called-requires-in-Err-clause-may : goal.called-requires-in-Err-clause-may
called-requires-in-Err-clause-may g c = subst (λ r. MayDo g.C.Disk.facts g.B.Disk.facts
    c.args.seat.now (sent_by c.args.at c.args.what c.args.values r)) c.in-Err.is c.requires.may
