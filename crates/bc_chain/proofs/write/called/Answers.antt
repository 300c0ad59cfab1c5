use Rattle.bc_place.proofs.of_bc_deed.May.{holds_only, kept_as}
use Rattle.bc_chain.proofs.write.called.Goals as goal

pub commit-requires-clause-holds : goal.commit-requires-clause-holds
commit-requires-clause-holds g c = holds_only g.C.Disk.facts g.B.Disk.facts c.args.seat.now.parts 4
    _
    c.requires.alone c.requires.holds

pub returns-clause-kept : goal.returns-clause-kept
returns-clause-kept g c = kept_as g.C.Disk.facts g.B.Disk.facts c.args.seat.now c.commit.new.seat
    _ _ c.requires.alone c.commit.ensures.kept
