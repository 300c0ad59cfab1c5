use Rattle.std.proofs.Common.{◌≡◌, ◌++◌, Ok, sym, subst}
use Rattle.bc_events.specs.Columns.{verdict_of}
use Rattle.bc_machine.specs.World.{IsEnabled}
use Rattle.bc_hand.specs.Seats.{by}
use Rattle.bc_hand.proofs.Knowing.{may_commit, did_commit, did_wait, map_ok, map_err}
use Rattle.bc_hand.proofs.seat.commit.Goals as goal

pub commit-requires-clause-enabled : goal.commit-requires-clause-enabled
commit-requires-clause-enabled g c = λ x since admitted.
    let v = c.args.seat.now in
    subst (λ n. IsEnabled x (by n c.args.deed)) (sym c.number.ensures.first)
    (may_commit g.C.Disk.facts g.B.Disk.facts v c.args.deed x c.requires.seat c.requires.may since
    (subst (λ n. verdict_of (v.seen ++ since.others) (by n c.args.deed) ≡ Ok tt) c.number.ensures.first admitted))

pub returns-clause-ok : goal.returns-clause-ok
returns-clause-ok g c = map_ok c.commit.result
    (did_commit g.C.Disk.facts g.B.Disk.facts c.args.seat.now c.commit.new.seat c.args.deed c.number.result
    c.requires.seat c.commit.ensures.kept.seat c.number.ensures.first) c.commit.ensures.ok

pub returns-clause-err : goal.returns-clause-err
returns-clause-err g c = map_err c.commit.result
    (did_wait g.C.Disk.facts g.B.Disk.facts c.args.seat.now c.commit.new.seat c.requires.seat
    c.commit.ensures.kept.seat) c.commit.ensures.err
