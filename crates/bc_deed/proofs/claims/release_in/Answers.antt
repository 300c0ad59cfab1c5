use Rattle.std.proofs.Common.{ap, ◌∙◌}
use Rattle.bc_flight.specs.Flight.{without}
use Rattle.bc_events.specs.declared.event.Deed.TheVariants as deed
use Rattle.bc_deed.proofs.May.{holds_only, kept_as, claims_changed}
use Rattle.bc_deed.proofs.Claiming.{its_claim, may_release, committed_flight, flight_released}
use Rattle.bc_deed.proofs.claims.release_in.Goals as goal

pub returns-clause-flight : goal.returns-clause-flight
returns-clause-flight g c = let v = c.args.seat.now in let f = c.args.flight.now in
    committed_flight g.C.Disk.facts g.B.Disk.facts v c.commit.new.seat f c.release.new.self deed.Release
    c.requires.holds c.requires.flight c.in-Ok.ensures.ok
    (λ x on firm. flight_released f c.release.new.self x v.first on c.release.ensures.seats
    (c.release.ensures.claims ∙ ap (λ n. without n f.claims) c.requires.its.its_seat)
    c.release.ensures.candidates c.release.ensures.next)
    c.requires.seat

pub release-requires : goal.release-requires
release-requires g c = its_claim g.C.Disk.facts g.B.Disk.facts c.args.seat.now c.args.flight.now
    c.args.claim c.requires.seat c.requires.flight c.requires.its

pub commit-requires-clause-may : goal.commit-requires-clause-may
commit-requires-clause-may g c = may_release g.C.Disk.facts g.B.Disk.facts c.args.seat.now c.requires.seat

pub commit-requires-clause-holds : goal.commit-requires-clause-holds
commit-requires-clause-holds g c = holds_only g.C.Disk.facts g.B.Disk.facts c.args.seat.now.parts 1 _
    claims_changed c.requires.holds

pub returns-clause-kept : goal.returns-clause-kept
returns-clause-kept g c = kept_as g.C.Disk.facts g.B.Disk.facts c.args.seat.now c.commit.new.seat _ _
    claims_changed c.in-Ok.ensures.kept
