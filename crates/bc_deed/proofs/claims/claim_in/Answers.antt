use Rattle.std.proofs.Common.{◌≡◌, ◌++◌, ◌∷◌, [], List, false, inl, refl, sym, ap, ◌∙◌, subst, arith}
use Rattle.std.specs.Prelude.{All}
use Rattle.bc_flight.specs.Claims.{conflicts_any}
use Rattle.bc_flight.specs.Candidates.{after_claim}
use Rattle.bc_flight.specs.Flight.{IsRanged, claim_at}
use Rattle.bc_flight.specs.declared.claim.Claim.{Claim as FlightClaim}
use Rattle.bc_flight.proofs.Ordered.{ranged, taken}
use Rattle.bc_events.specs.declared.event.Deed.TheVariants as deed
use Rattle.bc_hand.specs.Seats.{world}
use Rattle.bc_deed.proofs.May.{low, did_nothing}
use Rattle.bc_deed.proofs.Claiming.{may_claim, no_claim, claim_taken, committed_flight, flight_claimed, waited_flight}
use Rattle.bc_deed.proofs.claims.claim_in.Goals as goal

pub conflicts_with-requires-clause-claims : goal.conflicts_with-requires-clause-claims
conflicts_with-requires-clause-claims g c = subst (λ (cs : List FlightClaim). All IsRanged cs)
    (sym c.claims.ensures.value)
    (ranged c.args.flight.now.seats c.args.flight.now.claims c.claims.ensures.in_order)

pub returns-then-conflicts_with-clause-ok : goal.returns-then-conflicts_with-clause-ok
returns-then-conflicts_with-clause-ok g c = let v = c.args.seat.now in let f = c.args.flight.now in (
  did_nothing g.C.Disk.facts g.B.Disk.facts v c.requires.seat,
  claim_taken g.C.Disk.facts g.B.Disk.facts v f c.number.result c.args.first c.args.count c.args.share
      c.number.ensures.first c.requires.flight
      (taken f.seats (claim_at c.number.result c.args.first c.args.count c.args.share) f.claims
      c.claims.ensures.in_order
      (ap (conflicts_any (claim_at c.number.result c.args.first c.args.count c.args.share))
      (sym c.claims.ensures.value) ∙ sym c.conflicts_with.ensures ∙ c.if-conflicts_with.true)),
)

pub commit-requires-clause-may : goal.commit-requires-clause-may
commit-requires-clause-may g c = let v = c.args.seat.now in let f = c.args.flight.now in
    may_claim g.C.Disk.facts g.B.Disk.facts v f c.args.first c.args.count c.args.share c.requires.seat
    c.requires.holds c.requires.flight c.requires.none c.requires.range.0 c.requires.inside
    (subst (λ n. conflicts_any (claim_at n c.args.first c.args.count c.args.share) f.claims ≡ false)
    c.number.ensures.first
    (ap (conflicts_any (claim_at c.number.result c.args.first c.args.count c.args.share))
    (sym c.claims.ensures.value) ∙ sym c.conflicts_with.ensures ∙ c.if-conflicts_with.false))

pub returns-in-Err-clause-flight : goal.returns-in-Err-clause-flight
returns-in-Err-clause-flight g c = waited_flight g.C.Disk.facts g.B.Disk.facts c.args.seat.now
    c.commit.new.seat c.args.flight.now c.requires.seat c.requires.holds c.requires.flight
    c.in-Err.ensures.err

pub try_claim-requires-clause-seat : goal.try_claim-requires-clause-seat
try_claim-requires-clause-seat g c = let v = c.args.seat.now in
    let few = low g.C.Disk.facts g.B.Disk.facts v c.requires.seat in
    let all = (c.requires.flight (world g.C.Disk.facts g.B.Disk.facts v) (inl refl)).seats in
    let is = c.number.ensures.first in omega arith

pub try_claim-requires-clause-none : goal.try_claim-requires-clause-none
try_claim-requires-clause-none g c = no_claim g.C.Disk.facts g.B.Disk.facts c.args.seat.now
    c.args.flight.now c.number.result c.number.ensures.first c.requires.seat c.requires.flight c.requires.none

pub returns-clause-flight : goal.returns-clause-flight
returns-clause-flight g c = let v = c.args.seat.now in let f = c.args.flight.now in
    committed_flight g.C.Disk.facts g.B.Disk.facts v c.commit.new.seat f c.try_claim.new.self
    (deed.Claim c.args.first c.args.count c.args.share) c.requires.holds c.requires.flight
    c.in_default.ensures.ok
    (λ x on firm. flight_claimed f c.try_claim.new.self x v.first c.args.first c.args.count c.args.share on
    c.in-Some.ensures.seats
    (c.in-Some.ensures.claimed ∙ ap (λ n. f.claims ++ claim_at n c.args.first c.args.count c.args.share ∷ [])
    c.number.ensures.first)
    (c.in-Some.ensures.killed
    ∙ ap (λ n. after_claim (claim_at n c.args.first c.args.count c.args.share) f.candidates)
    c.number.ensures.first)
    c.in-Some.ensures.next
    (ap (λ r. r.count) firm.range ∙ c.requires.none) c.requires.range.0)
    c.requires.seat
