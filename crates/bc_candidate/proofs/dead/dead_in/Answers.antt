use Rattle.std.proofs.Common.{None, Some, refl, sym, ◌∙◌, subst}
use Rattle.bc_events.specs.declared.event.Deed.TheVariants as deed
use Rattle.bc_events.specs.declared.event.UnpinKind.TheVariants as unpin
use Rattle.bc_place.proofs.of_bc_deed.Claiming.{committed_flight}
use Rattle.bc_place.proofs.of_bc_deed.May.{did_nothing}
use Rattle.bc_place.proofs.Storing.{cached_by}
use Rattle.bc_candidate.specs.Dead.{HasLetGo}
use Rattle.bc_candidate.proofs.Dropping.{buckets_dropped, has_pointer, is_first_dead, kept_dropped, may_drop, none_killed}
use Rattle.bc_candidate.proofs.Flying.{flight_dropped}
use Rattle.bc_candidate.proofs.Seeing.{all_waited}
use Rattle.bc_candidate.proofs.dead.dead_in.Goals as goal

pub returns-in_default-clause-done : goal.returns-in_default-clause-done
returns-in_default-clause-done g c =
    let v = c.args.seat.now in
    let nothing = did_nothing g.C.Disk.facts g.B.Disk.facts v c.requires.seat in (
      nothing,
      none_killed c.args.flight.now _ c.requires.flight
          (is_first_dead c.candidates.result.now c.args.flight.now.candidates c.first_dead.result
          None
          c.candidates.ensures.value c.first_dead.ensures c.in_default.is),
      all_waited g.C.Disk.facts g.B.Disk.facts v v c.requires.seat nothing.is,
    )

pub unreachable-requires : goal.unreachable-requires
unreachable-requires g c = has_pointer c.args.flight.now _ c.in-Some.dead c.requires.flight
    (is_first_dead c.candidates.result.now c.args.flight.now.candidates c.first_dead.result
    (Some c.in-Some.dead) c.candidates.ensures.value c.first_dead.ensures c.in-Some.is)
    (sym c.pointer.ensures ∙ c.in_default-pointer.is)

pub commit-requires-clause-may : goal.commit-requires-clause-may
commit-requires-clause-may g c = may_drop g.C.Disk.facts g.B.Disk.facts c.args.seat.now
    c.requires.seat (cached_by g.C.Disk.facts g.B.Disk.facts c.args.parts.now c.args.seat.now
    c.requires.run c.requires.cached) c.requires.holds.0 c.args.flight.now c.requires.flight
    c.in-Some.dead
    (is_first_dead c.candidates.result.now c.args.flight.now.candidates c.first_dead.result
    (Some c.in-Some.dead) c.candidates.ensures.value c.first_dead.ensures c.in-Some.is)

pub returns-clause-flight : goal.returns-clause-flight
returns-clause-flight g c =
    let v = c.args.seat.now in
    let f = c.args.flight.now in
    committed_flight g.C.Disk.facts g.B.Disk.facts v c.commit.new.seat f c.dead.new.self
    (deed.Unpin (unpin.Dead c.in-Some.dead.number)) c.requires.holds.0 c.requires.flight
    c.in-Ok.ensures.ok
    (λ x on firm. flight_dropped f c.dead.new.self x v.first c.in-Some.dead
    c.candidates.ensures.numbered on
    (is_first_dead c.candidates.result.now f.candidates c.first_dead.result
    (Some c.in-Some.dead) c.candidates.ensures.value c.first_dead.ensures c.in-Some.is)
    c.dead.ensures.seats c.dead.ensures.claims c.dead.ensures.candidates c.dead.ensures.next)
    c.requires.seat

pub returns-clause-buckets : goal.returns-clause-buckets
returns-clause-buckets g c =
    let v = c.args.seat.now in
    let f = c.args.flight.now in
    buckets_dropped g.C.Disk.facts g.B.Disk.facts v c.commit.new.seat c.requires.seat
    c.in-Some.dead.number c.in-Ok.ensures.ok c.requires.holds.0 f c.requires.flight
    c.in-Some.dead
    (is_first_dead c.candidates.result.now f.candidates c.first_dead.result
    (Some c.in-Some.dead) c.candidates.ensures.value c.first_dead.ensures c.in-Some.is) refl
    c.requires.holds.1 c.args.part.now c.requires.buckets c.args.part.now.sized
    c.in-Some-pointer.ptr
    (sym c.pointer.ensures ∙ c.in-Some-pointer.is) c.let_go.new.part
    (subst (λ n. HasLetGo c.args.part.now c.in-Some-pointer.ptr.offset n c.let_go.new.part)
    c.from.ensures c.let_go.ensures)

pub returns-clause-done : goal.returns-clause-done
returns-clause-done g c = (
  c.in-Ok.ensures.ok,
  kept_dropped g.C.Disk.facts g.B.Disk.facts c.args.seat.now c.commit.new.seat c.requires.seat
      c.in-Some.dead.number c.in-Ok.ensures.ok,
)

pub returns-in_default-clause-took : goal.returns-in_default-clause-took
returns-in_default-clause-took g c = (
  is_first_dead c.candidates.result.now c.args.flight.now.candidates c.first_dead.result None
      c.candidates.ensures.value c.first_dead.ensures c.in_default.is,
  refl,
)

pub returns-clause-took : goal.returns-clause-took
returns-clause-took g c = record {
  oldest = c.in-Some.dead;
  is = is_first_dead c.candidates.result.now c.args.flight.now.candidates c.first_dead.result
      (Some c.in-Some.dead) c.candidates.ensures.value c.first_dead.ensures c.in-Some.is;
  number_is = refl;
  candidates = c.dead.ensures.candidates;
  claims = c.dead.ensures.claims;
  next = c.dead.ensures.next;
  seats = c.dead.ensures.seats;
}

pub returns-clause-left : goal.returns-clause-left
returns-clause-left g c = record {
  oldest = c.in-Some.dead;
  is = is_first_dead c.candidates.result.now c.args.flight.now.candidates c.first_dead.result
      (Some c.in-Some.dead) c.candidates.ensures.value c.first_dead.ensures c.in-Some.is;
  ptr = c.in-Some-pointer.ptr;
  lies = sym c.pointer.ensures ∙ c.in-Some-pointer.is;
  went = subst (λ n. HasLetGo c.args.part.now c.in-Some-pointer.ptr.offset n c.let_go.new.part)
      c.from.ensures c.let_go.ensures;
}
