use Rattle.std.proofs.Common.{Some, refl, sym, ap, ◌∙◌, subst}
use Rattle.bc_flight.specs.Flight.{InFlight}
use Rattle.bc_place.specs.bc_machine.declared.part.BucketsPart.{BucketsPart}
use Rattle.bc_candidate.specs.Dead.{HasLeft, HasTaken}
use Rattle.bc_candidate.proofs.InHand.{one_there, works_both}
use Rattle.bc_candidate.proofs.dead.drop_dead.Goals as goal

pub returns-clause-works : goal.returns-clause-works
returns-clause-works g c = works_both g.C.Disk.facts g.B.Disk.facts c.args.parts.now c.args.seat.now
    c.dead_in-done.new.seat c.args.hand.now c.in-Some.flight c.dead_in-done.new.flight
    c.in-Some-take.buckets c.dead_in-done.new.part (sym c.take.ensures.value ∙ c.in-Some.is)
    (sym c.take-2.ensures.value ∙ c.in-Some-take.is) c.requires.works c.dead_in-done.ensures.seat
    c.dead_in-done.ensures.kept c.dead_in-done.ensures.flight c.dead_in-done.ensures.buckets

pub returns-clause-buckets : goal.returns-clause-buckets
returns-clause-buckets g c flight at part on = (
  c.dead_in-done.new.part,
  refl,
  subst (λ (f : InFlight). HasLeft c.dead_in-done.result f part c.dead_in-done.new.part)
      (one_there c.args.hand.now.flight c.in-Some.flight flight
      (sym c.take.ensures.value ∙ c.in-Some.is) at)
      (subst (λ (p : BucketsPart). HasLeft c.dead_in-done.result c.in-Some.flight p
      c.dead_in-done.new.part)
      (one_there c.args.hand.now.buckets c.get_mut.result.now part
      (sym c.take-2.ensures.value ∙ c.in-Some-take.is
      ∙ ap Some (sym c.get_mut.ensures.part)) on) c.dead_in-done.ensures.left),
)

pub returns-clause-flight : goal.returns-clause-flight
returns-clause-flight g c flight at = (
  c.dead_in-done.new.flight,
  refl,
  subst (λ (f : InFlight). HasTaken c.dead_in-done.result f c.dead_in-done.new.flight)
      (one_there c.args.hand.now.flight c.in-Some.flight flight
      (sym c.take.ensures.value ∙ c.in-Some.is) at) c.dead_in-done.ensures.took,
)
