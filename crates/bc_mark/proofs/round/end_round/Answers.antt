use Rattle.std.proofs.Common.{◌≡◌, Some, true, refl, sym, ap, ◌∙◌, subst}
use Rattle.bc_place.specs.bc_hand.Seats.{world}
use Rattle.bc_place.specs.bc_machine.World.{FromEach}
use Rattle.bc_mark.specs.Steps.{MayEnd}
use Rattle.bc_place.specs.bc_machine.declared.part.BucketsPart.{BucketsPart}
use Rattle.bc_mark.proofs.InHand.{on_ok, same_some, works_anew}
use Rattle.bc_mark.proofs.round.end_round.Goals as goal

pub end_in-done-requires-clause-going : goal.end_in-done-requires-clause-going
end_in-done-requires-clause-going g c = subst (λ (p : BucketsPart). p.round.going ≡ true)
    (same_some c.args.hand.now.buckets c.requires.can.0 c.get_mut.result.now c.requires.can.1
    (sym c.take.ensures.value ∙ c.in-Some.is ∙ ap Some (sym c.get_mut.ensures.part)))
    c.requires.can.2

pub end_in-done-requires-clause-may : goal.end_in-done-requires-clause-may
end_in-done-requires-clause-may g c = subst (λ (p : BucketsPart).
    FromEach (world g.C.Disk.facts g.B.Disk.facts c.args.seat.now) (MayEnd p))
    (same_some c.args.hand.now.buckets c.requires.can.0 c.get_mut.result.now c.requires.can.1
    (sym c.take.ensures.value ∙ c.in-Some.is ∙ ap Some (sym c.get_mut.ensures.part)))
    c.requires.can.3

pub returns-clause-works : goal.returns-clause-works
returns-clause-works g c = works_anew g.C.Disk.facts g.B.Disk.facts c.args.parts.now c.args.seat.now
    c.end_in-done.new.seat c.args.hand.now c.get_mut.result.now c.end_in-done.new.part
    (sym c.take.ensures.value ∙ c.in-Some.is ∙ ap Some (sym c.get_mut.ensures.part))
    c.requires.works c.end_in-done.ensures.seat c.end_in-done.ensures.kept
    c.end_in-done.ensures.buckets

pub returns-clause-part : goal.returns-clause-part
returns-clause-part g c = on_ok c.end_in-done.result (λ is. (
  c.get_mut.result.now,
  c.end_in-done.new.part,
  sym c.take.ensures.value ∙ c.in-Some.is ∙ ap Some (sym c.get_mut.ensures.part),
  refl,
  is,
)) c.end_in-done.ensures.part
