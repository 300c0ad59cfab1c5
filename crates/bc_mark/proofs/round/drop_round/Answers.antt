use Rattle.std.proofs.Common.{◌≡◌, Some, true, refl, sym, ap, ◌∙◌, subst}
use Rattle.bc_place.specs.bc_machine.declared.part.BucketsPart.{BucketsPart}
use Rattle.bc_mark.proofs.InHand.{on_ok, same_some, works_anew}
use Rattle.bc_mark.proofs.round.drop_round.Goals as goal

pub drop_in-done-requires-clause-going : goal.drop_in-done-requires-clause-going
drop_in-done-requires-clause-going g c = subst (λ (p : BucketsPart). p.round.going ≡ true)
    (same_some c.args.hand.now.buckets c.requires.going.0 c.get_mut.result.now c.requires.going.1
    (sym c.take.ensures.value ∙ c.in-Some.is ∙ ap Some (sym c.get_mut.ensures.part)))
    c.requires.going.2

pub returns-clause-works : goal.returns-clause-works
returns-clause-works g c = works_anew g.C.Disk.facts g.B.Disk.facts c.args.parts.now c.args.seat.now
    c.drop_in-done.new.seat c.args.hand.now c.get_mut.result.now c.drop_in-done.new.part
    (sym c.take.ensures.value ∙ c.in-Some.is ∙ ap Some (sym c.get_mut.ensures.part))
    c.requires.works c.drop_in-done.ensures.seat c.drop_in-done.ensures.kept
    c.drop_in-done.ensures.buckets

pub returns-clause-part : goal.returns-clause-part
returns-clause-part g c = on_ok c.drop_in-done.result (λ is. (
  c.get_mut.result.now,
  c.drop_in-done.new.part,
  sym c.take.ensures.value ∙ c.in-Some.is ∙ ap Some (sym c.get_mut.ensures.part),
  refl,
  is,
)) c.drop_in-done.ensures.part
