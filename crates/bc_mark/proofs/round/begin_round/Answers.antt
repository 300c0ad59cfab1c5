use Rattle.std.proofs.Common.{◌≡◌, Some, false, refl, sym, ap, ◌∙◌, subst}
use Rattle.bc_place.specs.bc_machine.declared.part.BucketsPart.{BucketsPart}
use Rattle.bc_mark.proofs.InHand.{on_ok, same_some, works_anew}
use Rattle.bc_mark.proofs.round.begin_round.Goals as goal

pub begin_in-done-requires-clause-none : goal.begin_in-done-requires-clause-none
begin_in-done-requires-clause-none g c = subst (λ (p : BucketsPart). p.round.going ≡ false)
    (same_some c.args.hand.now.buckets c.requires.none.0 c.get_mut.result.now c.requires.none.1
    (sym c.take.ensures.value ∙ c.in-Some.is ∙ ap Some (sym c.get_mut.ensures.part)))
    c.requires.none.2

pub returns-clause-works : goal.returns-clause-works
returns-clause-works g c = works_anew g.C.Disk.facts g.B.Disk.facts c.args.parts.now c.args.seat.now
    c.begin_in-done.new.seat c.args.hand.now c.get_mut.result.now c.begin_in-done.new.part
    (sym c.take.ensures.value ∙ c.in-Some.is ∙ ap Some (sym c.get_mut.ensures.part))
    c.requires.works c.begin_in-done.ensures.seat c.begin_in-done.ensures.kept
    c.begin_in-done.ensures.buckets

pub returns-clause-part : goal.returns-clause-part
returns-clause-part g c = on_ok c.begin_in-done.result (λ is. (
  c.get_mut.result.now,
  c.begin_in-done.new.part,
  sym c.take.ensures.value ∙ c.in-Some.is ∙ ap Some (sym c.get_mut.ensures.part),
  refl,
  is,
)) c.begin_in-done.ensures.part
