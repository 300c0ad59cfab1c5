use Rattle.std.proofs.Common.{Some, refl, sym, ap, ◌∙◌, subst}
use Rattle.bc_held.specs.bc_machine.declared.part.BucketsPart.{BucketsPart}
use Rattle.bc_alloc.specs.Victims.{IsCandidate}
use Rattle.bc_raise.proofs.InHand.{on_ok, same_some, works_anew}
use Rattle.bc_raise.proofs.raise.raise.Goals as goal

pub raise_in-done-requires-clause-may : goal.raise_in-done-requires-clause-may
raise_in-done-requires-clause-may g c = subst (λ (p : BucketsPart). IsCandidate p.reserves
    p.buckets c.args.bucket)
    (same_some c.args.hand.now.buckets c.requires.may.0 c.get_mut.result.now c.requires.may.1
    (sym c.take.ensures.value ∙ c.in-Some.is ∙ ap Some (sym c.get_mut.ensures.part)))
    c.requires.may.2

pub returns-clause-works : goal.returns-clause-works
returns-clause-works g c = works_anew g.C.Disk.facts g.B.Disk.facts c.args.parts.now c.args.seat.now
    c.raise_in-done.new.seat c.args.hand.now c.get_mut.result.now c.raise_in-done.new.part
    (sym c.take.ensures.value ∙ c.in-Some.is ∙ ap Some (sym c.get_mut.ensures.part))
    c.requires.works c.raise_in-done.ensures.seat c.raise_in-done.ensures.kept
    c.raise_in-done.ensures.buckets

pub returns-clause-part : goal.returns-clause-part
returns-clause-part g c = on_ok c.raise_in-done.result (λ is. (
  c.get_mut.result.now,
  c.raise_in-done.new.part,
  sym c.take.ensures.value ∙ c.in-Some.is ∙ ap Some (sym c.get_mut.ensures.part),
  refl,
  is,
)) c.raise_in-done.ensures.part
