use Rattle.std.proofs.Common.{◌≤◌, Some, length, refl, sym, ap, ◌∙◌, subst, take}
use Rattle.std.specs.Prelude.{vec_capacity}
use Rattle.bc_raise.proofs.InHand.{on_ok, same_some, works_anew}
use Rattle.bc_raise.specs.bc_hand.Seats.{world}
use Rattle.bc_raise.specs.bc_machine.World.{FromEach}
use Rattle.bc_raise.specs.bc_machine.declared.part.BucketsPart.{BucketsPart}
use Rattle.bc_raise.specs.bc_renew.Ready.{MayReady}
use Rattle.bc_ready.proofs.ready.make_ready.Goals as goal

pub ready_in-done-requires-clause-back : goal.ready_in-done-requires-clause-back
ready_in-done-requires-clause-back g c = (
  c.requires.back,
  subst (λ (p : BucketsPart). length p.chain.items ≤ vec_capacity c.args.back)
      (same_some c.args.hand.now.buckets c.requires.may.0 c.get_mut.result.now c.requires.may.1
      (sym c.take.ensures.value ∙ c.in-Some.is ∙ ap Some (sym c.get_mut.ensures.part)))
      c.requires.may.3,
)

pub ready_in-done-requires-clause-named : goal.ready_in-done-requires-clause-named
ready_in-done-requires-clause-named g c = subst (λ (p : BucketsPart). c.args.named
    ≤ length p.reserves.raised)
    (same_some c.args.hand.now.buckets c.requires.may.0 c.get_mut.result.now c.requires.may.1
    (sym c.take.ensures.value ∙ c.in-Some.is ∙ ap Some (sym c.get_mut.ensures.part)))
    c.requires.may.2

pub ready_in-done-requires-clause-may : goal.ready_in-done-requires-clause-may
ready_in-done-requires-clause-may g c = subst (λ (p : BucketsPart). FromEach
    (world g.C.Disk.facts g.B.Disk.facts c.args.seat.now)
    (MayReady c.args.seat.now.first (take c.args.named p.reserves.raised) c.args.new.items))
    (same_some c.args.hand.now.buckets c.requires.may.0 c.get_mut.result.now c.requires.may.1
    (sym c.take.ensures.value ∙ c.in-Some.is ∙ ap Some (sym c.get_mut.ensures.part)))
    c.requires.may.4

pub returns-clause-works : goal.returns-clause-works
returns-clause-works g c = works_anew g.C.Disk.facts g.B.Disk.facts c.args.parts.now c.args.seat.now
    c.ready_in-done.new.seat c.args.hand.now c.get_mut.result.now c.ready_in-done.new.part
    (sym c.take.ensures.value ∙ c.in-Some.is ∙ ap Some (sym c.get_mut.ensures.part))
    c.requires.works c.ready_in-done.ensures.seat c.ready_in-done.ensures.kept
    c.ready_in-done.ensures.buckets

pub returns-clause-part : goal.returns-clause-part
returns-clause-part g c = on_ok c.ready_in-done.result (λ is. record {
  old = c.get_mut.result.now;
  then_ = c.ready_in-done.new.part;
  was = sym c.take.ensures.value ∙ c.in-Some.is ∙ ap Some (sym c.get_mut.ensures.part);
  now = refl;
  made = is;
}) c.ready_in-done.ensures.part

pub returns-clause-ok : goal.returns-clause-ok
returns-clause-ok g c = on_ok c.ready_in-done.result (λ did. (
  c.get_mut.result.now,
  sym c.take.ensures.value ∙ c.in-Some.is ∙ ap Some (sym c.get_mut.ensures.part),
  did,
)) c.ready_in-done.ensures.ok
