use Rattle.std.proofs.Common.{◌≡◌, false, None, Some, refl, sym, ap, ◌∙◌, subst}
use Rattle.bc_chain.proofs.of_bc_deed.May.{did_nothing}
use Rattle.bc_chain.specs.bc_hand.Seats.{world}
use Rattle.bc_chain.specs.bc_machine.declared.part.BucketsPart.{BucketsPart}
use Rattle.bc_chain.proofs.of_bc_place.Storing.{keeps_nothing}
use Rattle.bc_entry.specs.Seal.{CanSeal}
use Rattle.bc_held.proofs.Keeping.{keeps_nothing as held_nothing}
use Rattle.bc_journal.specs.Journal.{Journal}
use Rattle.bc_new_chain.proofs.Keeping.{beside_all}
use Rattle.bc_new_chain.proofs.InHand.{holds_three, same_some, three_ok, works_both}
use Rattle.bc_new_chain.proofs.seal.seal_chain.Goals as goal
use Rattle.bc_new_chain.specs.Seal.{IsReadyChain}
use Rattle.bc_parts.specs.Seat.{Holds}

pub returns-in-Some-clause-err : goal.returns-in-Some-clause-err
returns-in-Some-clause-err g c = did_nothing g.C.Disk.facts g.B.Disk.facts c.args.seat.now
    c.requires.works.seat

pub returns-in-Some-clause-keeps : goal.returns-in-Some-clause-keeps
returns-in-Some-clause-keeps g c = keeps_nothing g.C.Disk.facts g.B.Disk.facts c.args.seat.now
    c.requires.works.seat

pub returns-in-Some-clause-held : goal.returns-in-Some-clause-held
returns-in-Some-clause-held g c = beside_all g.C.Disk.facts g.B.Disk.facts c.args.new.now
    c.args.seat.now c.args.seat.now (held_nothing g.C.Disk.facts g.B.Disk.facts None c.args.seat.now)

pub seal_in-done-requires-clause-holds : goal.seal_in-done-requires-clause-holds
seal_in-done-requires-clause-holds g c =
    let may = c.requires.may in
    let three = holds_three c.args.hand.now may.buckets may.journal may.cache may.are_buckets
    may.is_journal may.is_cache in (
      subst (λ ks. Holds ks 2) (sym c.requires.works.parts) three.0,
      subst (λ ks. Holds ks 3) (sym c.requires.works.parts) three.1,
      subst (λ ks. Holds ks 4) (sym c.requires.works.parts) three.2,
    )

pub seal_in-done-requires-clause-can : goal.seal_in-done-requires-clause-can
seal_in-done-requires-clause-can g c =
    let may = c.requires.may in
    subst CanSeal (same_some c.args.hand.now.journal may.journal c.get_mut.result.now
    may.is_journal (sym c.take-2.ensures.value ∙ c.in-Some-take-2.is
    ∙ ap Some (sym c.get_mut.ensures.part))) may.seals

pub seal_in-done-requires-clause-settled : goal.seal_in-done-requires-clause-settled
seal_in-done-requires-clause-settled g c =
    let may = c.requires.may in
    subst (λ (p : BucketsPart). p.renewing ≡ false)
    (same_some c.args.hand.now.buckets may.buckets c.get_mut-part.result.now
    may.are_buckets (sym c.take.ensures.value ∙ c.in-Some-take.is
    ∙ ap Some (sym c.get_mut-part.ensures.part))) may.settled

pub seal_in-done-requires-clause-chain : goal.seal_in-done-requires-clause-chain
seal_in-done-requires-clause-chain g c =
    let may = c.requires.may in
    let x = world g.C.Disk.facts g.B.Disk.facts c.args.seat.now in (
      may.records,
      subst (λ (j : Journal). IsReadyChain c.args.seat.now.first may.records c.args.new.now
          c.get_mut-part.result.now j x)
          (same_some c.args.hand.now.journal may.journal c.get_mut.result.now
          may.is_journal (sym c.take-2.ensures.value ∙ c.in-Some-take-2.is
          ∙ ap Some (sym c.get_mut.ensures.part)))
          (subst (λ (p : BucketsPart). IsReadyChain c.args.seat.now.first may.records
          c.args.new.now p may.journal x)
          (same_some c.args.hand.now.buckets may.buckets c.get_mut-part.result.now
          may.are_buckets (sym c.take.ensures.value ∙ c.in-Some-take.is
          ∙ ap Some (sym c.get_mut-part.ensures.part))) may.ready),
    )

pub returns-clause-works : goal.returns-clause-works
returns-clause-works g c = works_both g.C.Disk.facts g.B.Disk.facts c.args.parts.now
    c.args.seat.now c.seal_in-done.new.seat c.args.hand.now c.get_mut-part.result.now
    c.seal_in-done.new.part c.get_mut.result.now c.seal_in-done.new.journal
    (sym c.take.ensures.value ∙ c.in-Some-take.is ∙ ap Some (sym c.get_mut-part.ensures.part))
    (sym c.take-2.ensures.value ∙ c.in-Some-take-2.is ∙ ap Some (sym c.get_mut.ensures.part))
    c.requires.works c.seal_in-done.ensures.seat c.seal_in-done.ensures.kept
    c.seal_in-done.ensures.buckets c.seal_in-done.ensures.journal

pub returns-clause-ok : goal.returns-clause-ok
returns-clause-ok g c = three_ok c.seal_in-done.result (λ entry sealed renews did. (
  c.get_mut.result.now,
  c.seal_in-done.new.journal,
  record {
    buckets = c.get_mut-part.result.now;
    renewing = c.seal_in-done.new.part;
    are_buckets = sym c.take.ensures.value ∙ c.in-Some-take.is
        ∙ ap Some (sym c.get_mut-part.ensures.part);
    is_journal = sym c.take-2.ensures.value ∙ c.in-Some-take-2.is
        ∙ ap Some (sym c.get_mut.ensures.part);
    hand = refl;
    renews = renews;
    sealed = sealed;
  },
  did,
)) c.seal_in-done.ensures.sealed c.seal_in-done.ensures.renews c.seal_in-done.ensures.ok
