use Rattle.std.proofs.Common.{inl, inr, [], ◌∷◌, length, refl, ap, ◌∙◌, subst}
use Rattle.bc_events.specs.declared.event.Deed.TheVariants as deed
use Rattle.bc_flight.specs.declared.claim.Share.TheVariants.{Exclusive}
use Rattle.bc_stored.specs.bc_deed.Flushed.{HasDone}
use Rattle.bc_job.proofs.Holding.{still_empty}
use Rattle.bc_request.proofs.Pieces.{claim_still, halted_or, idle_again, idle_still}
use Rattle.bc_request.proofs.of_bc_reader.Looking.{range_still}
use Rattle.bc_stored.specs.bc_machine.Frame.{Range}
use Rattle.bc_write_back.proofs.Coming.{before_claim, before_piece, before_still, claimed, come_or_not, none_both, released, same_before, same_piece}
use Rattle.bc_write_back.proofs.Going.{come_went, not_written_went}
use Rattle.bc_write_back.proofs.piece.write_piece.Goals as goal

pub claim_range-requires-clause-none : goal.claim_range-requires-clause-none
claim_range-requires-clause-none g c = ap (λ (r : Range). r.count)
    (range_still g.C.Disk.facts g.B.Disk.facts c.args.seat.now c.promise.new.seat
    c.promise.ensures.done) ∙ c.requires.idle.unclaimed

pub returns-in-Err-clause-idle : goal.returns-in-Err-clause-idle
returns-in-Err-clause-idle g c = idle_still g.C.Disk.facts g.B.Disk.facts c.args.parts.now
    c.args.seat.now c.claim_range.new.seat c.claim_range.new.hand c.requires.idle
    c.claim_range.ensures.empty c.claim_range.ensures.works c.in-Err.ensures.err.2

pub returns-in-Err-clause-err : goal.returns-in-Err-clause-err
returns-in-Err-clause-err g c = inl (record {
  cause = c.in-Err.error;
  is = refl;
  why = halted_or c.in-Err.error c.claim_range.new.seat.seen c.in-Err.ensures.err.0;
  done = none_both g.C.Disk.facts g.B.Disk.facts c.args.seat.now c.promise.new.seat
      c.claim_range.new.seat c.promise.ensures.done c.in-Err.ensures.err.1;
})

pub release-requires-clause-its : goal.release-requires-clause-its
release-requires-clause-its g c = claim_still g.C.Disk.facts g.B.Disk.facts
    c.in-Ok-claim_range.claim
    c.claim_range.new.seat c.write_claimed-written.new.seat
    (come_or_not g.C.Disk.facts g.B.Disk.facts c.args.before c.args.sectors c.args.first
    c.args.values.now c.claim_range.new.seat c.write_claimed-written.new.seat
    c.claim_range.ensures.works.seat c.write_claimed-written.result c.args.of
    c.write_claimed-written.ensures.ok c.write_claimed-written.ensures.err).done.same.first
    c.write_claimed-written.ensures.claim c.in-Ok-claim_range.ensures.ok.its

pub returns-in-Err-clause-before : goal.returns-in-Err-clause-before
returns-in-Err-clause-before g c = before_still g.C.Disk.facts g.B.Disk.facts c.args.before
    c.args.seat.now c.claim_range.new.seat
    (none_both g.C.Disk.facts g.B.Disk.facts c.args.seat.now c.promise.new.seat
    c.claim_range.new.seat c.promise.ensures.done c.in-Err.ensures.err.1) c.requires.before

pub returns-in-Ok-written-clause-idle : goal.returns-in-Ok-written-clause-idle
returns-in-Ok-written-clause-idle g c = idle_again g.C.Disk.facts g.B.Disk.facts c.args.parts.now
    c.args.seat.now c.write_claimed-written.new.seat c.release.new.seat c.release.new.hand
    c.requires.idle
    (still_empty c.write_claimed-written.new.hand c.release.new.hand
    c.write_claimed-written.ensures.empty c.release.ensures.hand) c.release.ensures.works
    c.release.ensures.did

pub returns-in-Ok-written-clause-before : goal.returns-in-Ok-written-clause-before
returns-in-Ok-written-clause-before g c =
    let cf = g.C.Disk.facts in
    let bf = g.B.Disk.facts in
    before_piece cf bf c.args.before c.args.first (length c.args.values.now) c.args.seat.now
    c.promise.new.seat c.claim_range.new.seat c.write_claimed-written.new.seat c.release.new.seat
    c.promise.ensures.done (subst (λ n. HasDone cf bf
    (deed.Claim c.args.first n Exclusive ∷ []) c.promise.new.seat c.claim_range.new.seat)
    c.len-count.ensures c.in-Ok-claim_range.ensures.ok.done)
    (come_went cf bf c.args.before c.args.sectors c.args.first c.args.values.now
    c.claim_range.new.seat c.write_claimed-written.new.seat c.claim_range.ensures.works.seat
    c.in-Ok-written.put c.args.of c.in-Ok-written.ensures.ok) c.release.ensures.did
    c.requires.before

pub returns-in-Ok-written-clause-ok : goal.returns-in-Ok-written-clause-ok
returns-in-Ok-written-clause-ok g c =
    let cf = g.C.Disk.facts in
    let bf = g.B.Disk.facts in
    record {
      claimed = c.claim_range.new.seat;
      claim = claimed cf bf c.args.first (length c.args.values.now) c.args.seat.now
          c.promise.new.seat c.claim_range.new.seat c.promise.ensures.done
          (subst (λ n. HasDone cf bf
          (deed.Claim c.args.first n Exclusive ∷ []) c.promise.new.seat c.claim_range.new.seat)
          c.len-count.ensures c.in-Ok-claim_range.ensures.ok.done);
      done = c.write_claimed-written.new.seat;
      this = c.in-Ok-written.ensures.ok;
      released = released cf bf c.write_claimed-written.new.seat c.release.new.seat
          c.release.ensures.did;
    }

pub returns-clause-idle : goal.returns-clause-idle
returns-clause-idle g c = idle_again g.C.Disk.facts g.B.Disk.facts c.args.parts.now
    c.args.seat.now c.write_claimed-written.new.seat c.release.new.seat c.release.new.hand
    c.requires.idle
    (still_empty c.write_claimed-written.new.hand c.release.new.hand
    c.write_claimed-written.ensures.empty c.release.ensures.hand) c.release.ensures.works
    c.release.ensures.did

pub returns-clause-before : goal.returns-clause-before
returns-clause-before g c =
    let cf = g.C.Disk.facts in
    let bf = g.B.Disk.facts in
    before_piece cf bf c.args.before c.args.first (length c.args.values.now) c.args.seat.now
    c.promise.new.seat c.claim_range.new.seat c.write_claimed-written.new.seat c.release.new.seat
    c.promise.ensures.done (subst (λ n. HasDone cf bf
    (deed.Claim c.args.first n Exclusive ∷ []) c.promise.new.seat c.claim_range.new.seat)
    c.len-count.ensures c.in-Ok-claim_range.ensures.ok.done)
    (not_written_went cf bf c.args.before c.args.sectors c.args.first c.args.values.now
    c.claim_range.new.seat c.write_claimed-written.new.seat c.claim_range.ensures.works.seat
    c.in-Err-written.error c.in-Err-written.ensures.err) c.release.ensures.did c.requires.before

pub returns-clause-err : goal.returns-clause-err
returns-clause-err g c =
    let cf = g.C.Disk.facts in
    let bf = g.B.Disk.facts in
    inr (record {
      claimed = c.claim_range.new.seat;
      claim = claimed cf bf c.args.first (length c.args.values.now) c.args.seat.now
          c.promise.new.seat c.claim_range.new.seat c.promise.ensures.done
          (subst (λ n. HasDone cf bf
          (deed.Claim c.args.first n Exclusive ∷ []) c.promise.new.seat c.claim_range.new.seat)
          c.len-count.ensures c.in-Ok-claim_range.ensures.ok.done);
      done = c.write_claimed-written.new.seat;
      this = c.in-Err-written.ensures.err;
      released = released cf bf c.write_claimed-written.new.seat c.release.new.seat
          c.release.ensures.did;
    })

pub returns-in_default-clause-before : goal.returns-in_default-clause-before
returns-in_default-clause-before g c = before_still g.C.Disk.facts g.B.Disk.facts c.args.before
    c.args.seat.now c.promise.new.seat c.promise.ensures.done c.requires.before

pub write_claimed-written-requires-clause-before : goal.write_claimed-written-requires-clause-before
write_claimed-written-requires-clause-before g c =
    let cf = g.C.Disk.facts in
    let bf = g.B.Disk.facts in
    before_claim cf bf c.args.before c.args.first c.len-count.result c.args.seat.now
    c.promise.new.seat c.claim_range.new.seat c.promise.ensures.done
    c.in-Ok-claim_range.ensures.ok.done c.requires.before

pub returns-in-Err-clause-same : goal.returns-in-Err-clause-same
returns-in-Err-clause-same g c = same_before g.C.Disk.facts g.B.Disk.facts c.args.seat.now
    c.promise.new.seat c.claim_range.new.seat c.promise.ensures.done c.in-Err.ensures.err.1

pub returns-in-Ok-written-clause-same : goal.returns-in-Ok-written-clause-same
returns-in-Ok-written-clause-same g c =
    let cf = g.C.Disk.facts in
    let bf = g.B.Disk.facts in
    same_piece cf bf c.args.first c.len-count.result c.args.seat.now c.promise.new.seat
    c.claim_range.new.seat c.write_claimed-written.new.seat c.release.new.seat
    c.promise.ensures.done c.in-Ok-claim_range.ensures.ok.done
    (come_went cf bf c.args.before c.args.sectors c.args.first c.args.values.now
    c.claim_range.new.seat c.write_claimed-written.new.seat c.claim_range.ensures.works.seat
    c.in-Ok-written.put c.args.of c.in-Ok-written.ensures.ok) c.release.ensures.did

pub returns-clause-same : goal.returns-clause-same
returns-clause-same g c =
    let cf = g.C.Disk.facts in
    let bf = g.B.Disk.facts in
    same_piece cf bf c.args.first c.len-count.result c.args.seat.now c.promise.new.seat
    c.claim_range.new.seat c.write_claimed-written.new.seat c.release.new.seat
    c.promise.ensures.done c.in-Ok-claim_range.ensures.ok.done
    (not_written_went cf bf c.args.before c.args.sectors c.args.first c.args.values.now
    c.claim_range.new.seat c.write_claimed-written.new.seat c.claim_range.ensures.works.seat
    c.in-Err-written.error c.in-Err-written.ensures.err) c.release.ensures.did
