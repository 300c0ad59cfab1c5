use Rattle.std.proofs.Common.{inl, inr, refl, ap, ◌∙◌}
use Rattle.bc_bypass.proofs.Coming.{come_or_not, not_went, to_went}
use Rattle.bc_write_back.proofs.Coming.{before_piece, before_still, claimed, none_both, released, same_before, same_piece}
use Rattle.bc_write_back.proofs.Walking.{claim_went}
use Rattle.bc_write_back.proofs.of_bc_job.Holding.{still_empty}
use Rattle.bc_write_back.proofs.of_bc_reader.Looking.{range_still}
use Rattle.bc_write_back.proofs.of_bc_request.Pieces.{claim_still, halted_or, idle_again, idle_still}
use Rattle.bc_write_back.specs.bc_machine.Frame.{Range}
use Rattle.bc_bypass.proofs.invalidate.invalidate.Goals as goal

pub claim_range-requires-clause-none : goal.claim_range-requires-clause-none
claim_range-requires-clause-none g c = ap (λ (r : Range). r.count)
    (range_still g.C.Disk.facts g.B.Disk.facts c.args.seat.now c.promise.new.seat
    c.promise.ensures.done) ∙ c.requires.idle.unclaimed

pub returns-in_default-clause-before : goal.returns-in_default-clause-before
returns-in_default-clause-before g c = λ n. before_still g.C.Disk.facts g.B.Disk.facts n
    c.args.seat.now c.promise.new.seat c.promise.ensures.done

pub returns-in-Err-clause-idle : goal.returns-in-Err-clause-idle
returns-in-Err-clause-idle g c = idle_still g.C.Disk.facts g.B.Disk.facts c.args.parts.now
    c.args.seat.now c.claim_range.new.seat c.claim_range.new.hand c.requires.idle
    c.claim_range.ensures.empty c.claim_range.ensures.works c.in-Err.ensures.err.2

pub returns-in-Err-clause-same : goal.returns-in-Err-clause-same
returns-in-Err-clause-same g c = same_before g.C.Disk.facts g.B.Disk.facts c.args.seat.now
    c.promise.new.seat c.claim_range.new.seat c.promise.ensures.done c.in-Err.ensures.err.1

pub returns-in-Err-clause-before : goal.returns-in-Err-clause-before
returns-in-Err-clause-before g c = λ n. before_still g.C.Disk.facts g.B.Disk.facts n
    c.args.seat.now c.claim_range.new.seat
    (none_both g.C.Disk.facts g.B.Disk.facts c.args.seat.now c.promise.new.seat
    c.claim_range.new.seat c.promise.ensures.done c.in-Err.ensures.err.1)

pub returns-in-Err-clause-err : goal.returns-in-Err-clause-err
returns-in-Err-clause-err g c = inl (record {
  cause = c.in-Err.error;
  is = refl;
  why = halted_or c.in-Err.error c.claim_range.new.seat.seen c.in-Err.ensures.err.0;
  done = none_both g.C.Disk.facts g.B.Disk.facts c.args.seat.now c.promise.new.seat
      c.claim_range.new.seat c.promise.ensures.done c.in-Err.ensures.err.1;
})

pub release-requires-clause-its : goal.release-requires-clause-its
release-requires-clause-its g c =
    let cf = g.C.Disk.facts in
    let bf = g.B.Disk.facts in
    let went = come_or_not cf bf c.invalidate_claimed-done.result c.args.first c.args.count
    c.claim_range.new.seat c.invalidate_claimed-done.new.seat c.invalidate_claimed-done.ensures.ok
    c.invalidate_claimed-done.ensures.err in
    claim_still cf bf c.in-Ok-claim_range.claim c.claim_range.new.seat
    c.invalidate_claimed-done.new.seat went.done.same.first
    (claim_went cf bf c.claim_range.new.seat c.invalidate_claimed-done.new.seat went)
    c.in-Ok-claim_range.ensures.ok.its

pub returns-in-Ok-done-clause-idle : goal.returns-in-Ok-done-clause-idle
returns-in-Ok-done-clause-idle g c = idle_again g.C.Disk.facts g.B.Disk.facts c.args.parts.now
    c.args.seat.now c.invalidate_claimed-done.new.seat c.release.new.seat c.release.new.hand
    c.requires.idle
    (still_empty c.invalidate_claimed-done.new.hand c.release.new.hand
    c.invalidate_claimed-done.ensures.empty c.release.ensures.hand) c.release.ensures.works
    c.release.ensures.did

pub returns-in-Ok-done-clause-same : goal.returns-in-Ok-done-clause-same
returns-in-Ok-done-clause-same g c =
    let cf = g.C.Disk.facts in
    let bf = g.B.Disk.facts in
    same_piece cf bf c.args.first c.args.count c.args.seat.now c.promise.new.seat
    c.claim_range.new.seat c.invalidate_claimed-done.new.seat c.release.new.seat
    c.promise.ensures.done c.in-Ok-claim_range.ensures.ok.done
    (to_went cf bf c.in-Ok-done.what c.args.first c.args.count c.claim_range.new.seat
    c.invalidate_claimed-done.new.seat c.in-Ok-done.ensures.ok) c.release.ensures.did

pub returns-in-Ok-done-clause-before : goal.returns-in-Ok-done-clause-before
returns-in-Ok-done-clause-before g c = λ n.
    let cf = g.C.Disk.facts in
    let bf = g.B.Disk.facts in
    before_piece cf bf n c.args.first c.args.count c.args.seat.now c.promise.new.seat
    c.claim_range.new.seat c.invalidate_claimed-done.new.seat c.release.new.seat
    c.promise.ensures.done c.in-Ok-claim_range.ensures.ok.done
    (to_went cf bf c.in-Ok-done.what c.args.first c.args.count c.claim_range.new.seat
    c.invalidate_claimed-done.new.seat c.in-Ok-done.ensures.ok) c.release.ensures.did

pub returns-in-Ok-done-clause-ok : goal.returns-in-Ok-done-clause-ok
returns-in-Ok-done-clause-ok g c =
    let cf = g.C.Disk.facts in
    let bf = g.B.Disk.facts in
    record {
      claimed = c.claim_range.new.seat;
      claim = claimed cf bf c.args.first c.args.count c.args.seat.now c.promise.new.seat
          c.claim_range.new.seat c.promise.ensures.done c.in-Ok-claim_range.ensures.ok.done;
      done = c.invalidate_claimed-done.new.seat;
      this = c.in-Ok-done.ensures.ok;
      released = released cf bf c.invalidate_claimed-done.new.seat c.release.new.seat
          c.release.ensures.did;
    }

pub returns-clause-idle : goal.returns-clause-idle
returns-clause-idle g c = idle_again g.C.Disk.facts g.B.Disk.facts c.args.parts.now
    c.args.seat.now c.invalidate_claimed-done.new.seat c.release.new.seat c.release.new.hand
    c.requires.idle
    (still_empty c.invalidate_claimed-done.new.hand c.release.new.hand
    c.invalidate_claimed-done.ensures.empty c.release.ensures.hand) c.release.ensures.works
    c.release.ensures.did

pub returns-clause-same : goal.returns-clause-same
returns-clause-same g c =
    let cf = g.C.Disk.facts in
    let bf = g.B.Disk.facts in
    same_piece cf bf c.args.first c.args.count c.args.seat.now c.promise.new.seat
    c.claim_range.new.seat c.invalidate_claimed-done.new.seat c.release.new.seat
    c.promise.ensures.done c.in-Ok-claim_range.ensures.ok.done
    (not_went cf bf c.in-Err-done.error c.args.first c.args.count c.claim_range.new.seat
    c.invalidate_claimed-done.new.seat c.in-Err-done.ensures.err) c.release.ensures.did

pub returns-clause-before : goal.returns-clause-before
returns-clause-before g c = λ n.
    let cf = g.C.Disk.facts in
    let bf = g.B.Disk.facts in
    before_piece cf bf n c.args.first c.args.count c.args.seat.now c.promise.new.seat
    c.claim_range.new.seat c.invalidate_claimed-done.new.seat c.release.new.seat
    c.promise.ensures.done c.in-Ok-claim_range.ensures.ok.done
    (not_went cf bf c.in-Err-done.error c.args.first c.args.count c.claim_range.new.seat
    c.invalidate_claimed-done.new.seat c.in-Err-done.ensures.err) c.release.ensures.did

pub returns-clause-err : goal.returns-clause-err
returns-clause-err g c =
    let cf = g.C.Disk.facts in
    let bf = g.B.Disk.facts in
    inr (record {
      claimed = c.claim_range.new.seat;
      claim = claimed cf bf c.args.first c.args.count c.args.seat.now c.promise.new.seat
          c.claim_range.new.seat c.promise.ensures.done c.in-Ok-claim_range.ensures.ok.done;
      done = c.invalidate_claimed-done.new.seat;
      this = c.in-Err-done.ensures.err;
      released = released cf bf c.invalidate_claimed-done.new.seat c.release.new.seat
          c.release.ensures.did;
    })
