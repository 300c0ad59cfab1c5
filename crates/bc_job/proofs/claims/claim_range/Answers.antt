use Rattle.std.proofs.Common.{refl, ap, ◌∙◌, arith}
use Rattle.bc_deed.proofs.of_bc_hand.Knowing.{note_waited}
use Rattle.bc_job.proofs.Holding.{still_empty}
use Rattle.bc_job.proofs.Sequence.{none_yet, still_waiting, made_claim, has_claimed, has_waited}
use Rattle.bc_job.proofs.claims.claim_range.Goals as goal

pub loop-init : goal.loop-init
loop-init g c = (
  c.requires.works,
  c.requires.empty,
  none_yet g.C.Disk.facts g.B.Disk.facts c.args.seat.now c.requires.works.seat,
  refl,
  c.requires.none,
)

pub returns-in-Ok-true-clause-ok : goal.returns-in-Ok-true-clause-ok
returns-in-Ok-true-clause-ok g c = made_claim g.C.Disk.facts g.B.Disk.facts _ c.args.seat.now c.loop.seat
    c.claim.new.seat c.args.first c.args.count c.args.share
    (ap (λ n. record { seat = n; first = c.args.first; count = c.args.count; share = c.args.share }) c.number.ensures.first)
    c.requires.range.0 c.loop.invariant.0.seat
    c.loop.invariant.2 c.loop.invariant.3
    (has_claimed g.C.Disk.facts g.B.Disk.facts c.in-Ok-true.field-0 c.loop.seat c.claim.new.seat c.args.first
    c.args.count c.args.share c.in-Ok-true.field-0-test c.in-Ok-true.ensures.ok)

pub loop-preserved : goal.loop-preserved
loop-preserved g c = let none = has_waited g.C.Disk.facts g.B.Disk.facts c.in-Ok-false.field-0 c.loop.seat
    c.claim.new.seat c.args.first c.args.count c.args.share c.in-Ok-false.field-0-test c.in-Ok-false.ensures.ok in (
      c.claim.ensures.works,
      still_empty c.loop.hand c.claim.new.hand c.loop.invariant.1 c.claim.ensures.hand,
      still_waiting g.C.Disk.facts g.B.Disk.facts c.args.seat.now c.loop.seat c.claim.new.seat c.loop.invariant.2 none,
      none.is.promises ∙ c.loop.invariant.3,
      ap (λ r. r.count) (note_waited g.C.Disk.facts g.B.Disk.facts c.loop.seat c.claim.new.seat
          c.loop.invariant.0.seat none.is).range ∙ c.loop.invariant.4,
    )

pub returns-in-Err-clause-err : goal.returns-in-Err-clause-err
returns-in-Err-clause-err g c = (
  c.in-Err.ensures.err.0,
  still_waiting g.C.Disk.facts g.B.Disk.facts c.args.seat.now c.loop.seat c.claim.new.seat c.loop.invariant.2
      c.in-Err.ensures.err.1,
  ap (λ r. r.count) (note_waited g.C.Disk.facts g.B.Disk.facts c.loop.seat c.claim.new.seat
      c.loop.invariant.0.seat c.in-Err.ensures.err.1.is).range ∙ c.loop.invariant.4,
)

pub returns-in-Ok-true-clause-left : goal.returns-in-Ok-true-clause-left
returns-in-Ok-true-clause-left g c =
    let did = has_claimed g.C.Disk.facts g.B.Disk.facts c.in-Ok-true.field-0 c.loop.seat c.claim.new.seat
    c.args.first c.args.count c.args.share c.in-Ok-true.field-0-test c.in-Ok-true.ensures.ok in
    let used = did.is.promises in
    let room = c.loop.invariant.3 in
    omega arith

pub returns-in-Err-clause-left : goal.returns-in-Err-clause-left
returns-in-Err-clause-left g c =
    let used = c.in-Err.ensures.err.1.is.promises in
    let room = c.loop.invariant.3 in
    omega arith
