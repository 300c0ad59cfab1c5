use Rattle.std.proofs.Common.{◌∙◌, sym, subst}
use Rattle.bc_fetch.specs.bc_hand.Seats.{note}
use Rattle.bc_model.specs.Sector.{values_of}
use Rattle.bc_reader.specs.Claimed.{HasStoppedAtOnce}
use Rattle.bc_reader.specs.declared.error.ReadError.{ReadError}
use Rattle.bc_reader.proofs.Finding.{waited_done}
use Rattle.bc_reader.proofs.Looking.{over_same, range_still}
use Rattle.bc_reader.proofs.Turning.{buckets_behind, gone_behind, has_buckets, not_seen, still_answered, still_stopped}
use Rattle.bc_reader.proofs.claimed.read_again.Goals as goal

pub returns-in-Err-clause-err : goal.returns-in-Err-clause-err
returns-in-Err-clause-err g c = not_seen g.C.Disk.facts g.B.Disk.facts c.args.parts.now c.args.first
    c.args.count c.in-Err.error c.args.seat.now c.look_at.new.seat c.look_at.ensures.works.seat
    c.in-Err.ensures.err

pub answer_look-done-requires-clause-range : goal.answer_look-done-requires-clause-range
answer_look-done-requires-clause-range g c = over_same
    (note g.C.Disk.facts g.B.Disk.facts c.args.seat.now).range
    (note g.C.Disk.facts g.B.Disk.facts c.look_at.new.seat).range c.args.first c.args.count
    c.look_at.ensures.claim c.requires.range

pub answer_look-done-requires-clause-saw : goal.answer_look-done-requires-clause-saw
answer_look-done-requires-clause-saw g c = (c.args.seat.now, c.in-Ok.ensures.ok.0)

pub give_buckets-requires-clause-has : goal.give_buckets-requires-clause-has
give_buckets-requires-clause-has g c = buckets_behind c.look_at.new.hand c.answer_look-done.new.hand
    c.answer_look-done.ensures.hand
    (has_buckets g.C.Disk.facts g.B.Disk.facts c.args.parts.now c.args.first c.args.count
    c.in-Ok.seen c.args.seat.now c.look_at.new.seat c.look_at.new.hand c.in-Ok.ensures.ok.0)

pub returns-in-Ok-done-clause-empty : goal.returns-in-Ok-done-clause-empty
returns-in-Ok-done-clause-empty g c = gone_behind c.look_at.new.hand c.answer_look-done.new.hand
    c.give_buckets.new.hand c.in-Ok.ensures.hand c.answer_look-done.ensures.hand
    c.give_buckets.ensures.hand

pub returns-in-Ok-done-clause-claim : goal.returns-in-Ok-done-clause-claim
returns-in-Ok-done-clause-claim g c =
    range_still g.C.Disk.facts g.B.Disk.facts c.answer_look-done.new.seat c.give_buckets.new.seat
    (waited_done g.C.Disk.facts g.B.Disk.facts c.answer_look-done.new.seat c.give_buckets.new.seat
    c.give_buckets.ensures.works.seat c.give_buckets.ensures.waited)
    ∙ c.answer_look-done.ensures.claim ∙ c.look_at.ensures.claim

pub returns-in-Ok-done-clause-ok : goal.returns-in-Ok-done-clause-ok
returns-in-Ok-done-clause-ok g c = still_answered g.C.Disk.facts g.B.Disk.facts c.args.parts.now
    c.args.first c.args.count c.args.of (values_of c.answer_look-done.new.bytes) c.args.seat.now
    c.answer_look-done.new.seat c.give_buckets.new.seat
    (c.in-Ok-done.ensures.ok c.args.seat.now c.in-Ok.ensures.ok.0)
    (waited_done g.C.Disk.facts g.B.Disk.facts c.answer_look-done.new.seat c.give_buckets.new.seat
    c.give_buckets.ensures.works.seat c.give_buckets.ensures.waited)

pub returns-clause-empty : goal.returns-clause-empty
returns-clause-empty g c = gone_behind c.look_at.new.hand c.answer_look-done.new.hand
    c.give_buckets.new.hand c.in-Ok.ensures.hand c.answer_look-done.ensures.hand
    c.give_buckets.ensures.hand

pub returns-clause-claim : goal.returns-clause-claim
returns-clause-claim g c =
    range_still g.C.Disk.facts g.B.Disk.facts c.answer_look-done.new.seat c.give_buckets.new.seat
    (waited_done g.C.Disk.facts g.B.Disk.facts c.answer_look-done.new.seat c.give_buckets.new.seat
    c.give_buckets.ensures.works.seat c.give_buckets.ensures.waited)
    ∙ c.answer_look-done.ensures.claim ∙ c.look_at.ensures.claim

pub returns-clause-err : goal.returns-clause-err
returns-clause-err g c = subst (λ (e : ReadError). HasStoppedAtOnce g.C.Disk.facts g.B.Disk.facts
    c.args.parts.now c.args.first c.args.count e c.args.seat.now c.give_buckets.new.seat)
    (sym c.of_step.ensures)
    (still_stopped g.C.Disk.facts g.B.Disk.facts c.args.parts.now c.args.first c.args.count _
    c.args.seat.now c.answer_look-done.new.seat c.give_buckets.new.seat
    (c.in-Err-done.ensures.err c.args.seat.now c.in-Ok.ensures.ok.0)
    (waited_done g.C.Disk.facts g.B.Disk.facts c.answer_look-done.new.seat c.give_buckets.new.seat
    c.give_buckets.ensures.works.seat c.give_buckets.ensures.waited))
