use Rattle.std.proofs.Common.{[], ◌∙◌}
use Rattle.bc_session_rows.proofs.Placing.{none_behind_buckets, pinned_alone}
use Rattle.bc_session_rows.proofs.Running.{alone_done, before_at, keeps_still}
use Rattle.bc_session_rows.proofs.places.try_pin.Goals as goal

pub returns-then-is_err-clause-alone : goal.returns-then-is_err-clause-alone
returns-then-is_err-clause-alone g c = alone_done g.C.Disk.facts g.B.Disk.facts c.args.seat.now
    c.promise.new.seat [] c.requires.alone c.promise.ensures.done c.promise.ensures.works.seat

pub returns-then-is_err-clause-keeps : goal.returns-then-is_err-clause-keeps
returns-then-is_err-clause-keeps g c = keeps_still g.C.Disk.facts g.B.Disk.facts c.args.seat.now
    c.promise.new.seat c.requires.alone c.promise.ensures.done c.promise.ensures.works.seat

pub pin-requires-clause-order : goal.pin-requires-clause-order
pin-requires-clause-order g c = λ _. none_behind_buckets c.promise.new.hand
    (c.promise.ensures.hand ∙ c.requires.empty)

pub pin-requires-clause-before : goal.pin-requires-clause-before
pin-requires-clause-before g c = before_at g.C.Disk.facts g.B.Disk.facts c.args.before
    c.args.parts.now c.promise.new.seat c.requires.opened c.promise.ensures.works.run

pub returns-in-Ok-Ok-clause-alone : goal.returns-in-Ok-Ok-clause-alone
returns-in-Ok-Ok-clause-alone g c = pinned_alone g.C.Disk.facts g.B.Disk.facts
    c.args.before c.args.count c.pin.result c.promise.new.seat c.pin.new.seat (alone_done g.C.Disk.facts g.B.Disk.facts
    c.args.seat.now c.promise.new.seat [] c.requires.alone c.promise.ensures.done
    c.promise.ensures.works.seat) c.pin.ensures.works.seat c.pin.ensures.ok c.pin.ensures.err

pub returns-in-Ok-Ok-clause-keeps : goal.returns-in-Ok-Ok-clause-keeps
returns-in-Ok-Ok-clause-keeps g c = λ p own. c.pin.ensures.keeps.own p
    (keeps_still g.C.Disk.facts g.B.Disk.facts c.args.seat.now c.promise.new.seat
    c.requires.alone c.promise.ensures.done c.promise.ensures.works.seat p own)

pub returns-in-Ok-Err-clause-alone : goal.returns-in-Ok-Err-clause-alone
returns-in-Ok-Err-clause-alone g c = pinned_alone g.C.Disk.facts g.B.Disk.facts
    c.args.before c.args.count c.pin.result c.promise.new.seat c.pin.new.seat (alone_done g.C.Disk.facts g.B.Disk.facts
    c.args.seat.now c.promise.new.seat [] c.requires.alone c.promise.ensures.done
    c.promise.ensures.works.seat) c.pin.ensures.works.seat c.pin.ensures.ok c.pin.ensures.err

pub returns-in-Ok-Err-clause-keeps : goal.returns-in-Ok-Err-clause-keeps
returns-in-Ok-Err-clause-keeps g c = λ p own. c.pin.ensures.keeps.own p
    (keeps_still g.C.Disk.facts g.B.Disk.facts c.args.seat.now c.promise.new.seat
    c.requires.alone c.promise.ensures.done c.promise.ensures.works.seat p own)

pub returns-in-Err-clause-alone : goal.returns-in-Err-clause-alone
returns-in-Err-clause-alone g c = pinned_alone g.C.Disk.facts g.B.Disk.facts
    c.args.before c.args.count c.pin.result c.promise.new.seat c.pin.new.seat (alone_done g.C.Disk.facts g.B.Disk.facts
    c.args.seat.now c.promise.new.seat [] c.requires.alone c.promise.ensures.done
    c.promise.ensures.works.seat) c.pin.ensures.works.seat c.pin.ensures.ok c.pin.ensures.err

pub returns-in-Err-clause-keeps : goal.returns-in-Err-clause-keeps
returns-in-Err-clause-keeps g c = λ p own. c.pin.ensures.keeps.own p
    (keeps_still g.C.Disk.facts g.B.Disk.facts c.args.seat.now c.promise.new.seat
    c.requires.alone c.promise.ensures.done c.promise.ensures.works.seat p own)
