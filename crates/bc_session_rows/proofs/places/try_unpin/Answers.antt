use Rattle.std.proofs.Common.{[], Some, ◌∙◌}
use Rattle.bc_events.specs.declared.event.Deed.TheVariants as deed
use Rattle.bc_events.specs.declared.event.UnpinKind.TheVariants as unpin
use Rattle.bc_session_rows.proofs.Placing.{none_behind_buckets}
use Rattle.bc_session_rows.proofs.Running.{alone_did, alone_done, empty_but_buckets, keeps_still}
use Rattle.bc_session_rows.proofs.places.try_unpin.Goals as goal

pub returns-then-is_err-clause-alone : goal.returns-then-is_err-clause-alone
returns-then-is_err-clause-alone g c = alone_done g.C.Disk.facts g.B.Disk.facts c.args.seat.now
    c.promise.new.seat [] c.requires.alone c.promise.ensures.done c.promise.ensures.works.seat

pub returns-then-is_err-clause-keeps : goal.returns-then-is_err-clause-keeps
returns-then-is_err-clause-keeps g c = λ p _ own. keeps_still g.C.Disk.facts g.B.Disk.facts
    c.args.seat.now c.promise.new.seat c.requires.alone c.promise.ensures.done
    c.promise.ensures.works.seat p own

pub unpin-requires-clause-order : goal.unpin-requires-clause-order
unpin-requires-clause-order g c = λ _. none_behind_buckets c.promise.new.hand
    (c.promise.ensures.hand ∙ c.requires.empty)

pub unpin-requires-clause-own : goal.unpin-requires-clause-own
unpin-requires-clause-own g c = keeps_still g.C.Disk.facts g.B.Disk.facts c.args.seat.now
    c.promise.new.seat c.requires.alone c.promise.ensures.done c.promise.ensures.works.seat
    c.args.place c.requires.own

pub returns-clause-alone : goal.returns-clause-alone
returns-clause-alone g c = alone_did g.C.Disk.facts g.B.Disk.facts c.promise.new.seat
    c.unpin.new.seat (Some (deed.Unpin (unpin.Place c.args.place.ptr.offset c.args.place.count)))
    (alone_done g.C.Disk.facts g.B.Disk.facts c.args.seat.now c.promise.new.seat []
    c.requires.alone c.promise.ensures.done c.promise.ensures.works.seat) c.unpin.ensures.did.did

pub returns-clause-empty : goal.returns-clause-empty
returns-clause-empty g c = empty_but_buckets c.promise.new.hand c.unpin.new.hand
    (c.promise.ensures.hand ∙ c.requires.empty) c.unpin.ensures.rest c.unpin.ensures.hand

pub returns-clause-keeps : goal.returns-clause-keeps
returns-clause-keeps g c = λ p apart own. c.unpin.ensures.did.own p (λ o is course. apart)
    (keeps_still g.C.Disk.facts g.B.Disk.facts c.args.seat.now c.promise.new.seat
    c.requires.alone c.promise.ensures.done c.promise.ensures.works.seat p own)
