use Rattle.std.proofs.Common.{[]}
use Rattle.bc_session_rows.proofs.Placing.{stored_alone, stored_keeps}
use Rattle.bc_session_rows.proofs.Running.{alone_done, alone_waited, keeps_still, keeps_waited}
use Rattle.bc_session_rows.proofs.places.try_store.Goals as goal

pub returns-then-from-clause-alone : goal.returns-then-from-clause-alone
returns-then-from-clause-alone g c = alone_waited g.C.Disk.facts g.B.Disk.facts c.args.seat.now
    c.cache_sectors-sectors.new.seat c.requires.alone c.cache_sectors-sectors.ensures.waited
    c.cache_sectors-sectors.ensures.works.seat

pub returns-then-from-clause-keeps : goal.returns-then-from-clause-keeps
returns-then-from-clause-keeps g c = keeps_waited g.C.Disk.facts g.B.Disk.facts c.args.seat.now
    c.cache_sectors-sectors.new.seat c.requires.alone c.cache_sectors-sectors.ensures.waited
    c.cache_sectors-sectors.ensures.works.seat

pub returns-then-is_err-clause-alone : goal.returns-then-is_err-clause-alone
returns-then-is_err-clause-alone g c = alone_done g.C.Disk.facts g.B.Disk.facts
    c.cache_sectors-sectors.new.seat c.promise.new.seat []
    (alone_waited g.C.Disk.facts g.B.Disk.facts c.args.seat.now c.cache_sectors-sectors.new.seat
    c.requires.alone c.cache_sectors-sectors.ensures.waited
    c.cache_sectors-sectors.ensures.works.seat) c.promise.ensures.done c.promise.ensures.works.seat

pub returns-then-is_err-clause-keeps : goal.returns-then-is_err-clause-keeps
returns-then-is_err-clause-keeps g c = λ p own. keeps_still g.C.Disk.facts g.B.Disk.facts
    c.cache_sectors-sectors.new.seat c.promise.new.seat
    (alone_waited g.C.Disk.facts g.B.Disk.facts c.args.seat.now c.cache_sectors-sectors.new.seat
    c.requires.alone c.cache_sectors-sectors.ensures.waited
    c.cache_sectors-sectors.ensures.works.seat) c.promise.ensures.done c.promise.ensures.works.seat
    p (keeps_waited g.C.Disk.facts g.B.Disk.facts c.args.seat.now
    c.cache_sectors-sectors.new.seat c.requires.alone c.cache_sectors-sectors.ensures.waited
    c.cache_sectors-sectors.ensures.works.seat p own)

pub write_places-requires-clause-own : goal.write_places-requires-clause-own
write_places-requires-clause-own g c = keeps_still g.C.Disk.facts g.B.Disk.facts
    c.cache_sectors-sectors.new.seat c.promise.new.seat
    (alone_waited g.C.Disk.facts g.B.Disk.facts c.args.seat.now c.cache_sectors-sectors.new.seat
    c.requires.alone c.cache_sectors-sectors.ensures.waited
    c.cache_sectors-sectors.ensures.works.seat) c.promise.ensures.done c.promise.ensures.works.seat
    c.args.place (keeps_waited g.C.Disk.facts g.B.Disk.facts c.args.seat.now
    c.cache_sectors-sectors.new.seat c.requires.alone c.cache_sectors-sectors.ensures.waited
    c.cache_sectors-sectors.ensures.works.seat c.args.place c.requires.own)

pub returns-in-Ok-clause-alone : goal.returns-in-Ok-clause-alone
returns-in-Ok-clause-alone g c = stored_alone g.C.Disk.facts g.B.Disk.facts
    c.args.place.ptr.offset c.args.values.now c.promise.new.seat c.write_places.new.seat
    c.write_places.result (alone_done g.C.Disk.facts g.B.Disk.facts
    c.cache_sectors-sectors.new.seat c.promise.new.seat []
    (alone_waited g.C.Disk.facts g.B.Disk.facts c.args.seat.now c.cache_sectors-sectors.new.seat
    c.requires.alone c.cache_sectors-sectors.ensures.waited
    c.cache_sectors-sectors.ensures.works.seat) c.promise.ensures.done
    c.promise.ensures.works.seat) c.write_places.ensures.ok c.write_places.ensures.err

pub returns-in-Ok-clause-keeps : goal.returns-in-Ok-clause-keeps
returns-in-Ok-clause-keeps g c = λ p own. stored_keeps g.C.Disk.facts g.B.Disk.facts
    c.args.place.ptr.offset c.args.values.now c.promise.new.seat c.write_places.new.seat
    c.write_places.result c.write_places.ensures.ok c.write_places.ensures.keeps p
    (keeps_still g.C.Disk.facts g.B.Disk.facts c.cache_sectors-sectors.new.seat c.promise.new.seat
    (alone_waited g.C.Disk.facts g.B.Disk.facts c.args.seat.now c.cache_sectors-sectors.new.seat
    c.requires.alone c.cache_sectors-sectors.ensures.waited
    c.cache_sectors-sectors.ensures.works.seat) c.promise.ensures.done c.promise.ensures.works.seat
    p (keeps_waited g.C.Disk.facts g.B.Disk.facts c.args.seat.now
    c.cache_sectors-sectors.new.seat c.requires.alone c.cache_sectors-sectors.ensures.waited
    c.cache_sectors-sectors.ensures.works.seat p own))

pub returns-in-Err-clause-alone : goal.returns-in-Err-clause-alone
returns-in-Err-clause-alone g c = stored_alone g.C.Disk.facts g.B.Disk.facts
    c.args.place.ptr.offset c.args.values.now c.promise.new.seat c.write_places.new.seat
    c.write_places.result (alone_done g.C.Disk.facts g.B.Disk.facts
    c.cache_sectors-sectors.new.seat c.promise.new.seat []
    (alone_waited g.C.Disk.facts g.B.Disk.facts c.args.seat.now c.cache_sectors-sectors.new.seat
    c.requires.alone c.cache_sectors-sectors.ensures.waited
    c.cache_sectors-sectors.ensures.works.seat) c.promise.ensures.done
    c.promise.ensures.works.seat) c.write_places.ensures.ok c.write_places.ensures.err

pub returns-in-Err-clause-keeps : goal.returns-in-Err-clause-keeps
returns-in-Err-clause-keeps g c = λ p own. stored_keeps g.C.Disk.facts g.B.Disk.facts
    c.args.place.ptr.offset c.args.values.now c.promise.new.seat c.write_places.new.seat
    c.write_places.result c.write_places.ensures.ok c.write_places.ensures.keeps p
    (keeps_still g.C.Disk.facts g.B.Disk.facts c.cache_sectors-sectors.new.seat c.promise.new.seat
    (alone_waited g.C.Disk.facts g.B.Disk.facts c.args.seat.now c.cache_sectors-sectors.new.seat
    c.requires.alone c.cache_sectors-sectors.ensures.waited
    c.cache_sectors-sectors.ensures.works.seat) c.promise.ensures.done c.promise.ensures.works.seat
    p (keeps_waited g.C.Disk.facts g.B.Disk.facts c.args.seat.now
    c.cache_sectors-sectors.new.seat c.requires.alone c.cache_sectors-sectors.ensures.waited
    c.cache_sectors-sectors.ensures.works.seat p own))
