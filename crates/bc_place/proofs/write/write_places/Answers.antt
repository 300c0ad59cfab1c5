use Rattle.std.proofs.Common.{List, refl, subst}
use Rattle.std.specs.Prelude.{IfErr, OnOk}
use Rattle.bc_model.specs.Sector.{Value}
use Rattle.bc_deed.proofs.of_bc_hand.Knowing.{map_err, map_ok}
use Rattle.bc_deed.proofs.of_bc_hand.Lends.{works_cache}
use Rattle.bc_deed.proofs.May.{did_nothing, map_if_err, other_number}
use Rattle.bc_place.specs.Written.{HasFailedToPlace, HasStored}
use Rattle.bc_place.proofs.Keeping.{keeps_waited}
use Rattle.bc_place.proofs.Storing.{keeps_nothing, kept_between, same_but_cache, stored_between, unstored_between}
use Rattle.bc_place.proofs.write.write_places.Goals as goal

pub returns-in-Some-clause-err : goal.returns-in-Some-clause-err
returns-in-Some-clause-err g c = (
  c.in-Some.ensures.stopped c.in-Some.device refl,
  did_nothing g.C.Disk.facts g.B.Disk.facts c.args.seat.now c.requires.works.seat,
)

pub returns-in-Some-clause-keeps : goal.returns-in-Some-clause-keeps
returns-in-Some-clause-keeps g c = keeps_nothing g.C.Disk.facts g.B.Disk.facts c.args.seat.now
    c.requires.works.seat

pub returns-in_default-copy-clause-err : goal.returns-in_default-copy-clause-err
returns-in_default-copy-clause-err g c = did_nothing g.C.Disk.facts g.B.Disk.facts
    c.args.seat.now c.requires.works.seat

pub returns-in_default-copy-clause-keeps : goal.returns-in_default-copy-clause-keeps
returns-in_default-copy-clause-keeps g c = keeps_nothing g.C.Disk.facts g.B.Disk.facts
    c.args.seat.now c.requires.works.seat

pub returns-in_default-bytes_of-clause-err : goal.returns-in_default-bytes_of-clause-err
returns-in_default-bytes_of-clause-err g c = did_nothing g.C.Disk.facts g.B.Disk.facts
    c.args.seat.now c.requires.works.seat

pub returns-in_default-bytes_of-clause-keeps : goal.returns-in_default-bytes_of-clause-keeps
returns-in_default-bytes_of-clause-keeps g c = keeps_nothing g.C.Disk.facts g.B.Disk.facts
    c.args.seat.now c.requires.works.seat

pub write_in-done-requires-clause-own : goal.write_in-done-requires-clause-own
write_in-done-requires-clause-own g c = (keeps_waited g.C.Disk.facts g.B.Disk.facts c.args.seat.now
    c.borrow_cache-cache.new.seat c.requires.works.seat
    c.borrow_cache-cache.ensures.waited).own c.args.place c.requires.own

pub return_cache-requires : goal.return_cache-requires
return_cache-requires g c = works_cache g.C.Disk.facts g.B.Disk.facts c.args.parts.now
    c.borrow_cache-cache.new.seat c.write_in-done.new.seat c.borrow_cache-cache.new.hand
    c.borrow_cache-cache.result.0 c.write_in-done.new.cache _ c.borrow_cache-cache.ensures.lent
    c.write_in-done.ensures.seat c.write_in-done.ensures.kept (other_number 4)
    c.write_in-done.ensures.cache

pub returns-clause-rest : goal.returns-clause-rest
returns-clause-rest g c = same_but_cache c.args.hand.now c.borrow_cache-cache.new.hand
    c.return_cache.new.hand _ c.borrow_cache-cache.ensures.hand c.return_cache.ensures.hand

pub returns-clause-ok : goal.returns-clause-ok
returns-clause-ok g c = subst (λ (vs : List Value). OnOk c.write_in-done.result
    (HasStored g.C.Disk.facts g.B.Disk.facts c.args.place.ptr.offset vs c.args.seat.now
    c.return_cache.new.seat)) c.in-Ok.ensures (map_ok c.write_in-done.result (λ h.
    stored_between g.C.Disk.facts g.B.Disk.facts c.args.place.ptr.offset c.in-Ok.values
    c.args.seat.now
    c.borrow_cache-cache.new.seat c.write_in-done.new.seat c.return_cache.new.seat
    c.borrow_cache-cache.ensures.still c.requires.works.seat c.borrow_cache-cache.ensures.waited h
    c.write_in-done.ensures.seat c.return_cache.ensures.waited c.return_cache.ensures.seen
    c.return_cache.ensures.heard c.return_cache.ensures.works.seat) c.write_in-done.ensures.ok)

pub returns-clause-err : goal.returns-clause-err
returns-clause-err g c = subst (λ (vs : List Value). IfErr c.write_in-done.result
    (λ e. HasFailedToPlace g.C.Disk.facts g.B.Disk.facts e c.args.place.ptr.offset vs
    c.args.seat.now c.return_cache.new.seat)) c.in-Ok.ensures
    (map_if_err c.write_in-done.result (λ e h.
    unstored_between g.C.Disk.facts g.B.Disk.facts e c.args.place.ptr.offset c.in-Ok.values
    c.args.seat.now
    c.borrow_cache-cache.new.seat c.write_in-done.new.seat c.return_cache.new.seat
    c.borrow_cache-cache.ensures.still c.borrow_cache-cache.ensures.waited h
    c.return_cache.ensures.waited c.return_cache.ensures.seen c.return_cache.ensures.heard
    c.return_cache.ensures.works.seat) c.write_in-done.ensures.err)

pub returns-clause-keeps : goal.returns-clause-keeps
returns-clause-keeps g c = map_err c.write_in-done.result (λ h.
    kept_between g.C.Disk.facts g.B.Disk.facts c.args.seat.now c.borrow_cache-cache.new.seat
    c.write_in-done.new.seat c.return_cache.new.seat c.requires.works.seat
    c.borrow_cache-cache.ensures.waited h c.write_in-done.ensures.seat c.return_cache.ensures.waited)
    c.write_in-done.ensures.keeps
