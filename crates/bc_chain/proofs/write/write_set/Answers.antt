use Rattle.std.proofs.Common.{refl, sym, ◌∙◌}
use Rattle.bc_place.proofs.Storing.{keeps_nothing}
use Rattle.bc_place.proofs.of_bc_deed.May.{did_nothing}
use Rattle.bc_chain.proofs.Device.{works_anew}
use Rattle.bc_chain.proofs.write.write_set.Goals as goal

pub returns-in-Some-clause-err : goal.returns-in-Some-clause-err
returns-in-Some-clause-err g c = (
  c.in-Some.ensures.stopped c.in-Some.device refl,
  did_nothing g.C.Disk.facts g.B.Disk.facts c.args.seat.now c.requires.works.seat,
)

pub returns-in-Some-clause-keeps : goal.returns-in-Some-clause-keeps
returns-in-Some-clause-keeps g c = keeps_nothing g.C.Disk.facts g.B.Disk.facts c.args.seat.now
    c.requires.works.seat

pub returns-clause-works : goal.returns-clause-works
returns-clause-works g c = works_anew g.C.Disk.facts g.B.Disk.facts c.args.parts.now
    c.args.seat.now c.write_in-done.new.seat c.args.hand.now c.in-Some-take.cache
    c.write_in-done.new.cache (sym c.take.ensures.value ∙ c.in-Some-take.is) c.requires.works
    c.write_in-done.ensures.seat c.write_in-done.ensures.kept c.write_in-done.ensures.cache
