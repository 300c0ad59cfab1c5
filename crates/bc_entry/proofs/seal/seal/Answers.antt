use Rattle.std.proofs.Common.{Some, refl, sym, ap, ◌∙◌}
use Rattle.bc_deed.proofs.May.{did_nothing}
use Rattle.bc_entry.proofs.Ending.{works_anew}
use Rattle.bc_entry.proofs.Sealing.{both_ok}
use Rattle.bc_entry.proofs.seal.seal.Goals as goal

pub returns-in-Some-clause-err : goal.returns-in-Some-clause-err
returns-in-Some-clause-err g c = did_nothing g.C.Disk.facts g.B.Disk.facts c.args.seat.now
    c.requires.works.seat

pub returns-clause-works : goal.returns-clause-works
returns-clause-works g c = works_anew g.C.Disk.facts g.B.Disk.facts c.args.parts.now c.args.seat.now
    c.seal_in-done.new.seat c.args.hand.now c.get_mut.result.now c.seal_in-done.new.journal
    (sym c.take.ensures.value ∙ c.in-Some-take.is ∙ ap Some (sym c.get_mut.ensures.part)) c.requires.works c.seal_in-done.ensures.seat
    c.seal_in-done.ensures.kept c.seal_in-done.ensures.journal

pub returns-clause-ok : goal.returns-clause-ok
returns-clause-ok g c = both_ok c.seal_in-done.result (λ entry is did. (
  c.get_mut.result.now,
  c.seal_in-done.new.journal,
  sym c.take.ensures.value ∙ c.in-Some-take.is ∙ ap Some (sym c.get_mut.ensures.part),
  refl,
  is,
  did,
)) c.seal_in-done.ensures.sealed c.seal_in-done.ensures.ok
