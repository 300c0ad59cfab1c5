use Rattle.bc_resume.proofs.Greatest.{newest_more, newest_none}
use Rattle.bc_resume.proofs.numbers.note_all.Goals as goal

pub loop-e-init : goal.loop-e-init
loop-e-init c = newest_none c.args.g.now c.args.numbers.now c.requires.each c.requires.none

pub loop-e-preserved : goal.loop-e-preserved
loop-e-preserved c =
    newest_more c.args.g.now c.args.all.now c.loop-e.e-index c.e-item.result c.loop-e.numbers c.note.new.numbers c.loop-e-test.true c.e-item.is c.note.auto.numbers c.loop-e.invariant c.note.ensures
