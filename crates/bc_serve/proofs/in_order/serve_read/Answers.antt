use Rattle.std.proofs.Common.{sym, subst}
use Rattle.bc_script.specs.declared.answer.Answer.{Answer}
use Rattle.bc_serve.specs.Answered.{HasAnsweredRead}
use Rattle.bc_serve.proofs.Answering.{read_done, read_refused}
use Rattle.bc_serve.proofs.in_order.serve_read.Goals as goal

pub returns-in-Ok-clause-serves : goal.returns-in-Ok-clause-serves
returns-in-Ok-clause-serves g c = read_done g.C.Disk.facts g.B.Disk.facts c.args.seat.now c.read.new.seat
    c.args.job.now c.in-Ok.values c.in-Ok.ensures.ok

pub returns-in-Err-clause-serves : goal.returns-in-Err-clause-serves
returns-in-Err-clause-serves g c = subst (λ (a : Answer). HasAnsweredRead g.C.Disk.facts g.B.Disk.facts c.args.job.now a
    c.args.seat.now c.read.new.seat) (sym c.refused.ensures)
    (read_refused g.C.Disk.facts g.B.Disk.facts c.args.seat.now c.read.new.seat c.args.job.now c.in-Err.error
    c.requires.ready.works.seat c.in-Err.ensures.err)
