use Rattle.std.proofs.Common.{sym, subst}
use Rattle.bc_script.specs.declared.answer.Answer.{Answer}
use Rattle.bc_serve.specs.Answered.{HasAnsweredFlush}
use Rattle.bc_serve.proofs.Answering.{flush_done, flush_refused}
use Rattle.bc_serve.proofs.in_order.serve_flush.Goals as goal

pub returns-in-Ok-clause-serves : goal.returns-in-Ok-clause-serves
returns-in-Ok-clause-serves g c = flush_done g.C.Disk.facts g.B.Disk.facts c.args.seat.now c.flush.new.seat
    c.args.job.now c.in-Ok.ensures.ok

pub returns-in-Err-clause-serves : goal.returns-in-Err-clause-serves
returns-in-Err-clause-serves g c = subst (λ (a : Answer). HasAnsweredFlush g.C.Disk.facts g.B.Disk.facts c.args.job.now a
    c.args.seat.now c.flush.new.seat) (sym c.refused.ensures)
    (flush_refused g.C.Disk.facts g.B.Disk.facts c.args.seat.now c.flush.new.seat c.args.job.now c.in-Err.error
    c.in-Err.ensures.err)
