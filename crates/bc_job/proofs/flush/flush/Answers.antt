use Rattle.std.proofs.Common.{ap, ◌∙◌, arith}
use Rattle.bc_job.proofs.Holding.{still_empty}
use Rattle.bc_job.proofs.Sequence.{flush_in_words, flushed_for}
use Rattle.bc_job.proofs.flush.flush.Goals as goal

pub returns-in-Ok-flush_line-clause-ready : goal.returns-in-Ok-flush_line-clause-ready
returns-in-Ok-flush_line-clause-ready g c =
    let free = still_empty c.take_room.new.stock.hand c.flush_line.new.hand c.take_room.ensures.ready.free
    c.flush_line.ensures.hand in record {
      works = c.flush_line.ensures.works;
      free = free;
      room = omega (arith, c.in-Ok.ensures.ok, c.flush_line.ensures.left);
      plain = c.requires.ready.plain;
      unclaimed = ap (λ r. r.count) c.flush_line.ensures.claim ∙ c.take_room.ensures.ready.unclaimed;
    }

pub returns-in-Ok-flush_line-clause-ok : goal.returns-in-Ok-flush_line-clause-ok
returns-in-Ok-flush_line-clause-ok g c = flushed_for g.C.Disk.facts g.B.Disk.facts c.of.result _
    c.args.seat.now c.take_room.new.seat c.flush_line.new.seat c.of.ensures c.in-Ok.ensures.done
    c.in-Ok-flush_line.ensures.ok

pub returns-in-Err-clause-ready : goal.returns-in-Err-clause-ready
returns-in-Err-clause-ready g c =
    let free = still_empty c.take_room.new.stock.hand c.flush_line.new.hand c.take_room.ensures.ready.free
    c.flush_line.ensures.hand in record {
      works = c.flush_line.ensures.works;
      free = free;
      room = omega (arith, c.in-Ok.ensures.ok, c.flush_line.ensures.left);
      plain = c.requires.ready.plain;
      unclaimed = ap (λ r. r.count) c.flush_line.ensures.claim ∙ c.take_room.ensures.ready.unclaimed;
    }

pub returns-in-Err-clause-err : goal.returns-in-Err-clause-err
returns-in-Err-clause-err g c = flush_in_words g.C.Disk.facts g.B.Disk.facts c.refusal.result c.in-Err.error c.of.result _
    c.args.seat.now c.take_room.new.seat c.flush_line.new.seat c.refusal.ensures c.of.ensures c.take_room.ensures.done
    c.in-Err.ensures.err
