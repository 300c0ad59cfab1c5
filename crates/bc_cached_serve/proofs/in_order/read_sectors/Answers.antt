use Rattle.bc_cached_serve.proofs.Lines.{answered_result, line_read, stopped_result}
use Rattle.bc_cached_serve.proofs.Nodes.{names_no_node}
use Rattle.bc_cached_serve.proofs.in_order.read_sectors.Goals as goal

pub refused-requires : goal.refused-requires
refused-requires g c = names_no_node g.C.Disk.facts g.B.Disk.facts c.args.parts.now c.args.job.now
    c.in-Err.error c.args.seat.now c.read.new.seat c.in-Err.ensures.err

pub returns-in-Ok-clause-ok : goal.returns-in-Ok-clause-ok
returns-in-Ok-clause-ok g c = line_read g.C.Disk.facts g.B.Disk.facts c.args.parts.now
    c.args.job.now c.in-Ok.values c.args.seat.now c.read.new.seat c.requires.idle.works.seat
    c.in-Ok.ensures.ok

pub returns-in-Err-clause-ok : goal.returns-in-Err-clause-ok
returns-in-Err-clause-ok g c = answered_result g.C.Disk.facts g.B.Disk.facts c.args.parts.now
    c.refused.result c.args.job.now c.in-Err.error c.args.seat.now c.read.new.seat
    c.requires.idle.works.seat c.refused.ensures.ok c.in-Err.ensures.err

pub returns-in-Err-clause-err : goal.returns-in-Err-clause-err
returns-in-Err-clause-err g c = stopped_result g.C.Disk.facts g.B.Disk.facts c.args.parts.now
    c.refused.result c.args.job.now c.in-Err.error c.args.seat.now c.read.new.seat
    c.requires.idle.works.seat c.refused.ensures.err c.in-Err.ensures.err
