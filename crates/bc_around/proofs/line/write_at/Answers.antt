use Rattle.std.proofs.Common.{◌-◌, take, drop}
use Rattle.bc_flush.specs.bc_job.Asked.{line_of}
use Rattle.bc_around.proofs.Lines.{no_part, not_with, passed_with}
use Rattle.bc_around.proofs.line.write_at.Goals as goal

pub returns-in_default-clause-err : goal.returns-in_default-clause-err
returns-in_default-clause-err g c = no_part g.C.Disk.facts g.B.Disk.facts c.args.parts.now
    c.args.job.now c.args.piece.first
    (take c.args.piece.count (drop (c.args.piece.first - c.args.job.now.first) c.args.values.now)) c.args.seat.now c.requires.idle.works.seat

pub returns-clause-ok : goal.returns-clause-ok
returns-clause-ok g c = passed_with g.C.Disk.facts g.B.Disk.facts c.write_piece.result
    c.args.parts.now c.args.job.now.force c.args.piece.first c.args.seat.now
    c.write_piece.new.seat c.of-of.result (line_of c.args.job.now) c.of-of.ensures c.in-Ok.part
    (take c.args.piece.count (drop (c.args.piece.first - c.args.job.now.first) c.args.values.now))
    c.in-Ok.ensures c.write_piece.ensures.ok

pub returns-clause-err : goal.returns-clause-err
returns-clause-err g c = not_with g.C.Disk.facts g.B.Disk.facts c.write_piece.result
    c.args.parts.now c.args.job.now.force c.args.piece.first c.args.seat.now
    c.write_piece.new.seat c.of-of.result (line_of c.args.job.now) c.of-of.ensures c.in-Ok.part
    (take c.args.piece.count (drop (c.args.piece.first - c.args.job.now.first) c.args.values.now))
    c.in-Ok.ensures c.write_piece.ensures.err
