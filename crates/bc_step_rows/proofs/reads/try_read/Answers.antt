use Rattle.bc_model.specs.Sector.{values_of}
use Rattle.bc_request.proofs.Lines.{read_same, stopped_same}
use Rattle.bc_step_rows.proofs.Pieces.{all_still}
use Rattle.bc_step_rows.proofs.reads.try_read.Goals as goal

pub returns-in-Ok-read_piece-clause-all : goal.returns-in-Ok-read_piece-clause-all
returns-in-Ok-read_piece-clause-all g c = all_still g.C.Disk.facts g.B.Disk.facts
    c.args.seat.now c.read_piece.new.seat c.args.parts.now.seats
    (read_same g.C.Disk.facts g.B.Disk.facts c.args.parts.now
    (record { worker = 0; line = c.args.line }) c.args.first 32 (values_of c.read_piece.new.into)
    c.args.seat.now c.read_piece.new.seat c.in-Ok-read_piece.ensures.ok) c.requires.all

pub returns-clause-all : goal.returns-clause-all
returns-clause-all g c = all_still g.C.Disk.facts g.B.Disk.facts c.args.seat.now
    c.read_piece.new.seat c.args.parts.now.seats
    (stopped_same g.C.Disk.facts g.B.Disk.facts c.args.parts.now c.args.first 32
    c.in-Err.error c.args.seat.now c.read_piece.new.seat c.in-Err.ensures.err) c.requires.all
