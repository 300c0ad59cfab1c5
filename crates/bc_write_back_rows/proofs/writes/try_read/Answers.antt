use Rattle.std.proofs.Common.{◌∙◌}
use Rattle.bc_model.specs.Sector.{values_of}
use Rattle.bc_write_back.proofs.of_bc_request.Lines.{read_same, stopped_same}
use Rattle.bc_write_back_rows.proofs.writes.try_read.Goals as goal

pub returns-in-Ok-read_piece-clause-all : goal.returns-in-Ok-read_piece-clause-all
returns-in-Ok-read_piece-clause-all g c =
    let same = read_same g.C.Disk.facts g.B.Disk.facts c.args.parts.now
    (record { worker = 0; line = c.args.line }) 0 32 (values_of c.read_piece.new.into)
    c.args.seat.now c.read_piece.new.seat c.in-Ok-read_piece.ensures.ok in
    (same.first ∙ c.requires.all.0, same.end ∙ c.requires.all.1)

pub returns-clause-all : goal.returns-clause-all
returns-clause-all g c =
    let same = stopped_same g.C.Disk.facts g.B.Disk.facts c.args.parts.now 0 32 c.in-Err.error
    c.args.seat.now c.read_piece.new.seat c.in-Err.ensures.err in
    (same.first ∙ c.requires.all.0, same.end ∙ c.requires.all.1)
