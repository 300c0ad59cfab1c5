use Rattle.std.proofs.Common.{ℕ, false}
use Rattle.bc_request.specs.bc_job.declared.job.Job.{Job}
use Rattle.bc_request.proofs.Lines.{line_same, no_line_same}
use Rattle.bc_step_rows.proofs.Pieces.{all_still}
use Rattle.bc_step_rows.proofs.lines.try_line.Goals as goal

-- the line of 32 sectors from the first one on
abbrev job : (line first : ℕ) → Job
job line first = record {
  worker = 0;
  line = line;
  first = first;
  count = 32;
  size = 1024;
  force = false;
}

pub returns-in-Ok-clause-all : goal.returns-in-Ok-clause-all
returns-in-Ok-clause-all g c = all_still g.C.Disk.facts g.B.Disk.facts c.args.seat.now
    c.read.new.seat c.args.parts.now.seats
    (line_same g.C.Disk.facts g.B.Disk.facts c.args.parts.now (job c.args.line c.args.first)
    c.in-Ok.values c.args.seat.now c.read.new.seat c.in-Ok.ensures.ok) c.requires.all

pub returns-in-Err-clause-all : goal.returns-in-Err-clause-all
returns-in-Err-clause-all g c = all_still g.C.Disk.facts g.B.Disk.facts c.args.seat.now
    c.read.new.seat c.args.parts.now.seats
    (no_line_same g.C.Disk.facts g.B.Disk.facts c.args.parts.now (job c.args.line c.args.first)
    c.in-Err.error c.args.seat.now c.read.new.seat c.in-Err.ensures.err) c.requires.all
