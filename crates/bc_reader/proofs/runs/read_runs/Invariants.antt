use Rattle.std.proofs.Common.{◌≡◌, ◌+◌, ◌*◌, ◌≤◌, length}
use Rattle.std.specs.Prelude.{drop, take}
use Rattle.bc_fetch.specs.bc_hand.Seats.{Works, note}
use Rattle.bc_model.specs.Sector.{sectors}
use Rattle.bc_reads.specs.Reads.{AreRuns}
use Rattle.bc_reader.specs.Known.{IsSameButDevices, IsSameClaim}
use Rattle.bc_reader.specs.Runs.{HasReadAll, IsSeenAll}
use Rattle.bc_reader.proofs.runs.read_runs.Given as goal

-- the runs so far are read, and stand at their places
abbrev pub invariant-loop-run : goal.invariant-loop-run
invariant-loop-run g l = record {
  works : Works g.C.Disk.facts g.B.Disk.facts l.parts l.seat l.hand;
  hand : IsSameButDevices l.initial.hand l.hand;
  claim : IsSameClaim (note g.C.Disk.facts g.B.Disk.facts l.initial.seat)
      (note g.C.Disk.facts g.B.Disk.facts l.seat);
  long : length l.bytes ≡ 512 * l.count;
  left : l.initial.seat.promises ≤ l.seat.promises + 2 * l.run-index;
  reads : HasReadAll g.C.Disk.facts g.B.Disk.facts l.first (take l.run-index l.runs)
      (sectors l.place l.bytes) l.initial.seat l.seat;
  before : (s : IsSeenAll g.C.Disk.facts g.B.Disk.facts l.first l.count l.runs l.initial.seat)
      → AreRuns s.leaf s.buckets l.first (l.first + l.place) (take l.run-index l.runs);
  behind : (s : IsSeenAll g.C.Disk.facts g.B.Disk.facts l.first l.count l.runs l.initial.seat)
      → AreRuns s.leaf s.buckets (l.first + l.place) (l.first + l.count) (drop l.run-index l.runs);
}
