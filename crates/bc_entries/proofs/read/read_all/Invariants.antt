use Rattle.std.proofs.Common.{◌≡◌, ◌*◌, length}
use Rattle.std.specs.Prelude.{All}
use Rattle.bc_disk.specs.Disk.{IsKept}
use Rattle.bc_entries.specs.Reading.{StandOn, EndsWithin, StandsWithin}
use Rattle.bc_entries.proofs.read.read_all.Given as goal

abbrev pub invariant-loop-i : goal.invariant-loop-i
invariant-loop-i g l = record {
  stand : StandOn l.g (g.D.Disk.facts l.initial.disk) l.i l.all.items;
  ends : All (EndsWithin l.g) l.all.items;
  places : All (StandsWithin l.g) l.all.items;
  kept : IsKept (g.D.Disk.facts l.initial.disk) (g.D.Disk.facts l.disk);
  faults : (g.D.Disk.facts l.disk).faults ≡ (g.D.Disk.facts l.initial.disk).faults;
  whole : length l.bytes.items ≡ 512 * l.g.bucket;
}
