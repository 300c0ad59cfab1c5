use Rattle.std.proofs.Common.{◌≡◌, ◌*◌, length}
use Rattle.bc_disk.specs.Disk.{IfTold, IsKept}
use Rattle.bc_check.specs.Strays.{NoneOther}
use Rattle.bc_check.proofs.strays.first_stray.Given as goal

abbrev pub invariant-loop-i : goal.invariant-loop-i
invariant-loop-i g l = record {
  none : IfTold (g.C.Disk.facts l.initial.cache).holds (λ image. NoneOther l.g image l.journal.entries l.low l.i);
  kept : IsKept (g.C.Disk.facts l.initial.cache) (g.C.Disk.facts l.cache);
  good : (g.C.Disk.facts l.cache).faults ≡ (g.C.Disk.facts l.initial.cache).faults;
  whole : length l.bytes.items ≡ 512 * l.g.bucket;
}
