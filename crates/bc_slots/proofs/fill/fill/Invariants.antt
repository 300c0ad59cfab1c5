use Rattle.std.proofs.Common.{◌≡◌, length, take}
use Rattle.bc_disk.specs.Disk.{IsKept}
use Rattle.bc_super.specs.Writing.{count_after}
use Rattle.bc_slots.specs.Places.{readings}
use Rattle.bc_slots.proofs.Steps.{AreFilledTo}
use Rattle.bc_slots.proofs.fill.fill.Given as goal

abbrev pub invariant-loop-i : goal.invariant-loop-i
invariant-loop-i g l = record {
  filled : AreFilledTo l.g l.leaves l.pending (length l.initial.parts.items) (g.C.Disk.facts l.initial.cache) l.i l.parts.items l.filled.items;
  kept : IsKept (g.C.Disk.facts l.initial.cache) (g.C.Disk.facts l.cache);
  calls : (g.C.Disk.facts l.cache).calls ≡ count_after (readings (take l.i l.pending)) (g.C.Disk.facts l.initial.cache).calls;
  faults : (g.C.Disk.facts l.cache).faults ≡ (g.C.Disk.facts l.initial.cache).faults;
}
