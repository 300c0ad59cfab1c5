use Rattle.std.proofs.Common.{◌≡◌, ◌-◌, ◌*◌, ◌≤◌, None, length}
use Rattle.bc_replay.specs.Causes.{OfHeld}
use Rattle.bc_check.specs.Apart.{IsFirstNot, AreSame}
use Rattle.bc_check.specs.Calls.{BothKept, NoneFailed}
use Rattle.bc_check.proofs.apart.run_apart.Given as goal

abbrev pub invariant-loop-done : goal.invariant-loop-done
invariant-loop-done g l = record {
  most : l.done ≤ l.count;
  found : OfHeld (λ p. IsFirstNot (AreSame p l.place l.at) l.done None) (g.C.Disk.facts l.initial.cache) (g.B.Disk.facts l.initial.backing);
  kept : BothKept (g.C.Disk.facts l.initial.cache) (g.C.Disk.facts l.cache) (g.B.Disk.facts l.initial.backing) (g.B.Disk.facts l.backing);
  good : NoneFailed (g.C.Disk.facts l.initial.cache) (g.C.Disk.facts l.cache) (g.B.Disk.facts l.initial.backing) (g.B.Disk.facts l.backing);
  one : length l.one ≡ 512 * 256;
  other : length l.other ≡ 512 * 256;
}

abbrev pub decreases-loop-done : goal.decreases-loop-done
decreases-loop-done g l = l.count - l.done
