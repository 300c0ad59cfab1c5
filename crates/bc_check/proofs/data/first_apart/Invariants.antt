use Rattle.std.proofs.Common.{◌≡◌, ◌*◌, length}
use Rattle.bc_replay.specs.Causes.{OfHeld}
use Rattle.bc_check.specs.Apart.{NoneApart}
use Rattle.bc_check.specs.Calls.{BothKept, NoneFailed}
use Rattle.bc_check.proofs.data.first_apart.Given as goal

abbrev pub invariant-loop-i : goal.invariant-loop-i
invariant-loop-i g l = record {
  found : OfHeld (λ p. NoneApart l.s.supers.geometry l.s.gens p l.s.supers.backing.data_offset l.s.index.keys l.i) (g.C.Disk.facts l.initial.cache) (g.B.Disk.facts l.initial.backing);
  kept : BothKept (g.C.Disk.facts l.initial.cache) (g.C.Disk.facts l.cache) (g.B.Disk.facts l.initial.backing) (g.B.Disk.facts l.backing);
  good : NoneFailed (g.C.Disk.facts l.initial.cache) (g.C.Disk.facts l.cache) (g.B.Disk.facts l.initial.backing) (g.B.Disk.facts l.backing);
  one : length l.one.items ≡ 512 * 256;
  other : length l.other.items ≡ 512 * 256;
}
