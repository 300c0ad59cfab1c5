use Rattle.std.proofs.Common.{ℕ, ◌<◌}
use Rattle.bc_disk.specs.Bytes.{image_of}
use Rattle.bc_plain_pair.specs.Ring.{HasNoStray}
use Rattle.bc_plain_pair.proofs.ring.first_stray.Given as goal

abbrev pub invariant-loop-i : goal.invariant-loop-i
invariant-loop-i l = (k : ℕ) → k < l.i → HasNoStray l.g (image_of l.image) l.entries l.newest.item.last_seq k
