use Rattle.std.proofs.Common.{◌≡◌, ℕ, ◌+◌, ◌-◌, ◌*◌, ◌<◌}
use Rattle.bc_disk.specs.Bytes.{image_of}
use Rattle.bc_jset.specs.Entries.{bucket_start, bucket_end}
use Rattle.bc_plain_pair.specs.Ring.{IsNoneAt}
use Rattle.bc_plain_pair.proofs.ring.has_stray.Given as goal

abbrev pub invariant-loop-place : goal.invariant-loop-place
invariant-loop-place l = record {
  blocks : ℕ;
  at : l.place ≡ bucket_start l.g l.i + l.g.block * blocks;
  none : (k : ℕ) → k < blocks → IsNoneAt l.g (image_of l.image) l.entries l.low (bucket_end l.g l.i) (bucket_start l.g l.i + l.g.block * k);
}

abbrev pub decreases-loop-place : goal.decreases-loop-place
decreases-loop-place l = l.end - l.place
