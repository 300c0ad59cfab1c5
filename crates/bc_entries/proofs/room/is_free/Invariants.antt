use Rattle.std.proofs.Common.{◌≡◌, ◌<◌, take}
use Rattle.std.specs.Prelude.{All}
use Rattle.bc_jset.specs.Ring.{bucket_of}
use Rattle.bc_entries.proofs.room.is_free.Given as goal

abbrev pub invariant-loop-e : goal.invariant-loop-e
invariant-loop-e l = All (λ e. bucket_of l.g e ≡ l.bucket → e.item.seq < l.newest.item.last_seq) (take l.e-index l.all)
