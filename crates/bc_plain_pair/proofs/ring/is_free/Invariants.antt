use Rattle.std.proofs.Common.{◌≡◌, ◌<◌, take}
use Rattle.std.specs.Prelude.{All}
use Rattle.bc_jset.specs.Entries.{FoundEntry}
use Rattle.bc_jset.specs.Ring.{bucket_of}
use Rattle.bc_plain_pair.proofs.ring.is_free.Given as goal

abbrev pub invariant-loop-entry : goal.invariant-loop-entry
invariant-loop-entry l = All (λ (e : FoundEntry). bucket_of l.g e ≡ l.bucket → e.item.seq < l.low) (take l.entry-index l.all)
