-- That each kind of act may be done by a seat that knows what the act asks. The buckets that are
-- kept for chains are no act of their own here: they change as a bucket is let go, and as a chain is
-- ready.
use Rattle.std.specs.Prelude.{◌≡◌, ◌≢◌, ℕ, List}
use Rattle.bc_meta.specs.Facts.{In}
use Rattle.bc_leaves.specs.Parts as parts
use Rattle.bc_whole.specs.State.{Opening}
use Rattle.bc_whole.specs.Uses.{Kind, Quiet, Keys, Fault, Barrier, Sealed, Durable, NextBucket, Taken, Released, Chain, Spare, Change, Installed, Drafts, kind_of_write}
use Rattle.bc_known.specs.Acts.{Act, Alone, Keyed, WriteCache, FailCache, CacheBarrier, Seal, MakeDurable, BeginBucket, Take, LetGo, ReadyChain, BeginChange, Install, ForgetDrafts, Event}
use Rattle.bc_known.specs.Run.{IsRun, start}
use Rattle.bc_known.specs.Laws.{IsSound}

abbrev pub kind_of : Act → Kind
kind_of (Alone act) = Quiet
kind_of (Keyed act slot keys) = Keys
kind_of (WriteCache write values) = kind_of_write write
kind_of (FailCache write values) = Fault
kind_of CacheBarrier = Barrier
kind_of (Seal last_seq rest root chain) = Sealed
kind_of MakeDurable = Durable
kind_of (BeginBucket b) = NextBucket
kind_of (Take purpose b) = Taken
kind_of (LetGo b room) = Released
kind_of (ReadyChain room) = Chain
kind_of (BeginChange low high gone come old new unused) = Change
kind_of (Install unused steps) = Installed
kind_of ForgetDrafts = Drafts

abbrev pub HasKind : List Event → Kind → Type 0
HasKind es k = (e : Event) × In e es × (kind_of e.act ≡ k)

-- a run from a sound opening in which there is an act of each kind
pub record DoesAll (w : Opening) (x : parts.State) (next_seq : ℕ) (es : List Event) : Type 0 where
  pub sound : IsSound w x
  pub course : IsRun w (start w x next_seq) es
  pub each : (k : Kind) → k ≢ Spare → HasKind es k

abbrev pub HasAllActs : Type 0
HasAllActs = (w : Opening) × (x : parts.State) × (next_seq : ℕ)
    × ((es : List Event) × DoesAll w x next_seq es)
