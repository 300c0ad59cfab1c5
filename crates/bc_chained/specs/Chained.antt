-- A chain of priority sets that an entry may name: what a seat knows of it before, and then.
use Rattle.std.specs.Prelude.{◌≡◌, ℕ, suc, ◌+◌, ◌-◌, ◌<◌, ◌≤◌, true, false, List, length, map, Some, slice_index}
use Rattle.bc_alloc.specs.Reserve.{times}
use Rattle.bc_books.specs.Shelves.{Held, Priorities}
use Rattle.bc_bucket.specs.Buckets.{shown_on_disk}
use Rattle.bc_chains.specs.Written.{IsForChain, IsMade}
use Rattle.bc_disk.specs.Chain.{sets_in_chain}
use Rattle.bc_disk.specs.declared.gens.BucketRecord.{BucketRecord}
use Rattle.bc_disk.specs.declared.geometry.Geometry.{Geometry}
use Rattle.bc_events.specs.Run.{State}
use Rattle.bc_facts.specs.Seen.{counted, seen_prio}
use Rattle.bc_chains.specs.bc_machine.Containers.{IsChainOf}
use Rattle.bc_chains.specs.bc_machine.World.{FromEach, Origin, World}
use Rattle.bc_chains.specs.bc_machine.declared.part.BucketsPart.{BucketsPart}
use Rattle.bc_prio.specs.Set.{IsWrittenSet}
use Rattle.bc_shares.specs.Shares.{BucketsShare, Counts, books_of, buckets_in, journal_share}
use Rattle.bc_whole.specs.State.{Opening}

-- ---- the sets

-- the bucket that the set of this part names, none in the last one
abbrev pub next_of : List ℕ → ℕ → ℕ
next_of new part = slice_index new (part + 1)

-- The set of this part was written into its bucket, and stands there: it has these records, and
-- names the next bucket.
pub record IsSetOf (g : Geometry) (records : List BucketRecord) (new : List ℕ) (part : ℕ)
    (x : World) : Type 0 where
  pub bytes : List ℕ
  pub set : IsWrittenSet g records part (next_of new part) bytes
  pub made : FromEach x
      (IsMade (counted g (slice_index new part)) part (seen_prio g part bytes))

-- so it is with each part of a chain
pub record AreSetsOf (g : Geometry) (records : List BucketRecord) (new : List ℕ) (x : World) :
    Type 0 where
  pub many : length new ≡ sets_in_chain g
  pub each : (part : ℕ) → part < length new → IsSetOf g records new part x

-- these buckets are the seat's, for a chain that no entry names
abbrev pub AreForChain : ℕ → List ℕ → Origin → State → Type 0
AreForChain i new o st = (n : ℕ) → 0 < times n new → (o.opening.machine.before ≤ n)
    × IsForChain i (n - o.opening.machine.before) o st

-- ---- the buckets in hand

-- these are their priorities and generations
abbrev pub AreShown : List BucketRecord → BucketsPart → Type 0
AreShown records p = records ≡ map shown_on_disk p.buckets.records

-- a newer chain than the one that was made ready last may be sealed, and nothing else changed
pub record HasRenewing (p q : BucketsPart) : Type 0 where
  pub buckets : q.buckets ≡ p.buckets
  pub reserves : q.reserves ≡ p.reserves
  pub fill : q.fill ≡ p.fill
  pub chain : q.chain ≡ p.chain
  pub renewing : q.renewing ≡ true
  pub round : q.round ≡ p.round
  pub served : q.served ≡ p.served

-- ---- once an entry with the chain is sealed

-- The chain in these buckets, which the seat holds, is the newest one that is sealed, behind the one
-- that was made ready last; and its generations are those of now.
pub record IsSealedNext (i : ℕ) (new : List ℕ) (w : Opening) (x : BucketsShare) (c : Counts) :
    Type 0 where
  pub next : IsChainOf w.before w.flow.books.sets x.chain (suc x.ready) x.sealed new false
  pub held : (q : ℕ) → x.chain q ≡ Some (suc x.ready) → x.shelf q ≡ Held i Priorities
  pub newest : c.sealed_chain ≡ x.sealed
  pub generations : (q : ℕ) → c.sealed q ≡ x.version q

abbrev pub IsSealedChain : ℕ → List ℕ → Origin → State → Type 0
IsSealedChain i new o st = IsSealedNext i new o.opening.machine
    (buckets_in (books_of st.machine)) (journal_share st.machine).counts
