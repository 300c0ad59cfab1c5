-- What an entry with a new chain of priority sets makes ready: what its seat has to know for it,
-- and what it did.
use Rattle.std.specs.Prelude.{◌≡◌, ℕ, suc, ◌-◌, ◌<◌, true, false, List, fold, take, drop, Some, Vec, slice_set}
use Rattle.std.specs.declared.alloc.Global.{Global}
use Rattle.bc_alloc.specs.Buckets.{AreLoose, all_changed, made_ready, unmarked}
use Rattle.bc_alloc.specs.Reserve.{IsDistinct, times}
use Rattle.bc_alloc.specs.Reserves.{returned_all, stored_all, times_listed}
use Rattle.bc_books.specs.Shelves.{Held, Priorities}
use Rattle.bc_bucket.specs.Bucket.{marked, with_held}
use Rattle.bc_bucket.specs.Buckets.{Buckets, bucket_of}
use Rattle.bc_bucket.specs.declared.bucket.Bucket.{Bucket}
use Rattle.bc_bucket.specs.declared.bucket.Mark.TheVariants as marks
use Rattle.bc_events.specs.Run.{State}
use Rattle.bc_fill.specs.Fill.{bucket_numbers}
use Rattle.bc_machine.specs.Containers.{IsChainOf}
use Rattle.bc_machine.specs.World.{Origin}
use Rattle.bc_machine.specs.declared.part.BucketsPart.{BucketsPart}
use Rattle.bc_shares.specs.Shares.{BucketsShare, Counts, books_of, buckets_in, journal_share}
use Rattle.bc_whole.specs.State.{Opening}

-- ---- what is in hand

-- A bucket of the device was taken for a chain: it is held, and neither on a list nor open for data.
pub record IsTaken (p : BucketsPart) (k : ℕ) : Type 0 where
  pub there : k < p.reserves.count
  pub held : (bucket_of p.buckets k).held ≡ true
  pub loose : times_listed p.reserves k ≡ 0
  pub shut : times k (bucket_numbers p.fill) ≡ 0

-- these were, each once
pub record AreTaken (p : BucketsPart) (new : List ℕ) : Type 0 where
  pub distinct : IsDistinct new
  pub each : (k : ℕ) → 0 < times k new → IsTaken p k

-- The chain in hand, of which the list for priority sets could have each bucket, is nobody's; and the
-- next one was taken. So it is in each state that the buckets in hand stand for.
pub record CanGo (p : BucketsPart) (new : List ℕ) : Type 0 where
  pub distinct : IsDistinct p.chain.items
  pub loose : AreLoose p.reserves p.buckets p.chain.items
  pub taken : AreTaken p new

-- ---- what is known of the core

-- The next chain lies in the buckets `new`, which the seat holds; it is the newest one that is
-- sealed, and durable; and so are the generations of these raised buckets.
pub record IsNext (i : ℕ) (raised new : List ℕ) (w : Opening) (x : BucketsShare) (c : Counts) :
    Type 0 where
  pub next : IsChainOf w.before w.flow.books.sets x.chain (suc x.ready) x.sealed new false
  pub held : (q : ℕ) → x.chain q ≡ Some (suc x.ready) → x.shelf q ≡ Held i Priorities
  pub durable : x.ready < c.durable_chain
  pub generations : (k : ℕ) → 0 < times k raised
      → c.durable (k - w.before) ≡ x.version (k - w.before)

abbrev pub MayReady : ℕ → (raised new : List ℕ) → Origin → State → Type 0
MayReady i raised new o st = IsNext i raised new o.opening.machine
    (buckets_in (books_of st.machine)) (journal_share st.machine).counts

-- ---- what was done

-- a bucket of the next chain is let go, and marked as metadata
abbrev pub chained : Bucket → Bucket
chained b = marked marks.Metadata 0 (with_held false b)

-- each of these buckets is touched, so that a trace round doesn't settle it
abbrev pub touched : ℕ → Buckets → Buckets
touched k b = record b { touched = slice_set b.touched k true }

abbrev pub all_touched : List ℕ → Buckets → Buckets
all_touched ks b = fold (λ (b : Buckets) k. touched k b) b ks

-- The buckets of the next chain, `new`, are metadata and touched, and it is the chain in hand. Those
-- of the one before are nobody's and unmarked, and go back to the list for priority sets as far as
-- that has room; and then the named ones go to the first list that has room, or to none.
pub record HasMadeReady (p : BucketsPart) (named : ℕ) (new : Vec ℕ Global) (q : BucketsPart) :
    Type 0 where
  pub reserves : q.reserves ≡ record p.reserves {
    lists = stored_all (take named p.reserves.raised)
        (returned_all p.chain.items p.reserves.lists);
    raised = drop named p.reserves.raised;
  }
  pub buckets : q.buckets ≡ all_touched new.items (all_changed made_ready
      (take named p.reserves.raised)
      (all_changed unmarked p.chain.items (all_changed chained new.items p.buckets)))
  pub fill : q.fill ≡ p.fill
  pub chain : q.chain ≡ new
  pub renewing : q.renewing ≡ false
  pub round : q.round ≡ p.round
  pub served : q.served ≡ p.served
