-- What steps of a trace round make of the buckets in memory, and that these go on to stand for the
-- books then.
use Rattle.std.specs.Prelude.{◌≡◌, ◌≢◌, ◌⊎◌, ℕ, ◌<◌, ◌≤◌, true, false, length, replicate}
use Rattle.bc_books.specs.After.{after}
use Rattle.bc_books.specs.Books.{Books, Begin, Walk, Drop, End}
use Rattle.bc_books.specs.Invariant.{IsInOrder}
use Rattle.bc_bucket.specs.Buckets.{EachChanged, settled_at}
use Rattle.bc_bucket.specs.Walk.{none_found}
use Rattle.bc_machine.specs.Containers.{AreBucketsOf}
use Rattle.bc_machine.specs.declared.part.BucketsPart.{BucketsPart}
use Rattle.bc_whole.specs.State.{Opening}
use Rattle.bc_rounds.specs.Rows.{AreFound, sight_of}

-- all of a part but its buckets and its round is as it was
pub record SameBeside (p q : BucketsPart) : Type 0 where
  pub reserves : q.reserves ≡ p.reserves
  pub fill : q.fill ≡ p.fill
  pub chain : q.chain ≡ p.chain
  pub renewing : q.renewing ≡ p.renewing
  pub served : q.served ≡ p.served

-- A round is open: no bucket is touched, and no leaf was walked.
pub record HasBegun (p q : BucketsPart) : Type 0 where
  pub beside : SameBeside p q
  pub buckets : q.buckets
      ≡ record p.buckets { touched = replicate (length p.buckets.records) false }
  pub round : q.round
      ≡ record { walk = replicate (length p.round.walk) none_found; going = true; next = 0 }

-- A leaf that ends at this sector was walked, all of whose sectors lie behind those that were before.
-- The walk has what the round has seen then.
pub record HasWalked (w : Opening) (k : Books) (leaf end : ℕ) (p q : BucketsPart) : Type 0 where
  pub beside : SameBeside p q
  pub buckets : q.buckets ≡ p.buckets
  pub going : q.round.going ≡ p.round.going
  pub next : q.round.next ≡ end
  pub more : p.round.next ≤ end
  pub its : (s : ℕ) → s < end → (s < p.round.next) ⊎ (k.index.leaf s ≡ leaf)
  pub others : (s : ℕ) → end ≤ s → k.index.leaf s ≢ leaf
  pub long : length q.round.walk ≡ length p.round.walk
  pub found : AreFound w.flow.books w.before (length p.buckets.records)
      (sight_of (after w.flow.books k (Walk leaf)).round) q.round.walk

-- It was given up, and nothing came of it.
pub record HasDropped (p q : BucketsPart) : Type 0 where
  pub beside : SameBeside p q
  pub buckets : q.buckets ≡ p.buckets
  pub round : q.round ≡ record p.round { going = false }

-- It is over: each bucket that wasn't touched since it began got what its walk found.
pub record HasEnded (p q : BucketsPart) : Type 0 where
  pub beside : SameBeside p q
  pub settled : EachChanged (settled_at p.buckets.touched p.round.walk) p.buckets q.buckets
  pub round : q.round ≡ record p.round { going = false }

abbrev pub LawBegun : Type 0
LawBegun = (w : Opening) (k : Books) (p q : BucketsPart) → AreBucketsOf w k p → HasBegun p q
    → AreBucketsOf w (after w.flow.books k Begin) q

abbrev pub LawWalked : Type 0
LawWalked = (w : Opening) (k : Books) (leaf end : ℕ) (p q : BucketsPart) → AreBucketsOf w k p
    → HasWalked w k leaf end p q → AreBucketsOf w (after w.flow.books k (Walk leaf)) q

abbrev pub LawDropped : Type 0
LawDropped = (w : Opening) (k : Books) (p q : BucketsPart) → AreBucketsOf w k p → HasDropped p q
    → AreBucketsOf w (after w.flow.books k Drop) q

-- The books are in order in each state of a run from a sound opening.
abbrev pub LawEnded : Type 0
LawEnded = (w : Opening) (k : Books) (p q : BucketsPart) → IsInOrder w.flow.books k
    → k.round.going ≡ true → AreBucketsOf w k p → HasEnded p q
    → AreBucketsOf w (after w.flow.books k End) q
