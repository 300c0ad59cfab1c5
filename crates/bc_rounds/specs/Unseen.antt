-- What of a bucket the core doesn't see: its priority, how many of its sectors are used, and the
-- generation that priority sets have; and how much was served since priorities fell.
use Rattle.std.specs.Prelude.{◌≡◌, ℕ, ◌<◌, length}
use Rattle.bc_books.specs.Books.{Books}
use Rattle.bc_bucket.specs.Buckets.{Buckets, bucket_of}
use Rattle.bc_bucket.specs.declared.bucket.Bucket.{Bucket}
use Rattle.bc_machine.specs.Containers.{AreBucketsOf}
use Rattle.bc_machine.specs.declared.part.BucketsPart.{BucketsPart}
use Rattle.bc_whole.specs.State.{Opening}

-- the core sees no difference
pub record IsAlike (a b : Bucket) : Type 0 where
  pub generation : b.generation ≡ a.generation
  pub uses : b.uses ≡ a.uses
  pub last_gc : b.last_gc ≡ a.last_gc
  pub mark : b.mark ≡ a.mark
  pub pins : b.pins ≡ a.pins
  pub held : b.held ≡ a.held

pub record AreAlike (a b : Buckets) : Type 0 where
  pub size : b.size ≡ a.size
  pub data_from : b.data_from ≡ a.data_from
  pub long : length b.records ≡ length a.records
  pub touched : b.touched ≡ a.touched
  pub each : (k : ℕ) → k < length a.records → IsAlike (bucket_of a k) (bucket_of b k)

-- so it is with all of a part
pub record HasUnseen (p q : BucketsPart) : Type 0 where
  pub reserves : q.reserves ≡ p.reserves
  pub fill : q.fill ≡ p.fill
  pub chain : q.chain ≡ p.chain
  pub renewing : q.renewing ≡ p.renewing
  pub round : q.round ≡ p.round
  pub buckets : AreAlike p.buckets q.buckets

-- So priorities may be raised by a look and fall as time goes by, with no event.
abbrev pub LawUnseen : Type 0
LawUnseen = (w : Opening) (k : Books) (p q : BucketsPart) → AreBucketsOf w k p → HasUnseen p q
    → AreBucketsOf w k q
