-- What an install makes of the buckets in memory, step by step of the books, and that these go on
-- to stand for the books then.
use Rattle.std.specs.Prelude.{◌≡◌, ℕ, Bool, ◌+◌, ◌<◌, ◌&&◌, ◌||◌, true, false, length, slice_index_or, slice_set}
use Rattle.bc_books.specs.After.{after}
use Rattle.bc_books.specs.Books.{Books, DropNode, MakeNode, Regroup}
use Rattle.bc_books.specs.Index.{latest}
use Rattle.bc_books.specs.Marks.{any, points_into}
use Rattle.bc_books.specs.Shelves.{Held, Tree}
use Rattle.bc_bucket.specs.Bucket.{marked, with_held}
use Rattle.bc_bucket.specs.Buckets.{Buckets, changed}
use Rattle.bc_bucket.specs.declared.bucket.Bucket.{Bucket}
use Rattle.bc_bucket.specs.declared.bucket.Mark.TheVariants as marks
use Rattle.bc_looks.specs.bc_machine.Containers.{AreBucketsOf, SameRest}
use Rattle.bc_looks.specs.bc_machine.declared.part.BucketsPart.{BucketsPart}
use Rattle.bc_whole.specs.State.{Opening}

-- all of a part but its buckets is as it was
pub record SameLists (p q : BucketsPart) : Type 0 where
  pub reserves : q.reserves ≡ p.reserves
  pub fill : q.fill ≡ p.fill
  pub rest : SameRest p q

-- a node came into the bucket, which nobody holds then, and so many of its sectors are used
abbrev pub with_node : ℕ → Bucket → Bucket
with_node used b = with_held false (marked marks.Metadata used b)

-- which a trace round that goes on doesn't take back
abbrev pub made_at : (used k : ℕ) → Buckets → Buckets
made_at used k b = record (changed (with_node used) k b) { touched = slice_set b.touched k true }

-- a node went out of the bucket
abbrev pub unmade_at : ℕ → Buckets → Buckets
unmade_at k b = changed (marked marks.None 0) k b

-- A held bucket got a node.
pub record HasMade (used k : ℕ) (p q : BucketsPart) : Type 0 where
  pub beside : SameLists p q
  pub buckets : q.buckets ≡ made_at used k p.buckets

-- A bucket lost its node.
pub record HasUnmade (k : ℕ) (p q : BucketsPart) : Type 0 where
  pub beside : SameLists p q
  pub buckets : q.buckets ≡ unmade_at k p.buckets

-- Leaves came: the buckets into which last keys of these sectors point are touched, besides those
-- that were.
pub record HasRegrouped (w : Opening) (k : Books) (counts : ℕ → Bool) (p q : BucketsPart) :
    Type 0 where
  pub beside : SameLists p q
  pub buckets : q.buckets ≡ record p.buckets { touched = q.buckets.touched }
  pub each : length q.buckets.touched ≡ length p.buckets.touched
  pub touches : (b : ℕ) → w.before + b < length p.buckets.records
      → slice_index_or q.buckets.touched (w.before + b) false
      ≡ (any w.flow.books.size (λ s. counts s
      && points_into w.flow.books.bucket b (latest k.index s))
      || slice_index_or p.buckets.touched (w.before + b) false)

abbrev pub LawMade : Type 0
LawMade = (w : Opening) (k : Books) (i b used : ℕ) (p q : BucketsPart) → AreBucketsOf w k p
    → k.shelf b ≡ Held i Tree → w.before + b < length p.buckets.records
    → HasMade used (w.before + b) p q → AreBucketsOf w (after w.flow.books k (MakeNode i b)) q

abbrev pub LawUnmade : Type 0
LawUnmade = (w : Opening) (k : Books) (b : ℕ) (p q : BucketsPart) → AreBucketsOf w k p
    → w.before + b < length p.buckets.records → HasUnmade (w.before + b) p q
    → AreBucketsOf w (after w.flow.books k (DropNode b)) q

-- whatever leaf each sector is in then, and whatever they count
abbrev pub LawRegrouped : Type 0
LawRegrouped = (w : Opening) (k : Books) (leaf changed : ℕ → ℕ) (counts : ℕ → Bool) (last : ℕ)
    (p q : BucketsPart) → AreBucketsOf w k p → HasRegrouped w k counts p q
    → AreBucketsOf w (after w.flow.books k (Regroup leaf changed counts last)) q
