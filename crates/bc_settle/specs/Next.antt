-- What the parts in hand are behind a candidate's key.
use Rattle.std.specs.Prelude.{◌≡◌, ℕ, ◌/◌, length, nat_lt, slice_set, true, if◌then◌else◌}
use Rattle.bc_bucket.specs.Bucket.{marked}
use Rattle.bc_bucket.specs.Buckets.{Buckets, changed}
use Rattle.bc_bucket.specs.declared.bucket.Bucket.{Bucket}
use Rattle.bc_bucket.specs.declared.bucket.Mark.{Mark}
use Rattle.bc_bucket.specs.declared.bucket.Mark.TheVariants as marks
use Rattle.bc_flight.specs.Candidates.{without_first}
use Rattle.bc_flight.specs.Flight.{InFlight}
use Rattle.bc_flight.specs.declared.candidate.Wanted.TheVariants.{Due}
use Rattle.bc_candidate.specs.bc_place.Next.{without_pins}
use Rattle.bc_candidate.specs.bc_machine.Containers.{SameRest}
use Rattle.bc_candidate.specs.bc_machine.declared.part.BucketsPart.{BucketsPart}

-- ---- the candidates

-- the oldest that is due was taken out
pub record HasTakenDue (before : ℕ) (f g : InFlight) : Type 0 where
  pub candidates : g.candidates ≡ without_first (Due before) f.candidates
  pub claims : g.claims ≡ f.claims
  pub next : g.next ≡ f.next
  pub seats : g.seats ≡ f.seats

-- ---- the buckets

-- a bucket that had no live key is reclaimable, and each other mark stays
abbrev pub marked_clean : Mark → Bucket → Bucket
marked_clean marks.None b = marked marks.Reclaimable b.used b
marked_clean m b = b

abbrev pub with_clean_mark : Bucket → Bucket
with_clean_mark b = marked_clean b.mark b

-- so many of its pinned places are named by a clean key
abbrev pub with_clean : ℕ → Bucket → Bucket
with_clean n b = with_clean_mark (without_pins n b)

-- a trace round that goes on doesn't take its mark back
abbrev pub clean_at : ℕ → ℕ → Buckets → Buckets
clean_at k n b = record (changed (with_clean n) k b) { touched = slice_set b.touched k true }

-- of the bucket in which the places begin, where that is one of the device
abbrev pub place_clean : (at count : ℕ) → Buckets → Buckets
place_clean at count b = if nat_lt (at / b.size) (length b.records)
    then clean_at (at / b.size) count b else b

pub record HasCleanKey (part : BucketsPart) (at count : ℕ) (new : BucketsPart) : Type 0 where
  pub reserves : new.reserves ≡ part.reserves
  pub fill : new.fill ≡ part.fill
  pub buckets : new.buckets ≡ place_clean at count part.buckets
  pub rest : SameRest part new
