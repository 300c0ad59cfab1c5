-- What a place is to the containers: where the next one lies, and what they are behind it.
use Rattle.std.specs.Prelude.{◌≡◌, ℕ, ◌+◌, ◌-◌, ◌/◌, ◌<◌, ◌≤◌, ◌^◌, min, length, nat_lt, slice_set, Bool, true, List, [], ◌∷◌, None, if◌then◌else◌}
use Rattle.bc_alloc.specs.Reserves.{TakesFirst}
use Rattle.bc_alloc.specs.declared.purpose.Purpose.TheVariants as list
use Rattle.bc_bucket.specs.Bucket.{marked, with_held}
use Rattle.bc_bucket.specs.Buckets.{Buckets, changed}
use Rattle.bc_bucket.specs.declared.bucket.Bucket.{Bucket}
use Rattle.bc_bucket.specs.declared.bucket.Mark.TheVariants as marks
use Rattle.bc_fill.specs.Fill.{IsCut, IsPlacedIn, just_opened}
use Rattle.bc_fill.specs.declared.fill.Open.{Open}
use Rattle.bc_fill.specs.declared.fill.Placed.{Placed}
use Rattle.bc_deed.specs.bc_machine.Containers.{SameRest}
use Rattle.bc_deed.specs.bc_machine.declared.part.BucketsPart.{BucketsPart}
use Rattle.bc_places.specs.Steps.{fills}

-- a count of 32 bits stands still at its end
abbrev pub with_pins : ℕ → Bucket → Bucket
with_pins n b = record b { pins = min (b.pins + n) (2 ^ 32 - 1) }

-- the first bucket of the plain list was taken and opened, where none was open
pub record HasFirst (p q : BucketsPart) : Type 0 where
  pub bucket : ℕ
  pub taken : TakesFirst list.Plain bucket p.reserves q.reserves
  pub buckets : q.buckets ≡ changed (with_held true) bucket p.buckets
  pub fill : q.fill ≡ just_opened bucket ∷ []
  pub rest : SameRest p q

-- the next place, in the first open bucket
pub record IsNext (part : BucketsPart) (count : ℕ) (p : Placed) (full : Bool) : Type 0 where
  pub first : Open
  pub rest : List Open
  pub were : part.fill ≡ first ∷ rest
  pub placed : IsPlacedIn part.buckets first count p
  pub opened : p.opened ≡ None
  pub full_is : full ≡ fills part.buckets.size p
  pub small : part.buckets.size ≤ 32768

-- the place was cut, and each of its sectors pinned
pub record HasCut (part : BucketsPart) (count : ℕ) (p : Placed) (new : BucketsPart) : Type 0 where
  pub reserves : new.reserves ≡ part.reserves
  pub between : Buckets
  pub cut : IsCut part.fill new.fill part.buckets between count p
  pub buckets : new.buckets ≡ changed (with_pins p.count) cut.first.bucket between
  pub rest : SameRest part new

abbrev pub without_pins : ℕ → Bucket → Bucket
without_pins n b = record b { pins = b.pins - n }

-- The pins of the place were taken back, of its bucket where that is one of the device.
pub record IsLetGo (part : BucketsPart) (p : Placed) (new : BucketsPart) : Type 0 where
  pub reserves : new.reserves ≡ part.reserves
  pub fill : new.fill ≡ part.fill
  pub same : length part.buckets.records ≤ p.ptr.offset / part.buckets.size
      → new.buckets ≡ part.buckets
  pub unpinned : p.ptr.offset / part.buckets.size < length part.buckets.records
      → new.buckets
      ≡ changed (without_pins p.count) (p.ptr.offset / part.buckets.size) part.buckets
  pub rest : SameRest part new

-- ---- keys of a write name places

-- so many of its pinned places are named by dirty keys
abbrev pub with_named : ℕ → Bucket → Bucket
with_named n b = marked marks.Dirty b.used (without_pins n b)

-- A place is named: it is pinned no more, and its bucket has dirty data, which a trace round that
-- goes on doesn't take back.
abbrev pub named_at : ℕ → ℕ → Buckets → Buckets
named_at k n b =
    record (changed (with_named n) k b) { touched = slice_set b.touched k true }

-- of its bucket, where that is one of the device
abbrev pub place_named : Placed → Buckets → Buckets
place_named p b = if nat_lt (p.ptr.offset / b.size) (length b.records)
    then named_at (p.ptr.offset / b.size) p.count b else b

abbrev pub all_named : List Placed → Buckets → Buckets
all_named [] b = b
all_named (p ∷ ps) b = all_named ps (place_named p b)

pub record HasNamed (part : BucketsPart) (ps : List Placed) (new : BucketsPart) : Type 0 where
  pub reserves : new.reserves ≡ part.reserves
  pub fill : new.fill ≡ part.fill
  pub buckets : new.buckets ≡ all_named ps part.buckets
  pub rest : SameRest part new
