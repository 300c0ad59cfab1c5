-- What a bucket that is taken, and let go, is to the containers.
use Rattle.std.specs.Prelude.{◌≡◌, ℕ, ◌*◌, ◌<◌, ◌==◌, Bool, true, false, List, [], ◌∷◌, length, if◌then◌else◌}
use Rattle.bc_alloc.specs.Reserve.{has_room}
use Rattle.bc_alloc.specs.Reserves.{Reserves, TakesFirst, list_of, put_back, serving, times_listed}
use Rattle.bc_alloc.specs.declared.purpose.NoBucket.{NoBucket}
use Rattle.bc_alloc.specs.declared.purpose.Purpose.{Purpose}
use Rattle.bc_alloc.specs.declared.purpose.Purpose.TheVariants as list
use Rattle.bc_bucket.specs.Bucket.{with_held}
use Rattle.bc_bucket.specs.Buckets.{bucket_of, changed}
use Rattle.bc_fill.specs.declared.fill.Open.{Open}
use Rattle.bc_held.specs.declared.held.HeldBucket.{HeldBucket}
use Rattle.bc_held.specs.declared.held.Want.{Want}
use Rattle.bc_held.specs.declared.held.Want.TheVariants as want
use Rattle.bc_key.specs.declared.ptr.Ptr.{Ptr}
use Rattle.bc_place.specs.bc_machine.Containers.{SameRest}
use Rattle.bc_place.specs.bc_machine.declared.part.BucketsPart.{BucketsPart}

-- ---- a bucket is taken

-- what it is taken for
abbrev pub purpose_for : Want → Purpose
purpose_for want.Chain = list.Priorities
purpose_for want.Data = list.Moving
purpose_for want.Node = list.Tree
purpose_for want.Rewrite = list.Tree

-- The list that is asked where the plain one is empty: splits and new inner nodes ask the one for
-- the tree, rewrites and moved data the one for moving.
abbrev pub list_for : Want → Purpose
list_for want.Chain = list.Priorities
list_for want.Data = list.Moving
list_for want.Node = list.Tree
list_for want.Rewrite = list.Moving

-- where the bucket begins, with the generation that it has
pub record IsPlaceOf (part : BucketsPart) (bucket : ℕ) (to : Ptr) : Type 0 where
  pub device : to.dev ≡ 0
  pub offset : to.offset ≡ bucket * part.buckets.size
  pub generation : to.generation ≡ (bucket_of part.buckets bucket).generation

-- The first bucket of the plain list, or where that is empty of the list that is asked then.
pub record IsNextFor (x : Want) (part : BucketsPart) (b : HeldBucket) : Type 0 where
  pub purpose : b.purpose ≡ purpose_for x
  pub rest : List ℕ
  pub first : (list_of (serving (list_for x) part.reserves) part.reserves).buckets
      ≡ b.bucket ∷ rest
  pub place : IsPlaceOf part b.bucket b.to

-- both lists are empty
pub record HasNoneFor (x : Want) (part : BucketsPart) : Type 0 where
  pub plain : (list_of list.Plain part.reserves).buckets ≡ []
  pub own : (list_of (list_for x) part.reserves).buckets ≡ []

-- so the answer says, which names the list
abbrev pub none_for : Want → NoBucket
none_for x = record { purpose = list_for x; none_len = 0; own_len = 0 }

-- that bucket was taken from its list and is held, and nothing else changed
pub record TakesBucket (x : Want) (b : HeldBucket) (old new : BucketsPart) : Type 0 where
  pub next : IsNextFor x old b
  pub taken : TakesFirst (serving (list_for x) old.reserves) b.bucket old.reserves new.reserves
  pub buckets : new.buckets ≡ changed (with_held true) b.bucket old.buckets
  pub fill : new.fill ≡ old.fill
  pub rest : SameRest old new

-- ---- a bucket is let go

-- it is one of the open buckets
abbrev pub is_among : ℕ → List Open → Bool
is_among k [] = false
is_among k (o ∷ fs) = if o.bucket == k then true else is_among k fs

-- It is one of the device's, somebody's, and neither on a list nor open for data.
pub record IsTakenIn (part : BucketsPart) (bucket : ℕ) : Type 0 where
  pub there : bucket < length part.buckets.records
  pub held : (bucket_of part.buckets bucket).held ≡ true
  pub loose : times_listed part.reserves bucket ≡ 0
  pub shut : is_among bucket part.fill ≡ false

-- the lists once it is let go: one that was taken for priority sets is the first of theirs, or on
-- none where that is full
abbrev pub lists_behind : Purpose → ℕ → Reserves → Reserves
lists_behind list.Priorities k r = record r { lists = put_back k r.lists }
lists_behind p k r = r

-- it is nobody's any more
pub record LetsGo (b : HeldBucket) (old new : BucketsPart) : Type 0 where
  pub reserves : new.reserves ≡ lists_behind b.purpose b.bucket old.reserves
  pub buckets : new.buckets ≡ changed (with_held false) b.bucket old.buckets
  pub fill : new.fill ≡ old.fill
  pub rest : SameRest old new

-- Whether it is taken back, to the core: one that was taken for priority sets is where their list
-- has room. Of another one, which comes to no list, the core's flag says nothing.
abbrev pub takes_back : Purpose → Reserves → Bool
takes_back list.Priorities r = has_room (list_of list.Priorities r)
takes_back p r = true
