-- The entry that an opening writes, and where it goes, by the formats.
use Rattle.std.specs.Prelude.{◌≡◌, ◌≢◌, ◌⊎◌, ℕ, ◌+◌, ◌<◌, ◌≤◌, List, [], All, Contains}
use Rattle.bc_disk.specs.declared.geometry.Geometry.{Geometry}
use Rattle.bc_jset.specs.declared.entry.JEntry.{JEntry}
use Rattle.bc_jset.specs.Entries.{FoundEntry, bucket_end, bucket_start}
use Rattle.bc_jset.specs.Ring.{IsFree, IsNextPlace, bucket_of}

-- It follows the newest of the entries that count, has no keys, and names what that one names. What
-- it no longer needs are entries without keys.
pub record IsOpeningEntry (es : List FoundEntry) (newest : FoundEntry) (e : JEntry) : Type 0 where
  pub number : e.seq ≡ newest.item.seq + 1
  pub from : newest.item.last_seq ≤ e.last_seq
  pub to : e.last_seq ≤ e.seq
  pub needed : All (λ f. f.item.keys ≢ [] → e.last_seq ≤ f.item.seq) es
  pub none : e.keys ≡ []
  pub uuid_bucket : e.uuid_bucket ≡ newest.item.uuid_bucket
  pub root : e.root ≡ newest.item.root
  pub level : e.level ≡ newest.item.level
  pub prio : e.prio ≡ newest.item.prio

-- behind the last entry that counts, in the bucket of the newest one
pub record IsBehind (g : Geometry) (es : List FoundEntry) (newest : FoundEntry)
    (b at : ℕ) : Type 0 where
  pub next : IsNextPlace g es newest at
  pub bucket : bucket_of g newest ≡ g.first_bucket + b

-- at the front of a bucket in which no entry that is found is needed
pub record IsInFront (g : Geometry) (all : List FoundEntry) (newest : FoundEntry)
    (b at : ℕ) : Type 0 where
  pub free : IsFree g all newest (g.first_bucket + b)
  pub first : at ≡ bucket_start g b

-- where an entry of so many sectors goes: in the journal bucket b
pub record GoesTo (g : Geometry) (all es : List FoundEntry) (newest : FoundEntry)
    (sectors b at : ℕ) : Type 0 where
  pub journal : b < g.journal
  pub fits : at + sectors ≤ bucket_end g b
  pub place : IsBehind g es newest b at ⊎ IsInFront g all newest b at

-- it needs the oldest entry that has keys and those behind it, or where none has keys itself alone
abbrev pub NeedsOldest : List FoundEntry → JEntry → Type 0
NeedsOldest es e = (e.last_seq ≡ e.seq)
    ⊎ ((f : FoundEntry) × Contains es f × (f.item.keys ≢ []) × (e.last_seq ≡ f.item.seq))
