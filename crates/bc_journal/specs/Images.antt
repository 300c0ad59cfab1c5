-- What an image has of the entries of a ring, and what a crash may leave of it while an entry is written.
use Rattle.std.specs.Prelude.{◌≡◌, ◌⊎◌, ℕ, suc, ◌+◌, ◌*◌, ◌<◌, ◌≤◌, List, [], ◌∷◌, ◌++◌, filter, nat_le, slice_index, All, Contains}
use Rattle.bc_model.specs.Sector.{Image}
use Rattle.bc_disk.specs.declared.geometry.Geometry.{Geometry}
use Rattle.bc_record.specs.Kind.{behind}
use Rattle.bc_jset.specs.declared.entry.JEntry.{JEntry}
use Rattle.bc_jset.specs.Records.{entry_kind, entry_sectors, EntryFound}
use Rattle.bc_record.specs.Places.{items_of}
use Rattle.bc_jset.specs.Entries.{FoundEntry, AreEntries, bucket_start, bucket_end}
use Rattle.bc_journal.specs.Ring.{Ring}
use Rattle.bc_journal.specs.Sealed.{Sealed, sector_at}
use Rattle.bc_journal.specs.declared.place.Numbers.{Numbers}

-- entries stand one behind the other from a place on, and anything may follow them
abbrev pub StandFrom : Geometry → Image → ℕ → ℕ → List JEntry → Type 0
StandFrom g image end place [] = Unit {0}
StandFrom g image end place (e ∷ es) = EntryFound g image end place e × StandFrom g image end (place + entry_sectors g e) es

-- the place behind entries that stand from a bucket's first sector on
abbrev pub behind_in : Geometry → ℕ → List JEntry → ℕ
behind_in g bucket es = behind (entry_kind g) (bucket_start g bucket) es

-- An entry stands behind others that stand from its bucket's first sector on. Where the ring goes on in this bucket, it does so behind
-- the entry.
pub record StandsFirm (ring : Ring) (image : Image) (e : JEntry) : Type 0 where
  pub bucket : ℕ
  pub within : bucket < ring.geometry.journal
  pub before : List JEntry
  pub stand : StandFrom ring.geometry image (bucket_end ring.geometry bucket) (bucket_start ring.geometry bucket) before
  pub here : EntryFound ring.geometry image (bucket_end ring.geometry bucket) (behind_in ring.geometry bucket before) e
  pub newest : e.seq ≤ slice_index ring.newest bucket
  pub passed : bucket ≡ ring.next.bucket
      → behind_in ring.geometry bucket before + entry_sectors ring.geometry e ≤ bucket_start ring.geometry bucket + ring.next.sector

-- the ring goes on behind entries that stand from its bucket's first sector on
pub record GoesOn (ring : Ring) (image : Image) : Type 0 where
  pub within : ring.next.bucket < ring.geometry.journal
  pub before : List JEntry
  pub stand : StandFrom ring.geometry image (bucket_end ring.geometry ring.next.bucket) (bucket_start ring.geometry ring.next.bucket) before
  pub reaches : behind_in ring.geometry ring.next.bucket before ≡ bucket_start ring.geometry ring.next.bucket + ring.next.sector

-- numbers count up from one to that before the next
abbrev pub CountUp : ℕ → List JEntry → ℕ → Type 0
CountUp low [] next = low ≡ next
CountUp low (e ∷ es) next = (e.seq ≡ low) × CountUp (suc low) es next

-- the last of the entries has this last_seq
pub record EndsWith (es : List JEntry) (low : ℕ) : Type 0 where
  pub older : List JEntry
  pub newest : JEntry
  pub parts : es ≡ older ++ newest ∷ []
  pub last_seq : newest.last_seq ≡ low

-- an entry is found at a block of a journal bucket
abbrev pub FoundAtBlock : Geometry → Image → ℕ → ℕ → JEntry → Type 0
FoundAtBlock g image bucket block e =
    (bucket < g.journal) × EntryFound g image (bucket_end g bucket) (bucket_start g bucket + g.block * block) e

-- The entries of a ring, oldest first, stand in an image: those from the oldest one that is needed, as the durable one says, to that one.
-- No other entry is found there that has the number of one of these or of a coming one.
pub record Holds (ring : Ring) (durable : Numbers) (image : Image) (es : List JEntry) : Type 0 where
  pub numbers : CountUp durable.last_seq es (suc durable.seq)
  pub newest : EndsWith es durable.last_seq
  pub firm : All (StandsFirm ring image) es
  pub next : GoesOn ring image
  pub others : (bucket block : ℕ) (e : JEntry) → FoundAtBlock ring.geometry image bucket block e → (e.seq < durable.last_seq) ⊎ Contains es e

-- What a crash may leave of an image while an entry is written: the other sectors of the journal stay, and no torn entry matches by
-- chance, which is to say that an entry is found at a block of a journal bucket only where it was found before or is the one that is
-- written there.
pub record MayLeave (s : Sealed) (old new : Image) : Type 0 where
  pub stay : (sector : ℕ) → bucket_start s.geometry 0 ≤ sector → sector < bucket_start s.geometry s.geometry.journal
      → (sector < sector_at s.geometry s.place) ⊎ (sector_at s.geometry s.place + entry_sectors s.geometry s.entry ≤ sector)
      → old sector ≡ new sector
  pub no_chance : (bucket block : ℕ) (e : JEntry) → FoundAtBlock s.geometry new bucket block e
      → FoundAtBlock s.geometry old bucket block e
      ⊎ ((bucket_start s.geometry bucket + s.geometry.block * block ≡ sector_at s.geometry s.place) × (e ≡ s.entry))

-- a reader of the image finds just these entries, oldest first
abbrev pub IsRead : Geometry → Image → List JEntry → Type 0
IsRead g image es = (found : List FoundEntry) × (items_of found ≡ es) × AreEntries g image found

-- those of the entries that are needed once this entry is durable, and the entry
abbrev pub with_sealed : List JEntry → JEntry → List JEntry
with_sealed es e = filter (λ d. nat_le e.last_seq d.seq) es ++ e ∷ []
