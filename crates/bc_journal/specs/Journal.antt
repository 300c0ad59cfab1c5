-- The journal: keys wait, are sealed into an entry, and the entry becomes durable.
use Rattle.std.specs.Prelude.{◌≡◌, ℕ, ◌+◌, ◌-◌, ◌^◌, ◌<◌, ◌≤◌, List, [], length, nat_lt, All, Option, Some, None, IsSome}
use Rattle.std.specs.Option.{ForSome}
use Rattle.bc_disk.specs.declared.geometry.Geometry.{Geometry}
use Rattle.bc_key.specs.Key.{IsExtent}
use Rattle.bc_key.specs.declared.key.Key.{Key}
use Rattle.bc_keys.specs.Spelling.{words_of_all}
use Rattle.bc_jset.specs.declared.entry.JEntry.{JEntry}
use Rattle.bc_jset.specs.EntryBytes.{IsLevel, most_words}
use Rattle.bc_jset.specs.Records.{entry_sectors}
use Rattle.bc_journal.specs.Ring.{Ring, IsRing, place_of, with_entry, sectors_for}
use Rattle.bc_journal.specs.Sealed.{Sealed, entry_of, numbers_of}
use Rattle.bc_journal.specs.declared.heads.Heads.{Heads}
use Rattle.bc_journal.specs.declared.place.Place.{Place}
use Rattle.bc_journal.specs.declared.place.Numbers.{Numbers}

-- what a journal is seen as
pub record Journal : Type 0 where
  pub ring : Ring
  -- the newest durable entry's numbers, and what that entry names
  pub durable : Numbers
  pub heads : Heads
  -- those of the entry that is being written
  pub sealed : Option Numbers
  -- the keys that the entry after these gets
  pub waiting : List Key
  -- the oldest entry that is still needed
  pub needed : ℕ

-- the greatest number that an entry has so far
abbrev pub newest_of : Numbers → Option Numbers → ℕ
newest_of durable None = durable.seq
newest_of durable (Some sealed) = sealed.seq

-- the number of the entry for which keys wait
abbrev pub number_of : Journal → ℕ
number_of j = newest_of j.durable j.sealed + 1

-- how many words the waiting keys are
abbrev pub waiting_words : Journal → ℕ
waiting_words j = length (words_of_all j.waiting)

-- where an entry with so many words of keys goes
abbrev pub place_for : Journal → ℕ → Option Place
place_for j words = place_of j.ring j.durable.last_seq (nat_lt 0 words) (sectors_for j.ring.geometry words)

-- so many more words fit into the entry, and it has a place in the ring
pub record HasRoom (j : Journal) (words : ℕ) : Type 0 where
  pub few : waiting_words j + words ≤ most_words
  pub place : IsSome (place_for j (waiting_words j + words))

-- a new entry's numbers follow those of the durable one, and its last_seq is at most what is needed now
pub record Follows (durable : Numbers) (lowest : ℕ) (sealed : Numbers) : Type 0 where
  pub next : sealed.seq ≡ durable.seq + 1
  pub below : sealed.seq < 2 ^ 63
  pub from : durable.last_seq ≤ sealed.last_seq
  pub to : sealed.last_seq ≤ sealed.seq
  pub needed : sealed.last_seq ≤ lowest

-- what holds of every journal
pub record IsJournal (j : Journal) : Type 0 where
  pub ring : IsRing j.ring
  pub below : j.durable.seq < 2 ^ 63
  pub reaches : j.durable.last_seq ≤ j.durable.seq
  pub level : IsLevel j.heads.level
  pub sealed : ForSome j.sealed (Follows j.durable j.needed)
  pub needed_from : j.durable.last_seq ≤ j.needed
  pub needed_to : j.needed ≤ number_of j
  pub few : waiting_words j ≤ most_words
  pub extents : All IsExtent j.waiting
  -- keys wait only for an entry that has a number
  pub numbered : 0 < waiting_words j → number_of j < 2 ^ 63
  -- and what waits has a place in the ring
  pub placed : 0 < waiting_words j → IsSome (place_for j (waiting_words j))
  pub newest : All (λ n. n < number_of j) j.ring.newest

-- ---- what the calls do

-- the numbers of an entry that is sealed now
abbrev pub numbers_now : Journal → Numbers
numbers_now j = record { seq = number_of j; last_seq = j.needed }

-- the entry that is sealed now
abbrev pub entry_now : Journal → Heads → JEntry
entry_now j heads = entry_of (numbers_now j) heads j.waiting

-- an entry was sealed: it has the keys that waited, and stands behind the others in the ring
pub record IsSealed (old : Journal) (heads : Heads) (s : Sealed) (new : Journal) : Type 0 where
  pub geometry : s.geometry ≡ old.ring.geometry
  pub entry : s.entry ≡ entry_now old heads
  pub place : place_for old (waiting_words old) ≡ Some s.place
  pub journal : new ≡ record {
    ring = with_entry old.ring s.place (entry_sectors old.ring.geometry s.entry) s.entry.seq;
    durable = old.durable;
    heads = old.heads;
    sealed = Some (numbers_of s.entry);
    waiting = [];
    needed = old.needed;
  }

-- a journal whose durable entry is the one before `next`, and names this
abbrev pub journal_at : Geometry → Place → List ℕ → ℕ → ℕ → Heads → Journal
journal_at g at newest needed next heads =
    record {
      ring = record { geometry = g; next = at; newest = newest };
      durable = record { seq = next - 1; last_seq = needed };
      heads = heads;
      sealed = None;
      waiting = [];
      needed = needed;
    }
