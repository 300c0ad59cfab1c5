-- An entry that a seat seals: what has to hold for it, and what the seat did.
use Rattle.std.specs.Prelude.{◌≡◌, ℕ, ◌+◌, ◌^◌, ◌<◌, List, [], ◌∷◌, length, nat_le, Option, Some, None, if◌then◌else◌, Vec}
use Rattle.std.specs.declared.alloc.Global.{Global}
use Rattle.bc_disk.specs.Disk.{DiskFacts}
use Rattle.bc_events.specs.declared.event.Deed.TheVariants as deed
use Rattle.bc_facts.specs.Seen.{entry_rest}
use Rattle.bc_deed.specs.bc_hand.Seats.{Did, View}
use Rattle.bc_journal.specs.Journal.{HasRoom, Journal, number_of, waiting_words}
use Rattle.bc_journal.specs.Ring.{following, sectors_for}
use Rattle.bc_journal.specs.Sealed.{Sealed}
use Rattle.bc_journal.specs.declared.heads.Heads.{Heads}
use Rattle.bc_key.specs.declared.key.Key.{Key}
use Rattle.bc_keys.specs.Spelling.{words_of_all}
use Rattle.bc_entry.specs.declared.next.NextEntry.{NextEntry}

-- no entry is being written, and the next one has a place in the ring and a number
pub record CanSeal (j : Journal) : Type 0 where
  pub none : j.sealed ≡ None
  pub room : HasRoom j 0
  pub numbered : number_of j < 2 ^ 63

-- the journal bucket that the next entry begins, where it has no room behind the last one
abbrev pub begun_by : Journal → Option ℕ
begun_by j = if nat_le (j.ring.next.sector + sectors_for j.ring.geometry (waiting_words j))
    j.ring.geometry.bucket then None
    else Some (following j.ring.geometry j.ring.next.bucket)

-- what an entry's record says besides its numbers, the root and the keys
abbrev pub rest_of : Heads → List Key → List ℕ
rest_of heads keys =
    length (words_of_all keys) ∷ heads.prio ∷ words_of_all (heads.uuid_bucket ∷ heads.root ∷ [])

-- what the next entry is sealed with
pub record IsNext (j : Journal) (heads : Heads) (next : NextEntry) : Type 0 where
  pub last_seq : next.last_seq ≡ j.needed
  pub bucket : next.bucket ≡ begun_by j
  pub rest : next.rest.items ≡ rest_of heads j.waiting

module _ {C B : Type 0} (cache_facts : C → DiskFacts) (backing_facts : B → DiskFacts) where
  -- The seat sealed this entry, of the same root and the same priorities as the one before.
  pub record HasSealed (j : Journal) (s : Sealed) (v w : View cache_facts backing_facts) :
      Type 0 where
    pub rest : Vec ℕ Global
    pub rest_is : rest.items ≡ entry_rest s.entry
    pub did : Did cache_facts backing_facts
        (Some (deed.Seal s.entry.last_seq (begun_by j) rest None None)) v w
