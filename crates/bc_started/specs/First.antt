-- The first entry of a run, which its one seat puts before anything else has happened.
use Rattle.std.specs.Prelude.{◌≡◌, ◌*◌, ◌≤◌, true, false, None, List, []}
use Rattle.bc_disk.specs.Disk.{DiskFacts}
use Rattle.bc_entry.specs.Seal.{CanSeal}
use Rattle.bc_entry.specs.bc_hand.Seats.{Kinds, View}
use Rattle.bc_journal.specs.Journal.{Journal}
use Rattle.bc_entry.specs.bc_machine.World.{IsJournal, cache_among, opening}
use Rattle.bc_entry.specs.bc_machine.declared.part.CorePart.{CorePart}

-- the journal and the cache device are in hand, and nothing else
abbrev pub journal_and_cache : Kinds
journal_and_cache = record {
  spine = false;
  leaves = None;
  flight = false;
  buckets = false;
  journal = true;
  cache = true;
  backing = false;
}

module _ {C B : Type 0} (cache_facts : C → DiskFacts) (backing_facts : B → DiskFacts) where
  -- the seat has all numbers
  pub record HasAll (v : View cache_facts backing_facts) : Type 0 where
    pub first : v.first ≡ 0
    pub end : v.end ≡ 320

  -- and nothing has happened yet
  pub record IsNew (v : View cache_facts backing_facts) : Type 0 where
    pub all : HasAll v
    pub seen : v.seen ≡ []

  -- The journal stands for what a run that began with these parts opens with, and can seal an
  -- entry.
  pub record CanPutFirst (start : List (CorePart C B)) (j : Journal) : Type 0 where
    pub can : CanSeal j
    pub disk : j.ring.geometry.bucket * j.ring.geometry.nbuckets
        ≤ (cache_among cache_facts backing_facts start).sectors
    pub stands : IsJournal j (opening cache_facts backing_facts start)
