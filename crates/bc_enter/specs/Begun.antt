-- The entry that comes next, and the journal that waits for it.
use Rattle.std.specs.Prelude.{◌≡◌, ◌≢◌, ◌⊎◌, ℕ, ◌^◌, ◌<◌, ◌≤◌, List, [], All, Contains}
use Rattle.bc_disk.specs.declared.geometry.Geometry.{Geometry}
use Rattle.bc_entries.specs.Journal.{Journal as Read}
use Rattle.bc_journal.specs.Journal.{HasRoom, IsSealed, Journal, number_of}
use Rattle.bc_jset.specs.Entries.{FoundEntry}
use Rattle.bc_resume.specs.Resume.{IsResumed}
use Rattle.bc_enter.specs.Next.{IsNext}
use Rattle.bc_enter.specs.declared.next.Next.{Next}

-- It is the number of the oldest entry that has keys, or where none has, that of the next one.
pub record IsOldestNeeded (es : List FoundEntry) (next low : ℕ) : Type 0 where
  pub most : low ≤ next
  pub reached : (low ≡ next)
      ⊎ ((f : FoundEntry) × Contains es f × (f.item.keys ≢ []) × (low ≡ f.item.seq))
  pub needed : All (λ f. f.item.keys ≢ [] → low ≤ f.item.seq) es

-- The journal goes on behind what was read, and needs no entry any more that is older than each
-- which has keys. The next entry can be sealed.
pub record IsUnsealed (g : Geometry) (read : Read) (j : Journal) : Type 0 where
  pub from : Journal
  pub resumed : IsResumed g read from
  pub low : ℕ
  pub needs : IsOldestNeeded read.entries (number_of from) low
  pub is : j ≡ record from { needed = low }
  pub room : HasRoom j 0
  pub numbered : number_of j < 2 ^ 63

-- The journal goes on behind what was read, and has sealed the entry, which names what the newest
-- names.
pub record IsBegun (g : Geometry) (read : Read) (n : Next) : Type 0 where
  pub entry : IsNext g read n.sealed
  pub from : Journal
  pub resumed : IsResumed g read from
  pub sealed : IsSealed (record from { needed = n.sealed.entry.last_seq }) from.heads n.sealed
      n.journal
