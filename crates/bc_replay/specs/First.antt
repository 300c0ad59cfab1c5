-- Which refusal of a pair is the first, up to the table of uuids: each holds where what is tested before it was
-- found.
use Rattle.std.specs.Prelude.{◌≡◌, ◌≢◌, ◌⊎◌, ◌<◌, ◌≤◌}
use Rattle.bc_disk.specs.Gens.{Gens}
use Rattle.bc_disk.specs.declared.disk.Device.{Device}
use Rattle.bc_disk.specs.declared.disk.Device.TheVariants.{Cache, Backing}
use Rattle.bc_disk.specs.declared.geometry.Geometry.{Geometry}
use Rattle.bc_entries.specs.Journal.{Journal, HasJournal, IsRefused as IsJournalRefused}
use Rattle.bc_entries.specs.declared.error.JournalError.{JournalError}
use Rattle.bc_entries.specs.declared.error.JournalError.TheVariants as journal
use Rattle.bc_image.specs.Pair.{Pair, super_bytes, HasBacking, HasCache}
use Rattle.bc_jset.specs.Entries.{FoundEntry}
use Rattle.bc_prio.specs.Records.{ChainIn, RefusedIn}
use Rattle.bc_super.specs.Cache.{IsInitialised, IsCacheRefused}
use Rattle.bc_super.specs.Super.{IsState, state_number, IsRefused}
use Rattle.bc_super.specs.declared.backing.BackingSuper.{BackingSuper}
use Rattle.bc_super.specs.declared.cache.CacheSuper.{CacheSuper}
use Rattle.bc_super.specs.declared.error.SuperError.{SuperError}
use Rattle.bc_super.specs.declared.error.SuperError.TheVariants as super
use Rattle.bc_super.specs.declared.state.BackingState.TheVariants as states
use Rattle.bc_replay.specs.declared.error.OpenError.{OpenError}
use Rattle.bc_replay.specs.declared.error.OpenError.TheVariants as errors
use Rattle.bc_replay.specs.Heads.{HasSupers, NamesDevice}

-- ---- the superblocks

-- the superblock of a device has this fault, the first in order; a device that is too small has none
abbrev pub IsBackingRefused : Pair → SuperError → Type 0
IsBackingRefused p why = ((p.backing_sectors < 16) × (why ≡ super.DeviceSmall))
    ⊎ ((16 ≤ p.backing_sectors) × IsRefused (super_bytes p.backing) p.backing_sectors why)

abbrev pub IsCacheDeviceRefused : Pair → SuperError → Type 0
IsCacheDeviceRefused p why = ((p.cache_sectors < 16) × (why ≡ super.DeviceSmall))
    ⊎ ((16 ≤ p.cache_sectors) × IsCacheRefused (super_bytes p.cache) p.cache_sectors why)

-- the backing device may have data on the cache device, and that one was set up
abbrev pub IsReady : BackingSuper → CacheSuper → Type 0
IsReady b c = (IsState (state_number b.flags) states.None → ⊥) × IsInitialised c

-- The backing device's superblock comes first, then that of the cache device, then what both say together.
abbrev pub IsSuperRefused : Pair → Device → SuperError → Type 0
IsSuperRefused p Backing why = IsBackingRefused p why
    ⊎ ((b : BackingSuper) × (c : CacheSuper) × HasBacking p b × HasCache p c × IsReady b c × (b.set_uuid ≢ c.set_uuid) × (why ≡ super.OtherSet))
IsSuperRefused p Cache why = ((b : BackingSuper) × HasBacking p b × IsCacheDeviceRefused p why)
    ⊎ ((b : BackingSuper) × (c : CacheSuper) × HasBacking p b × HasCache p c × ¬ (IsReady b c) × (why ≡ super.NotInitialised))

-- ---- what stands behind them

-- the superblocks were found, and of them this holds
abbrev pub BehindSupers : Pair → (BackingSuper → Geometry → Type 0) → Type 0
BehindSupers p P = (b : BackingSuper) × (c : CacheSuper) × (g : Geometry) × HasSupers p b c g × P b g

-- so was the journal, and its newest entry is this one
abbrev pub BehindJournal : Pair → (BackingSuper → Geometry → FoundEntry → Type 0) → Type 0
BehindJournal p P = BehindSupers p (λ b g. (j : Journal) × ((has : HasJournal g p.cache j) × P b g has.entries.newest))

-- so were the generations
abbrev pub BehindGens : Pair → (BackingSuper → Geometry → FoundEntry → Type 0) → Type 0
BehindGens p P = BehindJournal p (λ b g newest. (gens : Gens) × ChainIn g p.cache newest.item.prio gens × P b g newest)

abbrev pub IsJournalFirst : Pair → JournalError → Type 0
IsJournalFirst p e = BehindSupers p (λ b g. IsJournalRefused g p.cache e)

-- The first refusal of what the index stands on: superblocks, journal, generations and the table of
-- uuids. Those of the index come behind all of these, and are no such refusals.
abbrev pub IsFirstHead : Pair → OpenError → Type 0
IsFirstHead p (errors.Super device why) = IsSuperRefused p device why
IsFirstHead p errors.NoJournal = IsJournalFirst p journal.NoJournal
IsFirstHead p (errors.JournalGap from to) = IsJournalFirst p (journal.Gap from to)
IsFirstHead p (errors.JournalEnd seq) = IsJournalFirst p (journal.End seq)
IsFirstHead p (errors.Prio e) = BehindJournal p (λ b g newest. RefusedIn g p.cache newest.item.prio e)
IsFirstHead p errors.Uuid = BehindGens p (λ b g newest. ¬ (NamesDevice g p.cache newest.item.uuid_bucket b.uuid))
IsFirstHead p (errors.Node bucket why) = ⊥
IsFirstHead p (errors.PointerRange word) = ⊥
IsFirstHead p (errors.TwoUses bucket) = ⊥
IsFirstHead p (errors.NoSpare found) = ⊥
IsFirstHead p (errors.Fault device) = ⊥
IsFirstHead p errors.Memory = ⊥
