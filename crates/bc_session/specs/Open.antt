-- A pair that is opened for a run, and why it isn't.
use Rattle.std.specs.Prelude.{◌≡◌, ℕ, ◌<◌, ◌≤◌}
use Rattle.bc_started.specs.bc_begun.Opened.{AreBytes}
use Rattle.bc_started.specs.bc_cached.declared.run.Ready.{Ready}
use Rattle.bc_disk.specs.Disk.{DiskFacts, IsSettled}
use Rattle.bc_disk.specs.declared.disk.Device.TheVariants as device
use Rattle.bc_started.specs.bc_hand.Seats.{View}
use Rattle.bc_loaded.specs.Loaded.{AreLoaded}
use Rattle.bc_loaded.specs.declared.loading.Loaded.{Loaded}
use Rattle.bc_started.specs.bc_machine.declared.part.BackingPart.{BackingPart}
use Rattle.bc_started.specs.bc_machine.declared.part.CorePart.{CorePart}
use Rattle.bc_open.specs.Open.{EndsOdd, HasFailed}
use Rattle.bc_parts.specs.Seat.{PartsView}
use Rattle.bc_replay.specs.declared.error.OpenError.{OpenError}
use Rattle.bc_replay.specs.declared.error.OpenError.TheVariants as errors
use Rattle.bc_replay.specs.declared.held.Survey.{Survey}
use Rattle.bc_started.specs.Start.{HasStarted}
use Rattle.bc_started.specs.declared.start.StartError.{StartError}
use Rattle.bc_started.specs.declared.start.StartError.TheVariants as starts
use Rattle.bc_state.specs.State.{super_in}
use Rattle.bc_super.specs.Super.{data_sectors}
use Rattle.bc_super.specs.Writing.{IsBackingStored, count_after}
use Rattle.bc_super.specs.declared.backing.BackingSuper.{BackingSuper}
use Rattle.bc_super.specs.declared.state.BackingState.TheVariants as states
use Rattle.bc_session.specs.declared.opening.NotOpened.{NotOpened}

-- the parts were read of this cache device, with at least one part for leaves and at most 1,024
pub record IsLoaded {C : Type 0} (facts : C → DiskFacts) (s : Survey) (cache : C) (l : Loaded)
    : Type 0 where
  pub count : ℕ
  pub some : 0 < count
  pub few : count ≤ 1024
  pub are : AreLoaded facts s count cache l

-- what a run begins with that has these parts in memory
abbrev pub ready_of : {C B : Type 0} → Loaded → C → BackingPart B → Ready C B
ready_of l cache backing = record {
  tree = l.tree;
  buckets = l.buckets;
  reserves = l.reserves;
  chain = l.chain;
  walk = l.walk;
  journal = l.journal;
  cache = cache;
  backing = backing;
  leaves = l.leaves;
}

-- the device with its data, as its superblock says
pub record IsPartOf {B : Type 0} (facts : B → DiskFacts) (b : BackingSuper) (disk : B)
    (p : BackingPart B) : Type 0 where
  pub disk_is : p.disk ≡ disk
  pub offset : p.offset ≡ b.data_offset
  pub size : p.size ≡ data_sectors (facts disk).sectors b

-- what a device held it holds, a crash leaves no more than that, and no call of it failed
pub record HasStayed (old new : DiskFacts) : Type 0 where
  pub settled : IsSettled old new
  pub faults : new.faults ≡ old.faults

module _ {C B : Type 0} (cache_facts : C → DiskFacts) (backing_facts : B → DiskFacts) (s : Survey)
    (b : BackingSuper) (cache : C) (backing : B) where
  -- The backing device says that its cache may have what it lacks, and that is stable. Then a run
  -- began with the parts that were read, and its one seat put the entry of the opening. No call
  -- failed.
  pub record IsRunOver (loaded : Loaded) (parts : PartsView (CorePart C B))
      (seat : View cache_facts backing_facts) : Type 0 where
    pub is_loaded : IsLoaded cache_facts s cache loaded
    pub bytes : AreBytes loaded.buckets
    pub between : B
    pub state : IsBackingStored (super_in states.Dirty b) (backing_facts backing)
        (backing_facts between)
    pub calls : (backing_facts between).calls ≡ count_after 2 (backing_facts backing).calls
    pub faults : (backing_facts between).faults ≡ (backing_facts backing).faults
    pub part : BackingPart B
    pub is_part : IsPartOf backing_facts b between part
    pub started : HasStarted cache_facts backing_facts s.supers.geometry s.journal
        (ready_of loaded cache part) parts seat

  -- Why a pair that was read isn't opened. One of three calls of the cache device failed, once the
  -- backing device had been called twice; or one of two of that failed, before the cache device was
  -- called. Or memory ran out, and nothing was written but the state. Or nothing was called at all:
  -- the newest entry, of this number, is one behind which none can come.
  abbrev pub IsStopOf : NotOpened C B → OpenError → Type 0
  IsStopOf n (errors.Fault device.Cache) = HasFailed 3 (cache_facts cache) (cache_facts n.cache)
      × ((backing_facts n.backing).calls ≡ count_after 2 (backing_facts backing).calls)
      × ((backing_facts n.backing).faults ≡ (backing_facts backing).faults)
  IsStopOf n (errors.Fault device.Backing) =
      (n.cache ≡ cache) × HasFailed 2 (backing_facts backing) (backing_facts n.backing)
  IsStopOf n errors.Memory = HasStayed (cache_facts cache) (cache_facts n.cache)
      × ((backing_facts n.backing).faults ≡ (backing_facts backing).faults)
  IsStopOf n (errors.JournalEnd seq) =
      EndsOdd s.journal seq × (n.cache ≡ cache) × (n.backing ≡ backing)
  IsStopOf n error = ⊥

-- the error of a run that wasn't started, as one of the opening
abbrev pub IsErrorOf : StartError → OpenError → Type 0
IsErrorOf starts.Odd e = ⊥
IsErrorOf starts.Memory e = e ≡ errors.Memory
IsErrorOf starts.Fault e = e ≡ errors.Fault device.Cache
