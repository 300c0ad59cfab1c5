-- What a run over a pair that was opened stands for, and what its devices leave of the pair.
use Rattle.std.specs.Prelude.{◌≡◌, Some}
use Rattle.bc_started.specs.bc_begun.Begin.{first_seq}
use Rattle.bc_started.specs.bc_cached.Laws.{parts_in}
use Rattle.bc_disk.specs.Disk.{DiskFacts}
use Rattle.bc_facts.specs.Layout.{IsLayoutOf}
use Rattle.bc_started.specs.bc_hand.Seats.{View, world}
use Rattle.bc_image.specs.Reading as pairs
use Rattle.bc_image.specs.Reading.{IsView}
use Rattle.bc_image.specs.Sound.{HasSoundParts}
use Rattle.bc_loaded.specs.declared.loading.Loaded.{Loaded}
use Rattle.bc_started.specs.bc_machine.World.{IsBacking, IsCache, Origin}
use Rattle.bc_started.specs.bc_machine.declared.part.BackingPart.{BackingPart}
use Rattle.bc_started.specs.bc_machine.declared.part.CorePart.{CorePart}
use Rattle.bc_meta.specs.Layout.{Layout}
use Rattle.bc_model.specs.Sector.{Image}
use Rattle.bc_open.specs.Left.{ChangesState, LeavesThePair}
use Rattle.bc_pair.specs.Found.{pair_of}
use Rattle.bc_parts.specs.Seat.{PartsView}
use Rattle.bc_recover.specs.Read.{IsReadOf}
use Rattle.bc_replay.specs.Causes.{OfHeld}
use Rattle.bc_replay.specs.declared.held.Survey.{Survey}
use Rattle.bc_started.specs.Laws.{IsStartedFrom}
use Rattle.bc_super.specs.Reading.{ReadsSuper}
use Rattle.bc_super.specs.declared.backing.BackingSuper.{BackingSuper}
use Rattle.bc_super.specs.declared.state.BackingState.TheVariants as states
use Rattle.bc_session.specs.Open.{IsRunOver, ready_of}

module _ {C B : Type 0} (cache_facts : C → DiskFacts) (backing_facts : B → DiskFacts) where
  -- both devices hold a sound pair, which was read
  pub record HoldSound (s : Survey) (b : BackingSuper) (cache : C) (backing : B) (c d : Image)
      (v : pairs.View) : Type 0 where
    pub tells : (cache_facts cache).holds ≡ Some c
    pub told : (backing_facts backing).holds ≡ Some d
    pub reads : ReadsSuper (backing_facts backing) b
    pub read : IsReadOf s (pair_of (cache_facts cache) (backing_facts backing) c d)
    pub view : IsView (pair_of (cache_facts cache) (backing_facts backing) c d) v
    pub sound : HasSoundParts (pair_of (cache_facts cache) (backing_facts backing) c d) v

  -- Such a run is seen from an opening of the core by what the parts say of the pair that the devices
  -- held before, where the seqs of new nodes go on at the number of the newest entry.
  abbrev pub LawSession : Type 0
  LawSession = (s : Survey) (b : BackingSuper) (cache : C) (backing : B) (c d : Image)
      (v : pairs.View) (layout : Layout) (loaded : Loaded)
      (parts : PartsView (CorePart C B))
      (seat : View cache_facts backing_facts) → HoldSound s b cache backing c d v
      → IsLayoutOf v.geometry layout
      → (over : IsRunOver cache_facts backing_facts s b cache backing loaded parts seat)
      → (o : Origin) × IsStartedFrom (pair_of (cache_facts cache) (backing_facts backing) c d) v
      layout (parts_in (ready_of loaded cache over.part) over.is_loaded.are.leaves.pending)
      (first_seq loaded.journal) (world cache_facts backing_facts seat) o

  -- Wherever its devices stop before it does more, they leave a sound pair that shows what the pair
  -- showed, and the backing device but for `dirty` as it was.
  abbrev pub LawRests : Type 0
  LawRests = (s : Survey) (b : BackingSuper) (cache : C) (backing : B) (loaded : Loaded)
      (parts : PartsView (CorePart C B)) (seat : View cache_facts backing_facts)
      (left : C) (rest : BackingPart B)
      → ReadsSuper (backing_facts backing) b
      → OfHeld (IsReadOf s) (cache_facts cache) (backing_facts backing)
      → IsRunOver cache_facts backing_facts s b cache backing loaded parts seat
      → IsCache {C = C} {B = B} cache_facts backing_facts left
      (world cache_facts backing_facts seat)
      → IsBacking {C = C} {B = B} cache_facts backing_facts rest
      (world cache_facts backing_facts seat)
      → LeavesThePair (cache_facts cache) (cache_facts left) (backing_facts backing)
      (backing_facts rest.disk)
      × ChangesState (λ state. state ≡ states.Dirty) b (backing_facts backing)
      (backing_facts rest.disk)
