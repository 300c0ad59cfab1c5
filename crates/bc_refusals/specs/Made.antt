-- A run of a sound pair whose leaves are well made.
use Rattle.std.specs.Prelude.{◌≡◌, ◌⊎◌, ℕ, false, List, [], ◌∷◌}
use Rattle.bc_disk.specs.Disk.{DiskFacts}
use Rattle.bc_events.specs.Run.{acts, by}
use Rattle.bc_events.specs.declared.event.Deed.{Deed}
use Rattle.bc_events.specs.declared.event.Deed.TheVariants as deed
use Rattle.bc_events.specs.declared.event.Event.{Event}
use Rattle.bc_events.specs.declared.event.Failure.TheVariants as failure
use Rattle.bc_request.specs.bc_hand.Seats.{View, world}
use Rattle.bc_image.specs.Pair.{Pair}
use Rattle.bc_image.specs.Reading as pairs
use Rattle.bc_request.specs.bc_machine.World.{Origin, replay}
use Rattle.bc_opened.specs.Opening.{IsSoundOpeningOf}
use Rattle.bc_session.specs.bc_ranges.Laws.{frame_of}
use Rattle.bc_session.specs.bc_ranges.Made.{AreWellMade, Frame}
use Rattle.bc_shares.specs.Touched.{touches_leaf}

-- What these events brought, of which the last one comes first, is well made.
abbrev pub AreMadeIn : Frame → Origin → List Event → Type 0
AreMadeIn f o [] = Unit {0}
AreMadeIn f o (e ∷ es) = AreWellMade f o.opening.machine (replay o es).machine
    (by e.seat (acts o.opening (replay o es) e)) × AreMadeIn f o es

-- None of these events touches a leaf: no key came into one, no set of one was written, and no
-- change of the tree took one or brought one.
abbrev pub TouchNoLeaf : List Event → Type 0
TouchNoLeaf [] = Unit {0}
TouchNoLeaf (e ∷ es) = ((k : ℕ) → touches_leaf k e.deed ≡ false) × TouchNoLeaf es

-- what a seat does that reads
abbrev pub IsOfRead : Deed → Type 0
IsOfRead (deed.Claim first count how) = Unit {0}
IsOfRead deed.Release = Unit {0}
IsOfRead (deed.Look leaf) = Unit {0}
IsOfRead (deed.CacheRead at first values) = Unit {0}
IsOfRead (deed.BackingRead first values) = Unit {0}
IsOfRead (deed.Answer of first values) = Unit {0}
IsOfRead (deed.DeviceFault (failure.Read device)) = Unit {0}
IsOfRead d = ⊥

-- So a run of reads touches no leaf.
abbrev pub LawReads : Type 0
LawReads = (d : Deed) → IsOfRead d → (k : ℕ) → touches_leaf k d ≡ false

module _ {C B : Type 0} (cache_facts : C → DiskFacts) (backing_facts : B → DiskFacts) where
  -- The opening is of that pair. As far as the seat has seen it, what the run brought is well made,
  -- or it touched no leaf.
  pub record IsOfPair (p : Pair) (v : pairs.View) (o : Origin)
      (seat : View cache_facts backing_facts) : Type 0 where
    pub opening : IsSoundOpeningOf p v o.opening.machine o.parts
    pub made : AreMadeIn (frame_of p v) o (world cache_facts backing_facts seat).log
        ⊎ TouchNoLeaf (world cache_facts backing_facts seat).log
