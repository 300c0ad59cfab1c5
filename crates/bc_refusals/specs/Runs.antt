-- Which runs are over a sound pair.
use Rattle.std.specs.Prelude.{List}
use Rattle.bc_disk.specs.Disk.{DiskFacts}
use Rattle.bc_disk.specs.declared.geometry.Geometry.{Geometry}
use Rattle.bc_request.specs.bc_deed.Flushed.{HasDone}
use Rattle.bc_events.specs.declared.event.Deed.{Deed}
use Rattle.bc_facts.specs.Layout.{IsLayoutOf}
use Rattle.bc_request.specs.bc_hand.Seats.{View, world}
use Rattle.bc_image.specs.Reading as pairs
use Rattle.bc_session.specs.bc_loaded.declared.loading.Loaded.{Loaded}
use Rattle.bc_request.specs.bc_machine.World.{Origin}
use Rattle.bc_request.specs.bc_machine.declared.part.CorePart.{CorePart}
use Rattle.bc_meta.specs.Layout.{Layout}
use Rattle.bc_model.specs.Sector.{Image}
use Rattle.bc_pair.specs.Found.{pair_of}
use Rattle.bc_parts.specs.Seat.{PartsView}
use Rattle.bc_replay.specs.declared.held.Survey.{Survey}
use Rattle.bc_session.specs.Laws.{HoldSound}
use Rattle.bc_session.specs.Open.{IsRunOver}
use Rattle.bc_session.specs.bc_started.Laws.{AreUntorn}
use Rattle.bc_super.specs.declared.backing.BackingSuper.{BackingSuper}
use Rattle.bc_refusals.specs.Made.{IsOfPair}
use Rattle.bc_refusals.specs.Over.{IsOver}

module _ {C B : Type 0} (cache_facts : C → DiskFacts) (backing_facts : B → DiskFacts) where
  -- A run over a sound pair that was opened is one from some opening of that pair, where no torn
  -- record matched by chance; and no leaf was touched yet.
  abbrev pub LawOpened : Type 0
  LawOpened = (s : Survey) (b : BackingSuper) (cache : C) (backing : B) (c d : Image)
      (v : pairs.View) (layout : Layout) (loaded : Loaded)
      (parts : PartsView (CorePart C B)) (seat : View cache_facts backing_facts)
      → HoldSound cache_facts backing_facts s b cache backing c d v
      → IsLayoutOf v.geometry layout
      → IsRunOver cache_facts backing_facts s b cache backing loaded parts seat
      → (o : Origin) × (AreUntorn o (world cache_facts backing_facts seat).log
      → IsOver cache_facts backing_facts o v.geometry seat)
      × IsOfPair cache_facts backing_facts (pair_of (cache_facts cache) (backing_facts backing) c d)
      v o seat

  -- And it goes on to be one, whatever the seats do, while no torn record matches by chance.
  abbrev pub LawGoesOn : Type 0
  LawGoesOn = (o : Origin) (g : Geometry) (deeds : List Deed) (v w : View cache_facts backing_facts)
      → IsOver cache_facts backing_facts o g v → HasDone cache_facts backing_facts deeds v w
      → AreUntorn o (world cache_facts backing_facts w).log → IsOver cache_facts backing_facts o g w
