-- What a run over a sound pair that was opened leaves of it, wherever its devices stop.
use Rattle.std.specs.Prelude.{◌≡◌, ℕ, Bool, List, reverse}
use Rattle.bc_book.specs.Pass.{events_in}
use Rattle.bc_session.specs.bc_cached.Laws.{parts_in}
use Rattle.bc_disk.specs.Disk.{DiskFacts}
use Rattle.bc_events.specs.Columns.{entries_of}
use Rattle.bc_events.specs.declared.event.Event.{Event}
use Rattle.bc_facts.specs.Layout.{IsLayoutOf}
use Rattle.bc_plain_laws.specs.bc_hand.Seats.{View, world}
use Rattle.bc_image.specs.Pair.{Pair}
use Rattle.bc_image.specs.Reading as pairs
use Rattle.bc_image.specs.Reading.{IsView}
use Rattle.bc_image.specs.Shown.{shown_by}
use Rattle.bc_image.specs.Sound.{HasSoundParts}
use Rattle.bc_session.specs.bc_loaded.declared.loading.Loaded.{Loaded}
use Rattle.bc_recoverable.specs.bc_machine.World.{Origin}
use Rattle.bc_recoverable.specs.bc_machine.declared.part.BackingPart.{BackingPart}
use Rattle.bc_recoverable.specs.bc_machine.declared.part.CorePart.{CorePart}
use Rattle.bc_meta.specs.Layout.{Layout}
use Rattle.bc_model.specs.History.{Allowed, IsLegal}
use Rattle.bc_model.specs.Sector.{Image}
use Rattle.bc_model.specs.declared.history.Entry.{Entry}
use Rattle.bc_pair.specs.Found.{pair_of}
use Rattle.bc_parts.specs.Seat.{PartsView}
use Rattle.bc_recoverable.specs.bc_ranges.Laws.{frame_of}
use Rattle.bc_recoverable.specs.Made.{AreMade}
use Rattle.bc_replay.specs.declared.held.Survey.{Survey}
use Rattle.bc_session.specs.Close.{HasClosed}
use Rattle.bc_session.specs.Laws.{HoldSound}
use Rattle.bc_session.specs.Open.{IsRunOver, ready_of}
use Rattle.bc_session.specs.declared.closing.Closed.{Closed}
use Rattle.bc_session.specs.bc_started.Laws.{AreUntorn, IsStartedFrom}
use Rattle.bc_super.specs.declared.backing.BackingSuper.{BackingSuper}
use Rattle.bc_session_laws.specs.Events.{HasGone, OnlyReads, left_by}

-- A sound pair, divided as the other, which shows of each sector what the history allows. The
-- newest entry comes first.
pub record IsRecoverable (p : Pair) (v : pairs.View) (history : List Entry) (left : Pair) : Type 0
  where
    pub later : pairs.View
    pub geometry : later.geometry ≡ v.geometry
    pub view : IsView left later
    pub sound : HasSoundParts left later
    pub shows : (s : ℕ) → Allowed (shown_by p v) history s (shown_by left later s)

module _ {C B : Type 0} (cache_facts : C → DiskFacts) (backing_facts : B → DiskFacts) where
  -- Both devices held a sound pair, divided so, and a run was opened on it.
  pub record IsOpenedOn (s : Survey) (b : BackingSuper) (cache : C) (backing : B) (c d : Image)
      (v : pairs.View) (layout : Layout) (loaded : Loaded) (parts : PartsView (CorePart C B))
      (seat : View cache_facts backing_facts) : Type 0 where
    pub hold : HoldSound cache_facts backing_facts s b cache backing c d v
    pub divided : IsLayoutOf v.geometry layout
    pub over : IsRunOver cache_facts backing_facts s b cache backing loaded parts seat

  module _ (s : Survey) (b : BackingSuper) (cache : C) (backing : B) (c d : Image)
      (v : pairs.View) (layout : Layout) (loaded : Loaded) (parts : PartsView (CorePart C B))
      (seat : View cache_facts backing_facts) where
    abbrev pub pair_held : Pair
    pair_held = pair_of (cache_facts cache) (backing_facts backing) c d

    -- the opening from which the run is seen, as the seqs of new nodes go on at this one
    abbrev pub IsFrom : IsOpenedOn s b cache backing c d v layout loaded parts seat → ℕ → Origin
        → Type 0
    IsFrom opened next_seq o = IsStartedFrom pair_held v layout
        (parts_in (ready_of loaded cache opened.over.part)
        opened.over.is_loaded.are.leaves.pending)
        next_seq (world cache_facts backing_facts seat) o

    -- Each answer is that of the last write before it, over what the pair showed. Whatever a crash
    -- leaves of both devices is a pair that shows what is allowed.
    pub record HasKept (events : List Event) (left : C) (rest : B) : Type 0 where
      pub legal : IsLegal (shown_by pair_held v) (reverse (entries_of events))
      pub leaves : (image other : Image) → (cache_facts left).may_leave image
          → (backing_facts rest).may_leave other
          → IsRecoverable pair_held v (reverse (entries_of events))
          (record pair_held { cache = image; backing = other })

  -- Of each run over such a pair of which no torn record matched by chance, and what its events
  -- bring is well made.
  abbrev pub LawKept : Type 0
  LawKept = (s : Survey) (b : BackingSuper) (cache : C) (backing : B) (c d : Image)
      (v : pairs.View) (layout : Layout) (loaded : Loaded) (parts : PartsView (CorePart C B))
      (seat : View cache_facts backing_facts)
      (opened : IsOpenedOn s b cache backing c d v layout loaded parts seat) (next_seq : ℕ)
      (o : Origin) → IsFrom s b cache backing c d v layout loaded parts seat opened next_seq o
      → (events : List Event) (left : C) (rest : BackingPart B)
      → HasGone cache_facts backing_facts parts events left rest
      → AreUntorn o (left_by cache_facts backing_facts parts events).log
      → AreMade (frame_of (pair_of (cache_facts cache) (backing_facts backing) c d) v) o
      (left_by cache_facts backing_facts parts events).log
      → HasKept s b cache backing c d v layout loaded parts seat events left rest.disk

  -- The same behind a closing, which may have written the superblock of the backing device: whether
  -- it was closed as it should be, or a call of it failed.
  abbrev pub LawClosed : Type 0
  LawClosed = (s : Survey) (b : BackingSuper) (cache : C) (backing : B) (c d : Image)
      (v : pairs.View) (layout : Layout) (loaded : Loaded) (parts : PartsView (CorePart C B))
      (seat : View cache_facts backing_facts)
      (opened : IsOpenedOn s b cache backing c d v layout loaded parts seat) (next_seq : ℕ)
      (o : Origin) → IsFrom s b cache backing c d v layout loaded parts seat opened next_seq o
      → (last : View cache_facts backing_facts) (dirty : Bool) (r : Closed C B)
      → last.run ≡ parts.run → HasClosed cache_facts backing_facts b dirty last r
      → AreUntorn o (left_by cache_facts backing_facts parts (events_in r.pass)).log
      → AreMade (frame_of (pair_of (cache_facts cache) (backing_facts backing) c d) v) o
      (left_by cache_facts backing_facts parts (events_in r.pass)).log
      → HasKept s b cache backing c d v layout loaded parts seat (events_in r.pass) r.cache
      r.backing

  -- The opening's own entry is well made, and so is all of a run that brings nothing more.
  abbrev pub LawMade : Type 0
  LawMade = (s : Survey) (b : BackingSuper) (cache : C) (backing : B) (c d : Image)
      (v : pairs.View) (layout : Layout) (loaded : Loaded) (parts : PartsView (CorePart C B))
      (seat : View cache_facts backing_facts)
      (opened : IsOpenedOn s b cache backing c d v layout loaded parts seat) (next_seq : ℕ)
      (o : Origin) → IsFrom s b cache backing c d v layout loaded parts seat opened next_seq o
      → (events : List Event) → OnlyReads cache_facts backing_facts seat events
      → AreMade (frame_of (pair_of (cache_facts cache) (backing_facts backing) c d) v) o
      (left_by cache_facts backing_facts parts events).log
