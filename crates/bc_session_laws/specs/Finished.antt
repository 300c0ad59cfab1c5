-- What a run leaves in which keys came in, behind its closing.
use Rattle.std.specs.Prelude.{◌≡◌, ℕ, ◌+◌, ◌≤◌, false, List, Ok, reverse}
use Rattle.bc_book.specs.Pass.{events_in}
use Rattle.bc_disk.specs.Disk.{DiskFacts}
use Rattle.bc_events.specs.Columns.{entries_of}
use Rattle.bc_events.specs.Run.{State}
use Rattle.bc_image.specs.Pair.{Pair}
use Rattle.bc_image.specs.Reading as pairs
use Rattle.bc_image.specs.Reading.{IsView}
use Rattle.bc_image.specs.Shown.{shown_by}
use Rattle.bc_image.specs.Sound.{HasSoundParts}
use Rattle.bc_meta.specs.Layout.{Layout}
use Rattle.bc_model.specs.History.{now}
use Rattle.bc_model.specs.Sector.{Image}
use Rattle.bc_model.specs.declared.history.Entry.{Entry}
use Rattle.bc_parts.specs.Seat.{PartsView}
use Rattle.bc_plain_laws.specs.bc_hand.Seats.{View, world}
use Rattle.bc_recoverable.specs.Made.{AreMade}
use Rattle.bc_recoverable.specs.bc_machine.World.{FromEach, Origin}
use Rattle.bc_recoverable.specs.bc_machine.declared.part.CorePart.{CorePart}
use Rattle.bc_recoverable.specs.bc_ranges.Laws.{frame_of}
use Rattle.bc_replay.specs.declared.held.Survey.{Survey}
use Rattle.bc_session.specs.Finish.{HasFinished}
use Rattle.bc_session.specs.bc_loaded.declared.loading.Loaded.{Loaded}
use Rattle.bc_session.specs.bc_started.First.{HasAll}
use Rattle.bc_session.specs.bc_started.Laws.{AreUntorn}
use Rattle.bc_session.specs.declared.finishing.Finished.{Finished}
use Rattle.bc_shares.specs.Shares.{books_of}
use Rattle.bc_super.specs.declared.backing.BackingSuper.{BackingSuper}
use Rattle.bc_session_laws.specs.Events.{left_by}
use Rattle.bc_session_laws.specs.Laws.{HasKept, IsFrom, IsOpenedOn, pair_held}

-- each insertion is in a durable entry, so no key waits
abbrev pub AreAllDurable : Origin → State → Type 0
AreAllDurable o st = (books_of st.machine).index.count ≤ (books_of st.machine).journal.durable

-- A sound pair, divided as the other, which shows of each sector its last write. The newest entry
-- comes first.
pub record IsNow (p : Pair) (v : pairs.View) (history : List Entry) (left : Pair) : Type 0 where
  pub later : pairs.View
  pub geometry : later.geometry ≡ v.geometry
  pub view : IsView left later
  pub sound : HasSoundParts left later
  pub shows : (s : ℕ) → shown_by left later s ≡ now (shown_by p v) history s

module _ {C B : Type 0} (cache_facts : C → DiskFacts) (backing_facts : B → DiskFacts) where
  -- Wherever the devices of such a run stop, and however it was closed, they leave a pair that shows
  -- of each sector what is allowed.
  abbrev pub LawFinished : Type 0
  LawFinished = (s : Survey) (b : BackingSuper) (cache : C) (backing : B) (c d : Image)
      (v : pairs.View) (layout : Layout) (loaded : Loaded) (parts : PartsView (CorePart C B))
      (seat : View cache_facts backing_facts)
      (opened : IsOpenedOn cache_facts backing_facts s b cache backing c d v layout loaded parts
      seat) (next_seq : ℕ) (o : Origin)
      → IsFrom cache_facts backing_facts s b cache backing c d v layout loaded parts seat opened
      next_seq o → (last : View cache_facts backing_facts) (r : Finished C B)
      → last.run ≡ parts.run → HasFinished cache_facts backing_facts b last r
      → AreUntorn o (left_by cache_facts backing_facts parts (events_in r.pass)).log
      → AreMade (frame_of (pair_held cache_facts backing_facts s b cache backing c d v layout loaded
      parts seat) v) o (left_by cache_facts backing_facts parts (events_in r.pass)).log
      → HasKept cache_facts backing_facts s b cache backing c d v layout loaded parts seat
      (events_in r.pass) r.cache r.backing

  -- Whatever a crash leaves behind a good closing is a pair that shows each sector's last write. And
  -- where it was closed as one whose data isn't in the cache alone, so that its state may be `clean`,
  -- the backing device has these writes by itself.
  pub record HasEnded (p : Pair) (v : pairs.View) (b : BackingSuper)
      (last : View cache_facts backing_facts) (r : Finished C B)
      (h : HasFinished cache_facts backing_facts b last r) : Type 0 where
    pub leaves : (image other : Image) → (cache_facts r.cache).may_leave image
        → (backing_facts r.backing).may_leave other
        → IsNow p v (reverse (entries_of (events_in r.pass)))
        (record p { cache = image; backing = other })
    pub backed : h.lacks ≡ false → (image other : Image) → (cache_facts r.cache).may_leave image
        → (backing_facts r.backing).may_leave other → (s : ℕ)
        → other (v.backing.data_offset + s)
        ≡ now (shown_by p v) (reverse (entries_of (events_in r.pass))) s

  -- Of a run of which no key waits as it is closed.
  abbrev pub LawEnded : Type 0
  LawEnded = (s : Survey) (b : BackingSuper) (cache : C) (backing : B) (c d : Image)
      (v : pairs.View) (layout : Layout) (loaded : Loaded) (parts : PartsView (CorePart C B))
      (seat : View cache_facts backing_facts)
      (opened : IsOpenedOn cache_facts backing_facts s b cache backing c d v layout loaded parts
      seat) (next_seq : ℕ) (o : Origin)
      → IsFrom cache_facts backing_facts s b cache backing c d v layout loaded parts seat opened
      next_seq o → (last : View cache_facts backing_facts) (r : Finished C B)
      → last.run ≡ parts.run → HasAll cache_facts backing_facts last
      → FromEach (world cache_facts backing_facts last) AreAllDurable
      → (h : HasFinished cache_facts backing_facts b last r) → r.result ≡ Ok tt
      → AreUntorn o (left_by cache_facts backing_facts parts (events_in r.pass)).log
      → AreMade (frame_of (pair_held cache_facts backing_facts s b cache backing c d v layout loaded
      parts seat) v) o (left_by cache_facts backing_facts parts (events_in r.pass)).log
      → HasEnded (pair_held cache_facts backing_facts s b cache backing c d v layout loaded parts
      seat) v b last r h
