-- What a run leaves that was closed, from the laws on what a crash shows.
use Rattle.std.proofs.Common.{◌≡◌, inl, inr, ℕ, ◌+◌, ◌%◌, Bool, true, false, List, [], ◌∷◌, Option, Some, None, refl, sym, ap, ◌∙◌, subst, if◌then◌else◌}
use Rattle.bc_books.specs.Index.{Clean, Dirty, Kind, Pointer, latest}
use Rattle.bc_books.specs.Laws.{durable_snapshot}
use Rattle.bc_books.specs.Versions.{is_stale}
use Rattle.bc_chosen.specs.Parts.{Parts}
use Rattle.bc_crash.specs.Laws.{IsClosed, IsSafe}
use Rattle.bc_crash.proofs.Survive.{law_closed, law_crash}
use Rattle.bc_data.specs.After.{IsCourse, course as flow_course}
use Rattle.bc_data.specs.Data as flow
use Rattle.bc_data.specs.Laws.{IsPair, shown}
use Rattle.bc_dirty_laws.specs.Dirty.{IsDirtyAt, IsNoneDirty}
use Rattle.bc_disk.specs.Device.{MayLeave}
use Rattle.bc_events.specs.Run as core
use Rattle.bc_events.specs.Run.{State, history_of}
use Rattle.bc_events.specs.declared.event.Event.{Event}
use Rattle.bc_events.proofs.Machine.{law_machine}
use Rattle.bc_image.proofs.Unique.{one_reading}
use Rattle.bc_image.specs.Pair.{Pair}
use Rattle.bc_image.specs.Reading.{Reading, View}
use Rattle.bc_image.specs.Shown.{shown_by}
use Rattle.bc_known.specs.Acts as known
use Rattle.bc_known.specs.Run as machine
use Rattle.bc_known.specs.Workers.{all_renamed, renamed}
use Rattle.bc_known.proofs.Law.{At, inv_at}
use Rattle.bc_dirty_laws.specs.bc_machine.Standing.{replay_is}
use Rattle.bc_dirty_laws.specs.bc_machine.World.{Origin, replay}
use Rattle.bc_meta.specs.Layout.{Layout}
use Rattle.bc_model.specs.History.{gives, now}
use Rattle.bc_model.specs.Sector.{Image, Value, unless}
use Rattle.bc_model.specs.declared.history.Entry.{Entry}
use Rattle.bc_model.specs.declared.history.Entry.TheVariants.{Durable, FlushDone, FlushFrom, Read, Tried, Write}
use Rattle.bc_opening.specs.Opening.{IsOpenedAs}
use Rattle.bc_opening_runs.proofs.Law.{law_old_keys}
use Rattle.bc_reopened.proofs.of_bc_ranges.Law.{run_new}
use Rattle.bc_reopened.specs.bc_ranges.Laws.{frame_of}
use Rattle.bc_reopened.specs.bc_sound.Laws.{IsLeftOf}
use Rattle.bc_shares.proofs.Law.{at_state}
use Rattle.bc_shows.proofs.Law.{law_shows}
use Rattle.bc_shows.specs.Laws.{Shows, value_of}
use Rattle.bc_whole.proofs.Kept.{HasFlow}
use Rattle.bc_recoverable.specs.Closed.{IsEnded, LawEnded, ShowsNow}
use Rattle.bc_recoverable.specs.Runs.{IsRunFrom}
use Rattle.bc_recoverable.proofs.Runs as runs

-- ---- workers in the place of seats

same_gives : (f : ℕ → ℕ) (e : Entry) (s : ℕ) → gives (renamed f e) s ≡ gives e s
same_gives f (Write worker line first values) s = refl
same_gives f (Read worker line first values) s = refl
same_gives f (FlushFrom worker line) s = refl
same_gives f (FlushDone worker line) s = refl
same_gives f (Durable worker line first count) s = refl
same_gives f (Tried first values) s = refl

same_now : (f : ℕ → ℕ) (image : Image) (H : List Entry) (s : ℕ)
    → now image (all_renamed f H) s ≡ now image H s
same_now f image [] s = refl
same_now f image (e ∷ es) s = ap (λ (o : Option Value). unless o (now image (all_renamed f es) s))
    (same_gives f e s) ∙ ap (λ (x : Value). unless (gives e s) x) (same_now f image es s)

-- ---- the backing device by itself

not_dirty : (k : Kind) → (k ≡ Dirty → ⊥) → k ≡ Clean
not_dirty Clean none = refl
not_dirty Dirty none = absurd (none refl)

-- of the data alone
module _ (w : flow.Opening) (st : flow.State) (pair : IsPair w) (list : List flow.Event)
    (on : IsCourse w (flow.start w) list)
    (is : st ≡ flow_course w (flow.start w) list) (closed : IsClosed st)
    (clean : (s : ℕ) (r : Pointer) → latest st.books.index s ≡ Some r → r.kind ≡ Clean)
    (c b : Image) (may : MayLeave st.cache c) (can : MayLeave st.backing b) (s : ℕ) where
  shows : shown w.books.bucket (st.books.index.at st.books.journal.durable)
      st.books.generations.durable c b s ≡ now w.image st.history s
  shows = subst (λ (x : flow.State). IsClosed x → MayLeave x.cache c → MayLeave x.backing b
      → shown w.books.bucket (x.books.index.at x.books.journal.durable)
      x.books.generations.durable c b s ≡ now w.image x.history s) (sym is)
      (λ done leaves left. law_closed w list pair on done
      (durable_snapshot (flow_course w (flow.start w) list).books) c b (inl refl) leaves left s)
      closed may can

  safe : IsSafe w st (durable_snapshot st.books) c b s
  safe = subst (λ (x : flow.State). MayLeave x.cache c → MayLeave x.backing b
      → IsSafe w x (durable_snapshot x.books) c b s) (sym is)
      (λ leaves left. law_crash w list pair on
      (durable_snapshot (flow_course w (flow.start w) list).books) c b (inl refl) leaves left s)
      may can

  abbrev at : Option Pointer
  at = st.books.index.at st.books.journal.durable s

  by_stale : (r : Pointer) → at ≡ Some r → (stale : Bool)
      → is_stale (st.books.generations.durable (w.books.bucket r.place) % 256) (r.version % 256)
      ≡ stale → b s ≡ (if stale then b s else c r.place)
  by_stale r there true is = refl
  by_stale r there false is = sym (safe.agree r there
      (clean s r (ap (λ n. st.books.index.at n s) (sym closed.journal) ∙ there)) is)

  by_pointer : (q : Option Pointer) → at ≡ q
      → b s ≡ shown w.books.bucket (λ t. q) st.books.generations.durable c b s
  by_pointer None there = refl
  by_pointer (Some r) there = by_stale r there _ refl

  backed : b s ≡ now w.image st.history s
  backed = by_pointer at refl ∙ shows

-- ---- a run

module _ (p : Pair) (v : View) (layout : Layout) (x : Parts) (o : Origin) (es : List Event)
    (h : IsRunFrom p v layout x o es) where
  abbrev end : State
  end = runs.end p v layout x o es h

  abbrev acts : List known.Event
  acts = runs.acts p v layout x o es h

  abbrev opens : IsOpenedAs p v layout (runs.choices p v layout x o es h) o.opening.machine o.parts
  opens = runs.opens p v layout x o es h

  image : o.opening.machine.flow.image ≡ shown_by p v
  image = λ i. λ s. h.opened.devices.image s i

  module _ (closed : IsClosed end.machine.whole.flow) (left : Pair)
      (is : IsLeftOf p v.backing.data_offset end.machine left) where
    abbrev later : View
    later = runs.later p v layout x o es h left is

    abbrev disk : Image
    disk = λ t. left.backing (v.backing.data_offset + t)

    abbrev ran : known.State
    ran = machine.run o.opening.machine (runs.first p v layout x o es h).machine acts

    read : (r : Reading) × Shows v.geometry o.opening.machine ran left.cache disk r
    read = law_shows v.geometry o.opening.machine o.parts o.next_seq acts (record {
      machine = record { layout = runs.laid p v layout x o es h; before = h.opened.before };
      sound = h.starts;
      course = (law_machine o.opening (runs.first p v layout x o es h)
          (runs.run p v layout x o es h) (runs.course p v layout x o es h)).course;
      old_keys = law_old_keys p v layout (runs.choices p v layout x o es h) o.opening.machine
          o.parts opens;
      keys = λ key i. (run_new (frame_of p v) o.opening.machine
          (runs.first p v layout x o es h).machine acts (runs.well_made p v layout x o es h) key
          i).lies.ptrs;
      no_torn = subst (runs.NoTorn p v layout x o es h) (runs.last p v layout x o es h)
          (runs.untorn p v layout x o es h);
    }) left.cache disk (runs.here p v layout x o es h left is).cache
        (runs.here p v layout x o es h left is).backing

    one : read.0 ≡ later.reading
    one = one_reading v.geometry left.cache read.0 later.reading read.1.reads
        (runs.again p v layout x o es h left is).1.reading

    by_seats : (s : ℕ) → shown_by left later s ≡ now (shown_by p v) end.machine.whole.flow.history s
    by_seats s = ap (λ (r : Reading). value_of v.geometry r left.cache disk s) (sym one)
        ∙ read.1.closed (subst (λ (st : known.State). IsClosed st.whole.flow)
        (runs.last p v layout x o es h) closed) s
        ∙ ap (λ (i : Image). now i ran.whole.flow.history s) image
        ∙ ap (λ (st : known.State). now (shown_by p v) st.whole.flow.history s)
        (sym (runs.last p v layout x o es h))

    shows_now : ShowsNow p v (history_of o.opening end) left
    shows_now = record {
      reading = later.reading;
      view = (runs.again p v layout x o es h left is).1;
      sound = (runs.again p v layout x o es h left is).2;
      shows = λ s. by_seats s
          ∙ sym (same_now o.opening.worker (shown_by p v) end.machine.whole.flow.history s);
    }

    module _ (none : IsNoneDirty o end) where
      here : At o.opening.machine o.parts end.machine
      here = at_state o.opening o.parts o.next_seq (runs.run p v layout x o es h) h.starts
          (runs.course p v layout x o es h)

      flows : HasFlow o.opening.machine end.machine.whole.flow
      flows = (inv_at o.opening.machine o.parts end.machine.whole h.starts here.at).flow

      on_backing : (s : ℕ) → left.backing (v.backing.data_offset + s)
          ≡ now (shown_by p v) (history_of o.opening end) s
      on_backing s = backed o.opening.machine.flow end.machine.whole.flow h.starts.whole.pair
          flows.list flows.run flows.is closed
          (λ t r there. not_dirty r.kind (λ dirty.
          none t (record { pointer = r; is = there; dirty = dirty }))) left.cache disk is.cache
          is.backing s
          ∙ ap (λ (i : Image). now i end.machine.whole.flow.history s) image
          ∙ sym (same_now o.opening.worker (shown_by p v) end.machine.whole.flow.history s)

-- in the words of the run as it is replayed
pub record EndedAt (p : Pair) (v : View) (o : Origin) (st : State) : Type 0 where
  pub left : (left : Pair) → IsLeftOf p v.backing.data_offset st.machine left
      → ShowsNow p v (history_of o.opening st) left
  pub backed : IsNoneDirty o st → (left : Pair)
      → IsLeftOf p v.backing.data_offset st.machine left → (s : ℕ)
      → left.backing (v.backing.data_offset + s)
      ≡ now (shown_by p v) (history_of o.opening st) s

pub law_ended : LawEnded
law_ended p v layout x o es h closed =
    let all : EndedAt p v o (replay o es) = subst (λ (st : State).
    IsClosed st.machine.whole.flow → EndedAt p v o st) (sym (replay_is o es)) (λ done. record {
      left = shows_now p v layout x o es h done;
      backed = λ none left is. on_backing p v layout x o es h done left is none;
    }) closed in
    record { left = all.left; backed = all.backed }
