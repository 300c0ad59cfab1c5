-- A line that reads, from its pieces to its answer.
use Rattle.std.specs.Prelude.{Result, Ok, Err, IfErr, IfOk}
use Rattle.std.proofs.Common.{◌≡◌, ◌⊎◌, inl, inr, true, false, List, [], ◌∷◌, ◌++◌, Some, append_assoc, append-nil, refl, sym, ap, ◌∙◌, subst}
use Rattle.bc_serve.proofs.of_bc_deed.Sequence.{done_both}
use Rattle.bc_serve.specs.bc_deed.Flushed.{HasDone}
use Rattle.bc_disk.specs.Disk.{DiskFacts}
use Rattle.bc_disk.specs.declared.disk.Device.{Device}
use Rattle.bc_events.specs.Columns.{halt_of}
use Rattle.bc_events.specs.declared.event.Deed.{Deed}
use Rattle.bc_events.specs.declared.event.Deed.TheVariants as deed
use Rattle.bc_events.specs.declared.event.Event.{Event}
use Rattle.bc_events.specs.declared.event.Failure.TheVariants as failure
use Rattle.bc_events.specs.declared.event.LineNumber.{LineNumber}
use Rattle.bc_flush.specs.bc_fetch.declared.error.LeafError.TheVariants as leaf
use Rattle.bc_serve.proofs.of_bc_hand.Knowing.{View}
use Rattle.bc_serve.specs.bc_hand.Seats.{IsCoreSeat}
use Rattle.bc_serve.specs.bc_hand.declared.error.StepError.TheVariants as step
use Rattle.bc_serve.proofs.of_bc_job.Looping.{done_none}
use Rattle.bc_serve.specs.bc_job.Asked.{line_of}
use Rattle.bc_serve.specs.bc_job.declared.job.Job.{Job}
use Rattle.bc_serve.specs.bc_machine.declared.part.CorePart.{CorePart}
use Rattle.bc_model.specs.Pieces.{AreReads, Piece, pieces}
use Rattle.bc_model.specs.Sector.{Value}
use Rattle.bc_model.specs.declared.history.Entry.{Entry}
use Rattle.bc_model.specs.declared.history.Entry.TheVariants as entry
use Rattle.bc_parts.specs.Seat.{PartsView}
use Rattle.bc_flush.specs.bc_reader.declared.error.ReadError.{ReadError}
use Rattle.bc_flush.specs.bc_reader.declared.error.ReadError.TheVariants as error
use Rattle.bc_flush.specs.bc_request.Line.{HasNotReadLine, HasReadLine, HasReadPieces, HasRefusedAt}
use Rattle.bc_flush.specs.bc_request.Refusals.{refusal}
use Rattle.bc_flush.specs.bc_request.declared.error.RequestError.{RequestError}
use Rattle.bc_flush.specs.bc_request.declared.error.RequestError.TheVariants as request
use Rattle.bc_script.specs.Served.{ServesPartRead, ServesRead}
use Rattle.bc_script.specs.declared.answer.Answer.{Answer}
use Rattle.bc_script.specs.declared.answer.Answer.TheVariants.{Runs, Refused}
use Rattle.bc_script.specs.declared.answer.Refusal.{Refusal}
use Rattle.bc_script.specs.declared.answer.Refusal.TheVariants as refusals
use Rattle.bc_serve.proofs.Lists.{entries_both}
use Rattle.bc_serve.specs.Causes.{entries_by}
use Rattle.bc_cached_serve.proofs.Claims.{piece_read, piece_stops}
use Rattle.bc_cached_serve.proofs.Going.{HasRead, keeping_of, none_read, reading_both, then_read, turned_both}
use Rattle.bc_cached_serve.proofs.Stops.{ReadStops, stops_behind}
use Rattle.bc_cached_serve.specs.Answered.{HasAnsweredRead, HasStoppedRead}
use Rattle.bc_cached_serve.specs.Deeds.{AreReading, AreTurned, HasFailedAt, HaveEnded, IsRefusedBy}
use Rattle.bc_cached_serve.specs.Refusals.{IsRefusalOf, IsRefusedAs, IsUnsound}

-- ---- deeds that end

-- how the deeds of a line end that wasn't answered, by the cause
abbrev EndsBy : ReadError → List Event → List Deed → Type 0
EndsBy (error.Leaf (leaf.Step (step.Fault which))) seen ds = HasFailedAt which ds
EndsBy (error.Leaf (leaf.Step (step.Halted which))) seen ds =
    (halt_of seen ≡ Some which) × HaveEnded (AreTurned true) ds
EndsBy (error.Leaf (leaf.Step step.Memory)) seen ds = HaveEnded (AreTurned true) ds
EndsBy e seen ds = AreTurned false ds

stops_known : (e : ReadError) (seen : List Event) (es : List Entry) (ds : List Deed)
    → ReadStops e seen es ds → AreReading ds × (entries_by ds ≡ es)
stops_known (error.Leaf (leaf.Step (step.Fault which))) seen es ds h =
    let last = deed.DeviceFault (failure.Read which) ∷ [] in (
      subst AreReading (sym h.is) (reading_both h.before last h.reads.reading (tt, tt)),
      ap entries_by h.is ∙ entries_both h.before last ∙ append-nil (entries_by h.before)
          ∙ h.reads.entries_are,
    )
stops_known (error.Leaf (leaf.Step (step.Halted which))) seen es ds h =
    (h.1.reading, h.1.entries_are)
stops_known (error.Leaf (leaf.Step step.Memory)) seen es ds h = (h.reading, h.entries_are)
stops_known (error.Leaf leaf.Busy) seen es ds h = (h.reading, h.entries_are)
stops_known (error.Leaf leaf.Outside) seen es ds h = (h.reading, h.entries_are)
stops_known (error.Leaf leaf.Missing) seen es ds h = (h.reading, h.entries_are)
stops_known (error.Leaf (leaf.Node q n)) seen es ds h = (h.reading, h.entries_are)
stops_known error.Lost seen es ds h = (h.reading, h.entries_are)

abbrev last_release : List Deed
last_release = deed.Release ∷ []

-- the claim was let go behind them
ends_released : (e : ReadError) (seen : List Event) (es : List Entry) (ds : List Deed)
    → ReadStops e seen es ds → EndsBy e seen (ds ++ last_release)
ends_released (error.Leaf (leaf.Step (step.Fault which))) seen es ds h = record {
  before = h.before;
  turned = h.reads.turned;
  is = ap (λ (l : List Deed). l ++ last_release) h.is
      ∙ append_assoc h.before (deed.DeviceFault (failure.Read which) ∷ []) last_release;
}
ends_released (error.Leaf (leaf.Step (step.Halted which))) seen es ds h =
    (h.0, (ds, h.1.turned, inr refl))
ends_released (error.Leaf (leaf.Step step.Memory)) seen es ds h = (ds, h.turned, inr refl)
ends_released (error.Leaf leaf.Busy) seen es ds h =
    turned_both false ds last_release h.turned (tt, tt)
ends_released (error.Leaf leaf.Outside) seen es ds h =
    turned_both false ds last_release h.turned (tt, tt)
ends_released (error.Leaf leaf.Missing) seen es ds h =
    turned_both false ds last_release h.turned (tt, tt)
ends_released (error.Leaf (leaf.Node q n)) seen es ds h =
    turned_both false ds last_release h.turned (tt, tt)
ends_released error.Lost seen es ds h = turned_both false ds last_release h.turned (tt, tt)

-- there was none
ends_unclaimed : (e : ReadError) (seen : List Event) (es : List Entry) (ds : List Deed)
    → ((which : Device) → e ≡ error.Leaf (leaf.Step (step.Fault which)) → ⊥)
    → ReadStops e seen es ds → EndsBy e seen ds
ends_unclaimed (error.Leaf (leaf.Step (step.Fault which))) seen es ds other h =
    absurd (other which refl)
ends_unclaimed (error.Leaf (leaf.Step (step.Halted which))) seen es ds other h =
    (h.0, (ds, h.1.turned, inl refl))
ends_unclaimed (error.Leaf (leaf.Step step.Memory)) seen es ds other h = (ds, h.turned, inl refl)
ends_unclaimed (error.Leaf leaf.Busy) seen es ds other h = h.turned
ends_unclaimed (error.Leaf leaf.Outside) seen es ds other h = h.turned
ends_unclaimed (error.Leaf leaf.Missing) seen es ds other h = h.turned
ends_unclaimed (error.Leaf (leaf.Node q n)) seen es ds other h = h.turned
ends_unclaimed error.Lost seen es ds other h = h.turned

-- how a line ends that wasn't answered, and what it has in the history
record Ends (e : ReadError) (seen : List Event) (es : List Entry) (ds : List Deed) : Type 0 where
  reading : AreReading ds
  entries_are : entries_by ds ≡ es
  ends : EndsBy e seen ds

line_ends : (e : ReadError) (seen : List Event) (es : List Entry) (ds after : List Deed)
    → ReadStops e seen es ds → (after ≡ last_release)
    ⊎ ((after ≡ []) × ((which : Device) → e ≡ error.Leaf (leaf.Step (step.Fault which)) → ⊥))
    → Ends e seen es (ds ++ after)
line_ends e seen es ds after h (inl is) =
    let known = stops_known e seen es ds h in
    subst (λ (l : List Deed). Ends e seen es (ds ++ l)) (sym is) (record {
      reading = reading_both ds last_release known.0 (tt, tt);
      entries_are = entries_both ds last_release ∙ append-nil (entries_by ds) ∙ known.1;
      ends = ends_released e seen es ds h;
    })
line_ends e seen es ds after h (inr none) =
    let known = stops_known e seen es ds h in
    subst (λ (l : List Deed). Ends e seen es (ds ++ l)) (sym none.0)
    (subst (Ends e seen es) (sym (append-nil ds)) (record {
      reading = known.0;
      entries_are = known.1;
      ends = ends_unclaimed e seen es ds none.1 h;
    }))

-- ---- by the refusal

abbrev ServesRefused : Job → List Entry → Refusal → Type 0
ServesRefused job entries why =
    ServesRead job.size job.worker job.line job.first job.count (Refused why) entries

serves_part : (cause : ReadError) (why : Refusal) (job : Job) (entries : List Entry)
    → IsRefusalOf (refusal cause) why
    → ServesPartRead job.size job.worker job.line job.first job.count entries
    → ServesRefused job entries why
serves_part (error.Leaf (leaf.Step (step.Fault which))) why job entries is part =
    subst (ServesRefused job entries) (sym is) part
serves_part (error.Leaf (leaf.Step (step.Halted which))) why job entries is part =
    subst (ServesRefused job entries) (sym is) part
serves_part (error.Leaf (leaf.Step step.Memory)) why job entries is part =
    subst (ServesRefused job entries) (sym is) part
serves_part (error.Leaf leaf.Busy) why job entries is part = absurd is
serves_part (error.Leaf leaf.Outside) why job entries is part = absurd is
serves_part (error.Leaf leaf.Missing) why job entries is part = absurd is
serves_part (error.Leaf (leaf.Node q n)) why job entries is part =
    subst (ServesRefused job entries) (sym is.2) part
serves_part error.Lost why job entries is part = absurd is

caused_by : (cause : ReadError) (why : Refusal) (seen : List Event) (ds : List Deed)
    → IsRefusalOf (refusal cause) why → EndsBy cause seen ds → IsRefusedBy why seen ds
caused_by (error.Leaf (leaf.Step (step.Fault which))) why seen ds is ends =
    subst (λ (r : Refusal). IsRefusedBy r seen ds) (sym is) ends
caused_by (error.Leaf (leaf.Step (step.Halted which))) why seen ds is ends =
    subst (λ (r : Refusal). IsRefusedBy r seen ds) (sym is) ends
caused_by (error.Leaf (leaf.Step step.Memory)) why seen ds is ends =
    subst (λ (r : Refusal). IsRefusedBy r seen ds) (sym is) ends
caused_by (error.Leaf leaf.Busy) why seen ds is ends = absurd is
caused_by (error.Leaf leaf.Outside) why seen ds is ends = absurd is
caused_by (error.Leaf leaf.Missing) why seen ds is ends = absurd is
caused_by (error.Leaf (leaf.Node q n)) why seen ds is ends =
    subst (λ (r : Refusal). IsRefusedBy r seen ds) (sym is.2) ends
caused_by error.Lost why seen ds is ends = absurd is

unsound_turned : (cause : ReadError) (seen : List Event) (ds : List Deed)
    → IsUnsound (refusal cause) → EndsBy cause seen ds → AreTurned false ds
unsound_turned (error.Leaf (leaf.Step (step.Fault which))) seen ds is ends = absurd is
unsound_turned (error.Leaf (leaf.Step (step.Halted which))) seen ds is ends = absurd is
unsound_turned (error.Leaf (leaf.Step step.Memory)) seen ds is ends = absurd is
unsound_turned (error.Leaf leaf.Busy) seen ds is ends = ends
unsound_turned (error.Leaf leaf.Outside) seen ds is ends = ends
unsound_turned (error.Leaf leaf.Missing) seen ds is ends = ends
unsound_turned (error.Leaf (leaf.Node q n)) seen ds is ends = absurd is
unsound_turned error.Lost seen ds is ends = ends

-- ---- of a seat

module _ {C B : Type 0} (cache_facts : C → DiskFacts) (backing_facts : B → DiskFacts)
    (p : PartsView (CorePart C B)) where
  -- the pieces of a line behind what was read before them
  record MoreRead (of : LineNumber) (ps : List Piece) (values : List Value) (es : List Entry)
      (t w : View cache_facts backing_facts) : Type 0 where
    entries : List Entry
    read : HasRead cache_facts backing_facts false (es ++ entries) t w
    are : AreReads of.worker of.line ps values entries

  more_read : (of : LineNumber) (ps : List Piece) (values : List Value) (es : List Entry)
      (t v w : View cache_facts backing_facts) → HasRead cache_facts backing_facts false es t v
      → HasReadPieces cache_facts backing_facts p of ps values v w
      → MoreRead of ps values es t w
  more_read of [] values es t v w before h = record {
    entries = [];
    read = subst (λ (l : List Entry). HasRead cache_facts backing_facts false l t w)
        (sym (append-nil es))
        (subst (λ (x : View cache_facts backing_facts).
        HasRead cache_facts backing_facts false es t x) (sym h.1) before);
    are = (h.0, refl);
  }
  more_read of (q ∷ qs) values es t v w before h =
      let one = entry.Read of.worker of.line q.first h.0 in
      let rest = more_read of qs h.1 (es ++ one ∷ []) t h.2 w
      (then_read cache_facts backing_facts false es (one ∷ []) t v h.2 before
      (piece_read cache_facts backing_facts p q.first q.count of h.0 v h.2 h.5)) h.6 in record {
        entries = one ∷ rest.entries;
        read = subst (λ (l : List Entry). HasRead cache_facts backing_facts false l t w)
            (append_assoc es (one ∷ []) rest.entries) rest.read;
        are = (h.0, h.1, rest.entries, h.3, h.4, refl, rest.are);
      }

  nothing_read : (v : View cache_facts backing_facts) → IsCoreSeat cache_facts backing_facts v
      → HasRead cache_facts backing_facts false [] v v
  nothing_read v seat =
      none_read cache_facts backing_facts v v (done_none cache_facts backing_facts v seat)

  pub line_read : (job : Job) (values : List Value) (v w : View cache_facts backing_facts)
      → IsCoreSeat cache_facts backing_facts v
      → HasReadLine cache_facts backing_facts p job values v w
      → HasAnsweredRead cache_facts backing_facts p job (Runs job.first values) v w
  line_read job values v w seat h =
      let all = more_read (line_of job) (pieces job.first job.count) values [] v v w
      (nothing_read v seat) h.1 in record {
        deeds = all.read.deeds;
        done = all.read.done;
        keeping = keeping_of all.read.deeds all.read.reads.reading;
        serves = (
          h.0,
          refl,
          subst (λ (l : List Entry).
              AreReads job.worker job.line (pieces job.first job.count) values l)
              (sym all.read.reads.entries_are) all.are,
        );
        caused = (all.read.reads.reading, all.read.reads.turned);
        did = h;
      }

  -- ---- a line that wasn't answered

  record IsRefused (job : Job) (cause : ReadError) (v w : View cache_facts backing_facts) : Type 0
    where
      deeds : List Deed
      done : HasDone cache_facts backing_facts deeds v w
      reading : AreReading deeds
      part : ServesPartRead job.size job.worker job.line job.first job.count (entries_by deeds)
      ends : EndsBy cause w.seen deeds

  refused_at : (job : Job) (e : RequestError) (v w : View cache_facts backing_facts)
      → IsCoreSeat cache_facts backing_facts v
      → (h : HasRefusedAt cache_facts backing_facts p e job v w)
      → IsRefused job h.stop.cause v w
  refused_at job e v w seat h =
      let cause = h.stop.cause in
      let all = more_read (line_of job) h.served h.values [] v v h.at (nothing_read v seat)
      h.reads in
      let last = piece_stops cache_facts backing_facts p h.refused.first h.refused.count cause
      h.at w h.stop.stop in
      let ds = all.read.deeds in
      let known = line_ends cause w.seen (all.entries ++ []) (ds ++ last.before) last.after
      (stops_behind cause w.seen all.entries [] ds last.before all.read.reads last.stops)
      last.release in
      let same = append_assoc ds last.before last.after in record {
        deeds = ds ++ (last.before ++ last.after);
        done = done_both cache_facts backing_facts ds (last.before ++ last.after) v h.at w
            all.read.done last.done;
        reading = subst AreReading same known.reading;
        part = (
          h.inside,
          h.served,
          h.refused,
          h.values,
          h.up_to,
          subst (λ (l : List Entry). AreReads job.worker job.line h.served h.values l)
              (sym (ap entries_by (sym same) ∙ known.entries_are ∙ append-nil all.entries)) all.are,
        );
        ends = subst (EndsBy cause w.seen) same known.ends;
      }

  answered_so : (job : Job) (e : RequestError) (why : Refusal)
      (v w : View cache_facts backing_facts) → IsCoreSeat cache_facts backing_facts v
      → IsRefusalOf e why → HasRefusedAt cache_facts backing_facts p e job v w
      → HasNotReadLine cache_facts backing_facts p e job v w
      → HasAnsweredRead cache_facts backing_facts p job (Refused why) v w
  answered_so job e why v w seat is h none =
      let cause = h.stop.cause in
      let here : IsRefusalOf (refusal cause) why =
      subst (λ (x : RequestError). IsRefusalOf x why) h.stop.is is in
      let all = refused_at job e v w seat h in record {
        deeds = all.deeds;
        done = all.done;
        keeping = keeping_of all.deeds all.reading;
        serves = serves_part cause why job (entries_by all.deeds) here all.part;
        caused = (all.reading, caused_by cause why w.seen all.deeds here all.ends);
        did = (e, is, none);
      }

  outside : (job : Job) (why : Refusal) (v w : View cache_facts backing_facts)
      → IsCoreSeat cache_facts backing_facts v → why ≡ refusals.OutOfRange
      → HasNotReadLine cache_facts backing_facts p request.OutOfRange job v w
      → HasAnsweredRead cache_facts backing_facts p job (Refused why) v w
  outside job why v w seat is h = subst (λ (r : Refusal).
      HasAnsweredRead cache_facts backing_facts p job (Refused r) v w) (sym is) (record {
        deeds = [];
        done = subst (λ (x : View cache_facts backing_facts).
            HasDone cache_facts backing_facts [] v x) (sym h.1)
            (done_none cache_facts backing_facts v seat);
        keeping = tt;
        serves = (h.0, refl);
        caused = (tt, refl);
        did = (request.OutOfRange, refl, h);
      })

  pub line_refused : (job : Job) (e : RequestError) (why : Refusal)
      (v w : View cache_facts backing_facts) → IsCoreSeat cache_facts backing_facts v
      → IsRefusalOf e why → HasNotReadLine cache_facts backing_facts p e job v w
      → HasAnsweredRead cache_facts backing_facts p job (Refused why) v w
  line_refused job request.OutOfRange why v w seat is h = outside job why v w seat is h
  line_refused job (request.Fault d) why v w seat is h =
      answered_so job (request.Fault d) why v w seat is h h
  line_refused job (request.Halted d) why v w seat is h =
      answered_so job (request.Halted d) why v w seat is h h
  line_refused job request.Memory why v w seat is h =
      answered_so job request.Memory why v w seat is h h
  line_refused job (request.Node q n) why v w seat is h =
      answered_so job (request.Node q n) why v w seat is h h
  line_refused job request.Busy why v w seat is h = absurd is
  line_refused job request.Outside why v w seat is h = absurd is
  line_refused job request.Missing why v w seat is h = absurd is
  line_refused job request.Lost why v w seat is h = absurd is

  stopped_so : (job : Job) (e : RequestError) (v w : View cache_facts backing_facts)
      → IsCoreSeat cache_facts backing_facts v → IsUnsound e
      → HasRefusedAt cache_facts backing_facts p e job v w
      → HasNotReadLine cache_facts backing_facts p e job v w
      → HasStoppedRead cache_facts backing_facts p job e v w
  stopped_so job e v w seat is h none =
      let cause = h.stop.cause in
      let all = refused_at job e v w seat h in record {
        deeds = all.deeds;
        done = all.done;
        reading = all.reading;
        serves = all.part;
        turned = unsound_turned cause w.seen all.deeds
            (subst (λ (x : RequestError). IsUnsound x) h.stop.is is) all.ends;
        unsound = is;
        did = none;
      }

  pub line_stopped : (job : Job) (e : RequestError) (v w : View cache_facts backing_facts)
      → IsCoreSeat cache_facts backing_facts v → IsUnsound e
      → HasNotReadLine cache_facts backing_facts p e job v w
      → HasStoppedRead cache_facts backing_facts p job e v w
  line_stopped job request.OutOfRange v w seat is h = absurd is
  line_stopped job (request.Fault d) v w seat is h = absurd is
  line_stopped job (request.Halted d) v w seat is h = absurd is
  line_stopped job request.Memory v w seat is h = absurd is
  line_stopped job (request.Node q n) v w seat is h = absurd is
  line_stopped job request.Busy v w seat is h = stopped_so job request.Busy v w seat is h h
  line_stopped job request.Outside v w seat is h = stopped_so job request.Outside v w seat is h h
  line_stopped job request.Missing v w seat is h = stopped_so job request.Missing v w seat is h h
  line_stopped job request.Lost v w seat is h = stopped_so job request.Lost v w seat is h h

  -- ---- as a result

  pub answered_result : (r : Result Answer RequestError) (job : Job) (e : RequestError)
      (v w : View cache_facts backing_facts) → IsCoreSeat cache_facts backing_facts v
      → IfOk r (IsRefusedAs e) → HasNotReadLine cache_facts backing_facts p e job v w
      → IfOk r (λ a. HasAnsweredRead cache_facts backing_facts p job a v w)
  answered_result (Ok a) job e v w seat is h = subst (λ (x : Answer).
      HasAnsweredRead cache_facts backing_facts p job x v w) (sym is.1)
      (line_refused job e is.0 v w seat is.2 h)
  answered_result (Err x) job e v w seat is h = tt

  pub stopped_result : (r : Result Answer RequestError) (job : Job) (e : RequestError)
      (v w : View cache_facts backing_facts) → IsCoreSeat cache_facts backing_facts v
      → IfErr r (λ why. (why ≡ e) × IsUnsound e)
      → HasNotReadLine cache_facts backing_facts p e job v w
      → IfErr r (λ why. HasStoppedRead cache_facts backing_facts p job why v w)
  stopped_result (Ok a) job e v w seat is h = tt
  stopped_result (Err x) job e v w seat is h = subst (λ (y : RequestError).
      HasStoppedRead cache_facts backing_facts p job y v w) (sym is.0)
      (line_stopped job e v w seat is.1 h)
