-- What requests of lines did serves the lines.
use Rattle.std.proofs.Common.{◌≡◌, ◌⊎◌, inl, inr, ℕ, ◌+◌, ◌-◌, ◌/◌, ◌<◌, ◌≤◌, Bool, true, false, List, [], ◌∷◌, ◌++◌, length, append-nil, refl, sym, ap, ◌∙◌, subst, arith}
use Rattle.bc_model.specs.Sector.{Value}
use Rattle.bc_model.specs.Values.{patterns}
use Rattle.bc_model.specs.Pieces.{Piece, piece_in, pieces_from, pieces, piece_of, writes_of, AreReads, ServedUpTo}
use Rattle.bc_model.specs.declared.history.Entry.{Entry}
use Rattle.bc_model.specs.declared.history.Entry.TheVariants as entry
use Rattle.bc_disk.specs.Disk.{DiskFacts}
use Rattle.bc_disk.specs.declared.disk.Device.{Device}
use Rattle.bc_disk.specs.declared.disk.Device.TheVariants as device
use Rattle.bc_events.specs.declared.event.LineNumber.{LineNumber}
use Rattle.bc_events.specs.declared.event.Deed.{Deed}
use Rattle.bc_plain_laws.specs.bc_hand.Seats.{IsCoreSeat}
use Rattle.bc_plain_laws.proofs.of_bc_hand.Knowing.{View}
use Rattle.bc_job.specs.bc_deed.Flushed.{HasDone}
use Rattle.bc_job.specs.Asked.{line_of}
use Rattle.bc_job.specs.Deeds.{IsHaltOf, AreReadDeeds, WriteStop, read_deeds, writes_deeds}
use Rattle.bc_job.specs.Requests.{HasFlushedFor, HasNotFlushed, HasNotRead, HasNotWritten, HasRead, HasWritten, IsRefusedRead, IsRefusedWrite, WhereOutside}
use Rattle.bc_job.specs.declared.error.RequestError.{RequestError}
use Rattle.bc_job.specs.declared.error.RequestError.TheVariants as request
use Rattle.bc_job.specs.declared.job.Job.{Job}
use Rattle.bc_job.proofs.Looping.{done_none, served_up_to}
use Rattle.bc_script.specs.declared.answer.Answer.{Answer}
use Rattle.bc_script.specs.declared.answer.Answer.TheVariants.{Done, Runs, Refused}
use Rattle.bc_script.specs.declared.answer.Refusal.TheVariants as refusal
use Rattle.bc_script.specs.Served.{MayTry, ServesFlush, ServesRead, forced_writes, writes}
use Rattle.bc_serve.specs.Answered.{HasAnswered, HasAnsweredFlush, HasAnsweredRead, HasAnsweredWrite, WritingServes}
use Rattle.bc_serve.specs.Causes.{CallsBacking, IsCaused, entries_by, has_failed}
use Rattle.bc_serve.specs.Deeds.{AreFlushingDeeds, AreReadingDeeds, AreWritingDeeds}
use Rattle.bc_serve.specs.Refusals.{refusal_of}
use Rattle.bc_serve.proofs.Lists.{calls_both, caused_behind, entries_both}
use Rattle.bc_serve.proofs.Stamps.{AllOwn, all_own, length_patterns, own_up_to, writes_same}
use Rattle.bc_serve.proofs.Stopping.{claimed_only, failed_entries, flush_stop, read_stop, write_stop, written_only}

-- ---- writing

writes_entries : (of : LineNumber) (first : ℕ) (values : List Value) (ps : List Piece)
    → entries_by (writes_deeds false of first values ps) ≡ writes_of of.worker of.line first values ps
writes_entries of first values [] = refl
writes_entries of first values (p ∷ ps) = ap (λ (es : List Entry).
    entry.Write of.worker of.line p.first (piece_of first values p) ∷ es) (writes_entries of first values ps)

forced_entries : (of : LineNumber) (stamp first count : ℕ) (ps : List Piece) → AllOwn stamp first count ps
    → entries_by (writes_deeds true of first (patterns stamp first count) ps)
    ≡ forced_writes of.worker of.line stamp ps
forced_entries of stamp first count [] own = refl
forced_entries of stamp first count (p ∷ ps) own =
    let values = patterns stamp first count in
    ap (λ (vs : List Value). entry.Write of.worker of.line p.first vs
    ∷ entry.Durable of.worker of.line p.first (length vs)
    ∷ entries_by (writes_deeds true of first values ps)) own.0
    ∙ ap (λ n. entry.Write of.worker of.line p.first (patterns stamp p.first p.count)
    ∷ entry.Durable of.worker of.line p.first n
    ∷ entries_by (writes_deeds true of first values ps)) (length_patterns stamp p.first p.count)
    ∙ ap (λ (es : List Entry). entry.Write of.worker of.line p.first (patterns stamp p.first p.count)
    ∷ entry.Durable of.worker of.line p.first p.count ∷ es) (forced_entries of stamp first count ps own.1)

writes_failed : (force : Bool) (of : LineNumber) (first : ℕ) (values : List Value) (ps : List Piece)
    → has_failed (writes_deeds force of first values ps) ≡ false
writes_failed force of first values [] = refl
writes_failed false of first values (p ∷ ps) = writes_failed false of first values ps
writes_failed true of first values (p ∷ ps) = writes_failed true of first values ps

writes_calls : (force : Bool) (of : LineNumber) (first : ℕ) (values : List Value) (ps : List Piece)
    → CallsBacking (writes_deeds force of first values ps)
writes_calls force of first values [] = tt
writes_calls false of first values (p ∷ ps) = (tt, (refl, (tt, writes_calls false of first values ps)))
writes_calls true of first values (p ∷ ps) =
    (tt, (refl, (refl, (tt, (tt, writes_calls true of first values ps)))))

-- what the pieces put into the history
abbrev stamped : Bool → ℕ → ℕ → ℕ → List Piece → List Entry
stamped false worker line stamp ps = writes worker line stamp ps
stamped true worker line stamp ps = forced_writes worker line stamp ps

stamped_entries : (force : Bool) (of : LineNumber) (stamp first count : ℕ) (values : List Value) (ps : List Piece)
    → values ≡ patterns stamp first count → AllOwn stamp first count ps
    → entries_by (writes_deeds force of first values ps) ≡ stamped force of.worker of.line stamp ps
stamped_entries false of stamp first count values ps is own =
    ap (λ (vs : List Value). entries_by (writes_deeds false of first vs ps)) is
    ∙ writes_entries of first (patterns stamp first count) ps
    ∙ writes_same of.worker of.line stamp first count ps own
stamped_entries true of stamp first count values ps is own =
    ap (λ (vs : List Value). entries_by (writes_deeds true of first vs ps)) is
    ∙ forced_entries of stamp first count ps own

all_written : (force : Bool) (size worker line first count stamp : ℕ) (entries : List Entry)
    → first + count ≤ size → entries ≡ stamped force worker line stamp (pieces first count)
    → WritingServes force size worker line first count stamp Done entries
all_written false size worker line first count stamp entries inside is = (inside, is)
all_written true size worker line first count stamp entries inside is = (inside, is)

may_try : (d : Device) → d ≡ device.Backing → (stamp : ℕ) (p : Piece) (tried : List Entry)
    → tried ≡ entry.Tried p.first (patterns stamp p.first p.count) ∷ [] → MayTry d stamp p tried
may_try device.Cache is stamp p tried h = absurd (cc)
may_try device.Backing is stamp p tried h = inr h

-- a refused line of writing: what its last piece left
last_written : (error : RequestError) (force : Bool) (of : LineNumber) (size first count stamp : ℕ)
    (served : List Piece) (refused : Piece) (values : List Value) (last : List Deed) (entries : List Entry)
    → values ≡ patterns stamp refused.first refused.count → first + count ≤ size
    → ServedUpTo first count served refused → WriteStop error force of refused.first values last
    → entries ≡ stamped force of.worker of.line stamp served ++ entries_by last
    → WritingServes force size of.worker of.line first count stamp (Refused (refusal_of error)) entries
last_written request.OutOfRange force of size first count stamp served refused values last entries is inside
    up_to stop all = absurd stop
last_written (request.Fault d) false of size first count stamp served refused values last entries is inside
    up_to stop all = by (failed_entries false of refused.first values last stop.1)
  where
    by : (entries_by last ≡ entry.Tried refused.first values ∷ [])
        ⊎ ((false ≡ true) × (entries_by last ≡ entry.Write of.worker of.line refused.first values ∷ []))
        → WritingServes false size of.worker of.line first count stamp (Refused (refusal.Fault d)) entries
    by (inl tried) = (
      inside,
      served,
      refused,
      entries_by last,
      up_to,
      may_try d stop.0 stamp refused (entries_by last)
          (tried ∙ ap (λ (vs : List Value). entry.Tried refused.first vs ∷ []) is),
      all,
    )
    by (inr (on, wrote)) = absurd (cc)
last_written (request.Fault d) true of size first count stamp served refused values last entries is inside
    up_to stop all = by (failed_entries true of refused.first values last stop.1)
  where
    by : (entries_by last ≡ entry.Tried refused.first values ∷ [])
        ⊎ ((true ≡ true) × (entries_by last ≡ entry.Write of.worker of.line refused.first values ∷ []))
        → WritingServes true size of.worker of.line first count stamp (Refused (refusal.Fault d)) entries
    by (inl tried) = (
      inside,
      served,
      refused,
      entries_by last,
      up_to,
      inl (may_try d stop.0 stamp refused (entries_by last)
          (tried ∙ ap (λ (vs : List Value). entry.Tried refused.first vs ∷ []) is)),
      all,
    )
    by (inr (on, wrote)) = (
      inside,
      served,
      refused,
      entries_by last,
      up_to,
      inr (wrote ∙ ap (λ (vs : List Value). entry.Write of.worker of.line refused.first vs ∷ []) is),
      all,
    )
last_written (request.Halted d) false of size first count stamp served refused values last entries is inside
    up_to (inl claimed) all =
    let quiet = claimed_only refused.first (length values) last claimed in (
      inside,
      served,
      refused,
      up_to,
      all ∙ ap (λ (es : List Entry). writes of.worker of.line stamp served ++ es) quiet.entries
          ∙ append-nil (writes of.worker of.line stamp served),
    )
last_written (request.Halted d) false of size first count stamp served refused values last entries is inside
    up_to (inr (on, wrote)) all = absurd (cc)
last_written (request.Halted d) true of size first count stamp served refused values last entries is inside
    up_to (inl claimed) all = (
      inside,
      served,
      refused,
      entries_by last,
      up_to,
      inl (claimed_only refused.first (length values) last claimed).entries,
      all,
    )
last_written (request.Halted d) true of size first count stamp served refused values last entries is inside
    up_to (inr (on, wrote)) all = (
      inside,
      served,
      refused,
      entries_by last,
      up_to,
      inr ((written_only of refused.first values last wrote).entries
          ∙ ap (λ (vs : List Value). entry.Write of.worker of.line refused.first vs ∷ []) is),
      all,
    )
last_written request.Memory false of size first count stamp served refused values last entries is inside
    up_to stop all =
    let quiet = claimed_only refused.first (length values) last stop in (
      inside,
      served,
      refused,
      up_to,
      all ∙ ap (λ (es : List Entry). writes of.worker of.line stamp served ++ es) quiet.entries
          ∙ append-nil (writes of.worker of.line stamp served),
    )
last_written request.Memory true of size first count stamp served refused values last entries is inside
    up_to stop all = (
      inside,
      served,
      refused,
      entries_by last,
      up_to,
      (claimed_only refused.first (length values) last stop).entries,
      all,
    )

-- ---- reading

pub record AreAnswered (of : LineNumber) (ps : List Piece) (values : List Value) (ds : List Deed) : Type 0 where
  pub reads : AreReads of.worker of.line ps values (entries_by ds)
  pub failed : has_failed ds ≡ false
  pub calls : CallsBacking ds

pub all_read : (of : LineNumber) (ps : List Piece) (values : List Value) (ds : List Deed)
    → AreReadDeeds of ps values ds → AreAnswered of ps values ds
all_read of [] values ds h = record {
  reads = (h.0, ap entries_by h.1);
  failed = ap has_failed h.1;
  calls = subst CallsBacking (sym h.1) tt;
}
all_read of (p ∷ ps) values ds h =
    let rest = all_read of ps h.1 h.2 h.6 in
    let all = read_deeds of p.first p.count h.0 ++ h.2 in record {
      reads = (h.0, h.1, entries_by h.2, h.3, h.4, ap entries_by h.5, rest.reads);
      failed = ap has_failed h.5 ∙ rest.failed;
      calls = subst CallsBacking (sym h.5) (tt, (refl, (tt, (tt, rest.calls))));
    }

-- ---- refused requests

-- what was refused by a piece wasn't out of range
refused_writing : (error : RequestError) (job : Job) (values : List Value) (ds : List Deed)
    → IsRefusedWrite error job values ds
    → WhereOutside error (ds ≡ []) (IsRefusedWrite error job values ds)
refused_writing request.OutOfRange job values ds why = absurd why.stop
refused_writing (request.Fault d) job values ds why = why
refused_writing (request.Halted d) job values ds why = why
refused_writing request.Memory job values ds why = why

refused_reading : (error : RequestError) (job : Job) (ds : List Deed) → IsRefusedRead error job ds
    → WhereOutside error (ds ≡ []) (IsRefusedRead error job ds)
refused_reading request.OutOfRange job ds why = absurd why.stop
refused_reading (request.Fault d) job ds why = why
refused_reading (request.Halted d) job ds why = why
refused_reading request.Memory job ds why = why

module _ {C B : Type 0} (cache_facts : C → DiskFacts) (backing_facts : B → DiskFacts) where
  -- ---- writing

  pub write_done : (v w : View cache_facts backing_facts) (job : Job) (stamp : ℕ) (values : List Value)
      → values ≡ patterns stamp job.first job.count → HasWritten cache_facts backing_facts job values v w
      → HasAnsweredWrite cache_facts backing_facts job stamp Done v w
  write_done v w job stamp values is done =
      let ps = pieces job.first job.count in record {
        deeds = writes_deeds job.force (line_of job) job.first values ps;
        done = done.1;
        did = ap (λ (vs : List Value). writes_deeds job.force (line_of job) job.first vs ps) is;
        serves = all_written job.force job.size job.worker job.line job.first job.count stamp _ done.0
            (stamped_entries job.force (line_of job) stamp job.first job.count values ps is
            (all_own stamp job.first job.count));
        caused = writes_failed job.force (line_of job) job.first values ps;
        calls = writes_calls job.force (line_of job) job.first values ps;
      }

  outside_write : (force : Bool) (size worker line first count stamp : ℕ) → size < first + count
      → WritingServes force size worker line first count stamp (Refused refusal.OutOfRange) []
  outside_write false size worker line first count stamp out = (out, refl)
  outside_write true size worker line first count stamp out = (out, refl)

  outside : (v w : View cache_facts backing_facts) (Are : Answer → List Deed → Type 0)
      (Serves : Answer → List Entry → Type 0) → IsCoreSeat cache_facts backing_facts v → w ≡ v
      → Are (Refused refusal.OutOfRange) [] → Serves (Refused refusal.OutOfRange) []
      → HasAnswered cache_facts backing_facts Are Serves (Refused refusal.OutOfRange) v w
  outside v w Are Serves seat is did serves = record {
    deeds = [];
    done = subst (λ (x : View cache_facts backing_facts). HasDone cache_facts backing_facts [] v x) (sym is)
        (done_none cache_facts backing_facts v seat);
    did = did;
    serves = serves;
    caused = refl;
    calls = tt;
  }

  pub outside_writing : (v : View cache_facts backing_facts) (job : Job) (stamp : ℕ)
      → IsCoreSeat cache_facts backing_facts v → job.size < job.first + job.count
      → HasAnsweredWrite cache_facts backing_facts job stamp (Refused refusal.OutOfRange) v v
  outside_writing v job stamp seat out = outside v v
      (AreWritingDeeds job (patterns stamp job.first job.count))
      (WritingServes job.force job.size job.worker job.line job.first job.count stamp) seat refl
      (request.OutOfRange, refl, refl)
      (outside_write job.force job.size job.worker job.line job.first job.count stamp out)

  stopped_write : (error : RequestError) (v w : View cache_facts backing_facts) (job : Job) (stamp : ℕ)
      (values : List Value) (ds : List Deed) → values ≡ patterns stamp job.first job.count
      → job.first + job.count ≤ job.size → IsHaltOf error w.seen → IsRefusedWrite error job values ds
      → HasDone cache_facts backing_facts ds v w → HasAnsweredWrite cache_facts backing_facts job stamp (Refused (refusal_of error)) v w
  stopped_write error v w job stamp values ds is inside halted why done =
      let of = line_of job in
      let before = writes_deeds job.force of job.first values why.served in
      let owns = own_up_to stamp job.first job.count why.served why.refused why.up_to in
      let part = piece_of job.first values why.refused in
      let stop = write_stop error job.force of why.refused.first part w.seen why.last why.stop halted in record {
        deeds = ds;
        done = done;
        did = (
          error,
          refl,
          subst (λ (vs : List Value). WhereOutside error (ds ≡ [])
              (IsRefusedWrite error job vs ds)) is (refused_writing error job values ds why),
        );
        serves = last_written error job.force of job.size job.first job.count stamp why.served why.refused part
            why.last (entries_by ds)
            (ap (λ (vs : List Value). piece_of job.first vs why.refused) is ∙ owns.1) inside why.up_to why.stop
            (ap entries_by why.deeds ∙ entries_both before why.last
            ∙ ap (λ (es : List Entry). es ++ entries_by why.last)
            (stamped_entries job.force of stamp job.first job.count values why.served is owns.0));
        caused = subst (λ (l : List Deed). IsCaused (Refused (refusal_of error)) w.seen l) (sym why.deeds)
            (caused_behind (Refused (refusal_of error)) w.seen before why.last
            (writes_failed job.force of job.first values why.served) stop.caused);
        calls = subst CallsBacking (sym why.deeds) (calls_both before why.last
            (writes_calls job.force of job.first values why.served) stop.calls);
      }

  pub write_refused : (v w : View cache_facts backing_facts) (job : Job) (stamp : ℕ) (values : List Value)
      (error : RequestError) → IsCoreSeat cache_facts backing_facts v
      → values ≡ patterns stamp job.first job.count
      → HasNotWritten cache_facts backing_facts error job values v w
      → HasAnsweredWrite cache_facts backing_facts job stamp (Refused (refusal_of error)) v w
  write_refused v w job stamp values request.OutOfRange seat is why = outside v w
      (AreWritingDeeds job (patterns stamp job.first job.count))
      (WritingServes job.force job.size job.worker job.line job.first job.count stamp) seat why.1
      (request.OutOfRange, refl, refl)
      (outside_write job.force job.size job.worker job.line job.first job.count stamp why.0)
  write_refused v w job stamp values (request.Fault d) seat is why = let h = why.1 in
      stopped_write (request.Fault d) v w job stamp values h.1.0 is why.0 h.0 h.1.1 h.1.2
  write_refused v w job stamp values (request.Halted d) seat is why = let h = why.1 in
      stopped_write (request.Halted d) v w job stamp values h.1.0 is why.0 h.0 h.1.1 h.1.2
  write_refused v w job stamp values request.Memory seat is why = let h = why.1 in
      stopped_write request.Memory v w job stamp values h.1.0 is why.0 h.0 h.1.1 h.1.2

  -- there was no memory for the values of a line, one sector at least
  pub write_short : (v : View cache_facts backing_facts) (job : Job) (stamp : ℕ)
      → IsCoreSeat cache_facts backing_facts v → job.first + job.count ≤ job.size → 1 ≤ job.count
      → HasAnsweredWrite cache_facts backing_facts job stamp (Refused refusal.Memory) v v
  write_short v job stamp seat inside some =
      let q = job.first / 256 in
      let p = piece_in job.first job.count q in
      let up_to = served_up_to job.first job.count q (omega arith) (omega arith) in
      let none : 0 ≡ q - q = omega arith in
      let values = patterns stamp job.first job.count in
      stopped_write request.Memory v v job stamp values [] refl inside tt
      (record {
        served = [];
        refused = p;
        up_to = subst (λ (ps : List Piece). ServedUpTo job.first job.count ps p)
            (ap (λ n. pieces_from job.first job.count q n) (sym none)) up_to;
        last = [];
        stop = inl refl;
        deeds = refl;
      }) (done_none cache_facts backing_facts v seat)

  -- ---- reading

  pub read_done : (v w : View cache_facts backing_facts) (job : Job) (values : List Value)
      → HasRead cache_facts backing_facts job values v w → HasAnsweredRead cache_facts backing_facts job (Runs job.first values) v w
  read_done v w job values done =
      let h = done.1 in
      let all = all_read (line_of job) (pieces job.first job.count) values h.0 h.1 in record {
        deeds = h.0;
        done = h.2;
        did = h.1;
        serves = (done.0, refl, all.reads);
        caused = all.failed;
        calls = all.calls;
      }

  part_read : (error : RequestError) (job : Job) (served : List Piece) (refused : Piece) (values : List Value)
      (entries : List Entry) → (error ≡ request.OutOfRange → ⊥) → job.first + job.count ≤ job.size
      → ServedUpTo job.first job.count served refused → AreReads job.worker job.line served values entries
      → ServesRead job.size job.worker job.line job.first job.count (Refused (refusal_of error)) entries
  part_read request.OutOfRange job served refused values entries other inside up_to reads = absurd (other refl)
  part_read (request.Fault d) job served refused values entries other inside up_to reads =
      (inside, served, refused, values, up_to, reads)
  part_read (request.Halted d) job served refused values entries other inside up_to reads =
      (inside, served, refused, values, up_to, reads)
  part_read request.Memory job served refused values entries other inside up_to reads =
      (inside, served, refused, values, up_to, reads)

  stopped_read : (error : RequestError) (v w : View cache_facts backing_facts) (job : Job) (ds : List Deed)
      → (error ≡ request.OutOfRange → ⊥) → job.first + job.count ≤ job.size → IsHaltOf error w.seen
      → IsRefusedRead error job ds → HasDone cache_facts backing_facts ds v w
      → HasAnsweredRead cache_facts backing_facts job (Refused (refusal_of error)) v w
  stopped_read error v w job ds other inside halted why done =
      let all = all_read (line_of job) why.served why.values why.before why.reads in
      let stop = read_stop error why.refused.first why.refused.count w.seen why.last why.stop halted in record {
        deeds = ds;
        done = done;
        did = (error, refl, refused_reading error job ds why);
        serves = part_read error job why.served why.refused why.values (entries_by ds) other inside why.up_to
            (subst (λ (es : List Entry). AreReads job.worker job.line why.served why.values es)
            (sym (ap entries_by why.deeds ∙ entries_both why.before why.last
            ∙ ap (λ (es : List Entry). entries_by why.before ++ es) stop.0
            ∙ append-nil (entries_by why.before))) all.reads);
        caused = subst (λ (l : List Deed). IsCaused (Refused (refusal_of error)) w.seen l) (sym why.deeds)
            (caused_behind (Refused (refusal_of error)) w.seen why.before why.last all.failed stop.1.caused);
        calls = subst CallsBacking (sym why.deeds) (calls_both why.before why.last all.calls stop.1.calls);
      }

  pub read_refused : (v w : View cache_facts backing_facts) (job : Job) (error : RequestError)
      → IsCoreSeat cache_facts backing_facts v → HasNotRead cache_facts backing_facts error job v w
      → HasAnsweredRead cache_facts backing_facts job (Refused (refusal_of error)) v w
  read_refused v w job request.OutOfRange seat why = outside v w (AreReadingDeeds job)
      (ServesRead job.size job.worker job.line job.first job.count) seat why.1
      (request.OutOfRange, refl, refl) (why.0, refl)
  read_refused v w job (request.Fault d) seat why = let h = why.1 in
      stopped_read (request.Fault d) v w job h.1.0 (λ is. absurd (cc)) why.0 h.0 h.1.1 h.1.2
  read_refused v w job (request.Halted d) seat why = let h = why.1 in
      stopped_read (request.Halted d) v w job h.1.0 (λ is. absurd (cc)) why.0 h.0 h.1.1 h.1.2
  read_refused v w job request.Memory seat why = let h = why.1 in
      stopped_read request.Memory v w job h.1.0 (λ is. absurd (cc)) why.0 h.0 h.1.1 h.1.2

  -- ---- flushes

  pub flush_done : (v w : View cache_facts backing_facts) (job : Job)
      → HasFlushedFor cache_facts backing_facts (line_of job) v w → HasAnsweredFlush cache_facts backing_facts job Done v w
  flush_done v w job done = record {
    deeds = Rattle.bc_job.specs.Deeds.flush_deeds (line_of job);
    done = done;
    did = refl;
    serves = refl;
    caused = refl;
    calls = (tt, (refl, (tt, tt)));
  }

  begun_serves : (error : RequestError) (worker line : ℕ) (entries : List Entry)
      → (error ≡ request.OutOfRange → ⊥)
      → (entries ≡ []) ⊎ (entries ≡ entry.FlushFrom worker line ∷ [])
      → ServesFlush worker line (Refused (refusal_of error)) entries
  begun_serves request.OutOfRange worker line entries other h = absurd (other refl)
  begun_serves (request.Fault d) worker line entries other h = h
  begun_serves (request.Halted d) worker line entries other h = h
  begun_serves request.Memory worker line entries other h = h

  never_outside : (error : RequestError) (of : LineNumber) (ds : List Deed)
      → Rattle.bc_job.specs.Deeds.FlushStop error of ds → error ≡ request.OutOfRange → ⊥
  never_outside error of ds stop is = subst (λ (e : RequestError). Rattle.bc_job.specs.Deeds.FlushStop e of ds) is stop

  pub flush_refused : (v w : View cache_facts backing_facts) (job : Job) (error : RequestError)
      → HasNotFlushed cache_facts backing_facts error (line_of job) v w
      → HasAnsweredFlush cache_facts backing_facts job (Refused (refusal_of error)) v w
  flush_refused v w job error why =
      let begun = flush_stop error (line_of job) w.seen why.1.0 why.1.1 why.0 in record {
        deeds = why.1.0;
        done = why.1.2;
        did = (error, refl, why.1.1);
        serves = begun_serves error job.worker job.line (entries_by why.1.0)
            (never_outside error (line_of job) why.1.0 why.1.1) begun.entries;
        caused = begun.stop.caused;
        calls = begun.stop.calls;
      }
