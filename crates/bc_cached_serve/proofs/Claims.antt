-- A piece of a line, from its claim to its release: what was read, and how it was stopped.
use Rattle.std.proofs.Common.{◌≡◌, ◌⊎◌, inl, inr, ℕ, true, false, List, [], ◌∷◌, ◌++◌, refl, sym, subst}
use Rattle.bc_serve.proofs.of_bc_deed.Sequence.{done_both}
use Rattle.bc_serve.specs.bc_deed.Asked.{IsHaltedOr}
use Rattle.bc_serve.specs.bc_deed.Flushed.{HasDone}
use Rattle.bc_disk.specs.Disk.{DiskFacts}
use Rattle.bc_disk.specs.declared.disk.Device.{Device}
use Rattle.bc_disk.specs.declared.disk.Device.TheVariants as device
use Rattle.bc_events.specs.declared.event.Deed.{Deed}
use Rattle.bc_events.specs.declared.event.Deed.TheVariants as deed
use Rattle.bc_events.specs.declared.event.Event.{Event}
use Rattle.bc_events.specs.declared.event.Failure.TheVariants as failure
use Rattle.bc_events.specs.declared.event.LineNumber.{LineNumber}
use Rattle.bc_flush.specs.bc_fetch.Fetch.{HasReadOne, HasStoppedAt, node_read}
use Rattle.bc_flush.specs.bc_fetch.declared.error.LeafError.{LeafError}
use Rattle.bc_flush.specs.bc_fetch.declared.error.LeafError.TheVariants as leaf
use Rattle.bc_flight.specs.declared.claim.Share.TheVariants.{Shared}
use Rattle.bc_serve.proofs.of_bc_hand.Knowing.{View}
use Rattle.bc_serve.specs.bc_hand.declared.error.StepError.{StepError}
use Rattle.bc_serve.specs.bc_hand.declared.error.StepError.TheVariants as step
use Rattle.bc_serve.specs.bc_hand.declared.hand.Hand.{Hand}
use Rattle.bc_serve.proofs.of_bc_job.Holding.{halted_still}
use Rattle.bc_serve.specs.bc_machine.World.{cache_among}
use Rattle.bc_serve.specs.bc_machine.declared.part.CorePart.{CorePart}
use Rattle.bc_model.specs.Sector.{Value}
use Rattle.bc_model.specs.declared.history.Entry.TheVariants as entry
use Rattle.bc_parts.specs.Seat.{PartsView}
use Rattle.bc_flush.specs.bc_reader.Claimed.{HasAnswered, HasNotAnswered, HasTried, MayHaveTurned, ReadStop}
use Rattle.bc_flush.specs.bc_reader.Deeds.{IsHaltAt}
use Rattle.bc_flush.specs.bc_reader.Look.{HasSeen, IsStoppedIn, IsWay, LookStop, NotSeen}
use Rattle.bc_flush.specs.bc_reader.declared.error.ReadError.{ReadError}
use Rattle.bc_flush.specs.bc_reader.declared.error.ReadError.TheVariants as error
use Rattle.bc_flush.specs.bc_reader.declared.look.Seen.{Seen}
use Rattle.bc_flush.specs.bc_request.Piece.{HasNotClaimed, HasNotReadPiece, HasReadPiece, HasStoppedUnder}
use Rattle.bc_cached_serve.proofs.Going.{HasRead, Reads, either_read, none_read, reads_both, reads_none, runs_read, then_read}
use Rattle.bc_cached_serve.proofs.Stops.{HasStoppedReading, ReadStops, StepStops, runs_stop, stopped_still, stops_still, then_stopped}

node_reads : (at : ℕ) → Reads false [] (node_read at ∷ [])
node_reads at = record { reading = (tt, tt); entries_are = refl; turned = (tt, tt) }

way_reads : (ds : List Deed) → IsWay ds → Reads false [] ds
way_reads ds (inl is) = subst (Reads false []) (sym is) (reads_none false)
way_reads ds (inr h) = subst (Reads false []) (sym h.1) (node_reads h.0)

look_reads : (number : ℕ) → Reads false [] (deed.Look number ∷ [])
look_reads number = record { reading = (tt, tt); entries_are = refl; turned = (tt, tt) }

claim_reads : (first count : ℕ) → Reads false [] (deed.Claim first count Shared ∷ [])
claim_reads first count = record { reading = (refl, tt); entries_are = refl; turned = (tt, tt) }

release_reads : Reads false [] (deed.Release ∷ [])
release_reads = record { reading = (tt, tt); entries_are = refl; turned = (tt, tt) }

answer_reads : (of : LineNumber) (first : ℕ) (values : List Value)
    → Reads false (entry.Read of.worker of.line first values ∷ [])
    (deed.Answer of first values ∷ [])
answer_reads of first values = record { reading = (tt, tt); entries_are = refl; turned = (tt, tt) }

-- nothing was done, for such a cause
halted_none : (e : StepError) (seen : List Event) → IsHaltedOr e seen → StepStops e seen [] []
halted_none (step.Fault which) seen is = absurd is
halted_none (step.Halted which) seen is = (is, reads_none true)
halted_none step.Memory seen is = reads_none true

module _ {C B : Type 0} (cache_facts : C → DiskFacts) (backing_facts : B → DiskFacts) where
  abbrev HasReadAll : View cache_facts backing_facts → View cache_facts backing_facts → Type 0
  HasReadAll v w = HasRead cache_facts backing_facts false [] v w

  did_read : (ds : List Deed) (v w : View cache_facts backing_facts)
      → HasDone cache_facts backing_facts ds v w → Reads false [] ds → HasReadAll v w
  did_read ds v w done reads = record { deeds = ds; done = done; reads = reads }

  both_read : (u v w : View cache_facts backing_facts) → HasReadAll u v → HasReadAll v w
      → HasReadAll u w
  both_read u v w a b = then_read cache_facts backing_facts false [] [] u v w a b

  abbrev HasStoppedBy : ReadError → View cache_facts backing_facts
      → View cache_facts backing_facts → Type 0
  HasStoppedBy e v w = HasStoppedReading cache_facts backing_facts e [] v w

  -- behind what was read
  both_stopped : (e : ReadError) (u v w : View cache_facts backing_facts) → HasReadAll u v
      → HasStoppedBy e v w → HasStoppedBy e u w
  both_stopped e u v w a b = then_stopped cache_facts backing_facts e [] [] u v w a b

  -- ---- a look

  one_read : (v w : View cache_facts backing_facts) → HasReadOne cache_facts backing_facts v w
      → HasReadAll v w
  one_read v w (inl none) = none_read cache_facts backing_facts v w none
  one_read v w (inr one) = did_read (node_read one.0 ∷ []) v w one.1 (node_reads one.0)

  nothing : (u v w : View cache_facts backing_facts) → HasDone cache_facts backing_facts [] u v
      → HasDone cache_facts backing_facts [] v w → HasReadAll u w
  nothing u v w a b = none_read cache_facts backing_facts u w
      (done_both cache_facts backing_facts [] [] u v w a b)

  -- those that no device call is of
  stops_with : (e : ReadError) (v w : View cache_facts backing_facts) → HasReadAll v w
      → ((ds : List Deed) → Reads false [] ds → ReadStops e w.seen [] ds) → HasStoppedBy e v w
  stops_with e v w a so = record { deeds = a.deeds; done = a.done; stops = so a.deeds a.reads }

  leaf_stops : (first count : ℕ) (e : LeafError) (v w : View cache_facts backing_facts)
      → HasStoppedAt cache_facts backing_facts first count e v w → HasStoppedBy (error.Leaf e) v w
  leaf_stops first count (leaf.Step step.Memory) v w h =
      let a = either_read cache_facts backing_facts true [] v w (one_read v w h) in
      record { deeds = a.deeds; done = a.done; stops = a.reads }
  leaf_stops first count (leaf.Step (step.Fault which)) v w h =
      subst (λ (d : Device). HasStoppedBy (error.Leaf (leaf.Step (step.Fault d))) v w) (sym h.0)
      (record {
        deeds = deed.DeviceFault (failure.Read device.Cache) ∷ [];
        done = h.1;
        stops = record { before = []; reads = reads_none false; is = refl };
      })
  leaf_stops first count (leaf.Step (step.Halted which)) v w h = record {
    deeds = [];
    done = done_both cache_facts backing_facts [] [] v h.0 w h.1 h.3;
    stops = (
      halted_still cache_facts backing_facts h.0 w which h.3.grown h.2,
      reads_none true,
    );
  }
  leaf_stops first count leaf.Busy v w h = stops_with (error.Leaf leaf.Busy) v w
      (both_read v h.at w (none_read cache_facts backing_facts v h.at h.way)
      (nothing h.at h.now w h.did h.then)) (λ ds reads. reads)
  leaf_stops first count leaf.Outside v w h = stops_with (error.Leaf leaf.Outside) v w
      (both_read v h.at w (none_read cache_facts backing_facts v h.at h.way)
      (nothing h.at h.now w h.did h.then)) (λ ds reads. reads)
  leaf_stops first count leaf.Missing v w (inl h) = stops_with (error.Leaf leaf.Missing) v w
      (nothing v h.at w h.way h.then) (λ ds reads. reads)
  leaf_stops first count leaf.Missing v w (inr h) = stops_with (error.Leaf leaf.Missing) v w
      (both_read v h.at w (one_read v h.at h.read)
      (none_read cache_facts backing_facts h.at w h.then)) (λ ds reads. reads)
  leaf_stops first count (leaf.Node q e) v w h = stops_with (error.Leaf (leaf.Node q e)) v w
      (both_read v h.at w (none_read cache_facts backing_facts v h.at h.way)
      (both_read h.at h.now w (did_read (node_read h.range.ptr.offset ∷ []) h.at h.now h.did
      (node_reads h.range.ptr.offset)) (none_read cache_facts backing_facts h.now w h.then)))
      (λ ds reads. reads)

  look_stops : (h : Hand C B) (number first count sectors : ℕ) (e : ReadError)
      (v w : View cache_facts backing_facts)
      → LookStop cache_facts backing_facts h number first count sectors e v w → HasStoppedBy e v w
  look_stops h number first count sectors (error.Leaf (leaf.Step step.Memory)) v w s =
      record { deeds = []; done = s; stops = reads_none true }
  look_stops h number first count sectors (error.Leaf (leaf.Step (step.Fault d))) v w s = absurd s
  look_stops h number first count sectors (error.Leaf (leaf.Step (step.Halted d))) v w s =
      record { deeds = []; done = s.1; stops = (s.0, reads_none true) }
  look_stops h number first count sectors (error.Leaf leaf.Busy) v w s = absurd s
  look_stops h number first count sectors (error.Leaf leaf.Outside) v w s = absurd s
  look_stops h number first count sectors (error.Leaf leaf.Missing) v w s = absurd s
  look_stops h number first count sectors (error.Leaf (leaf.Node q e)) v w s = absurd s
  look_stops h number first count sectors error.Lost v w s =
      record { deeds = []; done = s.1; stops = reads_none false }

  module _ (p : PartsView (CorePart C B)) (first count : ℕ) where
    in_stops : (e : ReadError) (v w : View cache_facts backing_facts)
        → IsStoppedIn cache_facts backing_facts p first count e v w → HasStoppedBy e v w
    in_stops e v w h = both_stopped e v h.from w
        (did_read h.way v h.from h.done (way_reads h.way h.is_way))
        (stopped_still cache_facts backing_facts e [] h.from h.at w
        (look_stops h.hand h.number first count
        (cache_among cache_facts backing_facts p.run.start).sectors e h.from h.at h.stop) h.then)

    unseen_stops : (e : ReadError) (v w : View cache_facts backing_facts)
        → NotSeen cache_facts backing_facts p first count e v w → HasStoppedBy e v w
    unseen_stops (error.Leaf e) v w (inl h) = leaf_stops first count e v w h
    unseen_stops (error.Leaf e) v w (inr h) = in_stops (error.Leaf e) v w h
    unseen_stops error.Lost v w h = in_stops error.Lost v w h

    seen_read : (seen : Seen) (v w : View cache_facts backing_facts) (h : Hand C B)
        → HasSeen cache_facts backing_facts p first count seen v w h → HasReadAll v w
    seen_read seen v w h s = both_read v s.at w
        (did_read (s.way ++ deed.Look s.number ∷ []) v s.at s.done
        (reads_both false [] [] s.way (deed.Look s.number ∷ []) (way_reads s.way s.is_way)
        (look_reads s.number))) (none_read cache_facts backing_facts s.at w s.then)

    -- ---- a try

    tried_read : (values : List Value) (v w : View cache_facts backing_facts)
        → HasTried cache_facts backing_facts p first count values v w → HasReadAll v w
    tried_read values v w h = both_read v h.at w (seen_read h.seen v h.at h.hand h.look)
        (did_read h.reads.0 h.at w h.reads.2
        (runs_read h.seen.runs.items values h.reads.0 h.reads.1))

    back_read : (v w : View cache_facts backing_facts)
        → MayHaveTurned cache_facts backing_facts p first count v w → HasReadAll v w
    back_read v w (inl none) = none_read cache_facts backing_facts v w none
    back_read v w (inr h) = both_read v h.read w (tried_read h.values v h.read h.tried)
        (none_read cache_facts backing_facts h.read w h.then)

    -- all of them were read, and no call failed behind that
    only_read : (e : StepError) (seen : List Event) (ds : List Deed) → IsHaltAt e seen
        → ((which : Device) → e ≡ step.Fault which → ⊥) → Reads true [] ds
        → StepStops e seen [] ds
    only_read (step.Fault which) seen ds halted other reads = absurd (other which refl)
    only_read (step.Halted which) seen ds halted other reads = (halted, reads)
    only_read step.Memory seen ds halted other reads = reads

    try_stops : (e : ReadError) (v w : View cache_facts backing_facts)
        → ReadStop cache_facts backing_facts p first count e v w → HasStoppedBy e v w
    try_stops (error.Leaf (leaf.Step e)) v w (inl h) =
        unseen_stops (error.Leaf (leaf.Step e)) v w h
    try_stops (error.Leaf (leaf.Step e)) v w (inr (inl h)) =
        both_stopped (error.Leaf (leaf.Step e)) v h.at w (seen_read h.seen v h.at h.hand h.look)
        (record {
          deeds = h.stop.1.0;
          done = h.stop.1.2;
          stops = runs_stop e h.seen.runs.items w.seen h.stop.1.0 h.stop.1.1 h.stop.0;
        })
    try_stops (error.Leaf (leaf.Step e)) v w (inr (inr h)) =
        let a = either_read cache_facts backing_facts true [] v w
        (tried_read h.values v w h.tried) in
        record {
          deeds = a.deeds;
          done = a.done;
          stops = only_read e w.seen a.deeds h.halted h.no_fault a.reads;
        }
    try_stops (error.Leaf leaf.Busy) v w h = unseen_stops (error.Leaf leaf.Busy) v w h
    try_stops (error.Leaf leaf.Outside) v w h = unseen_stops (error.Leaf leaf.Outside) v w h
    try_stops (error.Leaf leaf.Missing) v w h = unseen_stops (error.Leaf leaf.Missing) v w h
    try_stops (error.Leaf (leaf.Node q e)) v w h = unseen_stops (error.Leaf (leaf.Node q e)) v w h
    try_stops error.Lost v w h = unseen_stops error.Lost v w h

    -- ---- under the claim

    answered_read : (of : LineNumber) (values : List Value) (v w : View cache_facts backing_facts)
        → HasAnswered cache_facts backing_facts p of first count values v w
        → HasRead cache_facts backing_facts false
        (entry.Read of.worker of.line first values ∷ []) v w
    answered_read of values v w h =
        let es = entry.Read of.worker of.line first values ∷ [] in
        let last = h.answered in
        then_read cache_facts backing_facts false [] es v h.from w (back_read v h.from h.turned)
        (then_read cache_facts backing_facts false [] es h.from last.read w
        (tried_read values h.from last.read last.tried)
        (record {
          deeds = deed.Answer of first values ∷ [];
          done = last.told;
          reads = answer_reads of first values;
        }))

    claim_stops : (e : ReadError) (v w : View cache_facts backing_facts)
        → HasNotAnswered cache_facts backing_facts p first count e v w → HasStoppedBy e v w
    claim_stops e v w h =
        let last = h.stopped in
        both_stopped e v h.from w (back_read v h.from h.turned)
        (stopped_still cache_facts backing_facts e [] h.from last.at w
        (try_stops e h.from last.at last.stop) last.then)

    -- ---- the piece

    pub piece_read : (of : LineNumber) (values : List Value) (v w : View cache_facts backing_facts)
        → HasReadPiece cache_facts backing_facts p of first count values v w
        → HasRead cache_facts backing_facts false
        (entry.Read of.worker of.line first values ∷ []) v w
    piece_read of values v w h =
        let es = entry.Read of.worker of.line first values ∷ [] in
        then_read cache_facts backing_facts false [] es v h.claimed w
        (did_read (deed.Claim first count Shared ∷ []) v h.claimed h.claim
        (claim_reads first count))
        (then_read cache_facts backing_facts false es [] h.claimed h.read w
        (answered_read of values h.claimed h.read h.answered)
        (did_read (deed.Release ∷ []) h.read w h.released release_reads))

    -- It was claimed, and its claim was let go; or nothing was done.
    pub record HasLetGo (e : ReadError) (v w : View cache_facts backing_facts) : Type 0 where
      pub before : List Deed
      pub stops : ReadStops e w.seen [] before
      pub after : List Deed
      pub done : HasDone cache_facts backing_facts (before ++ after) v w
      pub release : (after ≡ deed.Release ∷ [])
          ⊎ ((after ≡ []) × ((which : Device) → e ≡ error.Leaf (leaf.Step (step.Fault which)) → ⊥))

    under_stops : (e : ReadError) (v w : View cache_facts backing_facts)
        → HasStoppedUnder cache_facts backing_facts p first count e v w → HasLetGo e v w
    under_stops e v w h =
        let a = both_stopped e v h.claimed h.read
        (did_read (deed.Claim first count Shared ∷ []) v h.claimed h.claim
        (claim_reads first count))
        (claim_stops e h.claimed h.read h.stop) in
        record {
          before = a.deeds;
          stops = stops_still cache_facts backing_facts e []
              a.deeds (deed.Release ∷ []) h.read w h.released a.stops;
          after = deed.Release ∷ [];
          done = done_both cache_facts backing_facts a.deeds (deed.Release ∷ []) v h.read w a.done
              h.released;
          release = inl refl;
        }

    unclaimed_stops : (e : ReadError) (v w : View cache_facts backing_facts)
        → HasNotClaimed cache_facts backing_facts e v w → HasLetGo e v w
    unclaimed_stops e v w h = subst (λ (x : ReadError). HasLetGo x v w) (sym h.is) (record {
      before = [];
      stops = halted_none h.cause w.seen h.why;
      after = [];
      done = h.done;
      release = inr (refl, (λ which is. no_fault h.cause w.seen h.why which is));
    })
      where
        no_fault : (c : StepError) (seen : List Event) → IsHaltedOr c seen → (which : Device)
            → error.Leaf (leaf.Step c) ≡ error.Leaf (leaf.Step (step.Fault which)) → ⊥
        no_fault (step.Fault d) seen why which is = absurd why
        no_fault (step.Halted d) seen why which is = cc
        no_fault step.Memory seen why which is = cc

    pub piece_stops : (e : ReadError) (v w : View cache_facts backing_facts)
        → HasNotReadPiece cache_facts backing_facts p first count e v w → HasLetGo e v w
    piece_stops e v w (inl h) = unclaimed_stops e v w h
    piece_stops e v w (inr h) = under_stops e v w h
