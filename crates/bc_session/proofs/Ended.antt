-- What is left of a pair by a run that was closed and did nothing else.
use Rattle.std.proofs.Common.{◌≡◌, ◌⊎◌, inl, inr, ℕ, zero, suc, ◌+◌, Bool, true, false, List, [], ◌∷◌, ◌++◌, Option, Some, None, Ok, Err, refl, sym, ap, ◌∙◌, subst, arith}
use Rattle.std.specs.Prelude.{fold, map, IfErr, OnErr, OnOk}
use Rattle.std.proofs.lemmas.List.Sums.{fold-append}
use Rattle.bc_started.specs.bc_begun.Begin.{parts_of}
use Rattle.bc_disk.specs.Device.{next_count}
use Rattle.bc_disk.specs.Disk.{DiskFacts, IsKept, IsSettled}
use Rattle.bc_disk.specs.declared.disk.Device.{Device}
use Rattle.bc_disk.specs.declared.disk.Device.TheVariants.{Backing}
use Rattle.bc_open.specs.bc_entered.Enter.{KeepsThePair}
use Rattle.bc_started.specs.bc_entry.Put.{put_by}
use Rattle.bc_events.specs.Columns.{halt_of}
use Rattle.bc_events.specs.declared.event.Deed.{Deed}
use Rattle.bc_events.specs.declared.event.Deed.TheVariants as deed
use Rattle.bc_events.specs.declared.event.Event.{Event}
use Rattle.bc_events.specs.declared.event.Failure.TheVariants as failure
use Rattle.bc_started.specs.bc_hand.Seats.{View, by, world}
use Rattle.bc_image.specs.Pair.{Pair}
use Rattle.bc_journal.specs.Sealed.{heads_of, numbers_of}
use Rattle.bc_loaded.specs.declared.loading.Loaded.{Loaded}
use Rattle.bc_started.specs.bc_machine.World.{IsBacking, IsCache, World, after, opening}
use Rattle.bc_started.specs.bc_machine.declared.part.CorePart.{CorePart}
use Rattle.bc_open.specs.Close.{HasDirty}
use Rattle.bc_model.specs.Sector.{Value}
use Rattle.bc_open.specs.Idle.{HasIdled, IsStateOf, MayBeLeft, calls_to}
use Rattle.bc_open.specs.Left.{ChangesState, LeavesThePair}
use Rattle.bc_open.specs.Open.{HasFailed}
use Rattle.bc_open.proofs.Marked.{to_live, to_mark}
use Rattle.bc_open.proofs.States.{changes_again, stored_again, stored_leaves, stored_settled, torn_leaves}
use Rattle.bc_parts.specs.Seat.{PartsView, Run}
use Rattle.bc_recover.specs.Read.{IsReadOf}
use Rattle.bc_replay.specs.Causes.{OfHeld}
use Rattle.bc_replay.specs.declared.held.Survey.{Survey}
use Rattle.bc_started.specs.Start.{HasStarted}
use Rattle.bc_started.specs.Stored.{HasEntry}
use Rattle.bc_started.proofs.Stored.{law_stored}
use Rattle.bc_state.specs.State.{IsCached, super_in}
use Rattle.bc_super.specs.Reading.{ReadsSuper}
use Rattle.bc_super.specs.Super.{data_sectors}
use Rattle.bc_super.specs.Writing.{AreCounted, IsBackingSector, IsBackingStored, IsBackingTorn, IsStored, count_after}
use Rattle.bc_super.specs.declared.backing.BackingSuper.{BackingSuper}
use Rattle.bc_super.specs.declared.state.BackingState.{BackingState}
use Rattle.bc_super.specs.declared.state.BackingState.TheVariants as states
use Rattle.bc_session.specs.Close.{HasClosed, IsBarrierOf, IsLastState, Outcome}
use Rattle.bc_session.specs.Idle.{Tells}
use Rattle.bc_session.specs.Open.{IsRunOver, ready_of}
use Rattle.bc_session.specs.declared.closing.CloseError.{CloseError}
use Rattle.bc_session.specs.declared.closing.CloseError.TheVariants as errors
use Rattle.bc_session.specs.declared.closing.Closed.{Closed}
use Rattle.bc_session.proofs.Alone.{own_more}
use Rattle.bc_session.proofs.Data.{AreOff, barrier_rested, fault_rested, rested}
use Rattle.bc_session.proofs.Left.{both_left}
use Rattle.bc_session.proofs.Seen.{disk_is, keeps, now, put_off}

abbrev failed_last : Deed
failed_last = deed.DeviceFault (failure.Barrier Backing)

-- what the closing did: a barrier, one that failed, or nothing
abbrev IsLast : List Deed → Type 0
IsLast ds = (ds ≡ []) ⊎ ((ds ≡ deed.BackingBarrier ∷ []) ⊎ (ds ≡ failed_last ∷ []))

is_last : (o : Outcome) (ds : List Deed) (seen : List Event) → IsBarrierOf o ds seen → IsLast ds
is_last (Ok u) ds seen is = inr (inl is.0)
is_last (Err errors.Fault) ds seen is = inr (inr is)
is_last (Err (errors.Halted d)) ds seen is = elim is.0 [ inl none ↦ inl none | inr made ↦ inr (inl made) ]
is_last (Err errors.Memory) ds seen is = inl is

module _ {C B : Type 0} (cache_facts : C → DiskFacts) (backing_facts : B → DiskFacts)
    (s : Survey) (b : BackingSuper) (cache : C) (backing : B) (loaded : Loaded)
    (parts : PartsView (CorePart C B)) (seat : View cache_facts backing_facts)
    (over : IsRunOver cache_facts backing_facts s b cache backing loaded parts seat) (dirty : Bool)
    (r : Closed C B) (closed : HasClosed cache_facts backing_facts b dirty seat r) where
  abbrev h : HasStarted cache_facts backing_facts s.supers.geometry s.journal
      (ready_of loaded cache over.part) parts seat
  h = over.started

  abbrev es : List Deed
  es = closed.made.deeds

  abbrev first : World
  first = opening cache_facts backing_facts (parts_of loaded.tree h.beginning)

  abbrev y : World
  y = fold after first (map (by 0) h.deeds)

  run_is : closed.last.run ≡ parts.run
  run_is = closed.made.done.same.run ∙ h.works.run

  seen_is : closed.last.seen ≡ map (by 0) h.deeds ++ map (by 0) es
  seen_is = own_more cache_facts backing_facts seat closed.last h.deeds es h.all h.seen
      closed.made.done closed.seat

  last_is : world cache_facts backing_facts closed.last ≡ fold after y (map (by 0) es)
  last_is = ap (λ (r : Run (CorePart C B)).
      fold after (opening cache_facts backing_facts r.start) closed.last.seen) run_is
      ∙ ap (λ (ps : List (CorePart C B)).
      fold after (opening cache_facts backing_facts ps) closed.last.seen) h.start
      ∙ ap (λ (l : List Event). fold after first l) seen_is
      ∙ fold-append after first (map (by 0) h.deeds) (map (by 0) es)

  last : IsLast es
  last = is_last closed.barrier es closed.last.seen closed.made.is

  -- ---- the cache device

  cache_by : (ds : List Deed) → IsLast ds
      → IsCache {C = C} {B = B} cache_facts backing_facts r.cache (fold after y (map (by 0) ds))
      → IsCache {C = C} {B = B} cache_facts backing_facts r.cache y
  cache_by ds (inl is) on = subst (λ (l : List Deed). IsCache {C = C} {B = B} cache_facts
      backing_facts r.cache (fold after y (map (by 0) l))) is on
  cache_by ds (inr (inl is)) on = record {
    stands = (subst (λ (l : List Deed). IsCache {C = C} {B = B} cache_facts backing_facts r.cache
        (fold after y (map (by 0) l))) is on).stands;
  }
  cache_by ds (inr (inr is)) on = record {
    stands = (subst (λ (l : List Deed). IsCache {C = C} {B = B} cache_facts backing_facts r.cache
        (fold after y (map (by 0) l))) is on).stands;
  }

  pub is_left : IsCache {C = C} {B = B} cache_facts backing_facts r.cache
      (world cache_facts backing_facts seat)
  is_left = subst (λ (x : World). IsCache {C = C} {B = B} cache_facts backing_facts r.cache x)
      (sym (now cache_facts backing_facts s b cache backing loaded parts seat over))
      (cache_by es last (subst (λ (x : World).
      IsCache {C = C} {B = B} cache_facts backing_facts r.cache x) last_is closed.cache))

  keeps_here : KeepsThePair s.supers.geometry s.journal (cache_facts cache) (cache_facts r.cache)
  keeps_here = keeps cache_facts backing_facts s b cache backing loaded parts seat over r.cache is_left

  -- ---- the backing device, before its state is written

  abbrev mid : DiskFacts
  mid = backing_facts closed.between.disk

  -- so many calls more, and these faults
  record Rests (calls faults : ℕ) : Type 0 where
    settled : IsSettled (backing_facts over.between) mid
    calls_are : mid.calls ≡ calls
    faults_are : mid.faults ≡ faults

  abbrev was : DiskFacts
  was = backing_facts over.between

  abbrev CallsOf : Outcome → Type 0
  CallsOf (Ok u) = Rests (next_count was.calls) was.faults
  CallsOf (Err errors.Fault) = Rests (next_count was.calls) (next_count was.faults)
  CallsOf (Err (errors.Halted d)) = Unit {0}
  CallsOf (Err errors.Memory) = Rests was.calls was.faults

  on_last : IsBacking {C = C} cache_facts backing_facts closed.between
      (fold after y (map (by 0) es))
  on_last = subst (λ (x : World).
      IsBacking {C = C} {B = B} cache_facts backing_facts closed.between x) last_is closed.backing

  with_deeds : (ds : List Deed) → es ≡ ds → IsBacking {C = C} {B = B} cache_facts backing_facts
      closed.between (fold after y (map (by 0) ds))
  with_deeds ds is = subst (λ (l : List Deed). IsBacking {C = C} {B = B} cache_facts backing_facts
      closed.between (fold after y (map (by 0) l))) is on_last

  abbrev off : AreOff h.deeds
  off = put_off cache_facts backing_facts s b cache backing loaded parts seat over

  abbrev disk : h.beginning.backing.disk ≡ over.between
  disk = disk_is cache_facts backing_facts s b cache backing loaded parts seat over

  none_done : es ≡ [] → Rests was.calls was.faults
  none_done is =
      let x = rested cache_facts backing_facts loaded.tree h.beginning closed.between h.deeds
      off (with_deeds [] is) in
      record {
        settled = subst (λ (d : B). IsSettled (backing_facts d) mid) disk x.settled;
        calls_are = x.calls ∙ ap (λ (d : B). (backing_facts d).calls) disk;
        faults_are = x.faults ∙ ap (λ (d : B). (backing_facts d).faults) disk;
      }

  barrier_done : es ≡ deed.BackingBarrier ∷ [] → Rests (next_count was.calls) was.faults
  barrier_done is =
      let x = barrier_rested cache_facts backing_facts loaded.tree h.beginning closed.between
      h.deeds off (with_deeds (deed.BackingBarrier ∷ []) is) in
      record {
        settled = subst (λ (d : B). IsSettled (backing_facts d) mid) disk x.settled;
        calls_are = x.calls ∙ ap (λ (d : B). next_count (backing_facts d).calls) disk;
        faults_are = x.faults_are ∙ ap (λ (d : B). (backing_facts d).faults) disk;
      }

  fault_done : es ≡ failed_last ∷ [] → Rests (next_count was.calls) (next_count was.faults)
  fault_done is =
      let x = fault_rested cache_facts backing_facts loaded.tree h.beginning closed.between
      h.deeds off (with_deeds (failed_last ∷ []) is) in
      record {
        settled = subst (λ (d : B). IsSettled (backing_facts d) mid) disk x.settled;
        calls_are = x.calls ∙ ap (λ (d : B). next_count (backing_facts d).calls) disk;
        faults_are = x.faults_are ∙ ap (λ (d : B). next_count (backing_facts d).faults) disk;
      }

  calls_of : (o : Outcome) → IsBarrierOf o es closed.last.seen → CallsOf o
  calls_of (Ok u) is = barrier_done is.0
  calls_of (Err errors.Fault) is = fault_done is
  calls_of (Err (errors.Halted d)) is = tt
  calls_of (Err errors.Memory) is = none_done is

  settled_by : IsLast es → IsSettled was mid
  settled_by (inl is) = (none_done is).settled
  settled_by (inr (inl is)) = (barrier_done is).settled
  settled_by (inr (inr is)) = (fault_done is).settled

  -- it says that its cache may have what it lacks
  says_dirty : IsBackingStored (super_in states.Dirty b) (backing_facts backing) mid
  says_dirty = (
    over.state.0,
    over.state.1,
    stored_settled over.state.0 (backing_facts backing) was mid over.state.2 (settled_by last),
  )

  -- ---- and then

  abbrev end : DiskFacts
  end = backing_facts r.backing

  module _ (marks : Tells dirty loaded.buckets) where
    none_live : ¬ (HasDirty loaded.buckets) → MayBeLeft s states.Clean
    none_live clean = λ p k bucket live. clean (to_mark k.view.geometry k.view.reading
        loaded.buckets (over.is_loaded.are.known p k)
        (data_sectors p.backing_sectors k.view.backing) k.openable.pointers k.openable.once bucket
        live)

    stays_dirty : r.backing ≡ closed.between.disk
        → ChangesState (MayBeLeft s) b (backing_facts backing) end
    stays_dirty same = subst (λ (d : B). ChangesState (MayBeLeft s) b (backing_facts backing)
        (backing_facts d)) (sym same)
        (stored_leaves (MayBeLeft s) b (backing_facts backing) mid states.Dirty tt tt says_dirty)

    says_clean : MayBeLeft s states.Clean → (o : Outcome)
        → OnOk o (IsBackingStored (super_in states.Clean b) mid end)
        → OnErr o (IsBackingTorn (super_in states.Clean b) mid end)
        → ChangesState (MayBeLeft s) b (backing_facts backing) end
    says_clean may (Ok u) stored torn = changes_again (MayBeLeft s) b (backing_facts backing) mid end
        states.Dirty tt tt says_dirty
        (stored_leaves (MayBeLeft s) b mid end states.Clean may tt stored)
    says_clean may (Err e) stored torn = changes_again (MayBeLeft s) b (backing_facts backing) mid
        end states.Dirty tt tt says_dirty
        (torn_leaves (MayBeLeft s) b mid end states.Clean may tt torn says_dirty.2.leaves)

    changes_by : (o : Outcome) (d : Bool) → Tells d loaded.buckets
        → IsLastState backing_facts b d o r.result closed.between.disk r.backing
        → ChangesState (MayBeLeft s) b (backing_facts backing) end
    changes_by (Err why) d tells is = stays_dirty is.1
    changes_by (Ok u) true tells is = stays_dirty is.1
    changes_by (Ok u) false tells is = says_clean (none_live tells) r.result is.ok is.failed

    pub idle_state : ChangesState (MayBeLeft s) b (backing_facts backing) end
    idle_state = changes_by closed.barrier dirty marks closed.state

    pub idle_left : OfHeld (IsReadOf s) (cache_facts cache) (backing_facts backing)
        → ReadsSuper (backing_facts backing) b
        → LeavesThePair (cache_facts cache) (cache_facts r.cache) (backing_facts backing) end
    idle_left read reads = both_left (cache_facts cache) (cache_facts r.cache)
        (backing_facts backing) end s b (MayBeLeft s) read reads keeps_here idle_state

    -- ---- why it wasn't closed

    never_halted : (d : Device) → IsBarrierOf (Err (errors.Halted d)) es closed.last.seen → ⊥
    never_halted d (which, halt) = no_device (halt_of closed.last.seen) d (ap halt_of seen_is
        ∙ ap (λ (l : List Deed). halt_of (map (by 0) l ++ map (by 0) es)) h.put.is
        ∙ elim which [
          | inl none ↦ ap (λ (l : List Deed). halt_of (map (by 0) (put_by h.unsealed
              h.next.sealed h.put.rest h.put.values) ++ map (by 0) l)) none
          | inr made ↦ ap (λ (l : List Deed). halt_of (map (by 0) (put_by h.unsealed
              h.next.sealed h.put.rest h.put.values) ++ map (by 0) l)) made
        ]) halt
      where
        no_device : (o : Option Device) (d : Device) → o ≡ None → o ≡ Some d → ⊥
        no_device o d none some = cc

    -- what the outcome says of the backing device
    abbrev pub CausedBy : CloseError → Type 0
    CausedBy errors.Fault = HasFailed 5 (backing_facts backing) end
    CausedBy (errors.Halted d) = ⊥
    CausedBy errors.Memory = end.faults ≡ (backing_facts backing).faults

    abbrev old : DiskFacts
    old = backing_facts backing

    two_more : (n : ℕ) → was.calls ≡ count_after 2 n → next_count was.calls ≡ count_after 3 n
    two_more n is = ap next_count is

    barrier_failed : (o : Outcome) (why : CloseError) → o ≡ Err why → CallsOf o
        → IsBarrierOf o es closed.last.seen → r.backing ≡ closed.between.disk → CausedBy why
    barrier_failed o errors.Fault is calls made same =
        let x = subst CallsOf is calls in
        record {
          calls = (
            3,
            omega arith,
            omega arith,
            ap (λ (d : B). (backing_facts d).calls) same ∙ x.calls_are
                ∙ two_more old.calls over.calls,
          );
          faults = ap (λ (d : B). (backing_facts d).faults) same ∙ x.faults_are
              ∙ ap next_count over.faults;
        }
    barrier_failed o (errors.Halted d) is calls made same =
        never_halted d (subst (λ (x : Outcome). IsBarrierOf x es closed.last.seen) is made)
    barrier_failed o errors.Memory is calls made same =
        let x = subst CallsOf is calls in
        ap (λ (d : B). (backing_facts d).faults) same ∙ x.faults_are ∙ over.faults

    err_same : (a c : CloseError) → ◌≡◌ {A = Outcome} (Err a) (Err c) → a ≡ c
    err_same a c is = cc

    ok_never : (why : CloseError) → ◌≡◌ {A = Outcome} (Ok tt) (Err why) → ⊥
    ok_never why is = cc

    state_failed : Rests (next_count was.calls) was.faults → (x : Outcome) (why : CloseError)
        → x ≡ Err why → AreCounted 2 x mid end → IfErr x (λ w. w ≡ errors.Fault) → CausedBy why
    state_failed rests (Ok u) why is counted cause = absurd (ok_never why is)
    state_failed rests (Err e) why is (calls, faults) cause =
        subst CausedBy (sym cause ∙ err_same e why is) (record {
          calls = (
            calls.0 + 3,
            omega arith,
            (let few = calls.2 in omega (arith, few)),
            calls.3 ∙ ap (λ n. count_after calls.0 n) (rests.calls_are
                ∙ two_more old.calls over.calls) ∙ count_sum calls.0 old.calls,
          );
          faults = faults ∙ ap next_count (rests.faults_are ∙ over.faults);
        })
      where
        count_sum : (k n : ℕ) → count_after k (count_after 3 n) ≡ count_after (k + 3) n
        count_sum zero n = refl
        count_sum (suc k) n = let up : suc (k + 3) ≡ suc k + 3 = omega arith in
            ap next_count (count_sum k n) ∙ ap (λ m. count_after m n) up

    cause_by : (o : Outcome) (d : Bool) → CallsOf o → IsBarrierOf o es closed.last.seen
        → IsLastState backing_facts b d o r.result closed.between.disk r.backing
        → (why : CloseError) → r.result ≡ Err why → CausedBy why
    cause_by (Err e) d calls made (is, same) why bad =
        barrier_failed (Err e) why (sym is ∙ bad) calls made same
    cause_by (Ok u) true calls made (is, same) why bad = absurd (ok_never why (sym is ∙ bad))
    cause_by (Ok u) false calls made is why bad =
        state_failed calls r.result why bad is.counted is.cause

    pub idle_cause : (why : CloseError) → r.result ≡ Err why → CausedBy why
    idle_cause = cause_by closed.barrier dirty (calls_of closed.barrier closed.made.is)
        closed.made.is closed.state

    -- it wasn't halted
    pub no_halt : (d : Device) → r.result ≡ Err (errors.Halted d) → ⊥
    no_halt d is = idle_cause (errors.Halted d) is

    -- ---- that it was

    entry : HasEntry s.supers.geometry h.next.sealed (cache_facts cache) (cache_facts r.cache)
    entry = law_stored cache_facts backing_facts s.supers.geometry s.journal
        (ready_of loaded cache over.part) parts seat r.cache h is_left

    pub entry_faults : (cache_facts r.cache).faults ≡ (cache_facts cache).faults
    entry_faults = entry.faults

    module _ (before : C) (kept : IsKept (cache_facts before) (cache_facts cache))
        (good : (cache_facts cache).faults ≡ (cache_facts before).faults) where
      abbrev Idle : Type 0
      Idle = HasIdled cache_facts s b before r.cache (backing_facts backing) end

      idled_with : (state : BackingState) → IsCached state
          → ((p : Pair) → (k : IsReadOf s p) → IsStateOf k.view.geometry k.view.reading state)
          → (bytes : Value) → IsBackingSector bytes (super_in state b)
          → IsStored 8 (bytes ∷ []) (backing_facts backing) end
          → end.calls ≡ count_after (calls_to state) (backing_facts backing).calls
          → end.faults ≡ (backing_facts backing).faults → Idle
      idled_with state cached is bytes sector stored calls faults = record {
        between = cache;
        kept = kept;
        good = good;
        journal = record h.next.journal {
          durable = numbers_of h.next.sealed.entry;
          heads = heads_of h.next.sealed.entry;
          sealed = None;
        };
        entered = record {
          next = h.next;
          begun = h.begun;
          bytes = entry.bytes;
          are = entry.are;
          stored = entry.stored;
          calls = entry.calls;
          faults = entry.faults;
          goes_on = refl;
        };
        state = state;
        cached = cached;
        is = is;
        bytes = bytes;
        sector = sector;
        stored = stored;
        calls = calls;
        faults = faults;
      }

      stays_idled : HasDirty loaded.buckets → Rests (next_count was.calls) was.faults
          → r.backing ≡ closed.between.disk → Idle
      stays_idled has rests same = idled_with states.Dirty tt
          (λ p k. to_live k.view.geometry k.view.reading loaded.buckets
          (over.is_loaded.are.known p k) has) says_dirty.0 says_dirty.1
          (subst (λ (d : B). IsStored 8 (says_dirty.0 ∷ []) (backing_facts backing) (backing_facts d))
          (sym same) says_dirty.2)
          (ap (λ (d : B). (backing_facts d).calls) same ∙ rests.calls_are
          ∙ two_more old.calls over.calls)
          (ap (λ (d : B). (backing_facts d).faults) same ∙ rests.faults_are ∙ over.faults)

      clean_idled : ¬ (HasDirty loaded.buckets) → Rests (next_count was.calls) was.faults
          → (x : Outcome) → OnOk x (IsBackingStored (super_in states.Clean b) mid end)
          → AreCounted 2 x mid end → OnOk x Idle
      clean_idled none rests (Ok u) stored counted = idled_with states.Clean tt (none_live none)
          stored.0 stored.1
          (stored_again says_dirty.0 stored.0 (backing_facts backing) mid end says_dirty.2 stored.2)
          (counted.0 ∙ ap (λ n. count_after 2 n) (rests.calls_are ∙ two_more old.calls over.calls))
          (counted.1 ∙ rests.faults_are ∙ over.faults)
      clean_idled none rests (Err e) stored counted = tt

      idled_by : (o : Outcome) (d : Bool) → Tells d loaded.buckets → CallsOf o
          → IsLastState backing_facts b d o r.result closed.between.disk r.backing
          → OnOk r.result Idle
      idled_by (Err e) d tells calls is = subst (λ (x : Outcome). OnOk x Idle) (sym is.0) tt
      idled_by (Ok u) true tells calls is = subst (λ (x : Outcome). OnOk x Idle) (sym is.0)
          (stays_idled tells calls is.1)
      idled_by (Ok u) false tells calls is = clean_idled tells calls r.result is.ok is.counted

      pub idled : OnOk r.result Idle
      idled = idled_by closed.barrier dirty marks (calls_of closed.barrier closed.made.is)
          closed.state
