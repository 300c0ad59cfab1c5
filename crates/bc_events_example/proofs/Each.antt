-- Events that go on behind the write's line, and that each kind is in the run.
use Rattle.std.proofs.Common.{◌≡◌, ◌+◌, inl, inr, ℕ, zero, suc, false, List, [], ◌∷◌, ◌++◌, Option, Some, None, refl, sym, arith}
use Rattle.bc_disk.specs.declared.disk.Device.TheVariants.{Backing}
use Rattle.bc_flight.specs.declared.claim.Share.TheVariants.{Shared, Exclusive}
use Rattle.bc_books.specs.Index.{Pointer, put}
use Rattle.bc_data.specs.Data.{claim_of}
use Rattle.bc_meta.specs.Facts.{In}
use Rattle.bc_whole.specs.State as whole
use Rattle.bc_whole.proofs.Start.{held}
use Rattle.bc_whole.proofs.Built.{s0}
use Rattle.bc_whole.proofs.Stored.{nine, data_pointer}
use Rattle.bc_whole.proofs.Used.{blank_value}
use Rattle.bc_known_example.proofs.Opened.{sound}
use Rattle.bc_known_example.proofs.Leads as known
use Rattle.bc_events.specs.declared.event.Form.TheVariants as form
use Rattle.bc_events.specs.declared.event.MarkForm.TheVariants as mark
use Rattle.bc_events.specs.declared.event.UnpinKind.TheVariants as unpin
use Rattle.bc_events.specs.declared.event.Written.TheVariants as written
use Rattle.bc_events.specs.declared.event.Failure.TheVariants as failure
use Rattle.bc_events.specs.declared.event.Deed.{Deed}
use Rattle.bc_events.specs.declared.event.Deed.TheVariants as deed
use Rattle.bc_events.specs.declared.event.Event.{Event}
use Rattle.bc_events.specs.Example.{line}
use Rattle.bc_events.specs.Run.{State, IsEnabled}
use Rattle.bc_events_example.specs.Uses.{Kind, Claim, Release, Look, Pin, Unpin, Take, Raise, Ready, CacheRead, CacheWrite, CacheBarrier, BackingRead, BackingWrite, BackingBarrier, InsertWrite, Insert, Candidate, Settle, Seal, Sealed, Install, Mark, Answer, FlushFrom, FlushDone, Durable, LineFrom, LineDone, DeviceFault, HasKind, HasAllDeeds}
use Rattle.bc_events_example.proofs.Stored.{t29}
use Rattle.bc_events_example.proofs.Later.{clean_key, kept_key, gives_one, u1, u2, u3, u4, u5, u6, u7, u8, u9, u10, u11, u12, u13, u14, u15, u16, u17, u18, u19, u20, u21, u22, u23, u24, u25, u26, u27, u28, u29, u30, did_0, did_1, did_2, did_3, did_4, did_5, did_6, did_7, did_8, did_9, did_10, did_11, did_12, did_13, did_14, did_15, did_16, did_17, did_18, did_19, did_20, did_21, did_22, did_23, did_24, did_25, did_26, did_27, did_28, did_29}
use Rattle.bc_events_example.proofs.Leads.{opening, idle, one, does, Leads, stay, go, then}
use Rattle.bc_events_example.proofs.Events.{events as first_events, last, leads as first_leads}

-- once line 5 is done, and line 6 begins
abbrev later : whole.State → State
later s = record {
  machine = known.at s 9;
  line = put last.line 1 (Some (line 6));
}

abbrev later_line_deed : Deed
later_line_deed = deed.LineFrom (line 6)

abbrev round_deed : Deed
round_deed = deed.Mark mark.Begin

abbrev walk_deed : Deed
walk_deed = deed.Mark (mark.Walk 1)

abbrev round_end_deed : Deed
round_end_deed = deed.Mark mark.End

abbrev claim_shared_deed : Deed
claim_shared_deed = deed.Claim 0 1 Shared

abbrev look_deed : Deed
look_deed = deed.Look 1

abbrev cache_read_deed : Deed
cache_read_deed = deed.CacheRead 28 (Some 0) (nine ∷ [])

abbrev answer_deed : Deed
answer_deed = deed.Answer (line 6) 0 (nine ∷ [])

abbrev release_deed : Deed
release_deed = deed.Release

abbrev flush_deed : Deed
flush_deed = deed.FlushFrom (line 6)

abbrev backing_barrier_deed : Deed
backing_barrier_deed = deed.BackingBarrier

abbrev flush_done_deed : Deed
flush_done_deed = deed.FlushDone (line 6)

abbrev claim_alone_deed : Deed
claim_alone_deed = deed.Claim 0 1 Exclusive

abbrev copy_deed : Deed
copy_deed = deed.BackingWrite 0 None (nine ∷ [])

abbrev clean_deed : Deed
clean_deed = deed.Insert 1 (clean_key ∷ []) form.Clean

abbrev unpin_deed : Deed
unpin_deed = deed.Unpin (unpin.Place 29 1)

abbrev pin_one_deed : Deed
pin_one_deed = deed.Pin 30 1 false

abbrev claim_5_deed : Deed
claim_5_deed = deed.Claim 5 1 Shared

abbrev backing_read_deed : Deed
backing_read_deed = deed.BackingRead 5 (blank_value ∷ [])

abbrev kept_data_deed : Deed
kept_data_deed = deed.CacheWrite 30 written.Data (blank_value ∷ [])

abbrev candidate_deed : Deed
candidate_deed = deed.Candidate 0 5 1 30

abbrev settle_deed : Deed
settle_deed = deed.Settle 1 0 (kept_key ∷ [])

abbrev fault_deed : Deed
fault_deed = deed.DeviceFault (failure.Barrier Backing)

abbrev pub later_events : List Event
later_events = one later_line_deed ∷ one round_deed ∷ one walk_deed ∷ one round_end_deed ∷ one claim_shared_deed ∷ one look_deed ∷ one cache_read_deed ∷ one answer_deed ∷ one release_deed ∷ one flush_deed ∷ one backing_barrier_deed ∷ one flush_done_deed ∷ one claim_alone_deed ∷ one look_deed ∷ one cache_read_deed ∷ one look_deed ∷ one copy_deed ∷ one backing_barrier_deed ∷ one clean_deed ∷ one unpin_deed ∷ one release_deed ∷ one pin_one_deed ∷ one claim_5_deed ∷ one look_deed ∷ one backing_read_deed ∷ one kept_data_deed ∷ one candidate_deed ∷ one backing_barrier_deed ∷ one settle_deed ∷ one release_deed ∷ one fault_deed ∷ []

abbrev pub events : List Event
events = first_events ++ later_events

-- ---- each may be done

does_line : IsEnabled opening last (one later_line_deed)
does_line = does last later_line_deed tt refl refl

does_0 : IsEnabled opening (later t29) (one round_deed)
does_0 = does (later t29) round_deed (did_0, tt) tt tt

does_1 : IsEnabled opening (later u1) (one walk_deed)
does_1 = does (later u1) walk_deed (did_1, tt) tt tt

does_2 : IsEnabled opening (later u2) (one round_end_deed)
does_2 = does (later u2) round_end_deed (did_2, tt) tt tt

does_3 : IsEnabled opening (later u3) (one claim_shared_deed)
does_3 = does (later u3) claim_shared_deed (did_3, tt) (omega arith) tt

does_4 : IsEnabled opening (later u4) (one look_deed)
does_4 = does (later u4) look_deed (did_4, tt) tt tt

does_5 : IsEnabled opening (later u5) (one cache_read_deed)
does_5 = does (later u5) cache_read_deed (did_5, tt) (gives_one 0 nine (λ s v. (r : Pointer) × ((claim_of u5.flow 1).sight s ≡ Some r) × (r.place + 0 ≡ 28 + s)) (data_pointer, refl, refl)) tt

does_6 : IsEnabled opening (later u6) (one answer_deed)
does_6 = does (later u6) answer_deed (did_6, tt) tt refl

does_7 : IsEnabled opening (later u7) (one release_deed)
does_7 = does (later u7) release_deed (did_7, tt) tt tt

does_8 : IsEnabled opening (later u8) (one flush_deed)
does_8 = does (later u8) flush_deed (did_8, tt) tt refl

does_9 : IsEnabled opening (later u9) (one backing_barrier_deed)
does_9 = does (later u9) backing_barrier_deed (did_9, tt) tt tt

does_10 : IsEnabled opening (later u10) (one flush_done_deed)
does_10 = does (later u10) flush_done_deed (did_10, tt) tt refl

does_11 : IsEnabled opening (later u11) (one claim_alone_deed)
does_11 = does (later u11) claim_alone_deed (did_11, tt) (omega arith) tt

does_12 : IsEnabled opening (later u12) (one look_deed)
does_12 = does (later u12) look_deed (did_12, tt) tt tt

does_13 : IsEnabled opening (later u13) (one cache_read_deed)
does_13 = does (later u13) cache_read_deed (did_13, tt) (gives_one 0 nine (λ s v. (r : Pointer) × ((claim_of u13.flow 1).sight s ≡ Some r) × (r.place + 0 ≡ 28 + s)) (data_pointer, refl, refl)) tt

does_14 : IsEnabled opening (later u14) (one look_deed)
does_14 = does (later u14) look_deed (did_14, tt) tt tt

does_15 : IsEnabled opening (later u15) (one copy_deed)
does_15 = does (later u15) copy_deed (did_15, tt) tt tt

does_16 : IsEnabled opening (later u16) (one backing_barrier_deed)
does_16 = does (later u16) backing_barrier_deed (did_16, tt) tt tt

does_17 : IsEnabled opening (later u17) (one clean_deed)
does_17 = does (later u17) clean_deed (did_17, tt) tt tt

does_18 : IsEnabled opening (later u18) (one unpin_deed)
does_18 = does (later u18) unpin_deed (did_18, tt) tt tt

does_19 : IsEnabled opening (later u19) (one release_deed)
does_19 = does (later u19) release_deed (did_19, tt) tt tt

does_20 : IsEnabled opening (later u20) (one pin_one_deed)
does_20 = does (later u20) pin_one_deed (did_20, tt) tt tt

does_21 : IsEnabled opening (later u21) (one claim_5_deed)
does_21 = does (later u21) claim_5_deed (did_21, tt) (omega arith) tt

does_22 : IsEnabled opening (later u22) (one look_deed)
does_22 = does (later u22) look_deed (did_22, tt) tt tt

does_23 : IsEnabled opening (later u23) (one backing_read_deed)
does_23 = does (later u23) backing_read_deed (did_23, tt) tt tt

does_24 : IsEnabled opening (later u24) (one kept_data_deed)
does_24 = does (later u24) kept_data_deed (did_24, tt) refl tt

does_25 : IsEnabled opening (later u25) (one candidate_deed)
does_25 = does (later u25) candidate_deed (did_25, tt) tt tt

does_26 : IsEnabled opening (later u26) (one backing_barrier_deed)
does_26 = does (later u26) backing_barrier_deed (did_26, tt) tt tt

does_27 : IsEnabled opening (later u27) (one settle_deed)
does_27 = does (later u27) settle_deed (did_27, tt) tt tt

does_28 : IsEnabled opening (later u28) (one release_deed)
does_28 = does (later u28) release_deed (did_28, tt) tt tt

does_29 : IsEnabled opening (later u29) (one fault_deed)
does_29 = does (later u29) fault_deed (did_29, tt) tt tt

later_leads : Leads last later_events (later u30)
later_leads = go last (one later_line_deed) (later t29) does_line refl
    (go (later t29) (one round_deed) (later u1) does_0 refl
    (go (later u1) (one walk_deed) (later u2) does_1 refl
    (go (later u2) (one round_end_deed) (later u3) does_2 refl
    (go (later u3) (one claim_shared_deed) (later u4) does_3 refl
    (go (later u4) (one look_deed) (later u5) does_4 refl
    (go (later u5) (one cache_read_deed) (later u6) does_5 refl
    (go (later u6) (one answer_deed) (later u7) does_6 refl
    (go (later u7) (one release_deed) (later u8) does_7 refl
    (go (later u8) (one flush_deed) (later u9) does_8 refl
    (go (later u9) (one backing_barrier_deed) (later u10) does_9 refl
    (go (later u10) (one flush_done_deed) (later u11) does_10 refl
    (go (later u11) (one claim_alone_deed) (later u12) does_11 refl
    (go (later u12) (one look_deed) (later u13) does_12 refl
    (go (later u13) (one cache_read_deed) (later u14) does_13 refl
    (go (later u14) (one look_deed) (later u15) does_14 refl
    (go (later u15) (one copy_deed) (later u16) does_15 refl
    (go (later u16) (one backing_barrier_deed) (later u17) does_16 refl
    (go (later u17) (one clean_deed) (later u18) does_17 refl
    (go (later u18) (one unpin_deed) (later u19) does_18 refl
    (go (later u19) (one release_deed) (later u20) does_19 refl
    (go (later u20) (one pin_one_deed) (later u21) does_20 refl
    (go (later u21) (one claim_5_deed) (later u22) does_21 refl
    (go (later u22) (one look_deed) (later u23) does_22 refl
    (go (later u23) (one backing_read_deed) (later u24) does_23 refl
    (go (later u24) (one kept_data_deed) (later u25) does_24 refl
    (go (later u25) (one candidate_deed) (later u26) does_25 refl
    (go (later u26) (one backing_barrier_deed) (later u27) does_26 refl
    (go (later u27) (one settle_deed) (later u28) does_27 refl
    (go (later u28) (one release_deed) (later u29) does_28 refl
    (go (later u29) (one fault_deed) (later u30) does_29 refl stay))))))))))))))))))))))))))))))

leads : Leads (idle s0 7) events (later u30)
leads = then first_events later_events first_leads later_leads

-- ---- each kind

-- the event at a place of a list
abbrev nth : List Event → ℕ → Option Event
nth [] n = None
nth (e ∷ es) zero = Some e
nth (e ∷ es) (suc n) = nth es n

nth_in : (es : List Event) (n : ℕ) (e : Event) → nth es n ≡ Some e → In e es
nth_in [] n e h = absurd (cc)
nth_in (x ∷ xs) zero e h = inl (sym (some_event x e h))
  where
    some_event : (a b : Event) → Some a ≡ Some b → a ≡ b
    some_event a b e = cc
nth_in (x ∷ xs) (suc n) e h = inr (nth_in xs n e h)

each_kind : (k : Kind) → HasKind events k
each_kind Claim = (_, nth_in events 19 _ refl, refl)
each_kind Release = (_, nth_in events 27 _ refl, refl)
each_kind Look = (_, nth_in events 34 _ refl, refl)
each_kind Pin = (_, nth_in events 17 _ refl, refl)
each_kind Unpin = (_, nth_in events 48 _ refl, refl)
each_kind Take = (_, nth_in events 2 _ refl, refl)
each_kind Raise = (_, nth_in events 1 _ refl, refl)
each_kind Ready = (_, nth_in events 15 _ refl, refl)
each_kind CacheRead = (_, nth_in events 35 _ refl, refl)
each_kind CacheWrite = (_, nth_in events 3 _ refl, refl)
each_kind CacheBarrier = (_, nth_in events 8 _ refl, refl)
each_kind BackingRead = (_, nth_in events 53 _ refl, refl)
each_kind BackingWrite = (_, nth_in events 45 _ refl, refl)
each_kind BackingBarrier = (_, nth_in events 39 _ refl, refl)
each_kind InsertWrite = (_, nth_in events 20 _ refl, refl)
each_kind Insert = (_, nth_in events 47 _ refl, refl)
each_kind Candidate = (_, nth_in events 55 _ refl, refl)
each_kind Settle = (_, nth_in events 57 _ refl, refl)
each_kind Seal = (_, nth_in events 9 _ refl, refl)
each_kind Sealed = (_, nth_in events 13 _ refl, refl)
each_kind Install = (_, nth_in events 14 _ refl, refl)
each_kind Mark = (_, nth_in events 30 _ refl, refl)
each_kind Answer = (_, nth_in events 36 _ refl, refl)
each_kind FlushFrom = (_, nth_in events 38 _ refl, refl)
each_kind FlushDone = (_, nth_in events 40 _ refl, refl)
each_kind Durable = (_, nth_in events 26 _ refl, refl)
each_kind LineFrom = (_, nth_in events 0 _ refl, refl)
each_kind LineDone = (_, nth_in events 28 _ refl, refl)
each_kind DeviceFault = (_, nth_in events 59 _ refl, refl)

pub has_all_deeds : HasAllDeeds
has_all_deeds = (
  opening,
  held,
  7,
  (
    events,
    record {
      cached = refl;
      sound = sound;
      course = leads.course;
      each = each_kind;
    },
  ),
)
