-- When the core allows the steps of an entry.
use Rattle.std.proofs.Common.{◌≡◌, inl, inr, ℕ, zero, suc, ◌+◌, ◌*◌, ◌<◌, ◌≤◌, Bool, true, false, List, [], ◌∷◌, ◌++◌, length, take, drop, Some, None, refl, sym, ap, ◌∙◌, subst, arith}
use Rattle.std.proofs.lemmas.Bool.{lt-ltb}
use Rattle.std.proofs.lemmas.List.{length-drop, length-take-le, take-append-drop}
use Rattle.bc_model.specs.Sector.{Value, at_run, sectors, values_of}
use Rattle.bc_model.proofs.Runs.{at_range}
use Rattle.bc_model.proofs.Sectors.{length_sectors, values_whole}
use Rattle.bc_disk.specs.Disk.{DiskFacts}
use Rattle.bc_record.proofs.Parts.{sector_of_whole}
use Rattle.bc_parts.specs.Seat.{Holds}
use Rattle.bc_seats.specs.Seats.{Since}
use Rattle.bc_books.specs.Invariant.{IsInOrder}
use Rattle.bc_data.specs.Data as flow
use Rattle.bc_data.specs.Enabled as flow_ask
use Rattle.bc_events.specs.Run as core
use Rattle.bc_events.specs.declared.event.Deed.{Deed}
use Rattle.bc_events.specs.declared.event.Deed.TheVariants as deed
use Rattle.bc_events.specs.declared.event.Event.{Event}
use Rattle.bc_events.specs.declared.event.Failure.TheVariants as failure
use Rattle.bc_events.specs.declared.event.Written.TheVariants as written
use Rattle.bc_facts.specs.Seen.{seen_entry}
use Rattle.bc_facts.specs.Whole.{Spell, bytes_of_values}
use Rattle.bc_deed.specs.bc_hand.Seats.{IsCoreSeat, MayDo, by, world}
use Rattle.bc_deed.proofs.of_bc_hand.Knowing.{View, is_plain_at, m}
use Rattle.bc_deed.proofs.May.{low}
use Rattle.bc_journal.specs.Sealed.{AreBytesOf, IsWithin, Sealed, sector_at}
use Rattle.bc_jset.specs.EntryBytes.{IsEntry}
use Rattle.bc_jset.specs.Records.{entry_kind, entry_sectors}
use Rattle.bc_known.specs.Acts.{FailCache, WriteCache}
use Rattle.bc_known.specs.Asked.{AsksWrite}
use Rattle.bc_known.specs.Run.{IsEnabled}
use Rattle.bc_known.specs.Laws.{IsSound}
use Rattle.bc_sealing.specs.bc_machine.World.{CanFollow, FromEach, IsCourseOf, IsSeenFrom, Origin, World, are_plain, data_of, replay}
use Rattle.bc_meta.specs.Entries.{Entry}
use Rattle.bc_meta.specs.Layout.{entry_len}
use Rattle.bc_meta.specs.Records.{Fixed, Nothing, Ready, Records, Safe, Sent, Stage}
use Rattle.bc_shares.specs.Shares.{if_sealed}
use Rattle.bc_whole.specs.State as whole
use Rattle.bc_whole.specs.State.{OfEntry}
use Rattle.bc_whole.specs.Together.{place_of}
use Rattle.bc_whole.proofs.Kept.{Inv}
use Rattle.bc_entry.specs.Entry.{IsReadyEntry, IsSafeEntry}
use Rattle.bc_entry.proofs.Course.{inv_course, is_sealed, order_course, ready_course, safe_course, waits_course}
use Rattle.bc_entry.proofs.Holding.{known_since, known_uncalled, ready_kept, safe_kept}

never : (b : Bool) → b ≡ true → b ≡ false → ⊥
never b is off = cc

-- ---- whole sectors as values and back

turned : (n : ℕ) (bytes : List ℕ) → length bytes ≡ 512 * n
    → bytes_of_values (sectors n bytes) ≡ bytes
turned zero [] whole = refl
turned zero (x ∷ xs) whole = absurd (omega arith)
turned (suc n) bytes whole =
    let one = length-take-le 512 bytes (omega (arith, whole)) in
    let rest : length (drop 512 bytes) ≡ 512 * n = omega (arith, length-drop 512 bytes, whole) in
    ap (λ (v : List ℕ). v ++ bytes_of_values (sectors n (drop 512 bytes)))
    (sector_of_whole (take 512 bytes) one)
    ∙ ap (λ (bs : List ℕ). take 512 bytes ++ bs) (turned n (drop 512 bytes) rest)
    ∙ take-append-drop 512 bytes

values_back : (n : ℕ) (bytes : List ℕ) → length bytes ≡ 512 * n
    → bytes_of_values (values_of bytes) ≡ bytes
values_back n bytes whole =
    ap bytes_of_values (values_whole n bytes whole) ∙ turned n bytes whole

values_long : (n : ℕ) (bytes : List ℕ) → length bytes ≡ 512 * n
    → length (values_of bytes) ≡ n
values_long n bytes whole =
    ap (λ (vs : List Value). length vs) (values_whole n bytes whole) ∙ length_sectors n bytes

-- ---- the sealed entry

pub sealed_is : (g : Stage) (d e : Entry) → if_sealed g d ≡ Some e → d ≡ e
sealed_is Nothing d e is = absurd (cc)
sealed_is Fixed d e is = cc
sealed_is Ready d e is = cc
sealed_is Sent d e is = cc
sealed_is Safe d e is = cc

-- In a state of a run, of an entry that may be written.
module _ (o : Origin) (sound : IsSound o.opening.machine o.parts) (es : List Event)
    (on : IsCourseOf o es) (s : Sealed) (within : IsWithin s) (bytes : List ℕ)
    (are : AreBytesOf s.geometry s.entry bytes) (h : IsReadyEntry s o (replay o es)) where
  abbrev w : whole.Opening
  w = o.opening.machine

  abbrev st : whole.State
  st = (replay o es).machine.whole

  inv : Inv w st
  inv = inv_course o sound es on

  order : IsInOrder w.flow.books st.flow.books
  order = order_course o sound es on

  pub at_is : place_of w.layout st OfEntry ≡ sector_at s.geometry s.place
  at_is = ap (λ (r : Records). st.store.places.ring_next r.bucket) (sym inv.same) ∙ h.sealed.next

  entry_is : st.store.places.records.entry ≡ seen_entry s.geometry s.entry
  entry_is = ap (λ (r : Records). r.entry) (sym inv.same)
      ∙ sealed_is st.parts.records.stage st.parts.records.entry (seen_entry s.geometry s.entry)
      h.sealed.entry

  bucket_is : st.store.places.records.bucket ≡ s.place.bucket
  bucket_is = ap (λ (r : Records). r.bucket) (sym inv.same) ∙ h.sealed.bucket

  long : length (values_of bytes) ≡ entry_sectors s.geometry s.entry
  long = values_long (entry_sectors s.geometry s.entry) bytes are.whole

  spells : Spell (entry_kind s.geometry) (values_of bytes) s.entry
  spells = (
    subst (λ (bs : List ℕ). IsEntry s.geometry.set_magic bs s.entry)
        (sym (values_back (entry_sectors s.geometry s.entry) bytes are.whole)) are.entry,
    sym long,
  )

  spelled : w.layout.entries.spelled tt (values_of bytes) ≡ Some st.store.places.records.entry
  spelled = (h.sealed.layout.entries.spelled tt (values_of bytes)
      (seen_entry s.geometry s.entry)).1 (s.entry, spells, refl) ∙ ap Some (sym entry_is)

  in_journal : s.place.bucket < w.layout.journal
  in_journal = let here = within.place.bucket in let same = h.sealed.layout.journal in
      omega (arith, here, same)

  fits : st.store.places.ring_next st.store.places.records.bucket
      + entry_len w.layout st.store.places.records.entry
      ≤ w.layout.first st.store.places.records.bucket + w.layout.bucket_sectors
  fits =
      let place = at_is in
      let size = ap (entry_len w.layout) entry_is ∙ h.sealed.layout.entries.long tt s.entry in
      let first = ap w.layout.first bucket_is ∙ h.sealed.layout.first s.place.bucket in
      let sectors = h.sealed.layout.bucket_sectors in
      let room = within.inside in
      omega (arith, place, size, first, sectors, room)

  is_fixed : w.flow.books.fixed s.place.bucket ≡ true
  is_fixed = go (w.flow.books.fixed s.place.bucket) refl
    where
      go : (b : Bool) → w.flow.books.fixed s.place.bucket ≡ b → b ≡ true
      go true is = refl
      go false is = let a = (sound.laid.area s.place.bucket is).0 in let b = in_journal in
          absurd (omega (arith, a, b))

  -- a sector of its place lies in that bucket
  sector_is : (t : ℕ) (v : Value) → at_run (place_of w.layout st OfEntry) (values_of bytes) t ≡
      Some v
      → w.flow.books.fixed (w.flow.books.bucket t) ≡ true
  sector_is t v is =
      let range = at_range (place_of w.layout st OfEntry) (values_of bytes) t v is in
      let from = range.0 in
      let to = range.1 in
      let place = at_is in
      let n = long in
      let first = h.sealed.layout.first s.place.bucket in
      let sectors = h.sealed.layout.bucket_sectors in
      let room = within.inside in
      let inside = w.layout.journal_within in
      let in_ = in_journal in
      subst (λ q. w.flow.books.fixed q ≡ true)
      (sym (sound.laid.sector s.place.bucket t (omega (arith, in_, inside))
      (omega (arith, from, place, first)) (omega (arith, to, place, n, first, sectors, room))))
      is_fixed

  spare : (i t : ℕ) → w.flow.books.fixed (w.flow.books.bucket t) ≡ true
      → flow_ask.IsSpare w.flow.books st.flow.books i t
  spare i t fixed = record {
    fresh = order.marked.fresh (w.flow.books.bucket t) (inl fixed) t refl;
    unnamed = order.marked.no_chain (w.flow.books.bucket t) (inl fixed);
    apart = inl (inl fixed);
  }

  can_write : (i : ℕ) → flow_ask.CanWrite w.flow st.flow i flow.JournalEntry
      (place_of w.layout st OfEntry) (values_of bytes)
  can_write i = record {
    places = λ t v is. spare i t (sector_is t v is);
    sendable = ready_course o sound es on h.stage;
  }

  asks : (i : ℕ) → AsksWrite w (replay o es).machine i OfEntry (values_of bytes)
  asks i = (h.stage, (spelled, fits))

  pub writes : (i : ℕ) → st.flow.late i ≡ false
      → IsEnabled w (replay o es).machine i (WriteCache OfEntry (values_of bytes))
  writes i late = record {
    data_allows = (record { heard = inr late; steps = tt; can = can_write i }, tt);
    asks = asks i;
  }

  pub fails : (i : ℕ) → st.flow.late i ≡ false
      → IsEnabled w (replay o es).machine i (FailCache OfEntry (values_of bytes))
  fails i late = record {
    data_allows = (record { heard = inr late; steps = tt; can = can_write i }, tt);
    asks = asks i;
  }

-- ---- deeds

module _ {C B : Type 0} (cache_facts : C → DiskFacts) (backing_facts : B → DiskFacts) where
  module _ (v : View cache_facts backing_facts) (seat : IsCoreSeat cache_facts backing_facts v)
      (cached : are_plain cache_facts backing_facts v.run.start ≡ false) (s : Sealed) where
    -- ---- the end

    ended : (o : Origin) (es : List Event) → IsSound o.opening.machine o.parts
        → o.opening.machine.flow.plain ≡ false → IsCourseOf o es → IsSafeEntry s o (replay o es)
        → (replay o es).machine.whole.flow.halted ≡ false
        → core.IsEnabled o.opening (replay o es) (by v.first deed.Sealed)
    ended o es sound not_plain on h running =
        let safe = safe_course o sound es on h.stage in record {
          seat = lt-ltb v.first 320 (low cache_facts backing_facts v seat);
          course = (
            record {
              data_allows = (
                record {
                  heard = running;
                  steps = (waits_course o sound es on ∙ ap is_sealed safe, tt);
                  can = safe;
                },
                tt,
              );
              asks = h.stage;
            },
            tt,
          );
          fit = tt;
          its_line = tt;
          plain = λ plain. absurd (never o.opening.machine.flow.plain plain not_plain);
        }

    pub may_end : Holds v.parts 3
        → FromEach (world cache_facts backing_facts v) (IsSafeEntry s)
        → MayDo cache_facts backing_facts v deed.Sealed
    may_end journal knows x y at told =
        let seen = at.from (is_plain_at cache_facts backing_facts v x at.since ∙ cached) in
        go x y seen.0 seen.1 at.since (at.running refl)
      where
        go : (x y : World) (o : Origin) → IsSeenFrom o x y → Since (m cache_facts backing_facts) v x
            → (data_of y).halted ≡ false → CanFollow y (by v.first deed.Sealed)
        go x y o seen since = subst (λ (z : World). (data_of z).halted ≡ false
            → CanFollow z (by v.first deed.Sealed)) (sym seen.is) (λ running. record {
              enabled = ended o x.log seen.origin.sound seen.origin.cached seen.course
                  (known_since cache_facts backing_facts v x (IsSafeEntry s) journal (safe_kept s)
                  since
                  knows o seen.origin seen.course) running;
              names = tt;
              number = tt;
            })

    -- ---- the write

    module _ (within : IsWithin s) (bytes : List ℕ) (are : AreBytesOf s.geometry s.entry bytes)
      where
        abbrev write : Deed
        write = deed.CacheWrite (sector_at s.geometry s.place) written.Entry (values_of bytes)

        abbrev fault : Deed
        fault = deed.DeviceFault
            (failure.CacheWrite (sector_at s.geometry s.place) written.Entry (values_of bytes))

        write_enabled : (o : Origin) (es : List Event) → IsSound o.opening.machine o.parts
            → o.opening.machine.flow.plain ≡ false → IsCourseOf o es
            → IsReadyEntry s o (replay o es)
            → (replay o es).machine.whole.flow.late v.first ≡ false
            → core.IsEnabled o.opening (replay o es) (by v.first write)
        write_enabled o es sound not_plain on h late = record {
          seat = lt-ltb v.first 320 (low cache_facts backing_facts v seat);
          course = (writes o sound es on s within bytes are h v.first late, tt);
          fit = at_is o sound es on s within bytes are h;
          its_line = tt;
          plain = λ plain. absurd (never o.opening.machine.flow.plain plain not_plain);
        }

        fault_enabled : (o : Origin) (es : List Event) → IsSound o.opening.machine o.parts
            → o.opening.machine.flow.plain ≡ false → IsCourseOf o es
            → IsReadyEntry s o (replay o es)
            → (replay o es).machine.whole.flow.late v.first ≡ false
            → core.IsEnabled o.opening (replay o es) (by v.first fault)
        fault_enabled o es sound not_plain on h late = record {
          seat = lt-ltb v.first 320 (low cache_facts backing_facts v seat);
          course = (fails o sound es on s within bytes are h v.first late, tt);
          fit = at_is o sound es on s within bytes are h;
          its_line = tt;
          plain = λ plain. absurd (never o.opening.machine.flow.plain plain not_plain);
        }

        module _ (journal : Holds v.parts 3) (cache : Holds v.parts 4)
            (knows : FromEach (world cache_facts backing_facts v) (IsReadyEntry s))
            (untold : v.heard ≡ None) where
          knows_at : (x : World) → Since (m cache_facts backing_facts) v x
              → FromEach x (IsReadyEntry s)
          knows_at x since = known_uncalled cache_facts backing_facts v x (IsReadyEntry s) journal
              cache (ready_kept s) since knows

          may_write : MayDo cache_facts backing_facts v write
          may_write x y at told =
              let seen = at.from (is_plain_at cache_facts backing_facts v x at.since ∙ cached) in
              go x y seen.0 seen.1 at.since (at.late untold)
            where
              go : (x y : World) (o : Origin) → IsSeenFrom o x y
                  → Since (m cache_facts backing_facts) v x → (data_of y).late v.first ≡ false
                  → CanFollow y (by v.first write)
              go x y o seen since = subst (λ (z : World). (data_of z).late v.first ≡ false
                  → CanFollow z (by v.first write)) (sym seen.is) (λ late. record {
                    enabled = write_enabled o x.log seen.origin.sound seen.origin.cached seen.course
                        (knows_at x since o seen.origin seen.course) late;
                    names = tt;
                    number = tt;
                  })

          may_fail_write : MayDo cache_facts backing_facts v fault
          may_fail_write x y at told =
              let seen = at.from (is_plain_at cache_facts backing_facts v x at.since ∙ cached) in
              go x y seen.0 seen.1 at.since (at.late untold)
            where
              go : (x y : World) (o : Origin) → IsSeenFrom o x y
                  → Since (m cache_facts backing_facts) v x → (data_of y).late v.first ≡ false
                  → CanFollow y (by v.first fault)
              go x y o seen since = subst (λ (z : World). (data_of z).late v.first ≡ false
                  → CanFollow z (by v.first fault)) (sym seen.is) (λ late. record {
                    enabled = fault_enabled o x.log seen.origin.sound seen.origin.cached seen.course
                        (knows_at x since o seen.origin seen.course) late;
                    names = tt;
                    number = tt;
                  })

          -- by whatever place and values these are
          pub may_write_at : (at : ℕ) (values : List Value) → at ≡ sector_at s.geometry s.place
              → values ≡ values_of bytes
              → MayDo cache_facts backing_facts v (deed.CacheWrite at written.Entry values)
          may_write_at at values here are_values = subst
              (λ n. MayDo cache_facts backing_facts v (deed.CacheWrite n written.Entry values))
              (sym here)
              (subst (λ (vs : List Value). MayDo cache_facts backing_facts v
              (deed.CacheWrite (sector_at s.geometry s.place) written.Entry vs)) (sym are_values)
              may_write)

          pub may_fail_write_at : (at : ℕ) (values : List Value) → at ≡ sector_at s.geometry s.place
              → values ≡ values_of bytes → MayDo cache_facts backing_facts v
              (deed.DeviceFault (failure.CacheWrite at written.Entry values))
          may_fail_write_at at values here are_values = subst
              (λ n. MayDo cache_facts backing_facts v
              (deed.DeviceFault (failure.CacheWrite n written.Entry values))) (sym here)
              (subst (λ (vs : List Value). MayDo cache_facts backing_facts v
              (deed.DeviceFault
              (failure.CacheWrite (sector_at s.geometry s.place) written.Entry vs)))
              (sym are_values) may_fail_write)
