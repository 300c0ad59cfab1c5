-- When a seat may write past the cache.
use Rattle.std.proofs.Common.{◌≡◌, inl, inr, ℕ, ◌+◌, ◌<◌, ◌≤◌, false, List, length, None, Some, refl, sym, ap, ◌∙◌, subst, arith}
use Rattle.bc_data.specs.Data as flow
use Rattle.bc_data.specs.Data.{claim_of}
use Rattle.bc_data.specs.Enabled as flow_ask
use Rattle.bc_data.specs.Seats.{Claim, Covers}
use Rattle.bc_flush.specs.bc_deed.Asked.{MayWrite}
use Rattle.bc_flush.proofs.of_bc_deed.May.{can_alone, low}
use Rattle.bc_disk.specs.Disk.{DiskFacts}
use Rattle.bc_events.specs.Run.{Opening}
use Rattle.bc_events.specs.declared.event.Deed.{Deed}
use Rattle.bc_events.specs.declared.event.Deed.TheVariants as deed
use Rattle.bc_events.specs.declared.event.Failure.TheVariants as failure
use Rattle.bc_events.specs.declared.event.LineNumber.{LineNumber}
use Rattle.bc_flush.specs.Durable.{AreDurable}
use Rattle.bc_flush.proofs.Putting.{law_lasts}
use Rattle.bc_flush.specs.bc_hand.Seats.{AtDeed, IsCoreSeat, MayDo, by, note, world}
use Rattle.bc_flush.proofs.of_bc_hand.Knowing.{View, is_plain_at, m}
use Rattle.bc_flush.specs.bc_machine.Note.{note_of}
use Rattle.bc_flush.specs.bc_machine.Plain.{worker_of}
use Rattle.bc_flush.specs.bc_machine.World.{CanFollow, FromEach, IsCourseOf, IsOrigin, IsSeenFrom, Origin, World, are_plain, data_of, opening, seen_from}
use Rattle.bc_flush.proofs.of_bc_machine.Viewing.{opening_stays}
use Rattle.bc_model.specs.Sector.{Value}
use Rattle.bc_model.specs.declared.values.Values.{Values}
use Rattle.bc_model.proofs.Runs.{at_range}
use Rattle.bc_seats.specs.Seats.{Since, Waited}
use Rattle.bc_seats.proofs.Knowing.{lasts}
use Rattle.bc_flush.proofs.of_bc_sight.Claims.{claim_since, claim_waited}
use Rattle.bc_around.specs.Bare.{AreBare, AreBareUpTo, IsBareUpTo}

bare_of : (durable s : ℕ) (c : Claim) (n : ℕ) → n ≤ durable → IsBareUpTo n c s
    → flow_ask.IsBare false c durable s
bare_of durable s c n low (inl (looked, none, keys)) =
    inr (inl (looked, none, omega (arith, low, keys)))
bare_of durable s c n low (inr (gone, keys)) = inr (inr (gone, omega (arith, low, keys)))

module _ {C B : Type 0} (cache_facts : C → DiskFacts) (backing_facts : B → DiskFacts) where
  -- what is durable goes on to be so
  durable_since : (v : View cache_facts backing_facts) (x : World) (n : Origin → ℕ)
      → Since (m cache_facts backing_facts) v x
      → FromEach (world cache_facts backing_facts v) (AreDurable n) → FromEach x (AreDurable n)
  durable_since v x n since h = lasts (m cache_facts backing_facts) v x
      (λ (y : World). FromEach y (AreDurable n)) (λ y e may on. law_lasts.durable y e n on) since h

  pub bare_waited : (v u : View cache_facts backing_facts) (first count : ℕ)
      → IsCoreSeat cache_facts backing_facts v → Waited (m cache_facts backing_facts) v u
      → AreBare cache_facts backing_facts first count v
      → AreBare cache_facts backing_facts first count u
  bare_waited v u first count seat waited h = record {
    number = h.number;
    bare = claim_waited cache_facts backing_facts v u seat
        (λ o c. AreBareUpTo (h.number o) first count c) waited h.bare;
    durable = durable_since v (world cache_facts backing_facts u) h.number waited.since h.durable;
  }

  module _ (v : View cache_facts backing_facts) (seat : IsCoreSeat cache_facts backing_facts v)
      (untold : v.heard ≡ None)
      (cached_run : are_plain cache_facts backing_facts v.run.start ≡ false)
      (of : LineNumber) (line : worker_of v.first ≡ of.worker) (first : ℕ) (values : Values)
      (some : 0 < length values)
      (may : MayWrite (note cache_facts backing_facts v) first (length values))
      (bare : AreBare cache_facts backing_facts first (length values) v) where
    covers_it : (y : World) → (note_of y v.first).range ≡ (note cache_facts backing_facts v).range
        → (s : ℕ) → first ≤ s → s < first + length values → Covers (claim_of (data_of y) v.first) s
    covers_it y range s a b =
        let f = ap (λ r. r.first) range in
        let n = ap (λ r. r.count) range in
        let low = may.covered.0 in
        let high = may.covered.1 in (omega arith, omega arith)

    bypass : (x : World) (o : Origin) → IsOrigin x o → IsCourseOf o x.log
        → Since (m cache_facts backing_facts) v x
        → (note_of (seen_from o x) v.first).range ≡ (note cache_facts backing_facts v).range
        → (note_of (seen_from o x) v.first).wrote ≡ (note cache_facts backing_facts v).wrote
        → flow_ask.CanBypass o.opening.machine.flow.plain (claim_of (data_of (seen_from o x))
        v.first)
        (data_of (seen_from o x)).books.journal.durable first values
    bypass x o is course since range wrote = record {
      some = λ none. let zero = ap (λ (l : List Value). length l) none in absurd (omega arith);
      exclusive = ap (λ r. r.exclusive) range ∙ may.exclusive;
      first_write = wrote ∙ may.first_write;
      bare = λ s value here.
          let range_in = at_range first values s value here in (
            covers_it (seen_from o x) range s range_in.0 range_in.1,
            subst (λ p. flow_ask.IsBare p (claim_of (data_of (seen_from o x)) v.first)
                (data_of (seen_from o x)).books.journal.durable s) (sym is.cached)
                (bare_of (data_of (seen_from o x)).books.journal.durable s
                (claim_of (data_of (seen_from o x)) v.first) (bare.number o)
                (durable_since v x bare.number since bare.durable o is course)
                (claim_since cache_facts backing_facts v x seat
                (λ o c. AreBareUpTo (bare.number o) first (length values) c) since bare.bare o is
                course s range_in.0 range_in.1)),
          );
    }

    -- the step in the state x, as it is from an opening
    module _ (d : Deed) (act : flow.Act) (x y : World)
        (at : AtDeed cache_facts backing_facts v d x y) where
      line_at : y.opening.worker v.first ≡ of.worker
      line_at = at.worker ∙ ap (λ (o : Opening). o.worker v.first)
          (opening_stays (opening cache_facts backing_facts v.run.start) v.seen) ∙ line

    pub may_write_around : MayDo cache_facts backing_facts v
        (deed.BackingWrite first (Some of) values)
    may_write_around x y at told =
        let seen = at.from (is_plain_at cache_facts backing_facts v x at.since ∙ cached_run) in
        go x y seen.0 seen.1 at.since at.note.range at.note.wrote (at.late untold)
        (line_at (deed.BackingWrite first (Some of) values)
        (flow.BackingWrite (flow.Around of.line) first values) x y at)
      where
        go : (x y : World) (o : Origin) → IsSeenFrom o x y → Since (m cache_facts backing_facts) v x
            → (note_of y v.first).range ≡ (note cache_facts backing_facts v).range
            → (note_of y v.first).wrote ≡ (note cache_facts backing_facts v).wrote
            → (data_of y).late v.first ≡ false → y.opening.worker v.first ≡ of.worker
            → CanFollow y (by v.first (deed.BackingWrite first (Some of) values))
        go x y o seen since range wrote late line = subst (λ (z : World).
            (note_of z v.first).range ≡ (note cache_facts backing_facts v).range
            → (note_of z v.first).wrote ≡ (note cache_facts backing_facts v).wrote
            → (data_of z).late v.first ≡ false → z.opening.worker v.first ≡ of.worker
            → CanFollow z (by v.first (deed.BackingWrite first (Some of) values)))
            (sym seen.is)
            (λ range wrote late line. can_alone (seen_from o x) v.first
            (deed.BackingWrite first (Some of) values)
            (flow.BackingWrite (flow.Around of.line) first values)
            (low cache_facts backing_facts v seat) refl refl (record {
              heard = inr late;
              steps = tt;
              can = bypass x o seen.origin seen.course since range wrote;
            }) tt line tt tt) range wrote late line

    pub may_fail_around : MayDo cache_facts backing_facts v
        (deed.DeviceFault (failure.BackingWrite first (Some of) values))
    may_fail_around x y at told =
        let seen = at.from (is_plain_at cache_facts backing_facts v x at.since ∙ cached_run) in
        go x y seen.0 seen.1 at.since at.note.range at.note.wrote (at.late untold)
        (line_at (deed.DeviceFault (failure.BackingWrite first (Some of) values))
        (flow.BackingWrite (flow.Around of.line) first values) x y at)
      where
        go : (x y : World) (o : Origin) → IsSeenFrom o x y → Since (m cache_facts backing_facts) v x
            → (note_of y v.first).range ≡ (note cache_facts backing_facts v).range
            → (note_of y v.first).wrote ≡ (note cache_facts backing_facts v).wrote
            → (data_of y).late v.first ≡ false → y.opening.worker v.first ≡ of.worker
            → CanFollow y
            (by v.first (deed.DeviceFault (failure.BackingWrite first (Some of) values)))
        go x y o seen since range wrote late line = subst (λ (z : World).
            (note_of z v.first).range ≡ (note cache_facts backing_facts v).range
            → (note_of z v.first).wrote ≡ (note cache_facts backing_facts v).wrote
            → (data_of z).late v.first ≡ false → z.opening.worker v.first ≡ of.worker
            → CanFollow z
            (by v.first (deed.DeviceFault (failure.BackingWrite first (Some of) values))))
            (sym seen.is)
            (λ range wrote late line. can_alone (seen_from o x) v.first
            (deed.DeviceFault (failure.BackingWrite first (Some of) values))
            (flow.Fail (flow.BackingFault (flow.Around of.line) first values))
            (low cache_facts backing_facts v seat) refl refl (record {
              heard = inr late;
              steps = tt;
              can = bypass x o seen.origin seen.course since range wrote;
            }) tt line tt tt) range wrote late line
