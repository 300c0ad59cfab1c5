-- What a seat knows of an entry goes on to hold while it keeps the journal and the cache device.
use Rattle.std.proofs.Common.{◌≡◌, inl, inr, ℕ, true, false, List, [], Option, Some, None, refl, sym, ap, subst}
use Rattle.std.specs.Prelude.{is_some}
use Rattle.bc_disk.specs.Disk.{DiskFacts}
use Rattle.bc_disk.specs.declared.disk.Device.TheVariants.{Cache}
use Rattle.bc_parts.specs.Seat.{Holds, PartsView}
use Rattle.bc_seats.specs.Seats.{Since}
use Rattle.bc_seats.proofs.Knowing.{still}
use Rattle.bc_events.specs.Columns.{call_by}
use Rattle.bc_events.specs.Run as core
use Rattle.bc_events.specs.declared.event.Deed.{Deed}
use Rattle.bc_events.specs.declared.event.Deed.TheVariants as deed
use Rattle.bc_events.specs.declared.event.Event.{Event}
use Rattle.bc_events.specs.declared.event.Written.TheVariants as written
use Rattle.bc_deed.specs.bc_hand.Seats.{Did, Works, by, numbers, with_part, with_leaves, world}
use Rattle.bc_deed.specs.bc_hand.declared.hand.Hand.{Hand}
use Rattle.bc_deed.proofs.of_bc_hand.Knowing.{View, m}
use Rattle.bc_journal.specs.Sealed.{Sealed}
use Rattle.bc_sealing.specs.bc_machine.Standing.{needs_stay, origin_before}
use Rattle.bc_sealing.specs.bc_machine.World.{FromEach, IsCourseOf, IsOrigin, Origin, World, after, is_call_of, replay}
use Rattle.bc_sealing.specs.bc_machine.declared.part.CorePart.{CorePart}
use Rattle.bc_meta.specs.Records.{Fixed, Nothing, Ready, Safe, Sent, Stage, after_barrier}
use Rattle.bc_needs.specs.Needs.{NeedsFrom}
use Rattle.bc_sealing.specs.Laws.{IsUnwritten, IsWritten, stage_in, writes_entry}
use Rattle.bc_sealing.proofs.Stage.{law_stage}
use Rattle.bc_shares.specs.Shares.{JournalShare, journal_share}
use Rattle.bc_shares.specs.Touched.{touches_journal}
use Rattle.bc_shares.proofs.Law.{law_journal}
use Rattle.bc_entry.specs.Entry.{IsFixedEntry, IsReadyEntry, IsSafeEntry, IsSealedAs, IsWrittenEntry, MakesFirm}

-- ---- what is in hand

behind : {A : Type 0} (n : ℕ) (o : Option A) (ks : List ℕ) (k : ℕ) → Holds ks k
    → Holds (with_part n o ks) k
behind n None ks k h = h
behind n (Some a) ks k h = inr h

here : {A : Type 0} (n : ℕ) (o : Option A) (ks : List ℕ) → is_some o ≡ true
    → Holds (with_part n o ks) n
here n None ks is = absurd (cc)
here n (Some b) ks is = inl refl

pub some_is : {A : Type 0} (o : Option A) (a : A) → o ≡ Some a → is_some o ≡ true
some_is o a is = ap is_some is

pub holds_journal : {C B : Type 0} (h : Hand C B) → is_some h.journal ≡ true
    → Holds (numbers h) 3
holds_journal h is = behind 5 h.backing _ 3 (behind 4 h.cache _ 3 (here 3 h.journal
    (with_part 2 h.buckets (with_part 1 h.flight (with_leaves h.leaves (with_part 0 h.spine []))))
    is))

pub holds_cache : {C B : Type 0} (h : Hand C B) → is_some h.cache ≡ true → Holds (numbers h) 4
holds_cache h is = behind 5 h.backing _ 4 (here 4 h.cache (with_part 3 h.journal
    (with_part 2 h.buckets (with_part 1 h.flight (with_leaves h.leaves (with_part 0 h.spine [])))))
    is)

-- ---- others' events

-- who calls the cache device not at all doesn't write the entry
no_entry : (d : Deed) → is_call_of Cache (call_by d) ≡ false → writes_entry d ≡ false
no_entry (deed.CacheWrite at written.Entry values) off = absurd (cc)
no_entry (deed.CacheWrite at what values) off = refl
no_entry d off = refl

-- an event that doesn't touch the journal keeps it, and one that doesn't call the cache device
-- either
abbrev pub IsKept : (Origin → core.State → Type 0) → Type 0
IsKept P = (o : Origin) (st : core.State) (e : Event) → core.IsEnabled o.opening st e
    → touches_journal e.deed ≡ false → P o st → P o (core.after o.opening st e)

abbrev pub IsKeptUncalled : (Origin → core.State → Type 0) → Type 0
IsKeptUncalled P = (o : Origin) (st : core.State) (e : Event) → core.IsEnabled o.opening st e
    → touches_journal e.deed ≡ false → writes_entry e.deed ≡ false → P o st
    → P o (core.after o.opening st e)

sealed_stays : (s : Sealed) (o : Origin) (st : core.State) (e : Event)
    → core.IsEnabled o.opening st e → touches_journal e.deed ≡ false
    → IsSealedAs s o.opening.machine (journal_share st.machine)
    → IsSealedAs s o.opening.machine (journal_share (core.after o.opening st e).machine)
sealed_stays s o st e on off h = subst (λ (x : JournalShare). IsSealedAs s o.opening.machine x)
    (sym (law_journal o.opening st e on off)) h

pub fixed_kept : (s : Sealed) → IsKeptUncalled (IsFixedEntry s)
fixed_kept s o st e on off other h = record {
  sealed = sealed_stays s o st e on off h.sealed;
  stage = law_stage.unwritten o.opening st e on off other h.stage;
}

pub ready_kept : (s : Sealed) → IsKeptUncalled (IsReadyEntry s)
ready_kept s o st e on off other h = record {
  sealed = sealed_stays s o st e on off h.sealed;
  stage = law_stage.ready o.opening st e on off other h.stage;
}

pub written_kept : (s : Sealed) → IsKept (IsWrittenEntry s)
written_kept s o st e on off h = record {
  sealed = sealed_stays s o st e on off h.sealed;
  stage = law_stage.written o.opening st e on off h.stage;
}

pub safe_kept : (s : Sealed) → IsKept (IsSafeEntry s)
safe_kept s o st e on off h = record {
  sealed = sealed_stays s o st e on off h.sealed;
  stage = law_stage.safe o.opening st e on off h.stage;
}

-- ---- a barrier

firm_stage : (a : Stage) → IsUnwritten a → after_barrier a ≡ Ready
firm_stage Fixed h = refl
firm_stage Ready h = refl
firm_stage Nothing h = absurd h
firm_stage Sent h = absurd h
firm_stage Safe h = absurd h

safe_stage : (a : Stage) → IsWritten a → after_barrier a ≡ Safe
safe_stage Sent h = refl
safe_stage Safe h = refl
safe_stage Nothing h = absurd h
safe_stage Fixed h = absurd h
safe_stage Ready h = absurd h

module _ {C B : Type 0} (cache_facts : C → DiskFacts) (backing_facts : B → DiskFacts) where
  from_each : (x : World) (e : Event) (P Q : Origin → core.State → Type 0)
      → ((o : Origin) → IsOrigin x o → IsCourseOf o x.log
      → core.IsEnabled o.opening (replay o x.log) e
      → P o (replay o x.log) → Q o (core.after o.opening (replay o x.log) e))
      → FromEach x P → FromEach (after x e) Q
  from_each x e P Q makes h o is course =
      let before = origin_before x e o is in
      makes o before course.2 course.0.enabled (h o before course.2)

  pub known_since : (v : View cache_facts backing_facts) (x : World)
      (P : Origin → core.State → Type 0) → Holds v.parts 3 → IsKept P
      → Since (m cache_facts backing_facts) v x
      → FromEach (world cache_facts backing_facts v) P → FromEach x P
  known_since v x P journal kept since h = still (m cache_facts backing_facts) v x
      (λ y. FromEach y P) (λ y e may foreign before. from_each y e P P
      (λ o is course on. kept o (replay o y.log) e on (foreign.1 3 journal)) before) since h

  pub known_uncalled : (v : View cache_facts backing_facts) (x : World)
      (P : Origin → core.State → Type 0) → Holds v.parts 3 → Holds v.parts 4 → IsKeptUncalled P
      → Since (m cache_facts backing_facts) v x
      → FromEach (world cache_facts backing_facts v) P → FromEach x P
  known_uncalled v x P journal cache kept since h = still (m cache_facts backing_facts) v x
      (λ y. FromEach y P) (λ y e may foreign before. from_each y e P P
      (λ o is course on. kept o (replay o y.log) e on (foreign.1 3 journal)
      (no_entry e.deed (foreign.1 4 cache))) before) since h

  -- what a deed of the seat makes of what it knew until then
  pub known_committed : (v w : View cache_facts backing_facts) (d : Deed)
      (P Q : Origin → core.State → Type 0) → (did : Did cache_facts backing_facts (Some d) v w)
      → ((o : Origin) → IsOrigin did.is.before o → IsCourseOf o did.is.before.log
      → core.IsEnabled o.opening (replay o did.is.before.log) (by v.first d)
      → P o (replay o did.is.before.log)
      → Q o (core.after o.opening (replay o did.is.before.log) (by v.first d)))
      → FromEach did.is.before P → FromEach (world cache_facts backing_facts w) Q
  known_committed v w d P Q did makes h = subst (λ x. FromEach x Q) (sym did.is.state)
      (from_each did.is.before (by v.first d) P Q makes h)

  -- what no leaf waits for before it, none waits for behind it
  pub needs_committed : (v w : View cache_facts backing_facts) (d : Deed) (low : ℕ)
      → (did : Did cache_facts backing_facts (Some d) v w)
      → FromEach did.is.before (λ o st. NeedsFrom low st)
      → FromEach (world cache_facts backing_facts w) (λ o st. NeedsFrom low st)
  needs_committed v w d low did h = subst (λ x. FromEach x (λ o st. NeedsFrom low st))
      (sym did.is.state) (needs_stay low did.is.before (by v.first d) h)

  pub makes_firm : (v w : View cache_facts backing_facts) → Holds v.parts 3 → Holds v.parts 4
      → Did cache_facts backing_facts (Some deed.CacheBarrier) v w
      → MakesFirm cache_facts backing_facts v w
  makes_firm v w journal cache did = record {
    ready = λ s h. known_committed v w deed.CacheBarrier (IsFixedEntry s) (IsReadyEntry s) did
        (λ o is course on k. record {
          sealed = sealed_stays s o (replay o did.is.before.log) (by v.first deed.CacheBarrier) on
              refl k.sealed;
          stage = firm_stage (stage_in (replay o did.is.before.log)) k.stage;
        })
        (known_uncalled v did.is.before (IsFixedEntry s) journal cache (fixed_kept s)
        did.is.since h);
    safe = λ s h. known_committed v w deed.CacheBarrier (IsWrittenEntry s) (IsSafeEntry s) did
        (λ o is course on k. record {
          sealed = sealed_stays s o (replay o did.is.before.log) (by v.first deed.CacheBarrier) on
              refl k.sealed;
          stage = safe_stage (stage_in (replay o did.is.before.log)) k.stage;
        })
        (known_since v did.is.before (IsWrittenEntry s) journal (written_kept s) did.is.since h);
  }

  -- a seat that works holds what is in hand
  pub works_journal_held : (p : PartsView (CorePart C B)) (v : View cache_facts backing_facts)
      (h : Hand C B) → Works cache_facts backing_facts p v h → is_some h.journal ≡ true
      → Holds v.parts 3
  works_journal_held p v h works is =
      subst (λ ks. Holds ks 3) (sym works.parts) (holds_journal h is)

  pub works_cache_held : (p : PartsView (CorePart C B)) (v : View cache_facts backing_facts)
      (h : Hand C B) → Works cache_facts backing_facts p v h → is_some h.cache ≡ true
      → Holds v.parts 4
  works_cache_held p v h works is =
      subst (λ ks. Holds ks 4) (sym works.parts) (holds_cache h is)
