-- A run that a test opened goes on, and its seat knows what it did.
use Rattle.std.proofs.Common.{◌≡◌, ℕ, false, List, [], ◌∷◌, ◌++◌, Option, Some, None, refl, sym, ap, ◌∙◌, subst}
use Rattle.std.specs.Prelude.{fold, is_some, map}
use Rattle.std.proofs.lemmas.List.{append-nil}
use Rattle.bc_place.specs.bc_deed.Flushed.{HasDone}
use Rattle.bc_place.proofs.of_bc_deed.Sequence.{done_first, one_of}
use Rattle.bc_disk.specs.Disk.{DiskFacts}
use Rattle.bc_events.specs.declared.event.Deed.{Deed}
use Rattle.bc_events.specs.declared.event.Event.{Event}
use Rattle.bc_place.specs.bc_hand.Seats.{Did, IsCoreSeat, Kinds, by, empty, kinds, world}
use Rattle.bc_place.specs.bc_hand.declared.hand.Hand.{Hand}
use Rattle.bc_place.proofs.of_bc_hand.Knowing.{View, m}
use Rattle.bc_journal.specs.Journal.{Journal}
use Rattle.bc_session.specs.bc_loaded.declared.loading.Loaded.{Loaded}
use Rattle.bc_place.specs.bc_machine.Standing.{begun_stays}
use Rattle.bc_place.specs.bc_machine.World.{Begun, FromEach, World, after, are_plain, opening}
use Rattle.bc_place.specs.bc_machine.declared.part.BucketsPart.{BucketsPart}
use Rattle.bc_place.specs.bc_machine.declared.part.CorePart.{CorePart}
use Rattle.bc_parts.specs.Seat.{PartsView, Run}
use Rattle.bc_place.specs.Place.{HasBefore, IsOwn}
use Rattle.bc_place.proofs.Going.{law_before}
use Rattle.bc_replay.specs.declared.held.Survey.{Survey}
use Rattle.bc_seats.specs.Seats.{Waited}
use Rattle.bc_session.specs.Open.{IsRunOver}
use Rattle.bc_session.proofs.Alone.{own_more}
use Rattle.bc_session.proofs.Sectors.{stay}
use Rattle.bc_session.proofs.Seen.{usable_over}
use Rattle.bc_super.specs.Reading.{ReadsSuper}
use Rattle.bc_super.specs.Super.{IsUsable}
use Rattle.bc_super.specs.declared.backing.BackingSuper.{BackingSuper}
use Rattle.bc_session_rows.specs.Run.{IsAlone, IsOpened, KeepsOwn, MayHave}

-- ---- hands

none_of : {A : Type 0} (o : Option A) → is_some o ≡ false → o ≡ None
none_of None is = refl
none_of (Some a) is = absurd (cc)

module _ {C B : Type 0} where
  -- a hand that was empty and has the same kinds of parts is empty
  pub empty_but_buckets : (a b : Hand C B) → a ≡ empty → b ≡ record a { buckets = b.buckets }
      → kinds b ≡ kinds a → b ≡ empty
  empty_but_buckets a b was rest same = rest
      ∙ ap (λ (h : Hand C B). record h { buckets = b.buckets }) was
      ∙ ap (λ (o : Option BucketsPart). record (empty {C = C} {B = B}) { buckets = o })
      (none_of b.buckets (ap (λ (k : Kinds). k.buckets) same
      ∙ ap (λ (h : Hand C B). is_some h.buckets) was))

  pub empty_but_cache : (a b : Hand C B) → a ≡ empty → b ≡ record a { cache = b.cache }
      → is_some b.cache ≡ is_some a.cache → b ≡ empty
  empty_but_cache a b was rest same = rest
      ∙ ap (λ (h : Hand C B). record h { cache = b.cache }) was
      ∙ ap (λ (o : Option C). record (empty {C = C} {B = B}) { cache = o })
      (none_of b.cache (same ∙ ap (λ (h : Hand C B). is_some h.cache) was))

map_both : (i : ℕ) (xs ys : List Deed) → map (by i) (xs ++ ys) ≡ map (by i) xs ++ map (by i) ys
map_both i [] ys = refl
map_both i (x ∷ xs) ys = ap (λ (l : List Event). by i x ∷ l) (map_both i xs ys)

module _ {C B : Type 0} (cache_facts : C → DiskFacts) (backing_facts : B → DiskFacts) where
  -- ---- the seat

  pub alone_done : (v w : View cache_facts backing_facts) (es : List Deed)
      → IsAlone cache_facts backing_facts v → HasDone cache_facts backing_facts es v w
      → IsCoreSeat cache_facts backing_facts w → IsAlone cache_facts backing_facts w
  alone_done v w es h done seat = record {
    all = record {
      first = done.same.first ∙ h.all.first;
      end = done.same.end ∙ h.all.end;
    };
    deeds = h.deeds ++ es;
    seen = own_more cache_facts backing_facts v w h.deeds es h.all h.seen done seat
        ∙ sym (map_both 0 h.deeds es);
  }

  pub alone_did : (v w : View cache_facts backing_facts) (o : Option Deed)
      → IsAlone cache_facts backing_facts v → Did cache_facts backing_facts o v w
      → IsAlone cache_facts backing_facts w
  alone_did v w o h did = alone_done v w (one_of o) h
      (done_first cache_facts backing_facts o v w did) did.seat

  pub alone_waited : (v w : View cache_facts backing_facts)
      → IsAlone cache_facts backing_facts v → Waited (m cache_facts backing_facts) v w
      → IsCoreSeat cache_facts backing_facts w → IsAlone cache_facts backing_facts w
  alone_waited v w h waited seat =
      alone_did v w None h (record { is = waited; seat = seat })

  -- where it did nothing, nothing happened
  world_still : (v w : View cache_facts backing_facts) → IsAlone cache_facts backing_facts v
      → HasDone cache_facts backing_facts [] v w → IsCoreSeat cache_facts backing_facts w
      → world cache_facts backing_facts w ≡ world cache_facts backing_facts v
  world_still v w h done seat =
      let seen : w.seen ≡ v.seen =
      own_more cache_facts backing_facts v w h.deeds [] h.all h.seen done seat
      ∙ append-nil (map (by 0) h.deeds) ∙ sym h.seen in
      ap (λ (r : Run (CorePart C B)).
      fold after (opening cache_facts backing_facts r.start) w.seen) done.same.run
      ∙ ap (λ (es : List Event).
      fold after (opening cache_facts backing_facts v.run.start) es) seen

  pub keeps_still : (v w : View cache_facts backing_facts) → IsAlone cache_facts backing_facts v
      → HasDone cache_facts backing_facts [] v w → IsCoreSeat cache_facts backing_facts w
      → KeepsOwn cache_facts backing_facts v w
  keeps_still v w h done seat p own =
      subst (λ (x : World). FromEach x (IsOwn w.first p)) (sym (world_still v w h done seat))
      (subst (λ i. FromEach (world cache_facts backing_facts v) (IsOwn i p))
      (sym done.same.first) own)

  pub keeps_waited : (v w : View cache_facts backing_facts) → IsAlone cache_facts backing_facts v
      → Waited (m cache_facts backing_facts) v w → IsCoreSeat cache_facts backing_facts w
      → KeepsOwn cache_facts backing_facts v w
  keeps_waited v w h waited seat = keeps_still v w h
      (done_first cache_facts backing_facts None v w (record { is = waited; seat = seat })) seat

  -- ---- what the run began with

  pub before_at : (n : ℕ) (p : PartsView (CorePart C B))
      (v : View cache_facts backing_facts) → IsOpened cache_facts backing_facts n p
      → v.run ≡ p.run → FromEach (world cache_facts backing_facts v) (HasBefore n)
  before_at n p v h run =
      let has : (world cache_facts backing_facts v).begun.journal ≡ Some h.journal =
      ap (λ (k : Begun). k.journal)
      (begun_stays (opening cache_facts backing_facts v.run.start) v.seen)
      ∙ ap (λ (r : Run (CorePart C B)).
      (opening cache_facts backing_facts r.start).begun.journal) run ∙ h.has in
      subst (λ k. FromEach (world cache_facts backing_facts v) (HasBefore k)) h.first
      (law_before (world cache_facts backing_facts v) h.journal has)

  sectors_at : (p : PartsView (CorePart C B)) (v : View cache_facts backing_facts)
      → v.run ≡ p.run → (world cache_facts backing_facts v).backing.sectors
      ≡ (opening cache_facts backing_facts p.run.start).backing.sectors
  sectors_at p v run = stay (opening cache_facts backing_facts v.run.start) v.seen
      ∙ ap (λ (r : Run (CorePart C B)).
      (opening cache_facts backing_facts r.start).backing.sectors) run

  pub usable_at : (b : BackingSuper) (p : PartsView (CorePart C B))
      (v : View cache_facts backing_facts) → MayHave cache_facts backing_facts b p
      → v.run ≡ p.run → IsUsable (world cache_facts backing_facts v).backing.sectors b
  usable_at b p v h run = subst (λ k. IsUsable k b) (sym (sectors_at p v run)) h

  module _ (s : Survey) (b : BackingSuper) (cache : C) (backing : B) (loaded : Loaded)
      (parts : PartsView (CorePart C B)) (seat : View cache_facts backing_facts)
      (over : IsRunOver cache_facts backing_facts s b cache backing loaded parts seat) where
    pub may_have : ReadsSuper (backing_facts backing) b
        → MayHave cache_facts backing_facts b parts
    may_have reads = subst (λ k. IsUsable k b) (sectors_at parts seat over.started.works.run)
        (usable_over cache_facts backing_facts s b cache backing loaded parts seat over reads)

    pub is_opened : IsOpened cache_facts backing_facts s.supers.geometry.first_bucket parts
    is_opened = record {
      cached = ap (λ (ps : List (CorePart C B)). are_plain cache_facts backing_facts ps)
          over.started.start;
      seats = over.started.seats;
      journal = loaded.journal;
      has = ap (λ (ps : List (CorePart C B)).
          (opening cache_facts backing_facts ps).begun.journal) over.started.start
          ∙ ap (λ (j : Journal). Some j) over.started.made.journal;
      first = ap (λ (j : Journal). j.ring.geometry.first_bucket) over.is_loaded.are.journal.is;
    }

    pub is_alone : IsAlone cache_facts backing_facts seat
    is_alone = record {
      all = over.started.all;
      deeds = over.started.deeds;
      seen = over.started.seen;
    }
