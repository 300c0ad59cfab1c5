-- What a seat knows of its places behind a trace: no deed of one is on a place of the seat.
use Rattle.std.proofs.Common.{◌≡◌, ◌≢◌, inl, inr, ℕ, true, List, [], ◌∷◌, ◌++◌, get_or, refl, sym, ◌∙◌, subst}
use Rattle.std.specs.Prelude.{All, Err, IfErr, Ok, OnOk, Result}
use Rattle.std.proofs.lemmas.List.Elements.{All-append, All-cons, All-nil}
use Rattle.bc_disk.specs.Disk.{DiskFacts}
use Rattle.bc_disk.specs.declared.disk.Device.TheVariants.{Cache}
use Rattle.bc_events.specs.Run as core
use Rattle.bc_events.specs.declared.event.Deed.{Deed}
use Rattle.bc_events.specs.declared.event.Deed.TheVariants as deed
use Rattle.bc_events.specs.declared.event.Event.{Event}
use Rattle.bc_events.specs.declared.event.Failure.TheVariants as failure
use Rattle.bc_events.specs.declared.event.MarkForm.TheVariants as mark
use Rattle.bc_events.specs.declared.event.Written.TheVariants as written
use Rattle.bc_flush.proofs.Flushing.{all_sync_cut}
use Rattle.bc_flush.proofs.Walking.{kept_done}
use Rattle.bc_flush.specs.Sync.{HasNotSynced}
use Rattle.bc_flush.specs.bc_fetch.Fetch.{HasComeTo, HasReadOne, HasStoppedAt, node_read}
use Rattle.bc_flush.specs.bc_fetch.declared.error.LeafError.{LeafError}
use Rattle.bc_flush.specs.bc_fetch.declared.error.LeafError.TheVariants as leaf
use Rattle.bc_flush.specs.declared.error.FlushError.{FlushError}
use Rattle.bc_leaf_walk.proofs.of_bc_hand.Knowing.{View}
use Rattle.bc_leaf_walk.proofs.of_bc_place.Going.{law_own}
use Rattle.bc_leaf_walk.proofs.of_bc_place.Keeping.{keeps_both, law_own_kept, law_written, law_written_kept}
use Rattle.bc_leaf_walk.specs.bc_deed.Flushed.{HasDone}
use Rattle.bc_leaf_walk.specs.bc_hand.Seats.{by, world}
use Rattle.bc_leaf_walk.specs.bc_hand.declared.error.StepError.TheVariants as steps
use Rattle.bc_leaf_walk.specs.bc_machine.Standing.{origin_before}
use Rattle.bc_leaf_walk.specs.bc_machine.World.{FromEach, Origin, World, after}
use Rattle.bc_leaf_walk.specs.bc_place.Place.{HasBefore, IsOwn}
use Rattle.bc_leaf_walk.specs.bc_place.Written.{AreApart, HasWritten, KeepsPlaces, leaves_places}
use Rattle.bc_trace.specs.Trace.{GivesUp, HasGone, HasNotTraced, HasStopped, HasTraced, IsCause, IsOfTrace}
use Rattle.bc_trace.specs.declared.error.TraceError.{TraceError}
use Rattle.bc_trace.specs.declared.error.TraceError.TheVariants as error
use Rattle.bc_trace.proofs.Leafing.{gone_read}

abbrev Leaves : Deed → Type 0
Leaves d = leaves_places d ≡ true

trace_leaves : (d : Deed) → IsOfTrace d → Leaves d
trace_leaves (deed.Pin at count full) of = absurd of
trace_leaves (deed.Unpin kind) of = absurd of
trace_leaves (deed.Raise bucket) of = absurd of
trace_leaves (deed.CacheWrite at written.Data values) of = absurd of
trace_leaves (deed.InsertWrite n keys line first values) of = absurd of
trace_leaves (deed.Insert n keys form) of = absurd of
trace_leaves (deed.Candidate candidate first count at) of = absurd of
trace_leaves (deed.Settle n candidate keys) of = absurd of
trace_leaves d of = refl

all_trace : (ds : List Deed) → All IsOfTrace ds → All Leaves ds
all_trace ds all k d few = trace_leaves (get_or ds k d) (all k d few)

module _ {C B : Type 0} (cache_facts : C → DiskFacts) (backing_facts : B → DiskFacts) where
  -- ---- deeds that leave the places alone

  module _ (ds : List Deed) (v w : View cache_facts backing_facts)
      (done : HasDone cache_facts backing_facts ds v w) (leave : All Leaves ds) where
    known : (P : ℕ → Origin → core.State → Type 0)
        → ((x : World) (e : Event) → e.seat ≢ v.first → FromEach x (P v.first)
        → FromEach (after x e) (P v.first))
        → ((x : World) (d : Deed) → Leaves d → FromEach x (P v.first)
        → FromEach (after x (by v.first d)) (P v.first))
        → FromEach (world cache_facts backing_facts v) (P v.first)
        → FromEach (world cache_facts backing_facts w) (P w.first)
    known P other its h = subst (λ i. FromEach (world cache_facts backing_facts w) (P i))
        (sym done.same.first)
        (kept_done cache_facts backing_facts (P v.first) Leaves ds v w done leave other its h)

    keeps_done : KeepsPlaces cache_facts backing_facts v w
    keeps_done = record {
      opening = record {
        apart = λ p q. known (λ i. AreApart p q)
            (λ x e no h o is course. h o (origin_before x e o is) course.2)
            (λ x d on h o is course. h o (origin_before x (by v.first d) o is) course.2);
        before = λ n. known (λ i. HasBefore n)
            (λ x e no h o is course. h o (origin_before x e o is) course.2)
            (λ x d on h o is course. h o (origin_before x (by v.first d) o is) course.2);
      };
      own = λ p. known (λ i. IsOwn i p) (λ x e no. law_own x e v.first p no)
          (λ x d on. law_own_kept x (by v.first d) p on);
      written = λ said. known (λ i. HasWritten i said)
          (λ x e no. law_written x e v.first said no)
          (λ x d on. law_written_kept x (by v.first d) said on);
    }

  abbrev Keeps : View cache_facts backing_facts → View cache_facts backing_facts → Type 0
  Keeps v w = KeepsPlaces cache_facts backing_facts v w

  both : (u v w : View cache_facts backing_facts) → Keeps u v → Keeps v w → Keeps u w
  both u v w a b = keeps_both cache_facts backing_facts u v w a b

  keeps_none : (v w : View cache_facts backing_facts) → HasDone cache_facts backing_facts [] v w
      → Keeps v w
  keeps_none v w done = keeps_done [] v w done (All-nil Leaves)

  pub keeps_gone : (v w : View cache_facts backing_facts) → HasGone cache_facts backing_facts v w
      → Keeps v w
  keeps_gone v w h = keeps_done h.deeds v w h.done (all_trace h.deeds h.are)

  pub keeps_traced : (v w : View cache_facts backing_facts)
      → HasTraced cache_facts backing_facts v w → Keeps v w
  keeps_traced v w h = keeps_done (h.deeds ++ deed.Mark mark.End ∷ []) v w h.done
      (All-append Leaves h.deeds (deed.Mark mark.End ∷ []) (all_trace h.deeds h.are)
      (All-cons Leaves (deed.Mark mark.End) [] refl (All-nil Leaves)))

  -- ---- where it came no further

  keeps_read : (v w : View cache_facts backing_facts) → HasReadOne cache_facts backing_facts v w
      → Keeps v w
  keeps_read v w h = keeps_gone v w (gone_read cache_facts backing_facts v w h)

  keeps_leaf : (first : ℕ) (e : LeafError) (v w : View cache_facts backing_facts)
      → HasStoppedAt cache_facts backing_facts first 1 e v w → Keeps v w
  keeps_leaf first (leaf.Step steps.Memory) v w h = keeps_read v w h
  keeps_leaf first (leaf.Step (steps.Fault device)) v w h =
      keeps_done (deed.DeviceFault (failure.Read Cache) ∷ []) v w h.1
      (All-cons Leaves (deed.DeviceFault (failure.Read Cache)) [] refl (All-nil Leaves))
  keeps_leaf first (leaf.Step (steps.Halted device)) v w h =
      both v h.0 w (keeps_none v h.0 h.1) (keeps_none h.0 w h.3)
  keeps_leaf first leaf.Busy v w h = both v h.at w (keeps_none v h.at h.way)
      (both h.at h.now w (keeps_none h.at h.now h.did) (keeps_none h.now w h.then))
  keeps_leaf first leaf.Outside v w h = both v h.at w (keeps_none v h.at h.way)
      (both h.at h.now w (keeps_none h.at h.now h.did) (keeps_none h.now w h.then))
  keeps_leaf first leaf.Missing v w (inl h) =
      both v h.at w (keeps_none v h.at h.way) (keeps_none h.at w h.then)
  keeps_leaf first leaf.Missing v w (inr h) =
      both v h.at w (keeps_read v h.at h.read) (keeps_none h.at w h.then)
  keeps_leaf first (leaf.Node bucket e) v w h = both v h.at w (keeps_none v h.at h.way)
      (both h.at h.now w
      (keeps_done (node_read h.range.ptr.offset ∷ []) h.at h.now h.did
      (All-cons Leaves (node_read h.range.ptr.offset) [] refl (All-nil Leaves)))
      (keeps_none h.now w h.then))

  keeps_refused : (sectors : ℕ) (e : FlushError) (v w : View cache_facts backing_facts)
      → HasNotSynced cache_facts backing_facts sectors e v w → Keeps v w
  keeps_refused sectors e v w h = keeps_done h.deeds v w h.done (all_sync_cut Leaves
      (λ low bucket rest. refl) refl (λ s values. refl) (λ s values. refl) refl sectors e h.deeds
      h.cut)

  keeps_cause : (sectors : ℕ) (e : TraceError) (v w : View cache_facts backing_facts)
      → IsCause cache_facts backing_facts sectors e v w → Keeps v w
  keeps_cause sectors error.Open v w h = keeps_gone v w h.1
  keeps_cause sectors error.Moved v w h = keeps_gone v w h.1
  keeps_cause sectors (error.Step e) v w h = keeps_gone v w h.1
  keeps_cause sectors (error.Leaf e) v w h =
      both v h.at w (keeps_gone v h.at h.before) (keeps_leaf h.first e h.at w h.stopped)
  keeps_cause sectors (error.Journal e) v w h =
      both v h.at w (keeps_gone v h.at h.before) (keeps_refused sectors e h.at w h.stopped)

  keeps_stopped : (sectors : ℕ) (e : TraceError) (v w : View cache_facts backing_facts)
      → HasStopped cache_facts backing_facts sectors e v w → Keeps v w
  keeps_stopped sectors e v w h =
      both v h.at w (keeps_cause sectors e v h.at h.cause) (keeps_none h.at w h.then)

  keeps_given_up : (v w : View cache_facts backing_facts) → GivesUp cache_facts backing_facts v w
      → Keeps v w
  keeps_given_up v w h = keeps_done h.deeds v w h.done (elim h.are [
    | inl none ↦ subst (All Leaves) (sym none) (All-nil Leaves)
    | inr one ↦ subst (All Leaves) (sym one)
        (All-cons Leaves (deed.Mark mark.Drop) [] refl (All-nil Leaves))
  ])

  pub keeps_not : (sectors : ℕ) (e : TraceError) (v w : View cache_facts backing_facts)
      → HasNotTraced cache_facts backing_facts sectors e v w → Keeps v w
  keeps_not sectors e v w h = both v h.at w (keeps_stopped sectors e v h.at h.stopped)
      (keeps_given_up h.at w h.given_up)
