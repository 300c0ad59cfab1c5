-- What a seat knows of its places behind a turn: no deed of one is on a place of the seat.
use Rattle.std.proofs.Common.{◌≡◌, ◌≢◌, ℕ, true, List, [], ◌∷◌, refl, sym, subst}
use Rattle.std.specs.Prelude.{All, Err, IfErr, IfOk, Ok, Result}
use Rattle.std.proofs.lemmas.List.Elements.{All-cons, All-nil}
use Rattle.bc_disk.specs.Disk.{DiskFacts}
use Rattle.bc_entry.specs.Put.{IsPut, seal_by, write_by}
use Rattle.bc_events.specs.Run as core
use Rattle.bc_events.specs.declared.event.Deed.{Deed}
use Rattle.bc_events.specs.declared.event.Deed.TheVariants as deed
use Rattle.bc_events.specs.declared.event.Event.{Event}
use Rattle.bc_flush.proofs.Flushing.{all_sync_cut, all_synced}
use Rattle.bc_flush.proofs.Walking.{kept_done}
use Rattle.bc_flush.proofs.of_bc_hand.Knowing.{View}
use Rattle.bc_flush.specs.Sync.{HasNotSynced, HasSynced}
use Rattle.bc_flush.specs.bc_deed.Flushed.{HasDone}
use Rattle.bc_flush.specs.bc_hand.Seats.{by, world}
use Rattle.bc_flush.specs.bc_machine.Standing.{origin_before}
use Rattle.bc_flush.specs.bc_machine.World.{FromEach, Origin, World, after}
use Rattle.bc_flush.specs.declared.error.FlushError.{FlushError}
use Rattle.bc_journal.specs.Journal.{Journal}
use Rattle.bc_journal.specs.Sealed.{Sealed}
use Rattle.bc_turn.proofs.of_bc_place.Going.{law_own}
use Rattle.bc_turn.proofs.of_bc_place.Keeping.{keeps_both, law_own_kept, law_written, law_written_kept}
use Rattle.bc_turn.specs.bc_place.Place.{HasBefore, IsOwn}
use Rattle.bc_turn.specs.bc_place.Written.{AreApart, HasWritten, KeepsPlaces, leaves_places}
use Rattle.bc_turned.specs.Turned.{HasOrNot}
use Rattle.bc_turned.specs.declared.answer.NoEntry.{NoEntry}

abbrev Leaves : Deed → Type 0
Leaves d = leaves_places d ≡ true

abbrev AllLeave : List Deed → Type 0
AllLeave ds = All Leaves ds

none_leave : AllLeave []
none_leave = All-nil Leaves

put_leaves : (j : Journal) (s : Sealed) (ds : List Deed) → IsPut j s ds → AllLeave ds
put_leaves j s ds put = subst AllLeave (sym put.is)
    (All-cons Leaves (seal_by j s put.rest) (deed.CacheBarrier ∷ write_by s put.values
    ∷ deed.CacheBarrier ∷ deed.Sealed ∷ []) refl
    (All-cons Leaves deed.CacheBarrier (write_by s put.values ∷ deed.CacheBarrier
    ∷ deed.Sealed ∷ []) refl
    (All-cons Leaves (write_by s put.values) (deed.CacheBarrier ∷ deed.Sealed ∷ []) refl
    (All-cons Leaves deed.CacheBarrier (deed.Sealed ∷ []) refl
    (All-cons Leaves deed.Sealed [] refl none_leave)))))

module _ {C B : Type 0} (cache_facts : C → DiskFacts) (backing_facts : B → DiskFacts) where
  -- ---- deeds that leave the places alone

  module _ (ds : List Deed) (v w : View cache_facts backing_facts)
      (done : HasDone cache_facts backing_facts ds v w) (leave : AllLeave ds) where
    known : (P : ℕ → Origin → core.State → Type 0)
        → ((x : World) (e : Event) → e.seat ≢ v.first → FromEach x (P v.first)
        → FromEach (after x e) (P v.first))
        → ((x : World) (d : Deed) → Leaves d → FromEach x (P v.first)
        → FromEach (after x (by v.first d)) (P v.first))
        → FromEach (world cache_facts backing_facts v) (P v.first)
        → FromEach (world cache_facts backing_facts w) (P w.first)
    known P other its h = subst (λ i. FromEach (world cache_facts backing_facts w) (P i))
        (sym done.same.first)
        (kept_done cache_facts backing_facts (P v.first) Leaves ds v w done leave other its h)

    pub keeps_done : KeepsPlaces cache_facts backing_facts v w
    keeps_done = record {
      opening = record {
        apart = λ p q. known (λ i. AreApart p q)
            (λ x e no h o is course. h o (origin_before x e o is) course.2)
            (λ x d on h o is course. h o (origin_before x (by v.first d) o is) course.2);
        before = λ n. known (λ i. HasBefore n)
            (λ x e no h o is course. h o (origin_before x e o is) course.2)
            (λ x d on h o is course. h o (origin_before x (by v.first d) o is) course.2);
      };
      own = λ p. known (λ i. IsOwn i p) (λ x e no. law_own x e v.first p no)
          (λ x d on. law_own_kept x (by v.first d) p on);
      written = λ said. known (λ i. HasWritten i said)
          (λ x e no. law_written x e v.first said no)
          (λ x d on. law_written_kept x (by v.first d) said on);
    }

  pub keeps_none : (v w : View cache_facts backing_facts)
      → HasDone cache_facts backing_facts [] v w → KeepsPlaces cache_facts backing_facts v w
  keeps_none v w done = keeps_done [] v w done none_leave

  pub keeps_synced : (v w : View cache_facts backing_facts)
      → HasSynced cache_facts backing_facts v w → KeepsPlaces cache_facts backing_facts v w
  keeps_synced v w h = keeps_done h.deeds v w h.done
      (all_synced Leaves (λ low bucket rest. refl) refl (λ s values. refl) refl h.deeds h.are)

  pub keeps_refused : (sectors : ℕ) (e : FlushError) (v w : View cache_facts backing_facts)
      → HasNotSynced cache_facts backing_facts sectors e v w
      → KeepsPlaces cache_facts backing_facts v w
  keeps_refused sectors e v w h =
      keeps_done h.deeds v w h.done (all_sync_cut Leaves
      (λ low bucket rest. refl) refl (λ s values. refl) (λ s values. refl) refl sectors e h.deeds h.cut)

  keeps_or : (low : ℕ) (r : Result (Unit {0}) NoEntry) (v w : View cache_facts backing_facts)
      → HasOrNot cache_facts backing_facts low r v w → KeepsPlaces cache_facts backing_facts v w
  keeps_or low (Ok tt) v w h = keeps_both cache_facts backing_facts v h.at w
      (keeps_none v h.at h.before)
      (keeps_done h.put.deeds h.at w h.put.done
      (put_leaves h.journal h.put.sealed h.put.deeds h.put.put))
  keeps_or low (Err cause) v w h = keeps_both cache_facts backing_facts v h.at w
      (keeps_none v h.at h.before) (keeps_none h.at w h.since)

  -- whatever the entry came to
  pub keeps_given : (sectors low : ℕ) (r : Result (Result (Unit {0}) NoEntry) FlushError)
      (v w : View cache_facts backing_facts)
      → IfOk r (λ answer. HasOrNot cache_facts backing_facts low answer v w)
      → IfErr r (λ e. HasNotSynced cache_facts backing_facts sectors e v w)
      → KeepsPlaces cache_facts backing_facts v w
  keeps_given sectors low (Ok answer) v w h f = keeps_or low answer v w h
  keeps_given sectors low (Err e) v w h f = keeps_refused sectors e v w f
