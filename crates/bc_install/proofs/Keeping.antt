-- What a seat knows of its places behind the deeds of a change by a new root, which leave them
-- alone.
use Rattle.std.proofs.Common.{◌≡◌, ◌≢◌, inl, inr, ℕ, ◌+◌, true, List, [], ◌∷◌, Some, refl, sym, ap, ◌∙◌, subst, arith}
use Rattle.std.specs.Prelude.{◌==◌, All, Err, IfErr, Ok, OnOk, Result, Vec, filter, fold, if◌then◌else◌, map}
use Rattle.std.specs.declared.alloc.Global.{Global}
use Rattle.std.proofs.lemmas.List.{append_cancel_left}
use Rattle.std.proofs.lemmas.List.Elements.{All-cons, All-head, All-nil, All-tail, filter-append}
use Rattle.std.proofs.lemmas.List.Sums.{fold-append}
use Rattle.bc_append.specs.bc_place.Place.{IsOwn}
use Rattle.bc_append.specs.bc_place.Written.{HasWritten, KeepsPlaces, leaves_places}
use Rattle.bc_append.proofs.of_bc_place.Keeping.{keeps_both, keeps_deed, keeps_waited, law_own_kept, law_written_kept, opening_lasts, own_lasts, written_lasts}
use Rattle.bc_change.specs.Put.{HasCutBehind, HasPutBehind}
use Rattle.bc_change.specs.Root.{HasSealedRoot}
use Rattle.bc_change.specs.bc_entry.Put.{HasFailedBehind, HasStoppedBehind, IsCutBehind, failed_barrier, lost_by, write_by}
use Rattle.bc_change.specs.bc_deed.Flushed.{HasDone}
use Rattle.bc_change.specs.bc_hand.Seats.{Did, IsCoreSeat, View, by, world}
use Rattle.bc_change.specs.bc_hand.declared.error.StepError.{StepError}
use Rattle.bc_change.specs.bc_hand.declared.error.StepError.TheVariants as error
use Rattle.bc_change.specs.bc_machine.World.{FromEach, Origin, World, after, opening}
use Rattle.bc_change.specs.bc_machine.declared.part.CorePart.{CorePart}
use Rattle.bc_change.proofs.of_bc_deed.May.{did_nothing}
use Rattle.bc_disk.specs.Disk.{DiskFacts}
use Rattle.bc_events.specs.Run as core
use Rattle.bc_events.specs.declared.event.Change.{Change}
use Rattle.bc_events.specs.declared.event.Deed.{Deed}
use Rattle.bc_events.specs.declared.event.Deed.TheVariants as deed
use Rattle.bc_events.specs.declared.event.Event.{Event}
use Rattle.bc_fill.specs.Fresh.{IsApart}
use Rattle.bc_journal.specs.Journal.{Journal}
use Rattle.bc_journal.specs.Sealed.{Sealed}
use Rattle.bc_meta.proofs.Lists.{by_test}
use Rattle.bc_model.specs.Sector.{Value}
use Rattle.bc_parts.specs.Seat.{Run}
use Rattle.bc_install.specs.RootPut.{seal_by}

-- ---- events

-- the events of this seat
abbrev own : ℕ → List Event → List Event
own i es = filter (λ e. e.seat == i) es

same_head : (e f : Event) (es fs : List Event) → e ∷ es ≡ f ∷ fs → e ≡ f
same_head e f es fs is = cc

same_tail : (e f : Event) (es fs : List Event) → e ∷ es ≡ f ∷ fs → es ≡ fs
same_tail e f es fs is = cc

none_some : (e : Event) (es none : List Event) → none ≡ [] → e ∷ es ≡ none → ⊥
none_some e es none empty is = let both : e ∷ es ≡ [] = is ∙ empty in absurd (cc)

module _ (i : ℕ) (P : Origin → core.State → Type 0) (D : Deed → Type 0)
    (other : (x : World) (e : Event) → e.seat ≢ i → FromEach x P → FromEach (after x e) P)
    (its : (x : World) (d : Deed) → D d → FromEach x P → FromEach (after x (by i d)) P) where
  kept : (x : World) (es : List Event) (ds : List Deed) → own i es ≡ map (by i) ds → All D ds
      → FromEach x P → FromEach (fold after x es) P
  kept x [] ds is all h = h
  kept x (e ∷ es) [] is all h = by_test e.seat i
      (λ t. (if t then e ∷ own i es else own i es) ≡ [] → FromEach (fold after (after x e) es) P)
      (λ same is. absurd (none_some e (own i es) [] refl is))
      (λ no is. kept (after x e) es [] is all (other x e no h)) is
  kept x (e ∷ es) (d ∷ ds) is all h = by_test e.seat i
      (λ t. (if t then e ∷ own i es else own i es) ≡ by i d ∷ map (by i) ds
      → FromEach (fold after (after x e) es) P)
      (λ same is. kept (after x e) es ds (same_tail e (by i d) (own i es) (map (by i) ds) is)
      (All-tail D d ds all)
      (subst (λ f. FromEach (after x f) P)
      (sym (same_head e (by i d) (own i es) (map (by i) ds) is))
      (its x d (All-head D d ds all) h)))
      (λ no is. kept (after x e) es (d ∷ ds) is all (other x e no h)) is

-- ---- deeds

abbrev LeavesPlaces : Deed → Type 0
LeavesPlaces d = leaves_places d ≡ true

none_leave : All LeavesPlaces []
none_leave = All-nil LeavesPlaces

one_leaves : (d : Deed) → LeavesPlaces d → (ds : List Deed) → All LeavesPlaces ds
    → All LeavesPlaces (d ∷ ds)
one_leaves d is ds all = All-cons LeavesPlaces d ds is all

-- a barrier and what is behind it
barrier_leaves : (ds : List Deed) → All LeavesPlaces ds
    → All LeavesPlaces (deed.CacheBarrier ∷ ds)
barrier_leaves ds all = one_leaves deed.CacheBarrier refl ds all

-- a barrier, the write of a sealed entry, and what is behind that
write_leaves : (s : Sealed) (values : List Value) (ds : List Deed) → All LeavesPlaces ds
    → All LeavesPlaces (deed.CacheBarrier ∷ write_by s values ∷ ds)
write_leaves s values ds all = barrier_leaves (write_by s values ∷ ds)
    (one_leaves (write_by s values) refl ds all)

-- those of a sealed entry that became durable
all_put : (s : Sealed) (values : List Value) → All LeavesPlaces (deed.CacheBarrier
    ∷ write_by s values ∷ deed.CacheBarrier ∷ deed.Sealed ∷ [])
all_put s values = write_leaves s values (deed.CacheBarrier ∷ deed.Sealed ∷ [])
    (barrier_leaves (deed.Sealed ∷ []) (one_leaves deed.Sealed refl [] none_leave))

as_listed : (ds es : List Deed) → ds ≡ es → All LeavesPlaces es → All LeavesPlaces ds
as_listed ds es is all = subst (λ (l : List Deed). All LeavesPlaces l) (sym is) all

failed_leaves : All LeavesPlaces (failed_barrier ∷ [])
failed_leaves = one_leaves failed_barrier refl [] none_leave

all_failed : (s : Sealed) (ds : List Deed) → HasFailedBehind s ds → All LeavesPlaces ds
all_failed s ds (inl is) = as_listed ds (failed_barrier ∷ []) is failed_leaves
all_failed s ds (inr (values, are, inl is)) =
    as_listed ds (deed.CacheBarrier ∷ lost_by s values ∷ []) is
    (barrier_leaves (lost_by s values ∷ []) (one_leaves (lost_by s values) refl [] none_leave))
all_failed s ds (inr (values, are, inr is)) =
    as_listed ds (deed.CacheBarrier ∷ write_by s values ∷ failed_barrier ∷ []) is
    (write_leaves s values (failed_barrier ∷ []) failed_leaves)

all_stopped : (s : Sealed) (ds : List Deed) → HasStoppedBehind s ds → All LeavesPlaces ds
all_stopped s ds (inl is) = as_listed ds [] is none_leave
all_stopped s ds (inr (inl is)) = as_listed ds (deed.CacheBarrier ∷ []) is
    (barrier_leaves [] none_leave)
all_stopped s ds (inr (inr (values, are, inl is))) =
    as_listed ds (deed.CacheBarrier ∷ write_by s values ∷ []) is
    (write_leaves s values [] none_leave)
all_stopped s ds (inr (inr (values, are, inr is))) =
    as_listed ds (deed.CacheBarrier ∷ write_by s values ∷ deed.CacheBarrier ∷ []) is
    (write_leaves s values (deed.CacheBarrier ∷ []) (barrier_leaves [] none_leave))

all_cut : (e : StepError) (s : Sealed) (ds : List Deed) → IsCutBehind e s ds
    → All LeavesPlaces ds
all_cut (error.Fault device) s ds h = all_failed s ds h.1
all_cut (error.Halted device) s ds h = all_stopped s ds h
all_cut error.Memory s ds h = absurd h

module _ {C B : Type 0} (cache_facts : C → DiskFacts) (backing_facts : B → DiskFacts) where
  own_is : (ds : List Deed) (v w : View cache_facts backing_facts)
      → (done : HasDone cache_facts backing_facts ds v w)
      → own v.first done.grown.more ≡ map (by v.first) ds
  own_is ds v w done = append_cancel_left (own v.first v.seen) (own v.first done.grown.more)
      (map (by v.first) ds)
      (sym (filter-append (λ e. e.seat == v.first) v.seen done.grown.more)
      ∙ ap (λ (l : List Event). own v.first l) (sym done.grown.seen)
      ∙ ap (λ n. own n w.seen) (sym done.same.first) ∙ done.own)

  state_is : (ds : List Deed) (v w : View cache_facts backing_facts)
      → (done : HasDone cache_facts backing_facts ds v w) → world cache_facts backing_facts w
      ≡ fold after (world cache_facts backing_facts v) done.grown.more
  state_is ds v w done = ap (λ (r : Run (CorePart C B)).
      fold after (opening cache_facts backing_facts r.start) w.seen) done.same.run
      ∙ ap (λ (l : List Event). fold after (opening cache_facts backing_facts v.run.start) l)
      done.grown.seen
      ∙ fold-append after (opening cache_facts backing_facts v.run.start) v.seen done.grown.more

  kept_done : (P : Origin → core.State → Type 0) (ds : List Deed)
      (v w : View cache_facts backing_facts) → All LeavesPlaces ds
      → HasDone cache_facts backing_facts ds v w
      → ((x : World) (e : Event) → e.seat ≢ v.first → FromEach x P → FromEach (after x e) P)
      → ((x : World) (d : Deed) → LeavesPlaces d → FromEach x P
      → FromEach (after x (by v.first d)) P)
      → FromEach (world cache_facts backing_facts v) P
      → FromEach (world cache_facts backing_facts w) P
  kept_done P ds v w all done other its known =
      subst (λ x. FromEach x P) (sym (state_is ds v w done))
      (kept v.first P LeavesPlaces other its (world cache_facts backing_facts v) done.grown.more
      ds (own_is ds v w done) all known)

  opening_done : (K : Origin → Type 0) (ds : List Deed) (v w : View cache_facts backing_facts)
      → All LeavesPlaces ds → HasDone cache_facts backing_facts ds v w
      → FromEach (world cache_facts backing_facts v) (λ o st. K o)
      → FromEach (world cache_facts backing_facts w) (λ o st. K o)
  opening_done K ds v w all done = kept_done (λ o st. K o) ds v w all done
      (λ x e ne. opening_lasts K x e v.first ne)
      (λ x d is. opening_lasts K x (by v.first d) (v.first + 1)
      (λ same. absurd (omega (arith, same))))

  -- behind deeds that leave its places alone
  pub keeps_done : (ds : List Deed) (v w : View cache_facts backing_facts) → All LeavesPlaces ds
      → HasDone cache_facts backing_facts ds v w → KeepsPlaces cache_facts backing_facts v w
  keeps_done ds v w all done = record {
    opening = record {
      apart = λ p q. opening_done (λ o. IsApart p q) ds v w all done;
      before = λ n. opening_done (λ o. o.opening.machine.before ≡ n) ds v w all done;
    };
    own = λ p known. subst (λ i. FromEach (world cache_facts backing_facts w) (IsOwn i p))
        (sym done.same.first) (kept_done (IsOwn v.first p) ds v w all done
        (λ x e ne. own_lasts p x e v.first ne)
        (λ x d is. law_own_kept x (by v.first d) p is) known);
    written = λ what known. subst (λ i. FromEach (world cache_facts backing_facts w)
        (HasWritten i what)) (sym done.same.first) (kept_done (HasWritten v.first what) ds v w
        all done (λ x e ne. written_lasts what x e v.first ne)
        (λ x d is. law_written_kept x (by v.first d) what is) known);
  }

  -- without any of its own
  pub keeps_none : (v w : View cache_facts backing_facts)
      → HasDone cache_facts backing_facts [] v w → KeepsPlaces cache_facts backing_facts v w
  keeps_none v w done = keeps_done [] v w none_leave done

  pub keeps_nothing : (v : View cache_facts backing_facts)
      → IsCoreSeat cache_facts backing_facts v → KeepsPlaces cache_facts backing_facts v v
  keeps_nothing v seat = keeps_waited cache_facts backing_facts v v seat
      (did_nothing cache_facts backing_facts v seat).is

  -- by an install
  pub keeps_install : (v w : View cache_facts backing_facts) (c : Change)
      (come gone : Vec ℕ Global) → IsCoreSeat cache_facts backing_facts v
      → Did cache_facts backing_facts (Some (deed.Install c come gone)) v w
      → KeepsPlaces cache_facts backing_facts v w
  keeps_install v w c come gone seat did = keeps_deed cache_facts backing_facts v w
      (deed.Install c come gone) seat refl did

  -- by an entry, however far it came
  module _ (t u w : View cache_facts backing_facts) (seat : IsCoreSeat cache_facts backing_facts t)
      (j : Journal) (s : Sealed) (slot : ℕ) (c : Change)
      (a : HasSealedRoot cache_facts backing_facts j s slot c t u) where
    keeps_seal : KeepsPlaces cache_facts backing_facts t u
    keeps_seal = keeps_deed cache_facts backing_facts t u (seal_by j s a.rest slot c) seat refl
        a.did

    pub keeps_put : (r : Result (Unit {0}) StepError)
        → OnOk r (HasPutBehind cache_facts backing_facts s u w)
        → IfErr r (λ e. HasCutBehind cache_facts backing_facts e s u w)
        → KeepsPlaces cache_facts backing_facts t w
    keeps_put (Ok z) ok err = keeps_both cache_facts backing_facts t u w keeps_seal
        (keeps_done (deed.CacheBarrier ∷ write_by s ok.values ∷ deed.CacheBarrier ∷ deed.Sealed ∷ [])
        u w (all_put s ok.values) ok.done)
    keeps_put (Err e) ok err = keeps_both cache_facts backing_facts t u w keeps_seal
        (keeps_done err.deeds u w (all_cut e s err.deeds err.cut) err.done)
