-- Whatever a write came to, by which of its own deeds the seat's run went on.
use Rattle.std.proofs.Common.{inl, inr, ℕ, List, [], ◌∷◌, ◌++◌, Option, None, Some, refl, sym, subst}
use Rattle.std.specs.Prelude.{All, length}
use Rattle.std.proofs.lemmas.List.Elements.{All-cons, All-nil}
use Rattle.bc_alloc.specs.declared.purpose.Purpose.TheVariants as list
use Rattle.bc_disk.specs.Disk.{DiskFacts}
use Rattle.bc_disk.specs.declared.disk.Device.TheVariants.{Cache}
use Rattle.bc_events.specs.declared.event.Deed.{Deed}
use Rattle.bc_events.specs.declared.event.Deed.TheVariants as deed
use Rattle.bc_events.specs.declared.event.Failure.TheVariants as failure
use Rattle.bc_events.specs.declared.event.LineNumber.{LineNumber}
use Rattle.bc_events.specs.declared.event.UnpinKind.TheVariants as unpin
use Rattle.bc_events.specs.declared.event.Written.TheVariants as written
use Rattle.bc_fill.specs.declared.fill.Placed.{Placed}
use Rattle.bc_model.specs.Sector.{Value}
use Rattle.bc_request.proofs.of_bc_reader.Finding.{then_waited}
use Rattle.bc_request.specs.bc_fetch.Fetch.{HasReadOne, HasStoppedAt, node_read}
use Rattle.bc_request.specs.bc_fetch.declared.error.LeafError.{LeafError}
use Rattle.bc_request.specs.bc_fetch.declared.error.LeafError.TheVariants as errors
use Rattle.bc_stored.specs.All.{HaveNotStored, HaveStored, unpins}
use Rattle.bc_stored.specs.Stored.{HasStoredAt, WhyNotStored}
use Rattle.bc_stored.specs.bc_deed.Flushed.{HasDone}
use Rattle.bc_stored.specs.bc_hand.Seats.{Did, IsCoreSeat}
use Rattle.bc_stored.specs.bc_hand.declared.error.StepError.{StepError}
use Rattle.bc_stored.specs.bc_hand.declared.error.StepError.TheVariants as step
use Rattle.bc_stored.specs.bc_place.Place.{HasGiven, HasHalted, taken_by}
use Rattle.bc_stored.specs.bc_place.Written.{HasFailedToPlace, HasUnpinned}
use Rattle.bc_stored.specs.declared.error.StoreError.{StoreError}
use Rattle.bc_stored.specs.declared.error.StoreError.TheVariants as store
use Rattle.bc_stored.proofs.of_bc_deed.May.{did_nothing}
use Rattle.bc_stored.proofs.of_bc_deed.Sequence.{done_both, done_first}
use Rattle.bc_stored.proofs.of_bc_hand.Knowing.{View}
use Rattle.bc_write_back.specs.Claimed.{HasComeTo, HasNoRoom, HasNotWritten, HasTakenBack}
use Rattle.bc_write_back.specs.Put.{HasLacked, HasNotPut, HasPut, HasPutOr, HasStoppedBehind}
use Rattle.bc_write_back.specs.declared.error.Lack.{Lack}
use Rattle.bc_write_back.specs.declared.error.Lack.TheVariants as lack
use Rattle.bc_write_back.specs.declared.error.Put.{Put}
use Rattle.bc_write_back.specs.declared.error.Put.TheVariants as put
use Rattle.bc_write_back.specs.declared.error.WriteError.{WriteError}
use Rattle.bc_write_back.specs.declared.error.WriteError.TheVariants as error
use Rattle.bc_write_back.proofs.Walking.{IsUnnoted, IsUnnotedApart, LeavesClaim, LeavesPlaces, HasGoneBy, leaves_claim, went_as, went_both, went_none, went_one}

-- ---- deeds

taken_unnoted : (before : ℕ) (o : Option ℕ) (d : Deed) → IsUnnoted d
    → All IsUnnoted (taken_by before o ++ d ∷ [])
taken_unnoted before None d un = All-cons IsUnnoted d [] un (All-nil IsUnnoted)
taken_unnoted before (Some k) d un = All-cons IsUnnoted _ (d ∷ []) (λ plain o. refl)
    (All-cons IsUnnoted d [] un (All-nil IsUnnoted))

unpins_unnoted : (ps : List Placed) → All IsUnnoted (unpins ps)
unpins_unnoted [] = All-nil IsUnnoted
unpins_unnoted (p ∷ ps) = All-cons IsUnnoted _ (unpins ps) (λ plain o. refl) (unpins_unnoted ps)

module _ {C B : Type 0} (cache_facts : C → DiskFacts) (backing_facts : B → DiskFacts) where
  none : (D : Deed → Type 0) (v : View cache_facts backing_facts)
      → IsCoreSeat cache_facts backing_facts v → HasGoneBy cache_facts backing_facts D v v
  none D v seat = went_none cache_facts backing_facts D v v
      (done_first cache_facts backing_facts None v v (did_nothing cache_facts backing_facts v seat))

  waited : (D : Deed → Type 0) (v w : View cache_facts backing_facts)
      → Did cache_facts backing_facts None v w → HasGoneBy cache_facts backing_facts D v w
  waited D v w did = went_none cache_facts backing_facts D v w
      (done_first cache_facts backing_facts None v w did)

  did_one : (D : Deed → Type 0) (d : Deed) (v w : View cache_facts backing_facts) → D d
      → Did cache_facts backing_facts (Some d) v w → HasGoneBy cache_facts backing_facts D v w
  did_one D d v w is did = went_one cache_facts backing_facts D d v w is
      (done_first cache_facts backing_facts (Some d) v w did)

  pub three : (D : Deed → Type 0) (u v w x : View cache_facts backing_facts)
      → HasGoneBy cache_facts backing_facts D u v → HasGoneBy cache_facts backing_facts D v w
      → HasGoneBy cache_facts backing_facts D w x → HasGoneBy cache_facts backing_facts D u x
  three D u v w x a b c = went_both cache_facts backing_facts D u v x a
      (went_both cache_facts backing_facts D v w x b c)

  -- ---- on the way to a leaf

  pub read_then : (u v w : View cache_facts backing_facts)
      → HasReadOne cache_facts backing_facts u v → HasDone cache_facts backing_facts [] v w
      → HasReadOne cache_facts backing_facts u w
  read_then u v w (inl nothing) then =
      inl (done_both cache_facts backing_facts [] [] u v w nothing then)
  read_then u v w (inr one) then = inr (
    one.0,
    then_waited cache_facts backing_facts (node_read one.0 ∷ []) u v w one.1 then,
  )

  pub read_went : (v w : View cache_facts backing_facts) → HasReadOne cache_facts backing_facts v w
      → HasGoneBy cache_facts backing_facts IsUnnotedApart v w
  read_went v w (inl nothing) = went_none cache_facts backing_facts IsUnnotedApart v w nothing
  read_went v w (inr one) = went_one cache_facts backing_facts IsUnnotedApart (node_read one.0) v w
      ((λ plain o. refl), refl) one.1

  pub stopped_went : (first count : ℕ) (e : LeafError) (v w : View cache_facts backing_facts)
      → HasStoppedAt cache_facts backing_facts first count e v w
      → HasGoneBy cache_facts backing_facts IsUnnotedApart v w
  stopped_went first count (errors.Step step.Memory) v w h = read_went v w h
  stopped_went first count (errors.Step (step.Fault d)) v w h = went_one cache_facts backing_facts
      IsUnnotedApart (deed.DeviceFault (failure.Read Cache)) v w ((λ plain o. refl), refl) h.1
  stopped_went first count (errors.Step (step.Halted d)) v w h =
      went_both cache_facts backing_facts IsUnnotedApart v h.0 w
      (went_none cache_facts backing_facts IsUnnotedApart v h.0 h.1)
      (went_none cache_facts backing_facts IsUnnotedApart h.0 w h.3)
  stopped_went first count errors.Busy v w h = three IsUnnotedApart v h.at h.now w
      (went_none cache_facts backing_facts IsUnnotedApart v h.at h.way)
      (went_none cache_facts backing_facts IsUnnotedApart h.at h.now h.did)
      (went_none cache_facts backing_facts IsUnnotedApart h.now w h.then)
  stopped_went first count errors.Outside v w h = three IsUnnotedApart v h.at h.now w
      (went_none cache_facts backing_facts IsUnnotedApart v h.at h.way)
      (went_none cache_facts backing_facts IsUnnotedApart h.at h.now h.did)
      (went_none cache_facts backing_facts IsUnnotedApart h.now w h.then)
  stopped_went first count errors.Missing v w (inl h) =
      went_both cache_facts backing_facts IsUnnotedApart v h.at w
      (went_none cache_facts backing_facts IsUnnotedApart v h.at h.way)
      (went_none cache_facts backing_facts IsUnnotedApart h.at w h.then)
  stopped_went first count errors.Missing v w (inr h) =
      went_both cache_facts backing_facts IsUnnotedApart v h.at w (read_went v h.at h.read)
      (went_none cache_facts backing_facts IsUnnotedApart h.at w h.then)
  stopped_went first count (errors.Node q e) v w h = three IsUnnotedApart v h.at h.now w
      (went_none cache_facts backing_facts IsUnnotedApart v h.at h.way)
      (went_one cache_facts backing_facts IsUnnotedApart (node_read h.range.ptr.offset) h.at h.now
      ((λ plain o. refl), refl) h.did)
      (went_none cache_facts backing_facts IsUnnotedApart h.now w h.then)

  behind_went : (e : LeafError) (v w : View cache_facts backing_facts)
      → HasStoppedBehind cache_facts backing_facts e v w
      → HasGoneBy cache_facts backing_facts IsUnnotedApart v w
  behind_went e v w h = went_both cache_facts backing_facts IsUnnotedApart v h.at w
      (read_went v h.at h.way) (went_none cache_facts backing_facts IsUnnotedApart h.at w h.then)

  pub not_put_went : (first count : ℕ) (e : LeafError) (v w : View cache_facts backing_facts)
      → HasNotPut cache_facts backing_facts first count e v w
      → HasGoneBy cache_facts backing_facts IsUnnotedApart v w
  not_put_went first count e v w (inl stopped) = stopped_went first count e v w stopped
  not_put_went first count e v w (inr behind) = behind_went e v w behind

  pub lacked_went : (why : Lack) (ps : List Placed) (first count : ℕ)
      (v w : View cache_facts backing_facts)
      → HasLacked cache_facts backing_facts why ps first count v w
      → HasGoneBy cache_facts backing_facts IsUnnotedApart v w
  lacked_went why ps first count v w h = went_both cache_facts backing_facts IsUnnotedApart v h.at w
      (read_went v h.at h.way) (went_none cache_facts backing_facts IsUnnotedApart h.at w h.then)

  pub as_unnoted : (v w : View cache_facts backing_facts)
      → HasGoneBy cache_facts backing_facts IsUnnotedApart v w
      → HasGoneBy cache_facts backing_facts IsUnnoted v w
  as_unnoted v w h = went_as cache_facts backing_facts IsUnnotedApart IsUnnoted
      (λ d both. both.0) v w h

  pub as_leaving : (v w : View cache_facts backing_facts)
      → HasGoneBy cache_facts backing_facts IsUnnotedApart v w
      → HasGoneBy cache_facts backing_facts LeavesPlaces v w
  as_leaving v w h =
      went_as cache_facts backing_facts IsUnnotedApart LeavesPlaces (λ d both. both.1) v w h

  pub as_claimed : (v w : View cache_facts backing_facts)
      → HasGoneBy cache_facts backing_facts IsUnnoted v w
      → HasGoneBy cache_facts backing_facts LeavesClaim v w
  as_claimed v w h = went_as cache_facts backing_facts IsUnnoted LeavesClaim leaves_claim v w h

  put_went : (ps : List Placed) (of : LineNumber) (first : ℕ) (values : List Value)
      (v w : View cache_facts backing_facts)
      → HasPut cache_facts backing_facts ps of first values v w
      → HasGoneBy cache_facts backing_facts LeavesClaim v w
  put_went ps of first values v w h = three LeavesClaim v h.at h.put w
      (as_claimed v h.at (as_unnoted v h.at (read_went v h.at h.way)))
      (did_one LeavesClaim (deed.InsertWrite h.number h.keys of first values) h.at h.put
      (λ plain o. refl) h.inserted.did)
      (went_none cache_facts backing_facts LeavesClaim h.put w h.then)

  pub put_or_went : (what : Put) (ps : List Placed) (of : LineNumber) (first : ℕ)
      (values : List Value)
      (v w : View cache_facts backing_facts)
      → HasPutOr cache_facts backing_facts what ps of first values v w
      → HasGoneBy cache_facts backing_facts LeavesClaim v w
  put_or_went put.Written ps of first values v w h = put_went ps of first values v w h
  put_or_went (put.Lacks why) ps of first values v w h =
      as_claimed v w (as_unnoted v w (lacked_went why ps first (length values) v w h))

  -- ---- values that are stored

  given_went : (before count : ℕ) (p : Placed) (v w : View cache_facts backing_facts)
      → HasGiven cache_facts backing_facts before count p v w
      → HasGoneBy cache_facts backing_facts IsUnnoted v w
  given_went before count p v w h = record {
    deeds = taken_by before p.opened ++ deed.Pin p.ptr.offset p.count h.full ∷ [];
    all = taken_unnoted before p.opened (deed.Pin p.ptr.offset p.count h.full) (λ plain o. refl);
    done = h.done;
  }

  unpinned_went : (p : Placed) (v w : View cache_facts backing_facts)
      → HasUnpinned cache_facts backing_facts p v w
      → HasGoneBy cache_facts backing_facts IsUnnoted v w
  unpinned_went p v w h = did_one IsUnnoted (deed.Unpin (unpin.Place p.ptr.offset p.count)) v w
      (λ plain o. refl) h.did

  one_went : (before sectors : ℕ) (p : Placed) (values : List Value)
      (v w : View cache_facts backing_facts)
      → HasStoredAt cache_facts backing_facts before sectors p values v w
      → HasGoneBy cache_facts backing_facts IsUnnoted v w
  one_went before sectors p values v w h =
      went_both cache_facts backing_facts IsUnnoted v h.pinned w
      (given_went before (length values) p v h.pinned h.given)
      (did_one IsUnnoted _ h.pinned w (λ plain o. refl) h.stored.did)

  pub stored_went : (before sectors : ℕ) (ps : List Placed) (values : List Value)
      (v w : View cache_facts backing_facts) → IsCoreSeat cache_facts backing_facts v
      → HaveStored cache_facts backing_facts before sectors ps values v w
      → HasGoneBy cache_facts backing_facts IsUnnoted v w
  stored_went before sectors [] values v w seat h =
      subst (λ x. HasGoneBy cache_facts backing_facts IsUnnoted v x) (sym h) (none IsUnnoted v seat)
  stored_went before sectors (p ∷ ps) values v w seat h =
      went_both cache_facts backing_facts IsUnnoted v h.0 w
      (one_went before sectors p values v h.0 h.1)
      (stored_went before sectors ps _ h.0 w h.1.stored.did.seat h.2)

  pub let_go_went : (ps : List Placed) (v w : View cache_facts backing_facts)
      → HasDone cache_facts backing_facts (unpins ps) v w
      → HasGoneBy cache_facts backing_facts IsUnnoted v w
  let_go_went ps v w h = record { deeds = unpins ps; all = unpins_unnoted ps; done = h }

  halted_went : (e : StepError) (v w : View cache_facts backing_facts)
      → HasHalted cache_facts backing_facts e v w
      → HasGoneBy cache_facts backing_facts IsUnnoted v w
  halted_went (step.Fault d) v w h = absurd h
  halted_went (step.Halted d) v w h = elim h.1 [
    | inl nothing ↦ went_none cache_facts backing_facts IsUnnoted v w nothing
    | inr one ↦ went_one cache_facts backing_facts IsUnnoted (deed.Take list.Plain one.0) v w
        (λ plain o. refl) one.1
  ]
  halted_went step.Memory v w h = absurd h

  failed_went : (e : StepError) (at : ℕ) (values : List Value)
      (v w : View cache_facts backing_facts)
      → HasFailedToPlace cache_facts backing_facts e at values v w
      → HasGoneBy cache_facts backing_facts IsUnnoted v w
  failed_went (step.Fault d) at values v w h = did_one IsUnnoted
      (deed.DeviceFault (failure.CacheWrite at written.Data values)) v w (λ plain o. refl) h.1
  failed_went (step.Halted d) at values v w h = waited IsUnnoted v w h.1
  failed_went step.Memory at values v w h = waited IsUnnoted v w h

  why_went : (before sectors : ℕ) (e : StoreError) (values : List Value)
      (v w : View cache_facts backing_facts)
      → WhyNotStored cache_facts backing_facts before sectors e values v w
      → HasGoneBy cache_facts backing_facts IsUnnoted v w
  why_went before sectors (store.Step cause) values v w (inl halted) = halted_went cause v w halted
  why_went before sectors (store.Step cause) values v w (inr h) =
      three IsUnnoted v h.pinned h.failed w
      (given_went before (length values) h.place v h.pinned h.went.given)
      (failed_went cause h.place.ptr.offset _ h.pinned h.failed h.why)
      (unpinned_went h.place h.failed w h.went.unpinned)
  why_went before sectors store.NoBucket values v w h = waited IsUnnoted v w h.0
  why_went before sectors store.Outside values v w h = three IsUnnoted v h.pinned h.failed w
      (given_went before (length values) h.place v h.pinned h.went.given)
      (waited IsUnnoted h.pinned h.failed h.waited)
      (unpinned_went h.place h.failed w h.went.unpinned)

  pub not_stored_went : (before sectors : ℕ) (e : StoreError) (values : List Value)
      (v w : View cache_facts backing_facts) → IsCoreSeat cache_facts backing_facts v
      → HaveNotStored cache_facts backing_facts before sectors e values v w
      → HasGoneBy cache_facts backing_facts IsUnnoted v w
  not_stored_went before sectors e values v w seat (inl h) =
      subst (λ x. HasGoneBy cache_facts backing_facts IsUnnoted v x) (sym h.1)
      (none IsUnnoted v seat)
  not_stored_went before sectors e values v w seat (inr h) = three IsUnnoted v h.stored h.refused w
      (stored_went before sectors h.places values v h.stored seat h.were)
      (why_went before sectors e _ h.stored h.refused h.why.why)
      (let_go_went h.places h.refused w h.let_go)

  -- ---- a write under a claim

  module _ (before sectors first : ℕ) (values : List Value) (v w : View cache_facts backing_facts)
      (seat : IsCoreSeat cache_facts backing_facts v) where
    back_went : (This : List Placed → View cache_facts backing_facts
        → View cache_facts backing_facts
        → Type 0) → ((ps : List Placed) (u x : View cache_facts backing_facts) → This ps u x
        → HasGoneBy cache_facts backing_facts IsUnnotedApart u x)
        → HasTakenBack cache_facts backing_facts before sectors first values This v w
        → HasGoneBy cache_facts backing_facts LeavesClaim v w
    back_went This went h = as_claimed v w (three IsUnnoted v h.at h.stopped w
        (stored_went before sectors h.places values v h.at seat h.stored)
        (as_unnoted h.at h.stopped (went h.places h.at h.stopped h.this))
        (let_go_went h.places h.stopped w h.let_go))

    room_went : (why : Lack)
        → HasTakenBack cache_facts backing_facts before sectors first values
        (λ ps u x. HasLacked cache_facts backing_facts why ps first (length values) u x) v w
        → HasGoneBy cache_facts backing_facts LeavesClaim v w
    room_went why h = back_went
        (λ ps u x. HasLacked cache_facts backing_facts why ps first (length values) u x)
        (λ ps u x. lacked_went why ps first (length values) u x) h

    no_room_went : (why : Lack)
        → HasNoRoom cache_facts backing_facts before sectors first values why v w
        → HasGoneBy cache_facts backing_facts LeavesClaim v w
    no_room_went lack.Bucket h =
        as_claimed v w (not_stored_went before sectors store.NoBucket values v w seat h)
    no_room_went lack.Leaf h = room_went lack.Leaf h
    no_room_went lack.Entry h = room_went lack.Entry h
    no_room_went lack.Number h = room_went lack.Number h

    pub come_went : (what : Put) (of : LineNumber)
        → HasComeTo cache_facts backing_facts before sectors first values what of v w
        → HasGoneBy cache_facts backing_facts LeavesClaim v w
    come_went put.Written of h = went_both cache_facts backing_facts LeavesClaim v h.at w
        (as_claimed v h.at (stored_went before sectors h.places values v h.at seat h.stored))
        (put_went h.places of first values h.at w h.put)
    come_went (put.Lacks why) of h = no_room_went why h

    pub not_written_went : (e : WriteError)
        → HasNotWritten cache_facts backing_facts before sectors first values e v w
        → HasGoneBy cache_facts backing_facts LeavesClaim v w
    not_written_went (error.Leaf e) (inl h) =
        as_claimed v w (not_stored_went before sectors (store.Step h.cause) values v w seat h.why)
    not_written_went (error.Leaf e) (inr h) = back_went
        (λ ps u x. HasNotPut cache_facts backing_facts first (length values) e u x)
        (λ ps u x. not_put_went first (length values) e u x) h
    not_written_went error.Place h =
        as_claimed v w (not_stored_went before sectors store.Outside values v w seat h)
