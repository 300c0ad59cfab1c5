-- What a seat knows of places behind each step of a test.
use Rattle.std.proofs.Common.{◌≡◌, inl, inr, ℕ, Bool, [], ◌∷◌, ◌++◌, List, Some, None, refl, sym, ap, ◌∙◌, subst}
use Rattle.std.specs.Prelude.{Result, Ok, Err, IfErr, IfOk, OnErr, OnOk, if◌then◌else◌, is_none}
use Rattle.bc_alloc.specs.declared.purpose.NoBucket.{NoBucket}
use Rattle.bc_alloc.specs.declared.purpose.Purpose.TheVariants as list
use Rattle.bc_disk.specs.Disk.{DiskFacts}
use Rattle.bc_events.specs.declared.event.Deed.TheVariants as deed
use Rattle.bc_events.specs.declared.event.Failure.TheVariants as failure
use Rattle.bc_events.specs.declared.event.Written.TheVariants as written
use Rattle.bc_fill.specs.declared.fill.Placed.{Placed}
use Rattle.bc_place.specs.bc_hand.Seats.{HasNoneBehindBuckets, HasNoneBehindCache, IsCoreSeat, empty}
use Rattle.bc_place.specs.bc_hand.declared.error.StepError.{StepError}
use Rattle.bc_place.specs.bc_hand.declared.error.StepError.TheVariants as error
use Rattle.bc_place.specs.bc_hand.declared.hand.Hand.{Hand}
use Rattle.bc_place.proofs.of_bc_hand.Knowing.{View}
use Rattle.bc_place.specs.bc_machine.declared.part.BucketsPart.{BucketsPart}
use Rattle.bc_model.specs.Sector.{Value}
use Rattle.bc_place.specs.Place.{HasHalted, HasPlaced, taken_by}
use Rattle.bc_place.specs.Written.{HasFailedToPlace, HasStored, KeepsPlaces}
use Rattle.bc_session_rows.specs.Run.{IsAlone, KeepsOwn}
use Rattle.bc_session_rows.proofs.Running.{alone_did, alone_done}

-- ---- hands

module _ {C B : Type 0} where
  pub none_behind_buckets : (h : Hand C B) → h ≡ empty → HasNoneBehindBuckets h
  none_behind_buckets h is = subst (λ (x : Hand C B). HasNoneBehindBuckets x) (sym is)
      (record { journal = refl; cache = refl; backing = refl })

  pub none_behind_cache : (h : Hand C B) → h ≡ empty → HasNoneBehindCache h
  none_behind_cache h is = subst (λ (x : Hand C B). HasNoneBehindCache x) (sym is)
      (record { backing = refl })

  -- buckets were borrowed by an empty hand, and returned
  pub returned : (a b c : Hand C B) (k : BucketsPart) (taken : Bool) → a ≡ empty
      → b ≡ record a { buckets = None } → taken ≡ is_none a.buckets
      → c ≡ record b { buckets = if taken then None else Some k } → c ≡ empty
  returned a b c k taken was lent is back = back
      ∙ ap (λ (h : Hand C B). record h { buckets = if taken then None else Some k })
      (lent ∙ ap (λ (h : Hand C B). record h { buckets = None }) was)
      ∙ ap (λ (t : Bool). record (empty {C = C} {B = B}) { buckets = if t then None else Some k })
      (is ∙ ap (λ (h : Hand C B). is_none h.buckets) was)

module _ {C B : Type 0} (cache_facts : C → DiskFacts) (backing_facts : B → DiskFacts) where
  -- ---- the seat has all numbers still

  placed_alone : (before count : ℕ) (r : Result Placed NoBucket)
      (v w : View cache_facts backing_facts) → IsAlone cache_facts backing_facts v
      → HasPlaced cache_facts backing_facts before count r v w
      → IsCoreSeat cache_facts backing_facts w → IsAlone cache_facts backing_facts w
  placed_alone before count (Ok p) v w alone h seat = alone_done cache_facts backing_facts v w
      (taken_by before p.opened ++ deed.Pin p.ptr.offset p.count h.full ∷ []) alone h.done seat
  placed_alone before count (Err none) v w alone h seat =
      alone_did cache_facts backing_facts v w None alone h.1

  halted_alone : (e : StepError) (v w : View cache_facts backing_facts)
      → IsAlone cache_facts backing_facts v → HasHalted cache_facts backing_facts e v w
      → IsCoreSeat cache_facts backing_facts w → IsAlone cache_facts backing_facts w
  halted_alone (error.Fault d) v w alone h seat = absurd h
  halted_alone (error.Halted d) v w alone h seat = elim h.1 [
    | inl none ↦ alone_done cache_facts backing_facts v w [] alone none seat
    | inr one ↦ alone_done cache_facts backing_facts v w (deed.Take list.Plain one.0 ∷ []) alone
        one.1 seat
  ]
  halted_alone error.Memory v w alone h seat = absurd h

  pub pinned_alone : (before count : ℕ) (r : Result (Result Placed NoBucket) StepError)
      (v w : View cache_facts backing_facts) → IsAlone cache_facts backing_facts v
      → IsCoreSeat cache_facts backing_facts w
      → IfOk r (λ answer. HasPlaced cache_facts backing_facts before count answer v w)
      → IfErr r (λ e. HasHalted cache_facts backing_facts e v w)
      → IsAlone cache_facts backing_facts w
  pinned_alone before count (Ok answer) v w alone seat ok err =
      placed_alone before count answer v w alone ok seat
  pinned_alone before count (Err e) v w alone seat ok err = halted_alone e v w alone err seat

  failed_alone : (e : StepError) (at : ℕ) (values : List Value)
      (v w : View cache_facts backing_facts) → IsAlone cache_facts backing_facts v
      → HasFailedToPlace cache_facts backing_facts e at values v w
      → IsAlone cache_facts backing_facts w
  failed_alone (error.Fault d) at values v w alone h = alone_did cache_facts backing_facts v w
      (Some (deed.DeviceFault (failure.CacheWrite at written.Data values))) alone h.1
  failed_alone (error.Halted d) at values v w alone h =
      alone_did cache_facts backing_facts v w None alone h.1
  failed_alone error.Memory at values v w alone h =
      alone_did cache_facts backing_facts v w None alone h

  module _ (at : ℕ) (values : List Value) (v w : View cache_facts backing_facts) where
    pub stored_alone : (r : Result (Unit {0}) StepError) → IsAlone cache_facts backing_facts v
        → OnOk r (HasStored cache_facts backing_facts at values v w)
        → IfErr r (λ e. HasFailedToPlace cache_facts backing_facts e at values v w)
        → IsAlone cache_facts backing_facts w
    stored_alone (Ok u) alone ok err = alone_did cache_facts backing_facts v w
        (Some (deed.CacheWrite at written.Data values)) alone ok.did
    stored_alone (Err e) alone ok err = failed_alone e at values v w alone err

    pub stored_keeps : (r : Result (Unit {0}) StepError)
        → OnOk r (HasStored cache_facts backing_facts at values v w)
        → OnErr r (KeepsPlaces cache_facts backing_facts v w)
        → KeepsOwn cache_facts backing_facts v w
    stored_keeps (Ok u) ok err = ok.own
    stored_keeps (Err e) ok err = err.own
