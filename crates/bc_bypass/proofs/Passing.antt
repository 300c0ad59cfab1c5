-- What comes of a write past the cache whose sectors have keys.
use Rattle.std.proofs.Common.{◌≡◌, ℕ, Bool, List, subst}
use Rattle.std.specs.Prelude.{length}
use Rattle.bc_around.specs.Past.{HasNotPassed, HasPassed}
use Rattle.bc_around.specs.declared.past.Past.{Past}
use Rattle.bc_around.specs.declared.past.Past.TheVariants as past
use Rattle.bc_around.specs.declared.past.PastError.{PastError}
use Rattle.bc_bypass.specs.Invalidated.{HasInvalidated, HasNotInvalidated}
use Rattle.bc_bypass.specs.Piece.{HasFoundThem, HasKeptThem, HasNotPassedBehind, HasPassedBehind}
use Rattle.bc_bypass.specs.declared.error.Invalidated.{Invalidated}
use Rattle.bc_bypass.specs.declared.error.Invalidated.TheVariants as invalidated
use Rattle.bc_disk.specs.Disk.{DiskFacts}
use Rattle.bc_events.specs.declared.event.LineNumber.{LineNumber}
use Rattle.bc_model.specs.Sector.{Value}
use Rattle.bc_parts.specs.Seat.{PartsView}
use Rattle.bc_write_back.proofs.of_bc_hand.Knowing.{View}
use Rattle.bc_write_back.specs.bc_machine.declared.part.CorePart.{CorePart}
use Rattle.bc_write_back.specs.bc_request.bc_fetch.declared.error.LeafError.{LeafError}

module _ {C B : Type 0} (cache_facts : C → DiskFacts) (backing_facts : B → DiskFacts) where
  pub passed_as : (p : PartsView (CorePart C B)) (force : Bool) (of : LineNumber) (first : ℕ)
      (values : List Value) (v w : View cache_facts backing_facts) (x y : Past) → x ≡ y
      → HasPassed cache_facts backing_facts x p force of first values v w
      → HasPassed cache_facts backing_facts y p force of first values v w
  passed_as p force of first values v w x y is h =
      subst (λ (z : Past). HasPassed cache_facts backing_facts z p force of first values v w) is h

  pub keys_as : (first count : ℕ) (v w : View cache_facts backing_facts) (x y : Invalidated)
      → x ≡ y → HasInvalidated cache_facts backing_facts x first count v w
      → HasInvalidated cache_facts backing_facts y first count v w
  keys_as first count v w x y is h =
      subst (λ (z : Invalidated). HasInvalidated cache_facts backing_facts z first count v w) is h

module _ {C B : Type 0} (cache_facts : C → DiskFacts) (backing_facts : B → DiskFacts)
    (p : PartsView (CorePart C B)) (force : Bool) (of : LineNumber) (first : ℕ)
    (values : List Value) (count : ℕ) (long : count ≡ length values)
    (v u : View cache_facts backing_facts)
    (cached : HasPassed cache_facts backing_facts past.Cached p force of first values v u)
    (w : View cache_facts backing_facts) where
  pub found : (what : Invalidated)
      → HasInvalidated cache_facts backing_facts what first count u w
      → HasFoundThem cache_facts backing_facts p force of first values what v w
  found what keys = record {
    found = u;
    cached = cached;
    keys = subst (λ n. HasInvalidated cache_facts backing_facts what first n u w) long keys;
  }

  pub kept : (e : LeafError) → HasNotInvalidated cache_facts backing_facts e first count u w
      → HasKeptThem cache_facts backing_facts p force of first values e v w
  kept e stop = record {
    found = u;
    cached = cached;
    stop = subst (λ n. HasNotInvalidated cache_facts backing_facts e first n u w) long stop;
  }

  module _ (keys : HasInvalidated cache_facts backing_facts invalidated.Gone first count u w)
      (x : View cache_facts backing_facts) where
    pub passed : (what : Past)
        → HasPassed cache_facts backing_facts what p force of first values w x
        → HasPassedBehind cache_facts backing_facts p force of first values what v x
    passed what done = record { gone = w; taken = found invalidated.Gone keys; passed = done }

    pub not_passed : (e : PastError)
        → HasNotPassed cache_facts backing_facts e p force of first values w x
        → HasNotPassedBehind cache_facts backing_facts p force of first values e v x
    not_passed e stop = record { gone = w; taken = found invalidated.Gone keys; stop = stop }
