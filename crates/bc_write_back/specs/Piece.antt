-- A piece of a line that is written into the cache.
use Rattle.std.specs.Prelude.{◌≡◌, ◌⊎◌, ℕ, List, [], ◌∷◌, length}
use Rattle.bc_disk.specs.Disk.{DiskFacts}
use Rattle.bc_events.specs.declared.event.Deed.TheVariants as deed
use Rattle.bc_events.specs.declared.event.LineNumber.{LineNumber}
use Rattle.bc_flight.specs.declared.claim.Share.TheVariants.{Exclusive}
use Rattle.bc_stored.specs.bc_deed.Asked.{IsHaltedOr}
use Rattle.bc_stored.specs.bc_deed.Flushed.{HasDone}
use Rattle.bc_stored.specs.bc_hand.Seats.{View}
use Rattle.bc_stored.specs.bc_hand.declared.error.StepError.{StepError}
use Rattle.bc_model.specs.Sector.{Value}
use Rattle.bc_request.specs.bc_fetch.declared.error.LeafError.TheVariants as leaf
use Rattle.bc_write_back.specs.Claimed.{HasComeTo, HasNotWritten}
use Rattle.bc_write_back.specs.declared.error.Put.{Put}
use Rattle.bc_write_back.specs.declared.error.WriteError.{WriteError}
use Rattle.bc_write_back.specs.declared.error.WriteError.TheVariants as error

module _ {C B : Type 0} (cache_facts : C → DiskFacts) (backing_facts : B → DiskFacts) where
  -- The sectors were claimed for the seat alone; then this came; and then the claim was let go.
  pub record HasClaimedFor
      (This : View cache_facts backing_facts → View cache_facts backing_facts → Type 0)
      (first count : ℕ) (v w : View cache_facts backing_facts) : Type 0 where
    pub claimed : View cache_facts backing_facts
    pub claim : HasDone cache_facts backing_facts (deed.Claim first count Exclusive ∷ []) v claimed
    pub done : View cache_facts backing_facts
    pub this : This claimed done
    pub released : HasDone cache_facts backing_facts (deed.Release ∷ []) done w

  -- A halt or want of memory came before the claim, and nothing was done.
  pub record HasNotClaimed (e : WriteError) (v w : View cache_facts backing_facts) : Type 0 where
    pub cause : StepError
    pub is : e ≡ error.Leaf (leaf.Step cause)
    pub why : IsHaltedOr cause w.seen
    pub done : HasDone cache_facts backing_facts [] v w

  module _ (before sectors : ℕ) (first : ℕ) (values : List Value) where
    -- a piece was written, or there was no room for it
    abbrev pub HasPutPiece : Put → LineNumber → View cache_facts backing_facts
        → View cache_facts backing_facts → Type 0
    HasPutPiece put of v w = HasClaimedFor
        (HasComeTo cache_facts backing_facts before sectors first values put of)
        first (length values) v w

    -- or it wasn't
    abbrev pub HasNotPutPiece : WriteError → View cache_facts backing_facts
        → View cache_facts backing_facts → Type 0
    HasNotPutPiece e v w = HasNotClaimed e v w ⊎ HasClaimedFor
        (HasNotWritten cache_facts backing_facts before sectors first values e)
        first (length values) v w
