-- A range whose keys were taken away, from its claim to its release.
use Rattle.std.specs.Prelude.{◌≡◌, ◌⊎◌, ℕ, []}
use Rattle.bc_bypass.specs.Dropped.{HasComeTo}
use Rattle.bc_bypass.specs.declared.error.Invalidated.{Invalidated}
use Rattle.bc_disk.specs.Disk.{DiskFacts}
use Rattle.bc_write_back.specs.Piece.{HasClaimedFor}
use Rattle.bc_write_back.specs.Put.{HasNotPut}
use Rattle.bc_write_back.specs.bc_deed.Asked.{IsHaltedOr}
use Rattle.bc_write_back.specs.bc_deed.Flushed.{HasDone}
use Rattle.bc_write_back.specs.bc_hand.Seats.{View}
use Rattle.bc_write_back.specs.bc_hand.declared.error.StepError.{StepError}
use Rattle.bc_write_back.specs.bc_request.bc_fetch.declared.error.LeafError.{LeafError}
use Rattle.bc_write_back.specs.bc_request.bc_fetch.declared.error.LeafError.TheVariants as leaf

module _ {C B : Type 0} (cache_facts : C → DiskFacts) (backing_facts : B → DiskFacts) where
  -- the sectors were claimed, this came of their keys, and the claim was let go
  abbrev pub HasInvalidated : Invalidated → (first count : ℕ) → View cache_facts backing_facts
      → View cache_facts backing_facts → Type 0
  HasInvalidated what first count v w = HasClaimedFor cache_facts backing_facts
      (HasComeTo cache_facts backing_facts what first count) first count v w

  -- a halt or want of memory came before the claim, and nothing was done
  pub record HasNotClaimed (e : LeafError) (v w : View cache_facts backing_facts) : Type 0 where
    pub cause : StepError
    pub is : e ≡ leaf.Step cause
    pub why : IsHaltedOr cause w.seen
    pub done : HasDone cache_facts backing_facts [] v w

  -- or the leaf wasn't had, or a step under the claim didn't come to its end
  abbrev pub HasNotInvalidated : LeafError → (first count : ℕ) → View cache_facts backing_facts
      → View cache_facts backing_facts → Type 0
  HasNotInvalidated e first count v w = HasNotClaimed e v w
      ⊎ HasClaimedFor cache_facts backing_facts (HasNotPut cache_facts backing_facts first count e)
      first count v w
