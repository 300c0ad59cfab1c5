-- Who may work on the same sectors.
use Rattle.std.specs.Prelude.{◌≡◌, ◌≢◌, ℕ, List, [], ◌∷◌, ◌++◌, Option, Some, None}
use Rattle.bc_model.specs.Sector.{Value, at_run}
use Rattle.bc_flight.specs.Claims.{is_exclusive}
use Rattle.bc_flight.specs.declared.claim.Share.{Share}
use Rattle.bc_flight.specs.declared.claim.Share.TheVariants.{Shared, Exclusive}
use Rattle.bc_meta.specs.Layout.{Layout}
use Rattle.bc_meta.specs.Laws as meta
use Rattle.bc_leaves.specs.Parts as parts
use Rattle.bc_data.specs.Seats.{Claim, Apart, Covers, new_claim}
use Rattle.bc_data.specs.Data.{claim_of}
use Rattle.bc_events.specs.Example.{unused_cache, written, by_seat_1}
use Rattle.bc_events.specs.Run.{Opening, State, start, IsEnabled, IsRun, run}
use Rattle.bc_events.specs.Laws.{Always}
use Rattle.bc_events.specs.declared.event.Deed.{Deed}
use Rattle.bc_events.specs.declared.event.Deed.TheVariants as deed
use Rattle.bc_events.specs.declared.event.Failure.TheVariants as failure
use Rattle.bc_events.specs.declared.event.Event.{Event}

-- the claim of a seat in a state
abbrev pub claimed_by : State → ℕ → Claim
claimed_by st i = claim_of st.machine.whole.flow i

-- Where a claim may be made, it and any other seat's have no sector in common, or both are shared.
abbrev pub LawClaims : Type 0
LawClaims = (w : Opening) (st : State) (i first count : ℕ) (how : Share)
    → IsEnabled w st (record { seat = i; deed = deed.Claim first count how })
    → (k : ℕ) → k ≢ i → Apart (new_claim first count (is_exclusive how)) (claimed_by st k)

-- so it is with any two seats in each state of a run
abbrev pub LawApart : Type 0
LawApart = Always (λ w st. (i k : ℕ) → i ≢ k → Apart (claimed_by st i) (claimed_by st k))

-- the value that a deed gives to a sector for a line, or tries to
abbrev pub value_of : Deed → ℕ → Option Value
value_of (deed.InsertWrite leaf keys of first values) s = at_run first values s
value_of (deed.BackingWrite first (Some of) values) s = at_run first values s
value_of (deed.DeviceFault (failure.BackingWrite first (Some of) values)) s = at_run first values s
value_of d s = None

-- So a seat writes alone: no other has a claim on what it gives a value. A sector is written in the
-- run of `bc_events_example::laws::example_exists`.
abbrev pub LawAlone : Type 0
LawAlone = Always (λ w st. (i : ℕ) (d : Deed) → IsEnabled w st (record { seat = i; deed = d })
    → (s : ℕ) (v : Value) → value_of d s ≡ Some v
    → (k : ℕ) → k ≢ i → Covers (claimed_by st k) s → ⊥)

-- ---- two seats

-- the second seat asks for the first sector
abbrev pub claim_by_2 : Share → Event
claim_by_2 how = record { seat = 2; deed = deed.Claim 0 1 how }

-- the first seat has written it, under a claim that is its alone; and has let go
abbrev pub released : List Event
released = by_seat_1 (written ++ deed.Release ∷ [])

-- While the first seat's claim stands the second may make none, shared or not; behind its release
-- it may make either.
pub record HasTwoSeats (w : Opening) (x : parts.State) (n : ℕ) : Type 0 where
  pub refused : (how : Share)
      → IsEnabled w (run w (start w x n) (by_seat_1 written)) (claim_by_2 how) → ⊥
  pub shared : IsRun w (start w x n) (released ++ claim_by_2 Shared ∷ [])
  pub exclusive : IsRun w (start w x n) (released ++ claim_by_2 Exclusive ∷ [])

abbrev pub LawTwoSeats : Type 0
LawTwoSeats = (layout : Layout) (before : ℕ) (store : meta.Opening) (x : parts.State) (n : ℕ)
    → HasTwoSeats (unused_cache layout before store) x n
