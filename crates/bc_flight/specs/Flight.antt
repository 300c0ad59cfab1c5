-- The claims that stand, at most one for each seat, and the candidates beside them.
use Rattle.std.specs.Prelude.{◌≡◌, ℕ, ◌+◌, ◌<◌, ◌≤◌, ◌^◌, true, false, ◌==◌, List, [], ◌∷◌, Option, Some, None, if◌then◌else◌}
use Rattle.bc_flight.specs.Claims.{conflicts, conflicts_any}
use Rattle.bc_flight.specs.declared.candidate.Candidate.{Candidate}
use Rattle.bc_flight.specs.declared.claim.Claim.{Claim}
use Rattle.bc_flight.specs.declared.claim.Share.{Share}

-- what a flight is seen as
pub record InFlight : Type 0 where
  -- how many seats may claim
  pub seats : ℕ
  pub claims : List Claim
  -- the oldest first
  pub candidates : List Candidate
  -- the number of the next candidate
  pub next : ℕ

abbrev pub claim_at : ℕ → ℕ → ℕ → Share → Claim
claim_at seat first count how = record { seat = seat; first = first; count = count; share = how }

-- a seat's claim among these
abbrev pub claim_of : ℕ → List Claim → Option Claim
claim_of seat [] = None
claim_of seat (c ∷ cs) = if c.seat == seat then Some c else claim_of seat cs

-- the claims without those of a seat
abbrev pub without : ℕ → List Claim → List Claim
without seat [] = []
without seat (c ∷ cs) = if c.seat == seat then without seat cs else c ∷ without seat cs

-- sectors that there are, one at least
abbrev pub IsRanged : Claim → Type 0
IsRanged c = (1 ≤ c.count) × (c.first + c.count < 2 ^ 64)

-- each claim is one of a seat that there is, each seat has one at most, and no two conflict
abbrev pub IsInOrder : ℕ → List Claim → Type 0
IsInOrder seats [] = Unit {0}
IsInOrder seats (c ∷ cs) = (c.seat < seats) × IsRanged c × (claim_of c.seat cs ≡ None) × (conflicts_any c cs ≡ false) × IsInOrder seats cs

-- the claim of some seat stands among these and conflicts with it
abbrev pub HasConflict : Claim → List Claim → Type 0
HasConflict c cs = (other : Claim) × (claim_of other.seat cs ≡ Some other) × (conflicts c other ≡ true)
