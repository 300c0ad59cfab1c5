-- Data that lies on the cache device and isn't named by the index yet.
use Rattle.std.specs.Prelude.{ℕ, suc, ◌+◌, ◌≤◌, Bool, true, ◌&&◌, not, nat_lt, max, min, List, [], ◌∷◌, map, Option, Some, None, if◌then◌else◌}
use Rattle.bc_key.specs.Key.{start_of}
use Rattle.bc_key.specs.declared.key.Key.{Key}
use Rattle.bc_flight.specs.Claims.{is_exclusive}
use Rattle.bc_flight.specs.declared.claim.Claim.{Claim}
use Rattle.bc_flight.specs.declared.candidate.Candidate.{Candidate}
use Rattle.bc_flight.specs.declared.candidate.Wanted.{Wanted}
use Rattle.bc_flight.specs.declared.candidate.Wanted.TheVariants.{Dead, Due}

-- what candidates are seen as
pub record Waiting : Type 0 where
  -- the oldest first
  pub candidates : List Candidate
  -- the number of the next one
  pub next : ℕ

-- some sector of the candidate is one of so many from the first on
abbrev pub is_over : ℕ → ℕ → Candidate → Bool
is_over first count c = nat_lt (max first (start_of c.key)) (min (first + count) c.key.end)

-- killed where it is over the range, and left as it is elsewhere
abbrev pub killed_over : ℕ → ℕ → Candidate → Candidate
killed_over first count c = if is_over first count c then (record c { killed = true }) else c

-- these, once each that is over the range is killed
abbrev pub kill_over : ℕ → ℕ → List Candidate → List Candidate
kill_over first count cs = map (killed_over first count) cs

-- what a claim that is granted leaves of them
abbrev pub after_claim : Claim → List Candidate → List Candidate
after_claim c cs = if is_exclusive c.share then kill_over c.first c.count cs else cs

-- a killed one; or one that wasn't, with a number below
abbrev pub is_wanted : Wanted → Candidate → Bool
is_wanted Dead c = c.killed
is_wanted (Due before) c = not c.killed && nat_lt c.number before

-- the oldest one that is wanted
abbrev pub first_of : Wanted → List Candidate → Option Candidate
first_of wanted [] = None
first_of wanted (c ∷ cs) = if is_wanted wanted c then Some c else first_of wanted cs

-- all but that one
abbrev pub without_first : Wanted → List Candidate → List Candidate
without_first wanted [] = []
without_first wanted (c ∷ cs) = if is_wanted wanted c then cs else c ∷ without_first wanted cs

-- numbers from `low` on rise, and stay below the next one
abbrev pub AreNumbered : ℕ → ℕ → List Candidate → Type 0
AreNumbered low next [] = low ≤ next
AreNumbered low next (c ∷ cs) = (low ≤ c.number) × AreNumbered (suc c.number) next cs

-- the range of a candidate that is there
abbrev pub key_of : Option Candidate → Option Key
key_of None = None
key_of (Some c) = Some c.key
