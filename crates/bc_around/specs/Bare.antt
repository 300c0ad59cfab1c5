-- Sectors over which no key stands, as the seat knows that claimed them.
use Rattle.std.specs.Prelude.{◌≡◌, ◌⊎◌, ℕ, ◌+◌, ◌<◌, ◌≤◌, true, None}
use Rattle.bc_data.specs.Seats.{Claim}
use Rattle.bc_disk.specs.Disk.{DiskFacts}
use Rattle.bc_flush.specs.Durable.{AreDurable}
use Rattle.bc_flush.specs.bc_hand.Seats.{View, world}
use Rattle.bc_flush.specs.bc_machine.World.{FromEach, Origin}
use Rattle.bc_flush.specs.bc_sight.Sight.{OfClaim}

-- The seat looked the sector up and found none, and what the leaf had got by then is durable; or it
-- took the sector's keys away, and that is durable.
abbrev pub IsBareUpTo : ℕ → Claim → ℕ → Type 0
IsBareUpTo durable c s = ((c.looked ≡ true) × (c.sight s ≡ None) × (c.keys ≤ durable))
    ⊎ ((c.gone s ≡ true) × (c.gone_keys ≤ durable))

abbrev pub AreBareUpTo : ℕ → (first count : ℕ) → Claim → Type 0
AreBareUpTo durable first count c =
    (s : ℕ) → first ≤ s → s < first + count → IsBareUpTo durable c s

module _ {C B : Type 0} (cache_facts : C → DiskFacts) (backing_facts : B → DiskFacts) where
  -- So it is with each of these sectors, in any index that a crash may still leave.
  pub record AreBare (first count : ℕ) (v : View cache_facts backing_facts) : Type 0 where
    pub number : Origin → ℕ
    pub bare : OfClaim cache_facts backing_facts v
        (λ o c. AreBareUpTo (number o) first count c)
    pub durable : FromEach (world cache_facts backing_facts v) (AreDurable number)
