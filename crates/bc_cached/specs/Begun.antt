-- A run over a pair with a cache, as it begins.
use Rattle.std.specs.Prelude.{◌≡◌, ℕ, false, List, [], ◌∷◌, Vec}
use Rattle.std.specs.declared.alloc.Global.{Global}
use Rattle.bc_alloc.specs.Reserves.{Reserves}
use Rattle.bc_bucket.specs.Buckets.{Buckets}
use Rattle.bc_bucket.specs.declared.walk.Found.{Found}
use Rattle.bc_disk.specs.Disk.{DiskFacts}
use Rattle.bc_parts.specs.Seat.{PartsView}
use Rattle.bc_begun.specs.bc_machine.declared.part.BackingPart.{BackingPart}
use Rattle.bc_begun.specs.bc_machine.declared.part.BucketsPart.{BucketsPart}
use Rattle.bc_begun.specs.bc_machine.declared.part.CorePart.{CorePart}
use Rattle.bc_begun.specs.bc_machine.declared.part.CorePart.TheVariants as part
use Rattle.bc_deed.specs.bc_hand.Seats.{View, Works, empty}
use Rattle.bc_begun.specs.Begin.{Beginning, parts_of}
use Rattle.bc_cached.specs.declared.run.Ready.{Ready}

-- These are the buckets, their lists and their chain, and none is open for data. No chain is newer
-- than that one, and no trace round is open.
pub record AreUnopened (b : Buckets) (r : Reserves) (chain : Vec ℕ Global) (walk : List Found)
    (p : BucketsPart) : Type 0 where
  pub buckets : p.buckets ≡ b
  pub reserves : p.reserves ≡ r
  pub fill : p.fill ≡ []
  pub chain_is : p.chain ≡ chain
  pub renewing : p.renewing ≡ false
  pub round : p.round ≡ record { walk = walk; going = false; next = 0 }
  pub served : p.served ≡ 0

-- What the run begins with is just what was ready; nothing is claimed, no candidate waits, and
-- neither a bucket nor a trace round is open.
pub record IsMadeOf {C B : Type 0} (ready : Ready C B) (k : Beginning C B) : Type 0 where
  pub seats : k.flight.seats ≡ 320
  pub claims : k.flight.claims ≡ []
  pub candidates : k.flight.candidates ≡ []
  pub next : k.flight.next ≡ 0
  pub buckets : AreUnopened ready.buckets ready.reserves ready.chain ready.walk k.buckets
  pub journal : k.journal ≡ ready.journal
  pub cache : k.cache ≡ ready.cache
  pub backing : k.backing ≡ ready.backing
  pub leaves : k.leaves ≡ ready.leaves.items

-- The run has just these parts. Its one seat has all numbers and nothing in hand, and nothing has
-- happened yet.
pub record HasBegun {C B : Type 0} (cache_facts : C → DiskFacts) (backing_facts : B → DiskFacts)
    (ready : Ready C B) (parts : PartsView (CorePart C B))
    (seat : View cache_facts backing_facts) : Type 0 where
  pub beginning : Beginning C B
  pub made : IsMadeOf ready beginning
  pub start : parts.run.start ≡ parts_of ready.tree beginning
  pub seats : parts.seats ≡ 320
  pub first : seat.first ≡ 0
  pub end : seat.end ≡ 320
  pub seen : seat.seen ≡ []
  pub promises : seat.promises ≡ 0
  pub works : Works cache_facts backing_facts parts seat empty

-- both devices stand at their places among the parts
abbrev pub HasDevices : {C B : Type 0} → List (CorePart C B) → C → BackingPart B → Type 0
HasDevices {C} {B} ps cache backing =
    (a b c d : CorePart C B) × (rest : List (CorePart C B))
    × (ps ≡ a ∷ b ∷ c ∷ d ∷ part.Cache cache ∷ part.Backing backing ∷ rest)
