use Rattle.std.proofs.Common.{◌≡◌, List, ℕ}
use Rattle.bc_bucket.specs.Buckets.{Buckets}
use Rattle.bc_alloc.specs.Reserves.{Reserves, wanted}
use Rattle.bc_alloc.specs.Victims.{AreVictims, IsCandidate}
use Rattle.bc_alloc.proofs.Unique.{one_list}
use Rattle.bc_alloc.proofs.laws.victims_are_one.Goals as goal

one : (r : Reserves) (b : Buckets) (vs ws : List ℕ) → AreVictims r b vs → AreVictims r b ws → vs ≡ ws
one r b vs ws = one_list (IsCandidate r b) b.records (wanted r) vs ws

pub returns : goal.returns
returns c = one
