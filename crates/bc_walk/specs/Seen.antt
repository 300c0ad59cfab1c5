-- Which buckets a walk has taken, and how far it came on a device.
use Rattle.std.specs.Prelude.{◌≡◌, ◌⊎◌, ℕ, List, ◌∷◌, [], ◌++◌, ◌<◌, length, Bool, false, slice_index_or, Ok, Err}
use Rattle.std.specs.Bool.{MatchBool}
use Rattle.bc_disk.specs.Disk.{DiskFacts, IfTold}
use Rattle.bc_disk.specs.declared.geometry.Geometry.{Geometry}
use Rattle.bc_model.specs.Sector.{Image}
use Rattle.bc_image.specs.Pointers.{PointsInto}
use Rattle.bc_image.specs.Sound.{IsNodeKey}
use Rattle.bc_key.specs.declared.key.Key.{Key}
use Rattle.bc_walk.specs.declared.error.WalkError.{WalkError}
use Rattle.bc_walk.specs.declared.error.WalkError.TheVariants as errors
use Rattle.bc_walk.specs.declared.visit.Visit.{Visit}
use Rattle.bc_walk.specs.declared.visit.Visit.TheVariants as visits
use Rattle.bc_walk.specs.Walk.{Found, Way, IsIndexSearch, IsMetAgain, IsNew, IsVisited}

-- the key is that of a node in this bucket
pub record IsNodeIn (g : Geometry) (key : Key) (bucket : ℕ) : Type 0 where
  pub proper : IsNodeKey g key
  pub place : PointsInto g key bucket
  pub within : bucket < g.nbuckets

-- a flag for each bucket says whether a node was met in it
pub record AreFlags (g : Geometry) (seen : List Visit) (taken : List Bool) : Type 0 where
  pub each : length taken ≡ g.nbuckets
  pub tells : (bucket : ℕ) → bucket < g.nbuckets → MatchBool (slice_index_or taken bucket false) (IsVisited g seen bucket) (¬ (IsVisited g seen bucket))

abbrev pub found_of : List Visit → List Key → Found
found_of visits keys = record { visits = visits; keys = keys }

-- the walk goes past the key
abbrev pub IsPassed : Geometry → Key → List Visit → List Visit → Type 0
IsPassed g key old new = ((¬ (IsNodeKey g key)) × (new ≡ old ++ visits.Barred key ∷ [])) ⊎ (IsMetAgain g old key × (new ≡ old ++ visits.Again key ∷ []))

-- it takes the node of the key, in this bucket
abbrev pub TakesNode : Geometry → ℕ → ℕ → Key → List Visit → List Visit → ℕ → Type 0
TakesNode g level from key old new bucket = IsNew g old key bucket × (new ≡ old ++ visits.Met level from key ∷ [])

-- a walk on what the device holds went from some visits to others, and whatever was taken before, the keys that it met were taken too
abbrev pub Went : DiskFacts → (Image → Found → Way → Type 0) → (List Key → Type 0) → (List Key → Type 0) → List Visit → List Visit → Type 0
Went d search took takes old new =
    IfTold d.holds (λ image. (keys : List Key) → took keys → (more : List Key) × takes more × search image (found_of old keys) (Ok (found_of new more)))

-- it ended at a fault
abbrev pub Ended : DiskFacts → (Image → Found → Way → Type 0) → (List Key → Type 0) → List Visit → WalkError → Type 0
Ended d search took old (errors.Node bucket why) = IfTold d.holds (λ image. (keys : List Key) → took keys → search image (found_of old keys) (Err (errors.Node bucket why)))
Ended d search took old errors.Fault = Unit {0}
Ended d search took old errors.Memory = Unit {0}

-- ---- of a whole index

abbrev pub WentWhole : DiskFacts → Geometry → ℕ → Key → (List Key → Type 0) → List Visit → Type 0
WentWhole d g level root takes visits =
    IfTold d.holds (λ image. (keys : List Key) × takes keys × IsIndexSearch g image level root (Ok (found_of visits keys)))

abbrev pub EndedWhole : DiskFacts → Geometry → ℕ → Key → WalkError → Type 0
EndedWhole d g level root (errors.Node bucket why) = IfTold d.holds (λ image. IsIndexSearch g image level root (Err (errors.Node bucket why)))
EndedWhole d g level root errors.Fault = Unit {0}
EndedWhole d g level root errors.Memory = Unit {0}
