-- What was surveyed can be opened.
use Rattle.std.proofs.Common.{Option, Some, None, List}
use Rattle.bc_disk.specs.Disk.{DiskFacts, IfTold}
use Rattle.bc_disk.specs.Gens.{Gens}
use Rattle.bc_disk.specs.declared.geometry.Geometry.{Geometry}
use Rattle.bc_entries.specs.Journal.{Journal}
use Rattle.bc_image.specs.Pair.{Pair}
use Rattle.bc_key.specs.declared.key.Key.{Key}
use Rattle.bc_model.specs.Sector.{Image}
use Rattle.bc_pair.specs.Found.{pair_of}
use Rattle.bc_super.specs.declared.backing.BackingSuper.{BackingSuper}
use Rattle.bc_super.specs.declared.cache.CacheSuper.{CacheSuper}
use Rattle.bc_walk.specs.declared.visit.Visit.{Visit}
use Rattle.bc_replay.specs.declared.uses.Use.{Use}
use Rattle.bc_replay.specs.Causes.{OfHeld}
use Rattle.bc_replay.specs.Survey.{CanBeOpened, HasSurvey}

told_map : (P Q : Image → Type 0) (o : Option Image) → ((image : Image) → P image → Q image) → IfTold o P → IfTold o Q
told_map P Q None f p = tt
told_map P Q (Some image) f p = f image p

-- what follows from something of each pair follows of the one that two devices hold
pub held_map : (P Q : Pair → Type 0) (cache backing : DiskFacts) → ((p : Pair) → P p → Q p) → OfHeld P cache backing → OfHeld Q cache backing
held_map P Q cache backing f =
    told_map (λ c. IfTold backing.holds (λ b. P (pair_of cache backing c b))) (λ c. IfTold backing.holds (λ b. Q (pair_of cache backing c b))) cache.holds
    (λ c. told_map (λ b. P (pair_of cache backing c b)) (λ b. Q (pair_of cache backing c b)) backing.holds (λ b. f (pair_of cache backing c b)))

pub survey_opens : (cache backing : DiskFacts) (b : BackingSuper) (c : CacheSuper) (g : Geometry) (j : Journal) (gens : Gens) (seen : List Visit) (index : List Key) (uses : List Use)
    → OfHeld (λ p. HasSurvey p b c g j gens seen index uses) cache backing → OfHeld CanBeOpened cache backing
survey_opens cache backing b c g j gens seen index uses surveyed =
    held_map (λ p. HasSurvey p b c g j gens seen index uses) CanBeOpened cache backing (λ p s. (s.view, s.is_view, s.openable)) surveyed
