-- A disk on which a sector was written and made stable stands for the model that these calls leave.
use Rattle.std.proofs.Common.{◌≡◌, ℕ, List, Option, Some, None, refl, ap, ◌∙◌}
use Rattle.bc_model.specs.Sector.{Value, Image}
use Rattle.bc_disk.specs.Device.{DeviceModel, after_barrier, after_failed_write, after_write, next_count}
use Rattle.bc_disk.specs.Disk.{DiskFacts, BothTold, Torn, IsFailedWrite, IsWritten, IsSettled, StandsFor}
use Rattle.bc_disk.proofs.Stands.{write_stands, failed_write_stands, barrier_stands}
use Rattle.bc_super.specs.Writing.{IsStored, count_after}

module _ (old new : DiskFacts) (model : DeviceModel) (at : ℕ) (values : List Value) (stands : StandsFor old model) where
  pub stored_stands : IsStored at values old new → new.calls ≡ count_after 2 old.calls → new.faults ≡ old.faults → StandsFor new (after_barrier (after_write at values model))
  stored_stands is calls faults = barrier_stands mid new (after_write at values model) (write_stands old mid model stands at values written (refl, refl)) settled (calls, faults)
    where
      -- between the write and the barrier
      mid : DiskFacts
      mid = record {
        sectors = old.sectors;
        holds = new.holds;
        may_leave = λ image. (before : Image) × old.may_leave before × Torn at values before image;
        calls = next_count old.calls;
        faults = old.faults;
      }

      written : IsWritten at values old mid
      written = record { sectors = refl; holds = is.holds; leaves = λ image. ((λ may. may), (λ may. may)) }

      settled : IsSettled mid new
      settled = record { sectors = is.sectors; holds = same new.holds; leaves = is.leaves }
        where
          same : (holds : Option Image) → BothTold (λ (a b : Image). (s : ℕ) → b s ≡ a s) holds holds
          same None = tt
          same (Some image) = λ s. refl

  pub failed_stands : (k : ℕ) → IsFailedWrite at values old new → new.calls ≡ count_after k old.calls → new.faults ≡ next_count old.faults → let failed = after_failed_write at values model in StandsFor new (record failed { calls = count_after k model.calls })
  failed_stands k is calls faults = record {
    sectors = once.sectors;
    content = once.content;
    calls = calls ∙ ap (count_after k) stands.calls;
    faults = once.faults;
  }
    where
      -- as if one call had failed
      mid : DiskFacts
      mid = record new { calls = next_count old.calls }

      once : StandsFor mid (after_failed_write at values model)
      once = failed_write_stands old mid model stands at values (record { sectors = is.sectors; holds = is.holds; leaves = is.leaves }) (refl, faults)
