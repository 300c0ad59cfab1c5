-- A seat behind a piece or a line that was read, or wasn't, has all numbers still.
use Rattle.std.proofs.Common.{◌≡◌, ◌∙◌, ℕ}
use Rattle.bc_disk.specs.Disk.{DiskFacts}
use Rattle.bc_cached.proofs.of_bc_hand.Knowing.{View, m}
use Rattle.bc_seats.specs.Seats.{Same}

module _ {C B : Type 0} (cache_facts : C → DiskFacts) (backing_facts : B → DiskFacts) where
  pub all_still : (v w : View cache_facts backing_facts) (seats : ℕ)
      → Same (m cache_facts backing_facts) v w → (v.first ≡ 0) × (v.end ≡ seats)
      → (w.first ≡ 0) × (w.end ≡ seats)
  all_still v w seats same all = (same.first ∙ all.0, same.end ∙ all.1)
