use Rattle.std.proofs.Common.{◌≡◌, ℕ, ◌<◌, ◌≤◌, get_or}
use Rattle.bc_disk.specs.Crash.{choice}
use Rattle.bc_disk.proofs.crash.choose.Given as goal

abbrev pub invariant-loop-sector : goal.invariant-loop-sector
invariant-loop-sector l =
    ((s : ℕ) → s < l.sector → get_or l.counts s 0 ≡ choice l.pick s (get_or l.initial.counts s 0))
    × ((s : ℕ) → l.sector ≤ s → get_or l.counts s 0 ≡ get_or l.initial.counts s 0)
