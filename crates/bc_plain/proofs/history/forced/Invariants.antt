use Rattle.std.proofs.Common.{◌≡◌, ◌≤◌, reverse, take}
use Rattle.bc_model.specs.History.{forced}
use Rattle.bc_plain.proofs.history.forced.Given as goal

abbrev pub invariant-loop-place : goal.invariant-loop-place
invariant-loop-place l = (l.covered ≡ forced (reverse (take l.place l.entries)) l.sector) × (l.covered ≤ l.place)
