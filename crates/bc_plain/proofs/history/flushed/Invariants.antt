use Rattle.std.proofs.Common.{◌≡◌, ◌≤◌, reverse, take}
use Rattle.bc_model.specs.History.{flushed_in}
use Rattle.bc_plain.proofs.history.flushed.Given as goal

abbrev pub invariant-loop-place : goal.invariant-loop-place
invariant-loop-place l = (l.covered ≡ flushed_in (reverse l.entries) (reverse (take l.place l.entries))) × (l.covered ≤ l.place)
