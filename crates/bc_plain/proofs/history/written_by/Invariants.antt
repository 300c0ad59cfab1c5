use Rattle.std.proofs.Common.{◌≡◌, ◌≤◌, reverse, take}
use Rattle.bc_model.specs.History.{written_by}
use Rattle.bc_plain.proofs.history.written_by.Given as goal

abbrev pub invariant-loop-place : goal.invariant-loop-place
invariant-loop-place l = (l.covered ≡ written_by l.by l.of l.at (reverse (take l.place l.entries))) × (l.covered ≤ l.place)
