use Rattle.std.proofs.Common.{◌≡◌, ◌≤◌, reverse, take}
use Rattle.bc_model.specs.History.{count_from}
use Rattle.bc_plain.proofs.history.count_from.Given as goal

abbrev pub invariant-loop-entry : goal.invariant-loop-entry
invariant-loop-entry l = (l.count ≡ count_from l.worker l.line (reverse (take l.entry-index l.entries))) × (l.count ≤ l.entry-index)
