use Rattle.std.proofs.Common.{◌≡◌, reverse, take}
use Rattle.bc_model.specs.History.{has_done}
use Rattle.bc_plain.proofs.history.has_done.Given as goal

abbrev pub invariant-loop-entry : goal.invariant-loop-entry
invariant-loop-entry l = l.done ≡ has_done l.worker l.line (reverse (take l.entry-index l.entries))
