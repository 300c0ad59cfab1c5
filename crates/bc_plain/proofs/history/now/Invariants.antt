use Rattle.std.proofs.Common.{◌≡◌, reverse, take}
use Rattle.bc_model.specs.History.{now}
use Rattle.bc_disk.specs.Bytes.{image_of}
use Rattle.bc_plain.proofs.history.now.Given as goal

abbrev pub invariant-loop-entry : goal.invariant-loop-entry
invariant-loop-entry l = l.value ≡ now (image_of l.opening) (reverse (take l.entry-index l.entries)) l.sector
