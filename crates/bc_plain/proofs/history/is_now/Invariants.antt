use Rattle.std.proofs.Common.{◌≡◌, reverse, take, IsTrue}
use Rattle.std.specs.Prelude.{◌↔◌}
use Rattle.bc_model.specs.History.{now}
use Rattle.bc_disk.specs.Bytes.{image_of}
use Rattle.bc_plain.proofs.history.is_now.Given as goal

abbrev pub invariant-loop-entry : goal.invariant-loop-entry
invariant-loop-entry l = IsTrue l.same ↔ (l.value ≡ now (image_of l.opening) (reverse (take l.entry-index l.entries)) l.sector)
