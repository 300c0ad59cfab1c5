use Rattle.std.proofs.Common.{◌≡◌, reverse, take, IsTrue}
use Rattle.std.specs.Prelude.{◌↔◌}
use Rattle.bc_model.specs.Sector.{Gives}
use Rattle.bc_model.specs.History.{now}
use Rattle.bc_disk.specs.Bytes.{image_of}
use Rattle.bc_plain.proofs.history.is_right.Given as goal

abbrev pub invariant-loop-i : goal.invariant-loop-i
invariant-loop-i l = IsTrue l.right ↔ Gives l.first (take l.i l.values) (λ s v. v ≡ now (image_of l.opening) (reverse l.before) s)
