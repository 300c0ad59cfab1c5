use Rattle.std.proofs.Common.{reverse, take, IsTrue}
use Rattle.std.specs.Prelude.{◌↔◌}
use Rattle.bc_model.specs.History.{IsLegal}
use Rattle.bc_disk.specs.Bytes.{image_of}
use Rattle.bc_plain.proofs.history.is_legal.Given as goal

abbrev pub invariant-loop-place : goal.invariant-loop-place
invariant-loop-place l = IsTrue l.legal ↔ IsLegal (image_of l.opening) (reverse (take l.place l.entries))
