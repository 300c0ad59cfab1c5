use Rattle.std.proofs.Common.{take}
use Rattle.bc_model.specs.Values.{values_in}
use Rattle.bc_script.specs.Last.{Goes}
use Rattle.bc_script.proofs.last.Last.push_each.Given as goal

abbrev pub invariant-loop-place : goal.invariant-loop-place
invariant-loop-place l = Goes l.first (take l.place (values_in l.run)) l.initial.self l.self l.initial.text.items l.text.items
