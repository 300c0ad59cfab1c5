use Rattle.std.proofs.Common.{List, ◌++◌, take}
use Rattle.std.specs.List.{flat_map}
use Rattle.bc_disk.specs.declared.geometry.Geometry.{Geometry}
use Rattle.bc_replay.specs.Marks.{Mark, AreMarked, chain_marks, visit_marks, row_marks}
use Rattle.bc_replay.proofs.uses.Table.note_nodes.Given as goal

abbrev pub invariant-loop-visit : goal.invariant-loop-visit
invariant-loop-visit l = (marks : List Mark) → AreMarked l.g marks l.initial.self.uses.items l.initial.self.mixed → AreMarked l.g (marks ++ flat_map (visit_marks l.g) (take l.visit-index l.seen)) l.self.uses.items l.self.mixed
