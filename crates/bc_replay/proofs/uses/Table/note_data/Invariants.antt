use Rattle.std.proofs.Common.{List, ◌++◌, take}
use Rattle.std.specs.List.{flat_map}
use Rattle.bc_disk.specs.declared.geometry.Geometry.{Geometry}
use Rattle.bc_replay.specs.Marks.{Mark, AreMarked, chain_marks, visit_marks, row_marks}
use Rattle.bc_replay.proofs.uses.Table.note_data.Given as goal

abbrev pub invariant-loop-i : goal.invariant-loop-i
invariant-loop-i l = (marks : List Mark) → AreMarked l.g marks l.initial.self.uses.items l.initial.self.mixed → AreMarked l.g (marks ++ flat_map (row_marks l.g l.gens) (take l.i l.index.keys)) l.self.uses.items l.self.mixed
