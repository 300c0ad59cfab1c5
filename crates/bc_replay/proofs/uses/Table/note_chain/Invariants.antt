use Rattle.std.proofs.Common.{List, ◌++◌, take}
use Rattle.std.specs.List.{flat_map}
use Rattle.bc_disk.specs.declared.geometry.Geometry.{Geometry}
use Rattle.bc_replay.specs.Marks.{Mark, AreMarked, chain_marks, visit_marks, row_marks}
use Rattle.bc_replay.proofs.uses.Table.note_chain.Given as goal

abbrev pub invariant-loop-bucket : goal.invariant-loop-bucket
invariant-loop-bucket l = (g : Geometry) (marks : List Mark) → AreMarked g marks l.initial.self.uses.items l.initial.self.mixed → AreMarked g (marks ++ chain_marks (take l.bucket-index l.chain)) l.self.uses.items l.self.mixed
