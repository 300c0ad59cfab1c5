use Rattle.std.proofs.Common.{take}
use Rattle.bc_node.specs.Leaf.{AreAdded}
use Rattle.bc_replay.specs.Replay.{HaveExtents, entry_keys}
use Rattle.bc_replay.proofs.replay.add_entries.Given as goal

abbrev pub invariant-loop-i : goal.invariant-loop-i
invariant-loop-i l = HaveExtents l.journal.entries → AreAdded (entry_keys (take l.i l.journal.entries)) l.initial.map.keys l.map.keys
