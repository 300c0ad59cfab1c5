use Rattle.std.proofs.Common.{◌≡◌, ◌++◌, take}
use Rattle.std.specs.List.{flat_map}
use Rattle.bc_plain_pair.proofs.reading.Reading.keys.Given as goal

abbrev pub invariant-loop-entry : goal.invariant-loop-entry
invariant-loop-entry l = l.keys.items ≡ l.initial.keys.items ++ flat_map (λ e. e.item.keys) (take l.entry-index l.self.entries)
