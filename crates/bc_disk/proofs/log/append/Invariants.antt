use Rattle.std.proofs.Common.{◌≡◌, ◌+◌, ◌≤◌, ◌++◌, take, vec_capacity, vec_len}
use Rattle.bc_disk.specs.Log.{logged}
use Rattle.bc_disk.proofs.log.append.Given as goal

abbrev pub invariant-loop-value : goal.invariant-loop-value
invariant-loop-value l =
    (l.sector ≡ l.at + l.value-index)
    × (l.log.items ≡ l.initial.log.items ++ logged l.at (take l.value-index l.values))
    × (vec_len l.log ≡ vec_len l.initial.log + l.value-index)
    × (vec_capacity l.initial.log ≤ vec_capacity l.log)
