use Rattle.std.proofs.Common.{◌≡◌, ◌-◌, ◌≤◌, length, take, vec_capacity}
use Rattle.std.specs.Prelude.{map}
use Rattle.bc_new_chain.proofs.names.count_from.Given as goal

abbrev pub invariant-loop-bucket : goal.invariant-loop-bucket
invariant-loop-bucket l =
    (l.numbers.items ≡ map (λ n. n - l.first) (take l.bucket-index l.new))
    × (length l.new ≤ vec_capacity l.numbers)
