use Rattle.std.proofs.Common.{◌≡◌, ◌++◌}
use Rattle.std.specs.Prelude.{map, vec_capacity}
use Rattle.bc_begun.specs.bc_machine.declared.part.CorePart.TheVariants as part
use Rattle.bc_cached.proofs.run.add_leaves.Given as goal

abbrev pub invariant-loop-cache : goal.invariant-loop-cache
invariant-loop-cache g l =
    (goal.iterator-loop-cache g).can_next l.cache-iterator
    × (goal.iterator-loop-cache g).is_finite l.cache-iterator
    × (l.parts.items ≡ l.initial.parts.items ++ map part.Leaves l.yielded)
    × (vec_capacity l.parts ≡ vec_capacity l.initial.parts)
