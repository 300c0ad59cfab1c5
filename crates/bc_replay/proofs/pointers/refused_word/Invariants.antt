use Rattle.std.proofs.Common.{ℕ, ◌<◌}
use Rattle.bc_key.specs.Key.{ptr_at}
use Rattle.bc_replay.specs.Refused.{MayBeNode}
use Rattle.bc_replay.proofs.pointers.refused_word.Given as goal

abbrev pub invariant-loop-i : goal.invariant-loop-i
invariant-loop-i l = (i : ℕ) → i < l.i → MayBeNode l.g l.root l.key (ptr_at l.key i)
