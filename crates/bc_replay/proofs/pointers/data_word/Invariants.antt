use Rattle.std.proofs.Common.{ℕ, ◌<◌}
use Rattle.bc_key.specs.Key.{ptr_at}
use Rattle.bc_replay.specs.Limits.{rule_in}
use Rattle.bc_replay.specs.Refused.{MayBeData}
use Rattle.bc_replay.proofs.pointers.data_word.Given as goal

abbrev pub invariant-loop-i : goal.invariant-loop-i
invariant-loop-i l = (i : ℕ) → i < l.i → MayBeData (rule_in l.limits) l.key (ptr_at l.key i)
