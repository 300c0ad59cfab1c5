use Rattle.std.proofs.Common.{ℕ, true, Option, drop}
use Rattle.bc_replay.proofs.Words.{Words}
use Rattle.bc_replay.proofs.pointers.barred_word.Given as goal

abbrev pub invariant-loop-visit : goal.invariant-loop-visit
invariant-loop-visit l = (word : Option ℕ) → Words l.g l.root (drop l.visit-index l.seen) word → Words l.g true l.seen word
