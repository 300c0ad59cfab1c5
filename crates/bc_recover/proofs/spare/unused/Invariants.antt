use Rattle.bc_recover.specs.Spare.{AreThose, IsUnused}
use Rattle.bc_recover.proofs.spare.unused.Given as goal

abbrev pub invariant-loop-bucket : goal.invariant-loop-bucket
invariant-loop-bucket l = AreThose (IsUnused l.uses) l.bucket l.spare.items
