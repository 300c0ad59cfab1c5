use Rattle.bc_alloc.proofs.Raising.{RaisedUpTo}
use Rattle.bc_alloc.proofs.reserves.raise_all.Given as goal

abbrev pub invariant-loop-bucket : goal.invariant-loop-bucket
invariant-loop-bucket l = RaisedUpTo l.fn.list l.fn.listed l.fn.b l.chosen l.bucket-index l.list l.listed l.b
