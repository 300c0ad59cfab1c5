use Rattle.std.proofs.Common.{◌≡◌, drop}
use Rattle.bc_held.specs.Next.{is_among}
use Rattle.bc_held.proofs.part.is_among.Given as goal

abbrev pub invariant-loop-o : goal.invariant-loop-o
invariant-loop-o l = is_among l.bucket l.fill ≡ is_among l.bucket (drop l.o-index l.fill)
