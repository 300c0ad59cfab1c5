use Rattle.std.proofs.Common.{take}
use Rattle.bc_bucket.specs.Meaning.{IsFound}
use Rattle.bc_plain.proofs.bucket.found.Given as goal

abbrev pub invariant-loop-reference : goal.invariant-loop-reference
invariant-loop-reference l = IsFound l.own (take l.reference-index l.references) l.found
