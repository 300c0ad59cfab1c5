use Rattle.std.proofs.Common.{◌≡◌, ◌<◌, length}
use Rattle.bc_set.specs.declared.set.Set.{Set}
use Rattle.bc_set.specs.declared.set.SetKind.TheVariants.{Extents}
use Rattle.bc_set.specs.SetBytes.{IsSet}
use Rattle.bc_records_bench.proofs.records.read_sets.Given as goal

abbrev pub invariant-loop-round : goal.invariant-loop-round
invariant-loop-round l = 0 < l._round → (s : Set) × IsSet 0x80003 1 Extents l.bytes s × (l.keys ≡ length s.keys)
