use Rattle.std.proofs.Common.{◌≡◌, true, false, leb, leb-true, leb-false, rules}
use Rattle.std.specs.List.Sorted.{IsPartitionPoint}
use Rattle.std.proofs.lemmas.List.Sorted.{IsPartitionPoint-from_clause, IsPartitionedBy-leb}
use Rattle.bc_key.specs.declared.key.Key.{Key}
use Rattle.bc_extent.proofs.LastKeys.{ends_rise}
use Rattle.bc_plain.proofs.vector.places.count_ended.Goals as goal

point : (c : goal.After-partition_point) → IsPartitionPoint (λ (key : Key). leb key.end c.args.sector ≡ true) (λ key. leb key.end c.args.sector ≡ false) c.args.keys.now c.partition_point.result
point c =
    let parted = IsPartitionedBy-leb (λ (key : Key). key.end) c.args.keys.now c.args.sector (ends_rise c.args.keys.now c.requires) in
    IsPartitionPoint-from_clause (λ key. leb key.end c.args.sector) _ _ c.partition_point.ensures.partitioned parted (λ a r q k. search rules)

pub returns-clause-ended : goal.returns-clause-ended
returns-clause-ended c = λ k d from below. leb-true _ _ ((point c).0 k d from below)

pub returns-clause-later : goal.returns-clause-later
returns-clause-later c = λ k d from below. leb-false _ _ ((point c).1 k d from below)
