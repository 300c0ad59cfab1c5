use Rattle.std.proofs.Common.{◌≡◌, true, false, ltb, ltb-true, ltb-false, rules}
use Rattle.std.specs.List.Sorted.{IsPartitionPoint}
use Rattle.std.proofs.lemmas.List.Sorted.{IsPartitionPoint-from_clause, IsPartitionedBy-ltb}
use Rattle.bc_key.specs.declared.key.Key.{Key}
use Rattle.bc_key.specs.Key.{start_of}
use Rattle.bc_extent.proofs.LastKeys.{starts_rise}
use Rattle.bc_plain.proofs.vector.places.count_begun.Goals as goal

point : (c : goal.After-partition_point) → IsPartitionPoint (λ (key : Key). ltb (start_of key) c.args.sector ≡ true) (λ key. ltb (start_of key) c.args.sector ≡ false) c.args.keys.now c.partition_point.result
point c =
    let parted = IsPartitionedBy-ltb (λ (key : Key). start_of key) c.args.keys.now c.args.sector (starts_rise c.args.keys.now c.requires) in
    IsPartitionPoint-from_clause (λ key. ltb (start_of key) c.args.sector) _ _ c.partition_point.ensures.partitioned parted (λ a r q k. search rules)

pub returns-clause-begun : goal.returns-clause-begun
returns-clause-begun c = λ k d from below. ltb-true _ _ ((point c).0 k d from below)

pub returns-clause-later : goal.returns-clause-later
returns-clause-later c = λ k d from below. ltb-false _ _ ((point c).1 k d from below)
