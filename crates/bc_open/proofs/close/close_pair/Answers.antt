use Rattle.std.proofs.Common.{◌≡◌, List, subst}
use Rattle.std.specs.Prelude.{Any}
use Rattle.bc_bucket.specs.declared.bucket.Bucket.{Bucket}
use Rattle.bc_bucket.specs.declared.bucket.Mark.TheVariants as marks
use Rattle.bc_open.proofs.Exits.{closed_clean, closing_failed, closing_leaves}
use Rattle.bc_open.proofs.close.close_pair.Goals as goal

pub returns-clause-ok : goal.returns-clause-ok
returns-clause-ok g c =
    let barrier = c.in_ok-barrier.ensures in
    closed_clean c.args.superblock.now (g.B.Disk.facts c.args.backing.now)
    (g.B.Disk.facts c.barrier.new.self) (g.B.Disk.facts c.write_state.new.disk) barrier.ok
    c.write_state.result c.args.buckets.now
    (subst (λ (xs : List Bucket). Any (λ b. b.mark ≡ marks.Dirty) xs → ⊥) c.records.ensures
    c.if-any_dirty.ensures) barrier.counted.0 c.write_state.ensures.ok c.write_state.ensures.counted

pub returns-clause-failed : goal.returns-clause-failed
returns-clause-failed g c =
    let barrier = c.in_ok-barrier.ensures in
    closing_failed c.args.superblock.now (g.B.Disk.facts c.args.backing.now)
    (g.B.Disk.facts c.barrier.new.self) (g.B.Disk.facts c.write_state.new.disk) barrier.ok
    c.write_state.result barrier.counted.0 barrier.counted.1 c.write_state.ensures.counted

pub returns-clause-left : goal.returns-clause-left
returns-clause-left g c = λ still.
    closing_leaves c.args.superblock.now (g.B.Disk.facts c.args.backing.now)
    (g.B.Disk.facts c.barrier.new.self) (g.B.Disk.facts c.write_state.new.disk)
    c.in_ok-barrier.ensures.ok c.write_state.result c.args.buckets.now
    (subst (λ (xs : List Bucket). Any (λ b. b.mark ≡ marks.Dirty) xs → ⊥) c.records.ensures
    c.if-any_dirty.ensures) c.write_state.ensures.ok c.write_state.ensures.failed
