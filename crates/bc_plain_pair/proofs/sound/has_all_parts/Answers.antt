use Rattle.std.proofs.Common.{◌/◌, length, ap, ◌∙◌}
use Rattle.bc_super.specs.Super.{data_sectors}
use Rattle.bc_plain_pair.specs.PairBytes.{pair_of}
use Rattle.bc_plain_pair.proofs.Lives.{are_within}
use Rattle.bc_plain_pair.proofs.Whole.{its_buckets, its_journal, its_records, last_by}
use Rattle.bc_plain_pair.proofs.sound.has_all_parts.Goals as goal

pub returns-then-not-branch : goal.returns-then-not-branch
returns-then-not-branch c = λ all.
    let none = rw c.if-not-branch.true at c.in_ok-has_records.ensures in
    none (its_records (pair_of c.args.cache.now c.args.backing.now) c.args.v.now c.data_sectors-size.result (c.data_sectors-size.ensures ∙ ap (data_sectors (length c.args.backing.now / 512)) c.backing.ensures) all)

pub has_buckets-requires-clause-within : goal.has_buckets-requires-clause-within
has_buckets-requires-clause-within c =
    are_within (pair_of c.args.cache.now c.args.backing.now) c.args.v.now c.data_sectors-size.result c.requires.view (rw c.if-not-branch.false at c.in_ok-has_records.ensures).pointers

pub returns-then-not-branch-2 : goal.returns-then-not-branch-2
returns-then-not-branch-2 c = λ all. let none = rw c.if-not-branch-2.true at c.in_ok-has_buckets.ensures in none (its_buckets (pair_of c.args.cache.now c.args.backing.now) c.args.v.now all)

pub returns-then-not-branch-3 : goal.returns-then-not-branch-3
returns-then-not-branch-3 c = λ all. let none = rw c.if-not-branch-3.true at c.in_ok-has_journal.ensures in none (its_journal (pair_of c.args.cache.now c.args.backing.now) c.args.v.now all)

pub returns : goal.returns
returns c =
    last_by (pair_of c.args.cache.now c.args.backing.now) c.args.v.now c.data_sectors-size.result c.has_data.result (c.data_sectors-size.ensures ∙ ap (data_sectors (length c.args.backing.now / 512)) c.backing.ensures)
    (rw c.if-not-branch.false at c.in_ok-has_records.ensures) (rw c.if-not-branch-2.false at c.in_ok-has_buckets.ensures) (rw c.if-not-branch-3.false at c.in_ok-has_journal.ensures) c.has_data.ensures
