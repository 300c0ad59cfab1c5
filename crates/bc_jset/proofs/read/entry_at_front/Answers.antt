use Rattle.std.proofs.Common.{inr, subst}
use Rattle.std.proofs.lemmas.Result.{err_from_is_err_and}
use Rattle.bc_jset.specs.EntryBytes.{IsLevel, uuid_bucket, root}
use Rattle.bc_jset.proofs.EntryLaws.{keys_cause, size_cause}
use Rattle.bc_jset.proofs.read.entry_at_front.Goals as goal

pub returns-in_err-uuid_bucket-clause-refused : goal.returns-in_err-uuid_bucket-clause-refused
returns-in_err-uuid_bucket-clause-refused c =
    let p = err_from_is_err_and c.from_residual-in_err-uuid_bucket.result c.from_residual-in_err-uuid_bucket.ensures.1 in
    let level = subst IsLevel c.get_u16-level.ensures (c.is_level.ensures.0 c.if-not-is_level.false) in
    rw (p.1, p.2) (inr (c.in_ok-count.ensures.whole, level, uuid_bucket c.in_err-uuid_bucket.field-0.0 c.in_err-uuid_bucket.ensures.refused))

pub returns-in_err-root-clause-refused : goal.returns-in_err-root-clause-refused
returns-in_err-root-clause-refused c =
    let p = err_from_is_err_and c.from_residual-in_err-root.result c.from_residual-in_err-root.ensures.1 in
    let level = subst IsLevel c.get_u16-level.ensures (c.is_level.ensures.0 c.if-not-is_level.false) in
    rw (p.1, p.2) (inr (c.in_ok-count.ensures.whole, level, root c.in_err-root.field-0.0 c.in_err-root.ensures.refused))

pub returns-in_err-keys-clause-refused : goal.returns-in_err-keys-clause-refused
returns-in_err-keys-clause-refused c =
    let p = err_from_is_err_and c.from_residual-in_err-keys.result c.from_residual-in_err-keys.ensures.1 in
    let level = subst IsLevel c.get_u16-level.ensures (c.is_level.ensures.0 c.if-not-is_level.false) in
    rw (p.1, p.2) (keys_cause c.args.magic c.args.bytes.now c.in_ok-count.count c.in_err-keys.field-0.0 c.in_ok-count.ensures.whole level c.in_ok-count.ensures.count c.in_err-keys.ensures.refused)

pub returns-then-not-are_extents-clause-refused : goal.returns-then-not-are_extents-clause-refused
returns-then-not-are_extents-clause-refused c =
    let level = subst IsLevel c.get_u16-level.ensures (c.is_level.ensures.0 c.if-not-is_level.false) in
    size_cause c.args.magic c.args.bytes.now c.in_ok-count.count c.in_ok-keys.keys c.as_slice.result.now c.in_ok-count.ensures.whole level c.in_ok-count.ensures.count c.in_ok-keys.ensures.found c.as_slice.ensures c.if-not-are_extents.ensures
