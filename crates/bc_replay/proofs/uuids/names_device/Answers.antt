use Rattle.std.proofs.Common.{◌/◌, ap, ◌∙◌, arith}
use Rattle.bc_key.specs.Key.{ptr_at}
use Rattle.bc_key.specs.declared.ptr.Ptr.{Ptr}
use Rattle.bc_replay.proofs.Names.{same_ptr, names_by}
use Rattle.bc_replay.proofs.uuids.names_device.Goals as goal

pub returns-clause-names : goal.returns-clause-names
returns-clause-names g c =
    let key = c.args.key.now in
    let none = c.if-key-eq0.false in
    names_by c.args.g.now (g.D.Disk.facts c.args.disk.now) key c.args.uuid.now _ c.in_ok-table.table c.names_first.result (omega (arith, none)) c.if-not-points_into_data.ensures
    (ap (λ (q : Ptr). q.offset / c.from.result) (same_ptr key c.index-key-0.result) ∙ ap (λ n. (ptr_at key 0).offset / n) c.from.ensures) c.in_ok-table.ensures.table c.names_first.ensures
