use Rattle.std.proofs.Common.{List, ℕ, length, ap, ◌∙◌, refl, arith}
use Rattle.bc_uuid.specs.Table.{entries_in}
use Rattle.bc_uuid.proofs.Tables.{table_read}
use Rattle.bc_uuid.proofs.table.read.Goals as goal

pub returns-clause-table : goal.returns-clause-table
returns-clause-table g c =
    let b = c.in_ok-bytes.bytes in
    let len = c.in_ok-bytes.ensures.len in
    let same = b.ok.0 in
    table_read c.args.g.now (g.D.Disk.facts c.args.disk.now) c.args.bucket c.from.result c.from-2.result b.len (entries_in c.args.g.now) c.deref.result.now c.read.new.into b.items c.decode_all.result
    c.from.ensures c.from-2.ensures b.ok.0 (c.read.auto.into ∙ ap (λ (xs : List ℕ). length xs) c.deref_mut.ensures.value) (omega arith) c.deref.ensures.value refl c.in_ok-read.ensures.ok
    c.decode_all.ensures.many c.decode_all.ensures.holds
