use Rattle.std.proofs.Common.{ap, ◌∙◌, ◌*◌, ℕ, List, subst, sym, arith}
use Rattle.std.proofs.lemmas.Result.{on_ok_weaker}
use Rattle.bc_uuid.specs.declared.entry.UuidEntry.{UuidEntry}
use Rattle.bc_uuid.specs.Table.{AreWritten}
use Rattle.bc_uuid.proofs.Unique.{table_written}
use Rattle.bc_uuid.proofs.table.write.Goals as goal

pub returns-clause-table : goal.returns-clause-table
returns-clause-table g c =
    on_ok_weaker c.write.result (λ written. table_written c.args.g.now (g.D.Disk.facts c.args.disk.now) (g.D.Disk.facts c.write.new.self) c.args.bucket (c.from.result * c.from-2.result) c.encode_all.new.bytes c.args.t.now
    (ap (λ (n : ℕ). n * c.from-2.result) c.from.ensures ∙ ap (λ (n : ℕ). c.args.g.now.bucket * n) c.from-2.ensures) (c.encode_all.auto.bytes ∙ c.requires.whole) c.requires.many (subst (λ (es : List UuidEntry). AreWritten c.encode_all.new.bytes es) (c.deref.ensures.value ∙ c.t.view_is) c.encode_all.ensures) written) c.write.ensures.ok
