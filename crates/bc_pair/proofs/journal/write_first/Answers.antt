use Rattle.std.proofs.Common.{◌*◌, ℕ, List, ◌++◌, take, refl, ap, ◌∙◌, subst}
use Rattle.bc_bytes.specs.Fields.{SameOutside}
use Rattle.bc_jset.specs.EntryBytes.{IsEntry}
use Rattle.bc_pair.specs.Found.{IsJournalSector}
use Rattle.bc_pair.specs.Records.{IsEntryAt, journal_start}
use Rattle.bc_pair.proofs.Bytes.{entry_block, entry_inside}
use Rattle.bc_pair.proofs.Writes.{wrote_one}
use Rattle.bc_pair.proofs.journal.write_first.Goals as goal

pub returns : goal.returns
returns g c =
    let g' = c.args.g.now in
    let e = c.args.entry.now in
    let bytes = c.write_entry.new.into in
    let whole = entry_block g' e c.args.block.now bytes c.requires.blank c.write_entry.auto.into c.requires.entry.keys
    (subst (λ n. (rest : List ℕ) → IsEntry g'.set_magic (take n bytes ++ rest) e) c.write_entry.ensures.bytes c.write_entry.ensures.written) c.write_entry.ensures.plain
    (subst (λ n. SameOutside n c.args.block.now bytes 0) c.write_entry.ensures.bytes c.write_entry.ensures.behind) in
    wrote_one (IsJournalSector g') (IsEntryAt g' e) (c.from.result * c.from-2.result) (journal_start g') bytes
    (ap (λ n. n * c.from-2.result) c.from.ensures ∙ ap (λ n. g'.bucket * n) c.from-2.ensures) (entry_inside g' bytes whole.whole c.requires.some) (bytes, whole, refl)
    c.write.result (g.C.Disk.facts c.args.cache.now) (g.C.Disk.facts c.write.new.self) c.write.ensures.ok c.write.ensures.failed c.write.ensures.counted
