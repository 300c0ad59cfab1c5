use Rattle.std.proofs.Common.{◌*◌, [], ◌∷◌, ℕ, List, take, refl, ap, ◌∙◌, arith}
use Rattle.std.proofs.lemmas.List.{take-replicate}
use Rattle.bc_record.proofs.Blocks.{block_small}
use Rattle.bc_pair.specs.Found.{IsJournalSector}
use Rattle.bc_pair.specs.Records.{IsEntryAt, IsZeroed, journal_start}
use Rattle.bc_pair.specs.Runs.{zeros}
use Rattle.bc_pair.proofs.Writes.{wrote_then}
use Rattle.bc_pair.proofs.journal.write_journal.Goals as goal

pub write_first-requires-clause-blank : goal.write_first-requires-clause-blank
write_first-requires-clause-blank g c =
    let g' = c.args.g.now in
    let small = block_small g' in
    let wide = g'.bucket_from in
    ap (λ n. take (512 * n) c.args.buffer.now) c.from.ensures ∙ ap (λ (bs : List ℕ). take (512 * g'.block) bs) c.requires.blank ∙ take-replicate (512 * g'.block) (512 * g'.bucket) 0 (omega arith)

pub returns-clause-wrote : goal.returns-clause-wrote
returns-clause-wrote g c =
    let g' = c.args.g.now in
    let zeroed = c.in_ok-zero_journal.ensures in
    wrote_then (IsJournalSector g') g'.journal 1 (IsZeroed g') (IsEntryAt g' c.args.entry.now) c.write_first.result (g.C.Disk.facts c.args.cache.now) (g.C.Disk.facts c.zero_journal.new.cache) (g.C.Disk.facts c.write_first.new.cache)
    (record {
      ok = (record { at = journal_start g'; values = zeros (g'.bucket * g'.journal) } ∷ [], refl, zeroed.ok);
      others = zeroed.others;
      counted = zeroed.counted;
    }) c.write_first.ensures
