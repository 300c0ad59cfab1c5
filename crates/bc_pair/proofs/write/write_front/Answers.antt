use Rattle.std.proofs.Common.{◌+◌, ℕ, List, length, ap, ◌∙◌, arith}
use Rattle.std.specs.Prelude.{slice_index_or}
use Rattle.bc_image.specs.Formatted.{first_set}
use Rattle.bc_disk.specs.Chain.{sets_in_chain}
use Rattle.bc_pair.specs.Found.{IsJournalSector}
use Rattle.bc_pair.specs.Records.{IsChainOf, IsJournal, IsRecordSector}
use Rattle.bc_pair.proofs.Bytes.{chain_inside, journal_inside}
use Rattle.bc_pair.proofs.Writes.{chain_all, wrote_more, wrote_then}
use Rattle.bc_pair.proofs.write.write_front.Goals as goal

pub returns-clause-wrote : goal.returns-clause-wrote
returns-clause-wrote g c =
    let g' = c.args.g.now in
    let r = c.args.r.now in
    let old = g.C.Disk.facts c.args.cache.now in
    let mid = g.C.Disk.facts c.write_journal.new.cache in
    let new = g.C.Disk.facts c.write_chain.new.disk in
    let buckets = c.requires.new.1.chain in
    let into = c.chain.result.now in
    let journal = wrote_more (IsJournalSector g') (IsRecordSector g') (journal_inside g') (g'.journal + 1) (IsJournal g' r.entry) _ old mid c.in_ok-write_journal.ensures.wrote in
    let chain = chain_all g.C.Disk.facts g' r.gens.records (IsRecordSector g') (sets_in_chain g') (first_set g') into c.write_chain.result c.write_journal.new.cache c.write_chain.new.disk
    (ap (λ (xs : List ℕ). length xs) c.chain.ensures ∙ buckets.0) (λ k d small. ap (λ (xs : List ℕ). slice_index_or xs k d) c.chain.ensures ∙ buckets.1 k d small)
    (λ s low high. chain_inside g' (sets_in_chain g') s (omega arith) low high) c.write_chain.ensures.written in
    wrote_then (IsRecordSector g') (g'.journal + 1) (sets_in_chain g') (IsJournal g' r.entry) (IsChainOf g' r.gens.records) c.write_chain.result old mid new journal chain
