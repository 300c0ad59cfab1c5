use Rattle.std.proofs.Common.{◌+◌}
use Rattle.bc_disk.specs.Chain.{sets_in_chain}
use Rattle.bc_pair.specs.Records.{AreNodes, IsChainOf, IsJournal, IsRecordSector, IsTableAt, Then}
use Rattle.bc_pair.proofs.Writes.{wrote_then}
use Rattle.bc_pair.proofs.write.write_records.Goals as goal

pub returns : goal.returns
returns g c =
    let g' = c.args.g.now in
    let r = c.args.r.now in
    wrote_then (IsRecordSector g') (g'.journal + 1 + sets_in_chain g') 3 (Then (IsJournal g' r.entry) (IsChainOf g' r.gens.records)) (Then (IsTableAt g' r.table) (AreNodes g' r)) c.write_back.result
    (g.C.Disk.facts c.args.cache.now) (g.C.Disk.facts c.write_front.new.cache) (g.C.Disk.facts c.write_back.new.cache) c.in_ok-write_front.ensures.wrote c.write_back.ensures
