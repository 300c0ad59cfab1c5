use Rattle.std.proofs.Common.{◌*◌, arith}
use Rattle.bc_disk.specs.Chain.{records_in_set}
use Rattle.bc_prio.proofs.Encoded.{record_found, records_more}
use Rattle.bc_prio.proofs.set.put_records.Goals as goal

pub loop-i-preserved : goal.loop-i-preserved
loop-i-preserved c =
    let first = c.args.part * records_in_set c.args.g.now in
    let inside = c.first_in_part-first.ensures.within in
    let more = records_more first c.loop-i.i c.args.gens.now.records c.args.bytes.now c.loop-i.bytes c.put_record.new.bytes _
    c.loop-i.invariant.holds c.loop-i.invariant.others
    (record_found c.args.gens.now.records c.records.result.now first c.first_in_part-first.result c.loop-i.i (record { priority = 0; generation = 0 }) c.records.ensures c.first_in_part-first.ensures.first (omega arith))
    c.put_record.ensures.written c.put_record.ensures.others in
    record { holds = more.0; others = more.1 }
