use Rattle.std.proofs.Common.{arith}
use Rattle.bc_prio.proofs.Encoded.{written_set}
use Rattle.bc_prio.proofs.set.encode_set.Goals as goal

pub returns : goal.returns
returns c =
    let g = c.args.g.now in
    written_set g c.args.gens.now.records c.args.part c.args.next c.put_header.new.bytes c.put_records.new.bytes c.put_checksum.new.bytes
    (omega (arith, c.requires.whole))
    (record { magic = c.put_header.ensures.magic; names = c.put_header.ensures.names; between = c.put_header.ensures.between; behind = c.put_header.ensures.behind })
    c.put_records.ensures.holds c.put_records.ensures.others c.put_checksum.ensures.checksum c.put_checksum.ensures.others
