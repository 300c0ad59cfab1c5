use Rattle.std.proofs.Common.{arith}
use Rattle.bc_bytes.proofs.FieldLaws.{puts}
use Rattle.bc_bytes.proofs.fields.put_u32.Goals as goal

pub returns : goal.returns
returns c =
    let holds = puts 4 c.args.bytes.now c.args.at c.args.v c.requires c.write_u32.new.buf (omega arith) c.write_u32.ensures in
    record { written = holds.written; field = holds.field; others = holds.others }
