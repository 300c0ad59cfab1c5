use Rattle.std.proofs.Common.{arith}
use Rattle.bc_prio.proofs.Places.{record_written, record_others}
use Rattle.bc_prio.proofs.set.put_record.Goals as goal

pub returns-clause-written : goal.returns-clause-written
returns-clause-written c =
    record_written c.args.bytes.now c.put_u16.new.bytes c.args.i c.args.entry c.put_u16.ensures.others (omega arith) (omega arith) c.put_u16.ensures.field

pub returns-clause-others : goal.returns-clause-others
returns-clause-others c =
    record_others c.args.bytes.now c.put_u16.new.bytes c.args.i c.args.entry c.put_u16.ensures.others (omega arith) (omega arith)
