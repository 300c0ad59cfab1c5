use Rattle.std.proofs.Common.{◌+◌, ◌/◌, length, sym, arith}
use Rattle.std.proofs.lemmas.Bool.{le-leb, lt-leb}
use Rattle.bc_model.specs.Sector.{values_of}
use Rattle.bc_disk.proofs.Sectors.{length-sectors}
use Rattle.bc_disk.proofs.log.note.Goals as goal

pub returns-then-bytes-room-clause-room : goal.returns-then-bytes-room-clause-room
returns-then-bytes-room-clause-room c =
    let bytes = c.args.bytes.now in
    let many = length-sectors (length bytes / 512) bytes in
    sym (lt-leb (length c.args.log.now.items + length (values_of bytes)) c.args.room (omega arith))

pub returns-clause-room : goal.returns-clause-room
returns-clause-room c =
    let bytes = c.args.bytes.now in
    let many = length-sectors (length bytes / 512) bytes in
    sym (le-leb (length c.args.log.now.items + length (values_of bytes)) c.args.room (omega arith))
