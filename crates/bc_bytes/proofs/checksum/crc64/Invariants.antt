use Rattle.std.proofs.Common.{◌≡◌, take}
use Rattle.bc_bytes.proofs.ChecksumLaws.{left_of}
use Rattle.bc_bytes.proofs.checksum.crc64.Given as goal

abbrev pub invariant-loop-byte : goal.invariant-loop-byte
invariant-loop-byte l = l.register ≡ left_of l.start (take l.byte-index l.bytes)
