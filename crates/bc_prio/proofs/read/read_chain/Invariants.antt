use Rattle.std.proofs.Common.{◌≡◌, length}
use Rattle.bc_disk.specs.Chain.{bucket_bytes}
use Rattle.bc_prio.proofs.Readings.{IsReadTo}
use Rattle.bc_prio.proofs.read.read_chain.Given as goal

abbrev pub invariant-loop-part : goal.invariant-loop-part
invariant-loop-part g l = record {
  so : IsReadTo l.g (g.D.Disk.facts l.initial.disk) (g.D.Disk.facts l.disk) l.first l.gens l.at l.part;
  whole : length l.buffer.items ≡ bucket_bytes l.g;
}
