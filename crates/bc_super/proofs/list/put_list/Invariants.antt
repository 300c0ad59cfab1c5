use Rattle.std.proofs.Common.{◌*◌}
use Rattle.bc_bytes.specs.Fields.{SameOutside}
use Rattle.bc_super.specs.Cache.{Lists}
use Rattle.bc_super.proofs.list.put_list.Given as goal

abbrev pub invariant-loop-i : goal.invariant-loop-i
invariant-loop-i l = record { list : Lists l.bytes l.first l.i; others : SameOutside (8 * l.i) l.fn.bytes l.bytes 208 }
