use Rattle.std.proofs.Common.{◌<◌, length}
use Rattle.std.specs.Prelude.{All}
use Rattle.bc_jset.specs.Entries.{AreNumbered}
use Rattle.bc_entries.specs.Lists.{picked}
use Rattle.bc_entries.proofs.list.count_up.Given as goal

abbrev pub invariant-loop-number : goal.invariant-loop-number
invariant-loop-number l = record {
  listed : AreNumbered l.all l.low (picked l.all l.order.items) l.number-counter;
  places : All (λ place. place < length l.all) l.order.items;
}
