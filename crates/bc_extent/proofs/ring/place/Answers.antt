use Rattle.bc_extent.proofs.Turns.{turned_set_below, turned_set_above}
use Rattle.bc_extent.proofs.ring.place.Goals as goal

pub returns-then-place-lt-LENGTH-clause-set : goal.returns-then-place-lt-LENGTH-clause-set
returns-then-place-lt-LENGTH-clause-set c = λ slots long key. turned_set_below 512 c.args.head c.args.i slots key long c.if-place-lt-LENGTH.true

pub returns-else-place-lt-LENGTH-clause-set : goal.returns-else-place-lt-LENGTH-clause-set
returns-else-place-lt-LENGTH-clause-set c = λ slots long key. turned_set_above 512 c.args.head c.args.i slots key long c.requires.head c.requires.within c.if-place-lt-LENGTH.false
