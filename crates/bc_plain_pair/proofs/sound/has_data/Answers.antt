use Rattle.bc_plain_pair.specs.PairBytes.{pair_of}
use Rattle.bc_plain_pair.proofs.Whole.{aged_breaks, apart_breaks}
use Rattle.bc_plain_pair.proofs.sound.has_data.Goals as goal

pub returns-in-Some : goal.returns-in-Some
returns-in-Some c = aged_breaks c.args.v.now c.in-Some.field-0 (rw c.in-Some.is at c.first_aged.ensures) (pair_of c.args.cache.now c.args.backing.now)

pub returns-in-Some-first_apart : goal.returns-in-Some-first_apart
returns-in-Some-first_apart c = apart_breaks (pair_of c.args.cache.now c.args.backing.now) c.args.v.now c.in-Some-first_apart.field-0 (rw c.in-Some-first_apart.is at c.first_apart.ensures)
