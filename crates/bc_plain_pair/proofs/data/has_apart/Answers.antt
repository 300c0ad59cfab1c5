use Rattle.bc_plain_pair.specs.PairBytes.{pair_of}
use Rattle.bc_plain_pair.proofs.Sectors.{apart_by}
use Rattle.bc_plain_pair.proofs.data.has_apart.Goals as goal

pub returns-in-Some : goal.returns-in-Some
returns-in-Some c =
    apart_by c.args.v.now c.args.keys.now c.args.sector c.in-Some.key c.last_key.result c.requires c.last_key.ensures c.in-Some.is c.is_apart.result (pair_of c.args.cache.now c.args.backing.now) c.is_apart.ensures
