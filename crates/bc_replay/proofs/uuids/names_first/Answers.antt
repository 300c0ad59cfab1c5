use Rattle.bc_replay.proofs.Names.{head_of, none_first, first_by}
use Rattle.bc_replay.proofs.uuids.names_first.Goals as goal

pub returns-in-Some : goal.returns-in-Some
returns-in-Some c =
    first_by c.args.table.now c.args.uuid.now c.in-Some.place c.in-Some.ensures.found c.in-Some.ensures.least (head_of c.args.table.now c.requires)

pub returns-in-None : goal.returns-in-None
returns-in-None c = none_first c.args.table.now c.args.uuid.now c.requires c.in-None.ensures.none
