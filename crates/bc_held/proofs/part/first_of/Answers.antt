use Rattle.bc_held.proofs.Parting.{below}
use Rattle.bc_held.proofs.part.first_of.Goals as goal

pub place_of-to-requires : goal.place_of-to-requires
place_of-to-requires c = below c.args.part.now c.args.list c.get-bucket.result c.get-bucket.ensures
    c.requires
