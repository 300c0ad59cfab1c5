use Rattle.bc_append.proofs.Sending.{occupied}
use Rattle.bc_append.proofs.append.fits_in.Goals as goal

pub leaf-requires : goal.leaf-requires
leaf-requires g c = occupied c.args.hand.now c.args.slot c.requires.0 c.requires.1 c.in-Some.leaves
    c.in-Some.is
