use Rattle.bc_script.proofs.Drawn.{base_fits}
use Rattle.bc_script.proofs.generator.base_of.Goals as goal

pub returns-clause-fits : goal.returns-clause-fits
returns-clause-fits c = base_fits c.args.before c.args.workers c.args.room c.args.size c.requires.worker c.requires.room
