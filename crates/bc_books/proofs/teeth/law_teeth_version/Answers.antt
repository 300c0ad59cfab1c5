use Rattle.bc_books.proofs.Broken.{law_teeth_version}
use Rattle.bc_books.proofs.teeth.law_teeth_version.Goals as goal

pub returns : goal.returns
returns c = law_teeth_version
