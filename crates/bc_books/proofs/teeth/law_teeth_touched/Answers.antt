use Rattle.bc_books.proofs.Broken.{law_teeth_touched}
use Rattle.bc_books.proofs.teeth.law_teeth_touched.Goals as goal

pub returns : goal.returns
returns c = law_teeth_touched
