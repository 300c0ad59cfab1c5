use Rattle.bc_sound.proofs.Teeth.{law_teeth_sectors}
use Rattle.bc_sound.proofs.laws.law_teeth_sectors.Goals as goal

pub returns : goal.returns
returns c = law_teeth_sectors
